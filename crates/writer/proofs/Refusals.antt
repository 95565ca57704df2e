-- Each answer comes exactly when its facts hold.
use Prim.Native.Nat.{ℕ, zero, suc, ◌%◌}
use mathlib.Core.Path.{◌≡◌, refl, sym, subst, ◌∙◌}
use mathlib.Core.Bool.{Bool, true, false}
use mathlib.Core.List.{List}
use native.Mathlib.Numerals.{add-one}
use native.Mathlib.Omega.{arith}
use borrow.Author.Count.{below_more}
use lib.Dec.{leb, eqb}
use lib.ListN.{length}
use borrow.Author.Tests.{eqb-true, eqb-false, eq-eqb, ne_eqb, leb-true, leb-false, le-leb, lt-leb}
use Rattle.std.specs.Prelude.{Result, Ok, Err, ⊤}
use Rattle.std.specs.Result.{result_and}
use Rattle.printer.specs.Tools.{Order, holds, Holds}
use Rattle.printer.proofs.Choices.{holds_fact, fact_holds}
use Rattle.printer.proofs.Frames.{true_false}
use Rattle.writer.specs.Card.{letter_size, letter_at, count_of, down_before, byte_needs, place_needs, needs, fault_of, fault_in, room_for, answer_of}
use Rattle.writer.specs.Refusals.{Prints, Stands, AllGood, FirstBad, Fault, WholeLetters, When}
use Rattle.writer.specs.declared.Refusal.{Refusal}
use Rattle.writer.proofs.Faults.{later}

-- a test that fails is no fact
not_held : (l : List Order) → holds l ≡ false → Holds l → ⊥
not_held l e h = true_false (sym (fact_holds l h) ∙ e)

-- The letters

no-letters : (l : List ℕ) → AllGood l 0
no-letters l i h = absurd (omega (arith, h))

one_more : (l : List ℕ) (n : ℕ) → AllGood l n → Prints l n → Stands l n → AllGood l (suc n)
one_more l n g p s = rw (← add-one n) (below_more (λ i. Prints l i × Stands l i) n g (p, s))

longer : {l : List ℕ} {n : ℕ} {Bad : ℕ → Type 0} → FirstBad l n Bad → FirstBad l (suc n) Bad
longer v = record { place = v.place; within = (let h = v.within in omega (arith, h)); before = v.before; bad = v.bad }

-- the n-th after good ones
last_fault : (l : List ℕ) (n : ℕ) → AllGood l n → Fault l (suc n) (fault_of (down_before l n) (letter_at l n))
last_fault l n g = go (holds (byte_needs (letter_at l n).byte)) refl (holds (place_needs (down_before l n) (letter_at l n))) refl
  where
    go : (t : Bool) → holds (byte_needs (letter_at l n).byte) ≡ t → (u : Bool) → holds (place_needs (down_before l n) (letter_at l n)) ≡ u
        → Fault l (suc n) (result_and (needs t Refusal.Byte) (needs u Refusal.Place))
    go true p true q = one_more l n g (holds_fact (byte_needs (letter_at l n).byte) p) (holds_fact (place_needs (down_before l n) (letter_at l n)) q)
    go true p false q =
        record {
          place = n;
          within = omega arith;
          before = g;
          bad = (holds_fact (byte_needs (letter_at l n).byte) p, not_held (place_needs (down_before l n) (letter_at l n)) q);
        }
    go false p u q = record { place = n; within = omega arith; before = g; bad = not_held (byte_needs (letter_at l n).byte) p }

next_fault : (l : List ℕ) (n : ℕ) (a : Result ⊤ Refusal) → Fault l n a → Fault l (suc n) (result_and a (fault_of (down_before l n) (letter_at l n)))
next_fault l n (Ok _) f = last_fault l n f
next_fault l n (Err Refusal.Byte) f = longer f
next_fault l n (Err Refusal.Place) f = longer f
next_fault l n (Err Refusal.Length) f = f
next_fault l n (Err Refusal.Room) f = f

fault_found : (l : List ℕ) (n : ℕ) → Fault l n (fault_in l n)
unfolding fault_in
fault_found l zero = no-letters l
fault_found l (suc n) = next_fault l n (fault_in l n) (fault_found l n)

pub none-refused : (l : List ℕ) (n : ℕ) → fault_in l n ≡ Ok tt → AllGood l n
none-refused l n h = subst (Fault l n) h (fault_found l n)

-- and back
held_not : (l : List Order) → (Holds l → ⊥) → holds l ≡ false
held_not l h = go (holds l) refl
  where
    go : (t : Bool) → holds l ≡ t → t ≡ false
    go true e = absurd (h (holds_fact l e))
    go false e = refl

none_bad : (l : List ℕ) (n : ℕ) → AllGood l n → fault_in l n ≡ Ok tt
unfolding fault_in
none_bad l zero g = refl
none_bad l (suc n) g =
    let v = g n (omega arith) in
    rw
    (none_bad l n (λ i h. g i (omega (arith, h))), fact_holds (byte_needs (letter_at l n).byte) v.0, fact_holds (place_needs (down_before l n) (letter_at l n)) v.1)

first_byte : (l : List ℕ) (n : ℕ) → Fault l n (Err Refusal.Byte) → fault_in l n ≡ Err Refusal.Byte
unfolding fault_in
first_byte l n v =
    sym (later l v.place n Refusal.Byte v.within
    (rw (none_bad l v.place v.before, held_not (byte_needs (letter_at l v.place).byte) v.bad)))

first_place : (l : List ℕ) (n : ℕ) → Fault l n (Err Refusal.Place) → fault_in l n ≡ Err Refusal.Place
unfolding fault_in
first_place l n v =
    sym (later l v.place n Refusal.Place v.within
    (rw (none_bad l v.place v.before, fact_holds (byte_needs (letter_at l v.place).byte) v.bad.0, held_not (place_needs (down_before l v.place) (letter_at l v.place)) v.bad.1)))

-- The answer

module _ (l : List ℕ) (room : ℕ) where
  roomed : WholeLetters l → (a : Result ⊤ Refusal) → Fault l (count_of l) a
      → When l room (result_and a (needs (leb (room_for (count_of l)) room) Refusal.Room))
  roomed w (Ok _) g = go (leb (room_for (count_of l)) room) refl
    where
      go : (t : Bool) → leb (room_for (count_of l)) room ≡ t → When l room (needs t Refusal.Room)
      go true e = (w, g, leb-true (room_for (count_of l)) room e)
      go false e = (w, g, leb-false (room_for (count_of l)) room e)
  roomed w (Err Refusal.Byte) f = (w, f)
  roomed w (Err Refusal.Place) f = (w, f)
  roomed w (Err Refusal.Length) f = absurd f
  roomed w (Err Refusal.Room) f = absurd f

  pub comes-when : When l room (answer_of l room)
  comes-when = go (eqb (length l % letter_size) 0) refl
    where
      go : (t : Bool) → eqb (length l % letter_size) 0 ≡ t
          → When l room
          (result_and (needs t Refusal.Length) (result_and (fault_in l (count_of l)) (needs (leb (room_for (count_of l)) room) Refusal.Room)))
      go true e = roomed (eqb-true (length l % letter_size) 0 e) (fault_in l (count_of l)) (fault_found l (count_of l))
      go false e = eqb-false (length l % letter_size) 0 e

  pub good-when : answer_of l room ≡ Ok tt → AllGood l (count_of l)
  good-when h = (subst (When l room) h comes-when).1

  pub only-when : (a : Result ⊤ Refusal) → When l room a → answer_of l room ≡ a
  only-when (Ok _) (w, g, h) =
      rw (eq-eqb (length l % letter_size) 0 w, none_bad l (count_of l) g, le-leb (room_for (count_of l)) room h)
  only-when (Err Refusal.Length) w = rw (ne_eqb (length l % letter_size) 0 w)
  only-when (Err Refusal.Byte) (w, f) = rw (eq-eqb (length l % letter_size) 0 w, first_byte l (count_of l) f)
  only-when (Err Refusal.Place) (w, f) = rw (eq-eqb (length l % letter_size) 0 w, first_place l (count_of l) f)
  only-when (Err Refusal.Room) (w, g, h) =
      rw (eq-eqb (length l % letter_size) 0 w, none_bad l (count_of l) g, lt-leb (room_for (count_of l)) room h)
