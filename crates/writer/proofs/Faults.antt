-- The first bad letter, found letter by letter.
use Prim.Native.Nat.{ℕ, zero, suc, ◌+◌, ◌-◌, ◌<◌}
use mathlib.Core.Path.{◌≡◌, refl, sym, ap, ◌∙◌}
use mathlib.Core.List.{List}
use native.Mathlib.Numerals.{add-one}
use native.Mathlib.Nat.{zero-add, suc-add}
use native.Mathlib.Omega.{arith}
use Rattle.std.specs.Prelude.{Ok, Err}
use Rattle.writer.specs.Card.{letter_at, down_before, fault_of, fault_in}
use Rattle.writer.specs.declared.Letter.{Letter}
use Rattle.writer.specs.declared.Refusal.{Refusal}

-- a refusal stays, whatever comes after
stays : (l : List ℕ) (n k : ℕ) (e : Refusal) → fault_in l n ≡ Err e → fault_in l (k + n) ≡ Err e
unfolding fault_in
stays l n zero e h = rw (zero-add n) h
stays l n (suc k) e h = rw (suc-add k n, stays l n k e h) refl

pub later : (l : List ℕ) (i n : ℕ) (e : Refusal) → i < n → fault_in l (suc i) ≡ Err e → Err e ≡ fault_in l n
later l i n e h f =
    let k : n - suc i + suc i ≡ n = omega arith in
    sym (ap (fault_in l) (sym k) ∙ stays l (suc i) (n - suc i) e f)

-- the loop over the letters: those passed are good
pub record Passed (l : List ℕ) (i before : ℕ) : Type 0 where
  pub good : fault_in l i ≡ Ok tt
  pub place : before ≡ down_before l i

pub begins : (l : List ℕ) → Passed l 0 0
unfolding fault_in
begins l = record { good = refl; place = refl }

-- and one more, as it is read
module _ {l : List ℕ} {i before : ℕ} {x : Letter} (v : Passed l i before) (r : x ≡ letter_at l i) where
  pub bad : {n : ℕ} {e : Refusal} → i < n → Err e ≡ fault_of before x → Err e ≡ fault_in l n
  unfolding fault_in
  bad {n} {e} h f = later l i n e h (rw v.good (sym (rw (v.place, r) at f)))

  pub goes_on : Ok tt ≡ fault_of before x → Passed l (i + 1) x.down
  unfolding fault_in
  goes_on f = record { good = rw (add-one i, v.good) (sym (rw (v.place, r) at f)); place = rw (add-one i, r) }
