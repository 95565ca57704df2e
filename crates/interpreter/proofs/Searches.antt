-- Searches among stops: a loop's invariant and its turns, and where the stop that is found is.
use Prim.Native.Nat.{ℕ, suc, ◌+◌, ◌≤◌, ◌<◌}
use mathlib.Core.Path.{◌≡◌, refl, sym, ◌∙◌}
use mathlib.Core.Bool.{Bool}
use mathlib.Core.List.{List, [], ◌∷◌}
use native.Mathlib.Numerals.{add-one}
use native.Mathlib.Omega.{arith}
use lib.Dec.{ltb}
use lib.ListN.{length, drop, get_or, drop_of_length-le}
use lib.Seq.{drop-cons}
use Rattle.std.specs.Prelude.{Option, Some, None}
use Rattle.printer.specs.Units.{units}
use Rattle.printer.specs.Settings.{left_of, right_of, column_of, across_of}
use Rattle.printer.specs.Deciding.{numbered, column_from, line_from}
use Rattle.printer.specs.declared.settings.Settings.{Settings}
use Rattle.printer.specs.declared.state.Place.{Place}
use Rattle.printer.specs.declared.stops.Stop.{Stop}
use Rattle.printer.specs.declared.units.Units.{Units}
use Rattle.printer.proofs.Choices.{pick_elim}
use Rattle.printer.proofs.CodeLaws.{both_true}
use Rattle.interpreter.specs.Reaching.{reach}
use Rattle.interpreter.proofs.Attempts.{reached, unreached}
use Rattle.interpreter.specs.Searching.{first_from, column_at, is_ahead}

-- The searches of HT and VT

pub column_search : (s : Settings) (x : Place) (k : ℕ) (l : List ℕ)
    → column_from s x k l ≡ first_from (column_at (left_of s) (column_of s)) (is_ahead (across_of x) (right_of s)) k l
unfolding column_from first_from
column_search s x k [] = refl
column_search s x k (n ∷ l) = simp (both_true, column_search s x (suc k) l)

pub line_search : (down k : ℕ) (l : List ℕ) → line_from down k l ≡ first_from (λ n. n) (ltb down) k l
unfolding line_from first_from
line_search down k [] = refl
line_search down k (n ∷ l) = rw (line_search down (suc k) l)

-- A loop over the stops that are held: what is found among those left, after those passed, is what is found among all

module _ (f : ℕ → ℕ) (test : ℕ → Bool) (l : List ℕ) {i : ℕ} (h : i < length l)
    (v : first_from f test 1 l ≡ first_from f test (suc i) (drop i l)) where
  one : drop i l ≡ get_or l i 0 ∷ drop (i + 1) l
  one = rw add-one (drop-cons l i 0 h)

  pub finds : {x : Units} → Some x ≡ reach (test (f (get_or l i 0))) (f (get_or l i 0))
      → Some (numbered (i + 1) x) ≡ first_from f test 1 l
  unfolding first_from
  finds {x} e =
      let k = reached (test (f (get_or l i 0))) _ x (sym e) in
      sym (v ∙ rw (one, k.0, k.1, add-one))

  pub passes : None ≡ reach (test (f (get_or l i 0))) (f (get_or l i 0))
      → first_from f test 1 l ≡ first_from f test (suc (i + 1)) (drop (i + 1) l)
  unfolding first_from
  passes e =
      let k = unreached (test (f (get_or l i 0))) _ (sym e) in
      v ∙ simp (one, k, add-one)

pub none-found : (f : ℕ → ℕ) (test : ℕ → Bool) (l : List ℕ) {i : ℕ} → length l ≤ i
    → first_from f test 1 l ≡ first_from f test (suc i) (drop i l) → None ≡ first_from f test 1 l
unfolding first_from
none-found f test l {i = i} h v = sym (v ∙ rw (drop_of_length-le l {i = i} h))

-- The position that is found is that of the stop of its number

pub record Taken (f : ℕ → ℕ) (first : ℕ) (l : List ℕ) (s : Stop) : Type 0 where
  pub index : ℕ
  pub number : s.number ≡ first + index
  pub position : f (get_or l index 0) ≡ s.place.0

pub taken : (f : ℕ → ℕ) (test : ℕ → Bool) (first : ℕ) (l : List ℕ) (s : Stop) → first_from f test first l ≡ Some s → Taken f first l s
unfolding first_from
taken f test first [] s e = cc
taken f test first (m ∷ l) s e =
    pick_elim (λ (x : Option Stop). x ≡ Some s → Taken f first (m ∷ l) s) (test (f m))
    (λ h g.
    let same : numbered first (units (f m)) ≡ s = cc in
    rw (← same) (record { index = 0; number = omega arith; position = refl }))
    (λ h g.
    let v = taken f test (suc first) l s g in
    record { index = suc v.index; number = omega (arith, v.number); position = v.position })
    e

pub counted : {f : ℕ → ℕ} {l : List ℕ} {s : Stop} (v : Taken f 1 l s) → s.number ≡ suc v.index
counted v = omega (arith, v.number)
