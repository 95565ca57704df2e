-- A search among stops by a test, of which those of HT and VT are two.
use Rattle.std.specs.Prelude.{◌≡◌, ℕ, suc, ◌+◌, ◌*◌, ◌^◌, ◌<◌, Bool, List, [], ◌∷◌, Option, None, Some, leb, ltb}
use Rattle.printer.specs.Tools.{pick, both}
use Rattle.printer.specs.Units.{units}
use Rattle.printer.specs.Deciding.{numbered}
use Rattle.printer.specs.declared.stops.Stop.{Stop}
use Rattle.printer.specs.declared.units.Units.{Units}
use Rattle.interpreter.specs.Reaching.{reach}

-- the first stop whose position passes a test, by its number and that position; the list's first is the k-th
unfoldable pub first_from : (position : ℕ → ℕ) (test : ℕ → Bool) → ℕ → List ℕ → Option Stop
first_from f test k [] = None
first_from f test k (n ∷ l) = pick (test (f n)) (Some (numbered k (units (f n)))) (first_from f test (suc k) l)

-- what a search answers for a stop is its position, if that passes the test
abbrev pub Takes : (answers : ℕ → Option Units → Type 0) (position : ℕ → ℕ) (test : ℕ → Bool) → Type 0
Takes answers f test = (n : ℕ) (r : Option Units) → n < 2 ^ 32 → answers n r → r ≡ reach (test (f n)) (f n)

-- a column's position, counted from the left margin
abbrev pub column_at : (left width : ℕ) → ℕ → ℕ
column_at left width n = left + n * width

-- HT's test: a position is right of the place and within the right margin
abbrev pub is_ahead : (across right : ℕ) → ℕ → Bool
is_ahead across right to = both (ltb across to) (leb to right)
