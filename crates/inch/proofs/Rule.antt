-- The rule of the table, proved once: a test that antt computes over all its 3,600 entries, and the law that gives the rule at each.
use mathlib.Core.Path.{◌≡◌, refl}
use mathlib.Core.Bool.{Bool, true, false}
use mathlib.Core.List.{[]}
use Prim.Native.Nat.{ℕ, zero, suc, ◌/◌, ◌%◌, ◌≤◌, ◌<◌}
use native.Mathlib.Omega.{arith}
use lib.Dec.{eqb, ltb}
use lib.ListN.{get_or}
use borrow.Author.Tests.{eqb-true, ltb-true, ltb-false}
use Rattle.printer.specs.Tools.{both}
use Rattle.printer.specs.Units.{rounded}
use Rattle.printer.proofs.Choices.{both_left, both_right}
use Rattle.inch.specs.declared.TheConstants.{ROWS}

-- a test passes at each number below n
below : (ℕ → Bool) → ℕ → Bool
below f zero = true
below f (suc n) = both (f n) (below f n)

below_at : (f : ℕ → Bool) (n : ℕ) → below f n ≡ true → (j : ℕ) → j < n → f j ≡ true
unfolding below
below_at f zero t j h = absurd (omega arith)
below_at f (suc n) t j h = go (ltb j n) refl (λ k. below_at f n (both_right (f n) (below f n) t) j k)
  where
    go : (b : Bool) → ltb j n ≡ b → (j < n → f j ≡ true) → f j ≡ true
    go true e before = before (ltb-true _ _ e)
    go false e before =
        let k : n ≤ j = ltb-false _ _ e in
        let same : j ≡ n = omega arith in
        rw same (both_left (f n) (below f n) t)

-- the entry of a unit: its own of the eight of its row
abbrev pub entry : ℕ → ℕ
entry u = get_or (get_or ROWS (u / 8) []) (u % 8) 0

right : ℕ → Bool
right u = eqb (entry u) (rounded 203 u)

all_right : below right 3600 ≡ true
unfolding below right
all_right = refl

pub rule : (u : ℕ) → u < 3600 → entry u ≡ rounded 203 u
unfolding right
rule u h = eqb-true _ _ (below_at right 3600 all_right u h)
