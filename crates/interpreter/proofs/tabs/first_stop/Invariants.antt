-- What is found among the stops left, after those passed, is what is found among all.
use Rattle.std.proofs.Common.{◌≡◌, ℕ, suc, Bool, drop}
use Rattle.interpreter.specs.Searching.{Takes, first_from}
use Rattle.interpreter.proofs.tabs.first_stop.Given as goal

abbrev pub invariant-loop-i : goal.invariant-loop-i
invariant-loop-i g l =
    (position : ℕ → ℕ) (test : ℕ → Bool) → Takes (goal.F-post g l.place_of) position test
    → first_from position test 1 l.n-items ≡ first_from position test (suc l.i) (drop l.i l.n-items)
