-- Eight inches off at a time: the dots of what is off and of what is left make the whole.
use Prim.Native.Nat.{◌+◌, ◌≤◌}
use mathlib.Core.Path.{◌≡◌}
use Rattle.printer.specs.Units.{rounded}
use Rattle.inch.proofs.dots.Given as goal

abbrev pub invariant-loop-left : goal.invariant-loop-left
invariant-loop-left l =
    (l.whole + rounded 203 l.left ≡ rounded 203 l.units) × (l.left ≤ l.units)

abbrev pub decreases-loop-left : goal.decreases-loop-left
decreases-loop-left l =
    l.left
