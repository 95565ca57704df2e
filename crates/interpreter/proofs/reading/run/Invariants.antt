-- The loop of a reading call: see Going. The code is safe for the printer that `requires` names; what it promises, it promises of any.
use Prim.Native.Nat.{◌-◌}
use lib.ListN.{length}
use Rattle.printer.specs.declared.state.Printer.{Printer}
use Rattle.registers.specs.declared.pending.Pending.{Pending}
use Rattle.interpreter.specs.Taking.{Current}
use Rattle.interpreter.proofs.Going.{Going}
use Rattle.interpreter.proofs.reading.run.Given as goal

abbrev pub invariant-loop-at : goal.invariant-loop-at
invariant-loop-at l =
    (p : Printer) (v : Pending) → Current p v l.initial.w l.initial.m → Going l.input l.allowance l.initial.out p v l.m l.out l.w l.at l.left l.written

abbrev pub decreases-loop-at : goal.decreases-loop-at
decreases-loop-at l =
    length l.input - l.at
