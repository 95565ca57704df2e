-- The loop between commands: turns that follow each other are one.
use Prim.Native.Nat.{◌+◌, ◌-◌, ◌<◌, ◌≤◌}
use lib.ListN.{length}
use Rattle.printer.specs.Records.{room_for_byte}
use Rattle.printer.specs.declared.commands.Waiting.{Waiting}
use Rattle.printer.specs.declared.state.Printer.{Printer}
use Rattle.registers.specs.declared.pending.Pending.{Pending}
use Rattle.interpreter.specs.Taking.{Current, TurnPromise}
use Rattle.interpreter.proofs.turn.take_text.Given as goal

abbrev pub invariant-loop-t : goal.invariant-loop-t
invariant-loop-t l =
    ((p : Printer) (v : Pending) → Current p v Waiting.Nothing l.initial.m
    → TurnPromise p v l.input l.initial.out (record { waiting = Waiting.Nothing; read = l.at; written = l.written }) l.m l.out)
    × ((l.at < length l.input) × (l.written + room_for_byte ≤ length l.out))

abbrev pub decreases-loop-t : goal.decreases-loop-t
decreases-loop-t l =
    length l.input - l.at
