-- The tests of the registers and of the bounds, of what was read for them.
use Rattle.std.proofs.Common.{◌≡◌, ℕ, List, length, refl}
use Rattle.printer.specs.Bounds.{accepted}
use Rattle.registers.specs.Groups.{stops_in}
use Rattle.registers.specs.Register.{register_count}
use Rattle.registers.specs.State.{waiting_of, pending_in, printer_in, accepted_in}
use Rattle.accepting.specs.Same.{accepts}
use Rattle.accepting.proofs.Again.{accepted-again}
use Rattle.accepting.proofs.bounds.examine.Goals as goal

accepted_tests : (m : List ℕ) → length m ≡ register_count → accepted_in m ≡ accepts m (waiting_of (pending_in m))
unfolding accepted printer_in stops_in accepts
accepted_tests m l = accepted-again m l

pub returns-then-not-accepts : goal.returns-then-not-accepts
returns-then-not-accepts c =
    rw (accepted_tests c.args.m.now c.told-m, ← c.waiting_in-waiting.ensures, ← c.accepts.ensures, c.if-not-accepts.true) refl

pub returns : goal.returns
returns c =
    rw (accepted_tests c.args.m.now c.told-m, ← c.waiting_in-waiting.ensures, ← c.accepts.ensures, c.if-not-accepts.false) refl
