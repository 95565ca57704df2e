-- One of eight, or passed over.
use mathlib.Core.Path.{refl}
use native.Mathlib.Omega.{arith}
use borrow.Author.Tests.{le-leb, lt-leb}
use Rattle.printer.specs.declared.commands.Command.{Command}
use Rattle.registers.specs.Layout.{laid}
use Rattle.interpreter.proofs.Escaping.{silently, allowed, not-allowed}
use Rattle.interpreter.proofs.lists.choose.Goals as goal

pub returns-then-n-le7 : goal.returns-then-n-le7
unfolding laid
returns-then-n-le7 c p v h =
    let n = c.args.n in
    let command = Command.Channel n in
    allowed command 2 (rw (le-leb n 7 c.if-n-le7.true)) (silently command refl (rw h.same))

pub returns : goal.returns
returns c p v h =
    let n = c.args.n in
    not-allowed (Command.Channel n) 2 (rw (lt-leb n 7 (omega (arith, c.if-n-le7.false)))) h c.passed_record.ensures
