-- The list is opened, or it is dropped.
use mathlib.Core.Path.{refl, ◌∙◌}
use native.Mathlib.Omega.{arith}
use borrow.Author.Tests.{le-leb, lt-leb}
use Rattle.printer.specs.declared.commands.Command.{Command}
use Rattle.printer.specs.declared.commands.ListOpening.{ListOpening}
use Rattle.interpreter.proofs.Escaping.{silently, allowed, not-allowed}
use Rattle.interpreter.proofs.Stepping.{argument-frame, whole}
use Rattle.interpreter.proofs.steps.channel_step.Goals as goal

pub returns-then-c-le7 : goal.returns-then-c-le7
returns-then-c-le7 c p v h =
    let n = c.args.c in
    let opens = Command.OpenList (ListOpening.Channel n) in
    let e = le-leb n 7 c.if-c-le7.true in
    rw c.waits.ensures
    (whole h _ {c = opens} (argument-frame h _ refl refl ∙ rw e) (allowed opens 2 (rw e) (silently opens refl (c.open_list.ensures p v h.held))))

pub returns : goal.returns
returns c p v h =
    let n = c.args.c in
    let opens = Command.OpenList (ListOpening.Channel n) in
    let e = lt-leb n 7 (omega (arith, c.if-c-le7.false)) in
    whole h _ {c = opens} (argument-frame h _ refl refl ∙ rw e) (not-allowed opens 2 (rw e) h.held c.passed_record.ensures)
