-- The argument of ESC i a: nothing is done, or a NO.
use mathlib.Core.Path.{refl, ◌∙◌}
use borrow.Author.Tests.{ne_eqb}
use Rattle.printer.specs.declared.commands.Command.{Command}
use Rattle.printer.specs.declared.commands.Refused.{Refused}
use Rattle.printer.specs.declared.commands.Silent.{Silent}
use Rattle.interpreter.proofs.Escaping.{refused, silently}
use Rattle.interpreter.proofs.Stepping.{argument-frame, whole}
use Rattle.interpreter.proofs.steps.mode_step.Goals as goal

pub returns-then-n-eq0 : goal.returns-then-n-eq0
returns-then-n-eq0 c p v m h =
    let keeps = Command.Silent Silent.KeepMode in
    rw c.whole.ensures
    (whole h _ {c = keeps} (argument-frame h _ refl refl ∙ rw c.if-n-eq0.true) (silently keeps refl h.held.same))

pub returns : goal.returns
returns c p v m h =
    let other = Command.Refused (Refused.CommandMode c.args.n) in
    rw c.whole-2.ensures
    (whole h _ {c = other} (argument-frame h _ refl refl ∙ rw (ne_eqb _ _ c.if-n-eq0.false))
    (refused other 2 h.held c.passed_record.ensures))
