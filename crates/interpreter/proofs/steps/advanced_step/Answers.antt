-- The third byte of ESC i: an argument is waited for, or the command is whole and writes nothing, or a NO.
use mathlib.Core.Path.{refl, ◌∙◌}
use borrow.Author.Tests.{ne_eqb}
use Rattle.printer.specs.declared.commands.Command.{Command}
use Rattle.printer.specs.declared.commands.Refused.{Refused}
use Rattle.printer.specs.declared.commands.Silent.{Silent}
use Rattle.interpreter.proofs.Escaping.{refused, silently}
use Rattle.interpreter.proofs.Stepping.{argument-frame, waited, whole}
use Rattle.interpreter.proofs.steps.advanced_step.Goals as goal

pub returns-in-97 : goal.returns-in-97
returns-in-97 c p v m h = rw c.waits.ensures (waited h _ (argument-frame h _ refl refl ∙ rw c.in-97.is))

pub returns-in-83 : goal.returns-in-83
returns-in-83 c p v m h =
    let asks = Command.Silent Silent.StatusRequest in
    rw c.whole.ensures
    (whole h _ {c = asks} (argument-frame h _ refl refl ∙ rw c.in-83.is) (silently asks refl h.held.same))

pub returns-in_default : goal.returns-in_default
returns-in_default c p v m h =
    let other = Command.Refused (Refused.Advanced c.args.b) in
    rw c.whole-in_default.ensures
    (whole h _ {c = other} (argument-frame h _ refl refl ∙ rw (ne_eqb _ _ c.in_default.in_default-own.rest.0.1, ne_eqb _ _ c.in_default.in_default-own.rest.1))
    (refused other 1 h.held c.passed_record.ensures))
