-- The mode of ESC *: the number of columns is waited for, or a NO.
use mathlib.Core.Path.{refl, sym, ap, ◌∙◌}
use Rattle.printer.specs.Framing.{selected_frame}
use Rattle.std.specs.Prelude.{Option}
use Rattle.printer.specs.declared.commands.Command.{Command}
use Rattle.printer.specs.declared.commands.ImageMode.{ImageMode}
use Rattle.printer.specs.declared.commands.Refused.{Refused}
use Rattle.interpreter.proofs.Escaping.{refused}
use Rattle.interpreter.proofs.Stepping.{argument-frame, waited, whole}
use Rattle.interpreter.proofs.steps.select_step.Goals as goal

pub returns-in-Some : goal.returns-in-Some
returns-in-Some c p v m h =
    let b = c.args.b in
    rw c.waits.ensures
    (waited h b (argument-frame h b refl refl ∙ ap (λ (x : Option ImageMode). selected_frame x b) (sym c.selected_of.ensures ∙ c.in-Some.is)))

pub returns-in-None : goal.returns-in-None
returns-in-None c p v m h =
    let b = c.args.b in
    let other = Command.Refused (Refused.ImageMode b) in
    rw c.whole.ensures
    (whole h b {c = other} (argument-frame h b refl refl ∙ ap (λ (x : Option ImageMode). selected_frame x b) (sym c.selected_of.ensures ∙ c.in-None.is))
    (refused other 2 h.held c.passed_record.ensures))
