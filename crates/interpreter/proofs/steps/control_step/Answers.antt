-- A byte between commands that is no letter: a control, an escape's first byte, or passed over.
use mathlib.Core.Path.{refl, ◌∙◌, ap}
use Rattle.printer.specs.Framing.{first_frame}
use Rattle.printer.specs.declared.commands.Command.{Command}
use Rattle.printer.specs.declared.commands.First.{First}
use Rattle.printer.specs.declared.commands.Refused.{Refused}
use Rattle.printer.specs.declared.commands.Silent.{Silent}
use Rattle.interpreter.proofs.Escaping.{refused, silently}
use Rattle.interpreter.proofs.Stepping.{whole}
use Rattle.interpreter.proofs.steps.control_step.Goals as goal

pub returns-in-Control : goal.returns-in-Control
returns-in-Control c p v h e =
    let b = c.args.b in
    rw c.whole.ensures
    (whole h b (e ∙ ap (λ (f : First). first_frame f b) c.in-Control.is) (c.control.ensures p v h.held h.accepted.channels.0))

pub returns-in-Escape : goal.returns-in-Escape
returns-in-Escape c p v h e =
    let b = c.args.b in
    rw c.waits.ensures
    (whole h b (e ∙ ap (λ (f : First). first_frame f b) c.in-Escape.is)
    (silently (Command.Silent (Silent.Escape b)) refl h.held.same))

pub returns-in-Unlisted : goal.returns-in-Unlisted
returns-in-Unlisted c p v h e =
    let b = c.args.b in
    rw c.whole-in-Unlisted.ensures
    (whole h b (e ∙ ap (λ (f : First). first_frame f b) c.in-Unlisted.is)
    (refused (Command.Refused (Refused.Byte b)) 1 h.held c.passed_record.ensures))
