-- The second of two arguments: a move, or how many bytes of an image follow.
use mathlib.Core.Path.{refl, ap}
use Rattle.printer.specs.declared.commands.Begun.{Begun}
use Rattle.printer.specs.declared.commands.Command.{Command}
use Rattle.printer.specs.declared.commands.Opening.{Opening}
use Rattle.printer.specs.declared.commands.Two.{Two}
use Rattle.interpreter.proofs.Attempts.{two_bytes}
use Rattle.interpreter.proofs.Escaping.{silently}
use Rattle.interpreter.proofs.Stepping.{argument-frame, whole}
use Rattle.interpreter.proofs.steps.two_step.Goals as goal

pub returns-in-Move : goal.returns-in-Move
returns-in-Move c p v h =
    rw c.whole.ensures
    (whole h _ (argument-frame h _ refl (ap (λ (x : Two). Begun.SecondOf x c.args.a) c.in-Move.is))
    (c.move_by.ensures p v h.held))

pub returns-in-Image : goal.returns-in-Image
returns-in-Image c p v h =
    let a = c.args in
    rw (c.waits.ensures, c.image_wait.ensures, c.density_mode.ensures, two_bytes _ _ c.from_le_bytes.ensures)
    (whole h _ (argument-frame h _ refl (ap (λ (x : Two). Begun.SecondOf x a.a) c.in-Image.is))
    (silently (Command.OpenImage (Opening.Named c.in-Image.d) a.a a.b) refl h.held.same))
