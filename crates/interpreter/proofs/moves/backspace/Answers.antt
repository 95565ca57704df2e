-- BS: to the left by the advance.
use mathlib.Core.Path.{refl}
use Rattle.printer.proofs.CodeLaws.{both_true}
use Rattle.registers.proofs.Reading.{advance-held}
use Rattle.interpreter.proofs.Places.{across-held, left-held}
use Rattle.interpreter.proofs.Attempts.{goes}
use Rattle.interpreter.proofs.Events.{did-by}
use Rattle.interpreter.proofs.moves.backspace.Goals as goal

pub returns : goal.returns
returns c p v h =
    did-by (c.move_or_pass.ensures p v h)
    (rw (c.leftward-to.ensures, across-held h, advance-held h, left-held h)
    (goes p _ _ _ (both_true _) refl refl))
