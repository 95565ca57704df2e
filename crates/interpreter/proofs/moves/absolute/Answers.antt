-- ESC $: to the right from the left margin.
use mathlib.Core.Path.{refl}
use Rattle.printer.proofs.CodeLaws.{both_true}
use Rattle.interpreter.proofs.Places.{left-held, right-held}
use Rattle.interpreter.proofs.Attempts.{goes, two_bytes}
use Rattle.interpreter.proofs.Events.{did-by}
use Rattle.interpreter.proofs.moves.absolute.Goals as goal

pub returns : goal.returns
returns c p v h =
    did-by (c.move_or_pass.ensures p v h)
    (rw (c.rightward-to.ensures, two_bytes _ _ c.from_le_bytes.ensures, left-held h, right-held h)
    (goes p _ _ _ (both_true _) refl refl))
