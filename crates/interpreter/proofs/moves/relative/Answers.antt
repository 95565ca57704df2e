-- ESC \: a signed move.
use mathlib.Core.Path.{◌∙◌}
use Rattle.registers.proofs.Reading.{margins-held, draft-held}
use Rattle.interpreter.proofs.Places.{across-held}
use Rattle.interpreter.proofs.Attempts.{relative-goes, two_bytes}
use Rattle.interpreter.proofs.Events.{did-by}
use Rattle.interpreter.proofs.moves.relative.Goals as goal

pub returns : goal.returns
returns c p v h =
    did-by (c.move_or_pass.ensures p v h)
    (rw (
      c.relative_to-to.ensures,
      two_bytes _ _ c.from_le_bytes.ensures,
      c.margins_in.ensures ∙ margins-held h,
      c.relative_step-step.ensures.0,
      draft-held h,
      across-held h,
    )
    (relative-goes p _ _))
