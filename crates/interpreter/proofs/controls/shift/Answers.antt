-- SI, or else SO: the other arm is told that the control is not SI.
use mathlib.Core.Path.{refl}
use mathlib.Core.Logic.{⊎_elim}
use Rattle.interpreter.proofs.Events.{silent_did}
use Rattle.interpreter.proofs.controls.shift.Goals as goal

pub returns-in_default : goal.returns-in_default
returns-in_default c p v h =
    ⊎_elim (λ e. rw e (silent_did _ refl (c.wide_once.ensures p v h)))
    (λ e. absurd (c.in_default.not-ShiftIn e))
    c.requires.fact
