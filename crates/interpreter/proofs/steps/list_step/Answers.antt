-- By whether it sets stops.
use Rattle.interpreter.proofs.steps.list_step.Goals as goal

pub returns-in-Dropped : goal.returns-in-Dropped
returns-in-Dropped c p v h = c.dropped_step.ensures p v _ (rw c.in-Dropped.is at h)
