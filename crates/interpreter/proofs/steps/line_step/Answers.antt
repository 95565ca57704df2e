-- LF: as `control` has it.
use Rattle.interpreter.proofs.Events.{received}
use Rattle.interpreter.proofs.Stepping.{whole}
use Rattle.interpreter.proofs.steps.line_step.Goals as goal

pub returns : goal.returns
returns c p v b h e = whole h b e (received _ (c.line_feed.ensures p v h.held))
