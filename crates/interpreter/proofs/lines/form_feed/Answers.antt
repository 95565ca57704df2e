-- FF: the top of a new page, with its LN.
use mathlib.Core.Path.{refl}
use Rattle.interpreter.proofs.Outcomes.{one}
use Rattle.interpreter.proofs.Events.{did-by}
use Rattle.interpreter.proofs.lines.form_feed.Goals as goal

pub returns : goal.returns
returns c p v h = did-by (c.line_to.ensures p v h) (one p _ refl refl)
