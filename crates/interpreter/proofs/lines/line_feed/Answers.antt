-- LF: the line amount further down, or the top of a new page.
use mathlib.Core.Path.{sym, ◌∙◌}
use Rattle.interpreter.proofs.Places.{down-held, line-held}
use Rattle.interpreter.proofs.Feeding.{feeds, turns}
use Rattle.interpreter.proofs.Events.{did-by}
use Rattle.interpreter.proofs.lines.line_feed.Goals as goal

pub returns-in_default : goal.returns-in_default
returns-in_default c p v h =
    did-by (c.line_to.ensures p v h)
    (turns p
    (rw (c.edge.ensures p v h, down-held h, line-held h)
    at (sym c.downward.ensures ∙ c.in_default.is)))

pub returns : goal.returns
returns c p v h =
    did-by (c.line_to-2.ensures p v h)
    (feeds p
    (rw (c.edge.ensures p v h, down-held h, line-held h)
    at (sym c.downward.ensures ∙ c.in-Some.is)))
