-- VT among stops: to the one that the search finds, or as FF.
use mathlib.Core.Path.{refl, sym, ◌∙◌}
use Rattle.interpreter.proofs.Events.{did-by}
use Rattle.interpreter.proofs.StopWords.{line-sought}
use Rattle.interpreter.proofs.Tabbing.{stop-done, stop-below, stop-missing}
use Rattle.interpreter.proofs.tabs.to_next_stop.Goals as goal

pub returns-in_default : goal.returns-in_default
returns-in_default c b p v h k n =
    stop-missing p b (sym (line-sought h _ _ k n) ∙ sym c.next_line-search.ensures ∙ c.in_default.is) (c.to_next_page.ensures b p v h)

pub returns-then-above : goal.returns-then-above
returns-then-above c b p v h k n =
    did-by (c.line_to.ensures p v h)
    (stop-done p b _ (sym (line-sought h _ _ k n) ∙ sym c.next_line-search.ensures ∙ c.in-Some.is)
    (rw (c.edge.ensures p v h) at c.if-above.true-raw) refl)

pub returns : goal.returns
returns c b p v h k n =
    stop-below p b _ (sym (line-sought h _ _ k n) ∙ sym c.next_line-search.ensures ∙ c.in-Some.is)
    (rw (c.edge.ensures p v h) at c.if-above.false-raw) (c.to_next_page-2.ensures b p v h)
