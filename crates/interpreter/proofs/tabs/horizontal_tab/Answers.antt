-- HT: to the stop that the search finds, or passed over.
use mathlib.Core.Path.{refl, sym, ◌∙◌}
use Rattle.interpreter.proofs.Outcomes.{did}
use Rattle.interpreter.proofs.StopWords.{column-sought}
use Rattle.interpreter.proofs.Tabbing.{tab-done, tab-passed}
use Rattle.interpreter.proofs.tabs.horizontal_tab.Goals as goal

pub returns-in_default : goal.returns-in_default
returns-in_default c p v h =
    let found = rw c.margins_in-margins.ensures at c.next_column-search.ensures in
    did (tab-passed p _ (sym (column-sought h) ∙ sym found ∙ c.in_default.is) refl) h.same (rw c.passed_record.ensures)

pub returns : goal.returns
returns c p v h =
    let found = rw c.margins_in-margins.ensures at c.next_column-search.ensures in
    did (tab-done p _ _ (sym (column-sought h) ∙ sym found ∙ c.in-Some.is) refl) (c.move_to.ensures p v h) refl
