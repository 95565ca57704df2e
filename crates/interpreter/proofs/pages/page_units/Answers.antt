-- Lines of the amount that the registers hold, or inches.
use mathlib.Core.Path.{◌∙◌}
use Rattle.registers.proofs.Reading.{paper-held}
use Rattle.interpreter.proofs.pages.page_units.Goals as goal

pub returns-in-Lines : goal.returns-in-Lines
returns-in-Lines c p v h = rw c.in-Lines.is (rw (c.paper_in-paper.ensures ∙ paper-held h) at c.times.ensures.0)
