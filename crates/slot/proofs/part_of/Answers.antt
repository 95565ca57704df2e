-- The part that the place found stands for.
use Rattle.slot.proofs.Backward.{ragged, nothing-found, found_here}
use Rattle.slot.proofs.part_of.Goals as goal

pub returns-then-records-ne0-clause-part : goal.returns-then-records-ne0-clause-part
returns-then-records-ne0-clause-part c = ragged _ _ _ c.if-records-ne0.true

pub returns-in-Some-clause-part : goal.returns-in-Some-clause-part
returns-in-Some-clause-part c = found_here _ _ _ c.if-records-ne0.false _ c.in-Some.ensures.found

pub returns-in-None-clause-part : goal.returns-in-None-clause-part
returns-in-None-clause-part c = nothing-found _ _ _ c.if-records-ne0.false c.in-None.ensures.found
