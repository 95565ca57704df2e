-- CR: the left margin, and then a line if automatic line feed is set.
use mathlib.Core.Path.{refl, sym, ◌∙◌}
use borrow.Author.Tests.{eq-eqb, ne_eqb}
use Rattle.registers.proofs.Reading.{autofeed-held}
use Rattle.interpreter.proofs.Places.{returned}
use Rattle.interpreter.proofs.Feeding.{feeds-after, stays_after}
use Rattle.interpreter.proofs.Events.{silently-did}
use Rattle.interpreter.proofs.lines.carriage_return.Goals as goal

pub returns-then-m-eq1 : goal.returns-then-m-eq1
returns-then-m-eq1 c p v h =
    let there = returned h (c.move_to.ensures p v h) in
    silently-did _ _ refl
    (feeds-after _ (sym (autofeed-held there) ∙ eq-eqb _ _ c.if-m-eq1.true) (c.line_feed.ensures _ v there))

pub returns : goal.returns
returns c p v h =
    let there = returned h (c.move_to.ensures p v h) in
    silently-did _ _ refl
    (stays_after _ (sym (autofeed-held there) ∙ ne_eqb _ _ c.if-m-eq1.false) there.same)
