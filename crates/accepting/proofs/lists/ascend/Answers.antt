-- The loop over the stops that are held.
use mathlib.Core.Path.{◌∙◌}
use Rattle.accepting.proofs.StopLists.{begins, ends, too-low, goes_on, too_many, few_enough}
use Rattle.accepting.proofs.lists.ascend.Goals as goal

pub returns-then-most-count : goal.returns-then-most-count
returns-then-most-count c = too_many _ _ _ _ c.if-most-count.true

pub loop-stop-init : goal.loop-stop-init
loop-stop-init c = begins _ _

pub returns-then-stop-last : goal.returns-then-stop-last
returns-then-stop-last c =
    too-low _ _ _ _ c.loop-stop.invariant c.loop-stop-test.true c.if-stop-last.true
    ∙ few_enough _ _ _ _ c.if-most-count.false c.min-end.ensures

pub loop-stop-preserved : goal.loop-stop-preserved
loop-stop-preserved c = goes_on _ _ _ _ c.loop-stop.invariant c.loop-stop-test.true c.if-stop-last.false

pub returns : goal.returns
returns c =
    ends _ _ _ _ c.loop-stop.invariant c.loop-stop-test.false
    ∙ few_enough _ _ _ _ c.if-most-count.false c.min-end.ensures
