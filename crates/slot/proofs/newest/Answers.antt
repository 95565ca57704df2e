-- Back over the records.
use Rattle.slot.proofs.Backward.{crossed_place, none_left, stands_here, turns_here, void_letter, line_on, clear_on, other_on}
use Rattle.slot.proofs.newest.Goals as goal

pub returns-then-columns-clause-found : goal.returns-then-columns-clause-found
returns-then-columns-clause-found c = crossed_place _ _ _ c.if-columns.true

pub returns-in-Letter-clause-found : goal.returns-in-Letter-clause-found
returns-in-Letter-clause-found c =
    stands_here _ _ _ _ _ c.loop-k.invariant c.loop-k-test.true c.if-not-void.true c.in-Letter.ensures

pub returns-in-Page-clause-found : goal.returns-in-Page-clause-found
returns-in-Page-clause-found c = turns_here _ _ _ _ _ c.loop-k.invariant c.loop-k-test.true c.in-Page.ensures

pub returns-clause-found : goal.returns-clause-found
returns-clause-found c = none_left _ _ _ _ _ c.loop-k.invariant c.loop-k-test.false

pub loop-k-preserved-else-not-void : goal.loop-k-preserved-else-not-void
loop-k-preserved-else-not-void c =
    void_letter _ _ _ _ _ c.loop-k.invariant c.loop-k-test.true c.if-not-void.false c.in-Letter.ensures

pub loop-k-preserved-in-Line : goal.loop-k-preserved-in-Line
loop-k-preserved-in-Line c = line_on _ _ _ _ _ c.loop-k.invariant c.loop-k-test.true c.in-Line.ensures

pub loop-k-preserved-in-Clear : goal.loop-k-preserved-in-Clear
loop-k-preserved-in-Clear c = clear_on _ _ _ _ _ c.loop-k.invariant c.loop-k-test.true c.in-Clear.ensures

pub loop-k-preserved : goal.loop-k-preserved
loop-k-preserved c = other_on _ _ _ _ _ c.loop-k.invariant c.loop-k-test.true c.in-Other.ensures
