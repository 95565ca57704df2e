-- VT: as LF, as CR, or among stops.
use Rattle.interpreter.proofs.StopWords.{chosen-number, chosen-count}
use Rattle.interpreter.proofs.Tabbing.{once-ended, as-return, among-stops, as_line}
use Rattle.interpreter.proofs.tabs.vertical_tab.Goals as goal

pub returns-then-never : goal.returns-then-never
returns-then-never c b p v h q =
    as_line p b (rw (chosen-count h q) at c.if-never.true-raw) (c.line_feed.ensures _ v (once-ended p b h (c.end_wide_once.ensures p v h)))

pub returns-then-none : goal.returns-then-none
returns-then-none c b p v h q =
    as-return p b (rw (chosen-count h q) at c.if-never.false-raw) (rw (chosen-count h q) at c.if-none.true-raw)
    (c.carriage_return.ensures _ v (once-ended p b h (c.end_wide_once-then-none.ensures p v h)))

pub returns : goal.returns
returns c b p v h q =
    among-stops p b (rw (chosen-count h q) at c.if-never.false-raw) (rw (chosen-count h q) at c.if-none.false-raw)
    (c.to_next_stop.ensures b p v h (chosen-number h q) (rw (chosen-count h q)))
