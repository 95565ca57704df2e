-- ESC N: tried in its range, and else passed over.
use Rattle.interpreter.proofs.Escaping.{in-range, out_of_range}
use Rattle.interpreter.proofs.pages.skip.Goals as goal

pub returns-then-fits : goal.returns-then-fits
returns-then-fits c p v h = in-range _ _ _ c.if-fits.true (c.attempt_skip.ensures p v h)

pub returns : goal.returns
returns c p v h = out_of_range _ _ _ c.if-fits.false h c.passed_record.ensures
