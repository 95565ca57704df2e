-- What the records left give, after those passed, is what the whole list gives.
use Rattle.slot.proofs.Backward.{Left}
use Rattle.slot.proofs.newest.Given as goal

abbrev pub invariant-loop-k : goal.invariant-loop-k
invariant-loop-k l = Left l.columns.from l.columns.to l.records l.k l.void
