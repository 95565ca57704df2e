-- The last stop passed, and those left, are within the bounds just if all are.
use Rattle.accepting.proofs.StopLists.{Left}
use Rattle.accepting.proofs.lists.ascend.Given as goal

abbrev pub invariant-loop-stop : goal.invariant-loop-stop
invariant-loop-stop l = Left l.limit l.stop-items l.last l.stop-index
