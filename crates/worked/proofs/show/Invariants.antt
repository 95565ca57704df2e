-- The loop over the calls: each but the last reads some of what is left.
use Rattle.std.proofs.Common.{length}
use Rattle.worked.proofs.show.Given as goal

abbrev pub decreases-loop-rest : goal.decreases-loop-rest
decreases-loop-rest l = length l.rest
