-- The loop over a piece: each turn shows some of what is left.
use Rattle.std.proofs.Common.{◌-◌, length}
use Rattle.listing.proofs.Pieces.{Going}
use Rattle.listing.proofs.Progress.show.Given as goal

abbrev pub invariant-loop-at : goal.invariant-loop-at
invariant-loop-at l = Going l.initial.self l.input l.self l.at

abbrev pub decreases-loop-at : goal.decreases-loop-at
decreases-loop-at l = length l.input - l.at
