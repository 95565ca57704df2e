-- The loop over the pieces.
use Rattle.listing.proofs.Pieces.{from-none, from_more}
use Rattle.listing.proofs.Progress.take_all.Goals as goal

pub loop-self-init : goal.loop-self-init
loop-self-init c = rw c.requires (from-none _)

pub returns-in_err-take_piece : goal.returns-in_err-take_piece
returns-in_err-take_piece c = let h = c.take_piece.ensures in rw h.counted.total (from_more c.loop-self.invariant h.from_input)

pub loop-self-preserved : goal.loop-self-preserved
loop-self-preserved c = let h = c.take_piece.ensures in rw h.counted.total (from_more c.loop-self.invariant h.from_input)

pub returns-then-branch-eq0 : goal.returns-then-branch-eq0
returns-then-branch-eq0 c = let h = c.take_piece.ensures in rw h.counted.total (from_more c.loop-self.invariant h.from_input)
