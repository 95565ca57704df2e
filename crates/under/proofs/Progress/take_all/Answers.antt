-- The loop over the pieces.
use Rattle.std.proofs.Common.{rules}
use Rattle.standing.proofs.Lines.{from_none, from_more}
use Rattle.under.proofs.Progress.take_all.Goals as goal

pub loop-self-init : goal.loop-self-init
loop-self-init c = rw c.requires (from_none _ _ _)

pub returns-in_err-take_piece : goal.returns-in_err-take_piece
returns-in_err-take_piece c =
    let h = c.in_err-take_piece.ensures in
    rw h.total (search (rules, from_more, h))

pub loop-self-preserved : goal.loop-self-preserved
loop-self-preserved c =
    let h = c.in_ok-take_piece.ensures in
    rw h.total (from_more _ _ c.loop-self.invariant h.from_input)

pub returns-then-branch-eq0 : goal.returns-then-branch-eq0
returns-then-branch-eq0 c =
    let h = c.in_ok-take_piece.ensures in
    rw h.total (from_more _ _ c.loop-self.invariant h.from_input)
