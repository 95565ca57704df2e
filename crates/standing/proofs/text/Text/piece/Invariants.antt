-- The loop over a piece: the bytes left lead on from those passed.
use Rattle.std.proofs.Common.{◌≡◌, drop, Ok}
use Rattle.standing.specs.Text.{after_text, lines_of}
use Rattle.standing.proofs.text.Text.piece.Given as goal

abbrev pub invariant-loop-b : goal.invariant-loop-b
invariant-loop-b l =
    after_text l.columns.from l.columns.to (Ok (lines_of l.initial.text)) l.piece
    ≡ after_text l.columns.from l.columns.to (Ok (lines_of l.text)) (drop l.b-index l.piece)
