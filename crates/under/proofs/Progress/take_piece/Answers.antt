-- A piece that came is read, or none did.
use Rattle.std.proofs.Common.{rules, arith}
use Rattle.standing.proofs.Lines.{from_none}
use Rattle.under.proofs.Progress.take_piece.Goals as goal

pub returns-in_err-n : goal.returns-in_err-n
returns-in_err-n c =
    record { read = 0; said = search rules; total = omega arith; from_input = search (rules, from_none); read_le_piece_size = omega arith }
