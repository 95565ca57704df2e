-- A piece that came is shown, or none did.
use Rattle.std.proofs.Common.{ℕ, rules, arith, length-take}
use Rattle.listing.proofs.Pieces.{from-shown, from-none, said-mapped}
use Rattle.listing.proofs.Progress.take_piece.Goals as goal

pub returns-in_err-n : goal.returns-in_err-n
returns-in_err-n c =
    record { read = 0; counted = record { said = search rules; total = omega arith }; from_input = from-none _; read_le_piece_size = omega arith }

pub returns : goal.returns
returns c =
    let h = c.show.ensures in
    record {
      read = h.read;
      counted = record { said = said-mapped _ _ _ _ c.map_err-2.ensures.cases h.counted.said; total = h.counted.total };
      from_input = from-shown h.shown h.bytes;
      read_le_piece_size = let w = h.shown.within in omega (arith, length-take {A = ℕ});
    }
