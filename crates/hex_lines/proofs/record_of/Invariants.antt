-- The loop over the pairs of digits: those passed are digits, and their bytes are stored.
use Rattle.hex_lines.proofs.BackLaws.{PairsLeft}
use Rattle.hex_lines.proofs.record_of.Given as goal

abbrev pub invariant-loop-k : goal.invariant-loop-k
invariant-loop-k l = PairsLeft l.line l.byte-items l.k
