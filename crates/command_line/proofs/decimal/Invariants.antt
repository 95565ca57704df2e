-- The loop over the digits: the number of those left, after those passed, is the word's.
use Rattle.command_line.proofs.WordLaws.{DigitsLeft}
use Rattle.command_line.proofs.decimal.Given as goal

abbrev pub invariant-loop-digit : goal.invariant-loop-digit
invariant-loop-digit l = DigitsLeft l.word l.value l.digit-index
