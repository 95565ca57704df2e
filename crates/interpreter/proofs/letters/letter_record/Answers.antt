-- TX: the look that the registers hold.
use Rattle.registers.proofs.Reading.{advance-held}
use Rattle.interpreter.proofs.Printing.{style_back, font-held, country-held}
use Rattle.interpreter.proofs.letters.letter_record.Goals as goal

pub returns : goal.returns
returns c p v h = rw (c.record_here.ensures p v h, font-held h, style_back h, country-held h, advance-held h)
