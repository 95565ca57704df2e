-- LN, by the resolution that the registers hold.
use mathlib.Core.Path.{◌∙◌}
use Rattle.registers.proofs.Reading.{setup-held}
use Rattle.interpreter.proofs.output.feed_record.Goals as goal

pub returns : goal.returns
returns c p v h = rw (c.plain_record.ensures, c.row.ensures, c.setup_in-setup.ensures ∙ setup-held h)
