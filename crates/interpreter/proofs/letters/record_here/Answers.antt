-- The parts that the callees ensure, and those that the registers hold.
use mathlib.Core.Path.{◌∙◌}
use Rattle.registers.proofs.Reading.{setup-held}
use Rattle.interpreter.proofs.Places.{across-held, down-held}
use Rattle.interpreter.proofs.letters.record_here.Goals as goal

pub returns : goal.returns
returns c p v h = rw (c.row.ensures, c.across-across.ensures, c.setup_in-resolution.ensures ∙ setup-held h, across-held h, down-held h)
