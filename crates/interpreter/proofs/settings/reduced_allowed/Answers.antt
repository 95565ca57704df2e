-- SI is allowed at 10 and 12 cpi.
use Rattle.interpreter.proofs.Setting.{reduced_by_pitch}
use Rattle.interpreter.proofs.settings.reduced_allowed.Goals as goal

pub returns : goal.returns
returns c p v h = reduced_by_pitch h
