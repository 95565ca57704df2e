-- Where SO is not in force, its end changes nothing.
use Rattle.interpreter.proofs.Setting.{wide_once_off}
use Rattle.interpreter.proofs.settings.end_wide_once.Goals as goal

pub returns-then-m-eq0 : goal.returns-then-m-eq0
returns-then-m-eq0 c p v h = wide_once_off h c.if-m-eq0.true
