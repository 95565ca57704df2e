-- Nothing is written where there is no record.
use Rattle.interpreter.proofs.Writes.{none}
use Rattle.interpreter.proofs.output.write_any.Goals as goal

pub returns-in-None : goal.returns-in-None
returns-in-None c = rw c.in-None.is (none _ _)
