-- Stored where they stand, and CL.
use Rattle.interpreter.proofs.Places.{margins-stored}
use Rattle.interpreter.proofs.margins.margins_set.Goals as goal

pub returns : goal.returns
returns c p v h =
    let a = c.args in
    record { state = margins-stored h a.left.0 a.right.0; wrote = rw c.clear_record.ensures }
