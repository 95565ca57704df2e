-- Stored where it stands.
use Rattle.interpreter.proofs.Places.{across-stored}
use Rattle.interpreter.proofs.moves.move_to.Goals as goal

pub returns : goal.returns
returns c p v h = across-stored h c.args.across.0
