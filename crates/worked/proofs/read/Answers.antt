-- A call reads and writes within its input and its output.
use Rattle.std.proofs.Common.{arith, length-take}
use Rattle.listing.proofs.CallLaws.{call_within}
use Rattle.worked.proofs.read.Goals as goal

pub returns : goal.returns
returns c =
    let k = call_within c.read.ensures in
    (k.0, omega (arith, simp length-take at k.1, c.min-room.ensures))
