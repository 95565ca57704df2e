-- The call writes within its output.
use Rattle.std.proofs.Common.{arith, ℕ, length-take}
use Rattle.listing.proofs.CallLaws.{call_within}
use Rattle.worked.proofs.read_part.Goals as goal

pub slice_bounds-records-end : goal.slice_bounds-records-end
slice_bounds-records-end c = omega (arith, (call_within c.read_by_lending-reading.ensures).1)

pub slice_bounds-compared-end : goal.slice_bounds-compared-end
slice_bounds-compared-end c = omega (arith, length-take {A = ℕ}, (call_within c.read_by_lending-reading.ensures).1)
