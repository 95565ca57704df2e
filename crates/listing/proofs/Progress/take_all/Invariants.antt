-- The loop over the pieces: the bytes of each follow those before.
use Rattle.std.proofs.Common.{◌-◌}
use Rattle.listing.specs.Showing.{FromInput}
use Rattle.listing.proofs.Progress.take_all.Given as goal

abbrev pub invariant-loop-self : goal.invariant-loop-self
invariant-loop-self l = FromInput l.initial.self.printer l.self.printer l.self.read

abbrev pub decreases-loop-self : goal.decreases-loop-self
decreases-loop-self l = 18446744073709551615 - l.self.read
