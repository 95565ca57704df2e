-- The loop over the pieces: the bytes of each follow those before.
use Rattle.std.proofs.Common.{◌-◌, Ok}
use Rattle.standing.specs.Text.{lines_of, FromInput}
use Rattle.under.proofs.Progress.take_all.Given as goal

abbrev pub invariant-loop-self : goal.invariant-loop-self
invariant-loop-self l = FromInput l.columns.from l.columns.to (Ok (lines_of l.initial.self.text)) (Ok (lines_of l.self.text)) l.self.read

abbrev pub decreases-loop-self : goal.decreases-loop-self
decreases-loop-self l = 18446744073709551615 - l.self.read
