-- The channels passed are within the bounds.
use mathlib.Core.Path.{◌≡◌}
use Rattle.printer.specs.Tools.{holds}
use Rattle.printer.specs.Bounds.{channels_below}
use Rattle.registers.specs.Groups.{channels_in}
use Rattle.accepting.proofs.bounds.channels_each.Given as goal

abbrev pub invariant-loop-channel : goal.invariant-loop-channel
invariant-loop-channel l = l.within ≡ holds (channels_below (channels_in l.m) l.channel)
