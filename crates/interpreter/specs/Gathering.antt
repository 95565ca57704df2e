-- A list that is gathered, at its end.
use Rattle.std.specs.Prelude.{◌≤◌}
use Rattle.printer.specs.Tools.{Holds}
use Rattle.printer.specs.Bounds.{target_bounds, channel_of}
use Rattle.printer.specs.declared.commands.Target.{Target}
use Rattle.printer.specs.declared.stops.Stops.{Stops}

-- it is for a channel that there is, and within its bounds
abbrev pub Gathered : Stops → Target → Type 0
Gathered t k = (channel_of k ≤ 7) × Holds (target_bounds k t.gathered)
