-- Lists that are gathered.
use Prim.Native.Nat.{◌≤◌}
use native.Mathlib.Omega.{arith}
use Rattle.printer.specs.Deciding.{most_stops}
use Rattle.printer.specs.declared.commands.Target.{Target}

-- no kind has more stops than a list has room for
pub most_room : (k : Target) → most_stops k ≤ 32
most_room Target.Columns = omega arith
most_room (Target.Channel m) = omega arith
