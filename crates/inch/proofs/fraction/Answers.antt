-- The dots of less than an inch: its entry of the table.
use Prim.Native.Nat.{◌<◌}
use mathlib.Core.Path.{◌≡◌}
use native.Mathlib.Omega.{arith}
use Rattle.printer.specs.Units.{rounded}
use Rattle.inch.proofs.Rule.{entry, rule}
use Rattle.inch.proofs.fraction.Goals as goal

pub returns : goal.returns
returns c =
    let u = c.args.u in
    let e : entry u ≡ rounded 203 u = rule u c.requires in
    let small : entry u < 256 = omega arith in
    (e, small)
