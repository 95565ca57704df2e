-- A channel without stops, and the part of the registers that holds those of another.
use Prim.Native.Nat.{◌+◌, ◌*◌, ◌-◌}
use mathlib.Core.Path.{◌≡◌, ◌∙◌}
use native.Mathlib.Omega.{arith}
use Rattle.registers.specs.Register.{channel_stops_at}
use Rattle.accepting.proofs.ChannelTests.{count_at, places-at, channel-few}
use Rattle.accepting.proofs.bounds.channel_within.Goals as goal

pub returns-then-count-le1 : goal.returns-then-count-le1
returns-then-count-le1 c = channel-few c.args.m.now c.told-m c.args.channel c.requires c.if-count-le1.true

pub returns : goal.returns
returns c =
    let m = c.args.m.now in
    let k = c.args.channel in
    let from = channel_stops_at + 16 * k in
    let e : (from + 16) - from ≡ 16 = omega arith in
    c.list_within.ensures ∙ rw (e, count_at m c.told-m k c.requires, places-at m c.told-m k c.requires)
