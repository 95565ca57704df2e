-- The loop over the channels.
use mathlib.Core.Path.{◌≡◌, refl}
use native.Mathlib.Omega.{arith}
use Rattle.printer.specs.Bounds.{channels_below}
use Rattle.registers.specs.Groups.{channels_in}
use Rattle.accepting.proofs.ChannelTests.{channel_more}
use Rattle.accepting.proofs.bounds.channels_each.Goals as goal

pub loop-channel-init : goal.loop-channel-init
unfolding channels_below
loop-channel-init c = refl

pub loop-channel-preserved : goal.loop-channel-preserved
loop-channel-preserved c =
    rw (c.channel_within-within.ensures, c.loop-channel.invariant) (channel_more (channels_in c.args.m.now) c.loop-channel.channel)

pub returns : goal.returns
returns c =
    let e : c.loop-channel.channel ≡ 8 = omega arith in
    rw e at c.loop-channel.invariant
