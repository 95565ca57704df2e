-- One more whole feed, and room for the rest.
use Rattle.std.proofs.Common.{arith, length-take, length-drop}
use Rattle.writer.proofs.Feeds.{whole_length, begins, goes_on}
use Rattle.writer.proofs.output.put_feeds.Goals as goal

pub loop-init : goal.loop-init
loop-init c = begins _

pub put_feed-at-requires : goal.put_feed-at-requires
put_feed-at-requires c = simp (length-take, length-drop) (omega (arith, whole_length c.loop.counter))

pub loop-preserved : goal.loop-preserved
loop-preserved c = goes_on _ c.loop.invariant c.put_feed-at.ensures

pub put_feed-requires : goal.put_feed-requires
put_feed-requires c = simp (length-take, length-drop) (omega (arith, whole_length c.loop.counter))
