-- ESC J: down by n/180 inch, with the pages turned.
use mathlib.Core.Path.{◌∙◌}
use native.Mathlib.Omega.{arith}
use Rattle.interpreter.proofs.Places.{down-held, down-stored}
use Rattle.interpreter.proofs.Feeding.{feed-done}
use Rattle.interpreter.proofs.Outcomes.{did}
use Rattle.interpreter.proofs.lines.feed.Goals as goal

pub returns : goal.returns
returns c p v h ok =
    let there = down-stored h c.further_down-depth.result.down.0 in
    did
    (feed-done p c.args.n (omega (arith, c.ranges.n)) ok
    (c.further_down-depth.ensures ∙ rw (c.edge.ensures p v h, down-held h)))
    there.same (rw (c.feed_record.ensures _ v there))
