-- SO ends, then the place is stored, and LN is written by the resolution, which stays.
use Rattle.interpreter.specs.Leaving.{on_line_at}
use Rattle.interpreter.proofs.Places.{line-stored}
use Rattle.interpreter.proofs.lines.line_to.Goals as goal

pub returns : goal.returns
returns c p v h =
    let down = c.args.down.0 in
    let there = line-stored h down (c.end_wide_once.ensures p v h) in
    record { state = there.same; wrote = rw (c.feed_record.ensures (on_line_at p down) v there) }
