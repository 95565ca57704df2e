-- Feeds, moves and the byte, one after the other.
use Rattle.std.proofs.Common.{◌-◌, ◌/◌, arith, length-take, length-drop, length-append}
use Rattle.writer.proofs.Feeds.{feeds-length}
use Rattle.writer.proofs.Places.{place-length, all_parts}
use Rattle.writer.proofs.output.put_letter.Goals as goal

pub put_place-requires : goal.put_place-requires
put_place-requires c =
    simp (length-take, length-drop) (omega (arith, feeds-length ((c.args.x.down - c.args.before) / 20) (omega arith)))

pub put-requires : goal.put-requires
put-requires c =
    let fed = feeds-length ((c.args.x.down - c.args.before) / 20) (omega arith) in
    let rest = simp (length-take, length-drop) at c.put_place.auto.out in
    (omega arith, simp (length-take, length-drop, length-append) (omega (arith, fed, place-length c.args.x.across)))

pub returns : goal.returns
returns c = all_parts c.args.before c.args.x c.put_feeds-fed.ensures c.put_place.ensures c.put.ensures
