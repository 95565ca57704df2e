-- Image bytes on the registers, or else one: see Taken.
use Rattle.std.proofs.Common.{◌≤◌, refl, arith}
use Rattle.interpreter.proofs.SeriesLoop.{placeable, placed-of, fewer_fit, none_done, not_moved, not_written}
use Rattle.interpreter.proofs.Taken.{on-paper, image-bounds, image-formed, columns-taken}
use Rattle.interpreter.proofs.turn.take_images.Goals as goal

pub most-most-requires-clause-formed : goal.most-most-requires-clause-formed
most-most-requires-clause-formed c =
    let k = c.requires.kept.current in
    image-formed k refl (c.image_record.ensures _ _ k.held) c.image_step-step.ensures c.image_bytes.ensures c.exact_step.ensures

pub most-most-requires-clause-paper : goal.most-most-requires-clause-paper
most-most-requires-clause-paper c = on-paper c.requires.kept.current

pub place_columns-placed-requires : goal.place_columns-placed-requires
place_columns-placed-requires c =
    let k = c.requires.kept.current in
    placeable c.args.input.now c.args.out.now
    (image-formed k refl (c.image_record.ensures _ _ k.held) c.image_step-step.ensures c.image_bytes.ensures c.exact_step.ensures)
    (on-paper k) c.most-most.ensures

-- where none is placed, the byte that is left is taken from the same registers and output
pub take_image-requires-then-placed-eq0 : goal.take_image-requires-then-placed-eq0
take_image-requires-then-placed-eq0 c =
    let e = (placed-of c.most-most.ensures.some-input c.place_columns-placed.ensures).0 in
    let b : c.args.byte.part ≤ c.image_bytes.result = rw c.image_bytes.ensures (image-bounds c.requires.kept.current refl).1.1 in
    let same = not_moved c.args.m.now _ (none_done e.reached c.if-placed-eq0.true b) e.moved in
    let kept = not_written c.if-placed-eq0.true e.records in
    rw (same, kept) c.requires

pub returns-then-placed-eq0 : goal.returns-then-placed-eq0
returns-then-placed-eq0 c =
    let e = (placed-of c.most-most.ensures.some-input c.place_columns-placed.ensures).0 in
    let b : c.args.byte.part ≤ c.image_bytes.result = rw c.image_bytes.ensures (image-bounds c.requires.kept.current refl).1.1 in
    let same = not_moved c.args.m.now _ (none_done e.reached c.if-placed-eq0.true b) e.moved in
    let kept = not_written c.if-placed-eq0.true e.records in
    rw (same, kept) at c.take_image-then-placed-eq0.ensures

pub returns : goal.returns
returns c =
    let s = c.image_step-step.ensures in
    let e = c.image_bytes.ensures in
    let q = placed-of c.most-most.ensures.some-input c.place_columns-placed.ensures in
    let g = q.0 in
    record {
      promise =
          λ p v h.
          rw (g.moved, c.waiting.ensures, s)
          (columns-taken h refl (rw (s, e) at (fewer_fit c.most-most.ensures q.1)) (rw e at g.reached)
          (c.image_record.ensures p v h.held) (rw (s, e) at g.records));
      some = omega (arith, c.if-placed-eq0.false);
    }
