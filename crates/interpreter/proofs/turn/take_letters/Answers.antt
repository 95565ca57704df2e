-- Letters on the registers, or else one: see Taken.
use Rattle.std.proofs.Common.{refl, take, get_or, arith}
use Rattle.registers.specs.Register.{upper_prints_at, advance_at}
use Rattle.registers.specs.Groups.{is_set}
use Rattle.interpreter.proofs.Following.{letter-from, letters-from}
use Rattle.interpreter.proofs.SeriesLoop.{placeable, placed-of, fewer_fit, none_done, not_moved, not_written}
use Rattle.interpreter.proofs.Stepping.{letter-frame, whole}
use Rattle.interpreter.proofs.Taken.{on-paper, letters-formed, byte-taken, letters-taken}
use Rattle.interpreter.proofs.turn.take_letters.Goals as goal

pub most-most-requires-clause-formed : goal.most-most-requires-clause-formed
most-most-requires-clause-formed c =
    let k = c.requires.ready.kept.current in letters-formed k (c.letter_record.ensures _ _ k.held)

pub most-most-requires-clause-paper : goal.most-most-requires-clause-paper
most-most-requires-clause-paper c = on-paper c.requires.ready.kept.current

pub place-placed-requires : goal.place-placed-requires
place-placed-requires c =
    let k = c.requires.ready.kept.current in
    placeable c.args.input.now c.args.out.now (letters-formed k (c.letter_record.ensures _ _ k.held)) (on-paper k) c.most-most.ensures

pub returns-then-placed-eq0 : goal.returns-then-placed-eq0
returns-then-placed-eq0 c =
    let r = c.requires in
    let e = (placed-of c.most-most.ensures.some-input c.place-placed.ensures).0 in
    let same = not_moved c.args.m.now (get_or c.args.m.now advance_at 0) (none_done e.reached c.if-placed-eq0.true (omega arith)) e.moved in
    let kept = not_written c.if-placed-eq0.true e.records in
    record {
      promise =
          λ p v h.
          let d = rw (same, kept) at c.letter.ensures p v h.held in
          byte-taken r.ready.some-input r.ready.some-room
          (whole h _ (letter-frame h _ refl (letter-from _ _ r.from_value r.first_prints)) (record { state = d.0; wrote = refl })) d.1;
      some = omega arith;
    }

pub returns : goal.returns
returns c =
    let g = placed-of c.most-most.ensures.some-input c.place-placed.ensures in
    let e = g.0 in
    record {
      promise =
          λ p v h.
          rw e.moved
          (letters-taken h refl (fewer_fit c.most-most.ensures g.1)
          (letters-from (is_set (get_or c.args.m.now upper_prints_at 0)) (take c.place-placed.result.count c.args.input.now) c.requires.from_value e.printed)
          e.reached (c.letter_record.ensures p v h.held) e.records);
      some = omega (arith, c.if-placed-eq0.false);
    }
