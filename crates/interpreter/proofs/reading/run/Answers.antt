-- The loop of a reading call: see Going. The code is safe for the printer that `requires` names; what it promises, it promises of any.
use native.Mathlib.Omega.{arith}
use Rattle.printer.proofs.Types.{known_bytes}
use Rattle.interpreter.proofs.Going.{begins, input-used, allowance-used, output-full, part-some, room-some, within-output, goes_on}
use Rattle.interpreter.proofs.reading.run.Goals as goal

pub loop-at-init : goal.loop-at-init
loop-at-init c = λ p v h. begins _ _ _ h

pub returns-then-at-input : goal.returns-then-at-input
returns-then-at-input c = λ p v h. rw c.ended.ensures (input-used (c.loop-at.invariant p v h) c.if-at-input.true)

pub returns-then-left-eq0 : goal.returns-then-left-eq0
returns-then-left-eq0 c =
    λ p v h. rw c.ended-then-left-eq0.ensures (allowance-used (c.loop-at.invariant p v h) c.if-at-input.false c.if-left-eq0.true)

pub returns-then-room-lt-ROOM : goal.returns-then-room-lt-ROOM
returns-then-room-lt-ROOM c =
    λ p v h.
    rw c.ended-then-room-lt-ROOM.ensures
    (output-full (c.loop-at.invariant p v h) c.if-at-input.false c.if-left-eq0.false c.if-room-lt-ROOM.true)

pub turn-t-requires : goal.turn-t-requires
turn-t-requires c =
    let g = c.loop-at.invariant _ _ c.requires.current in
    record {
      kept = record { printer = _; stale = _; current = g.current };
      some-input = part-some g c.min.ensures c.if-at-input.false c.if-left-eq0.false;
      some-room = room-some g (omega arith);
    }

pub overflow_add-written : goal.overflow_add-written
overflow_add-written c =
    let g = c.loop-at.invariant _ _ c.requires.current in
    record { fits = omega (arith, within-output g c.min.ensures (c.turn-t.ensures.promise _ _ g.current)) }

pub loop-at-preserved : goal.loop-at-preserved
loop-at-preserved c =
    λ p v h.
    let g = c.loop-at.invariant p v h in
    goes_on g c.min.ensures (c.turn-t.ensures.promise _ _ g.current)
    (known_bytes c.args.input.now (λ i. omega (arith, c.type_inv.input i)))
