-- The loop between commands: turns that follow each other are one.
use Rattle.std.proofs.Common.{arith, length-drop}
use Rattle.std.proofs.lemmas.List.{length-take}
use Rattle.printer.proofs.Types.{known_bytes}
use Rattle.interpreter.proofs.Turns.{no-turn, fits, long, current-after, within-input, joined}
use Rattle.interpreter.proofs.turn.take_text.Goals as goal

pub loop-t-init : goal.loop-t-init
loop-t-init c =
    (λ p v h. no-turn _ _ h, (omega (arith, c.requires.some-input), omega (arith, c.requires.some-room)))

pub take_here-t-requires : goal.take_here-t-requires
take_here-t-requires c =
    let h = c.requires.kept.current in
    let b = known_bytes c.args.input.now (λ i. omega (arith, c.type_inv.input i)) in
    let g = c.loop-t.invariant in
    record {
      kept = record { printer = _; stale = _; current = current-after (g.0 _ _ h) b h };
      some-input = simp (length-take, length-drop) (omega (arith, g.1.0));
      some-room = simp (length-take, length-drop) (omega (arith, g.1.1));
    }

pub overflow_add-at : goal.overflow_add-at
overflow_add-at c =
    let h = c.requires.kept.current in
    let b = known_bytes c.args.input.now (λ i. omega (arith, c.type_inv.input i)) in
    let g = c.loop-t.invariant.0 _ _ h in
    record { fits = omega (arith, within-input g (c.take_here-t.ensures.promise _ _ (current-after g b h))) }

pub overflow_add-written : goal.overflow_add-written
overflow_add-written c =
    let h = c.requires.kept.current in
    let b = known_bytes c.args.input.now (λ i. omega (arith, c.type_inv.input i)) in
    let g = c.loop-t.invariant.0 _ _ h in
    record { fits = omega (arith, fits (joined g (c.take_here-t.ensures.promise _ _ (current-after g b h)))) }

pub overflow_sub-input : goal.overflow_sub-input
overflow_sub-input c =
    let h = c.requires.kept.current in
    let b = known_bytes c.args.input.now (λ i. omega (arith, c.type_inv.input i)) in
    let g = c.loop-t.invariant.0 _ _ h in
    within-input g (c.take_here-t.ensures.promise _ _ (current-after g b h))

pub overflow_sub-out : goal.overflow_sub-out
overflow_sub-out c =
    let h = c.requires.kept.current in
    let b = known_bytes c.args.input.now (λ i. omega (arith, c.type_inv.input i)) in
    let g = c.loop-t.invariant.0 _ _ h in
    let j = joined g (c.take_here-t.ensures.promise _ _ (current-after g b h)) in
    omega (arith, fits j, long j)

pub returns-then-not-goes_on : goal.returns-then-not-goes_on
returns-then-not-goes_on c =
    let b = known_bytes c.args.input.now (λ i. omega (arith, c.type_inv.input i)) in
    record {
      promise = λ p v h. let g = c.loop-t.invariant.0 p v h in joined g (c.take_here-t.ensures.promise _ _ (current-after g b h));
      some = omega (arith, c.take_here-t.ensures.some);
    }

pub loop-t-preserved : goal.loop-t-preserved
loop-t-preserved c =
    let b = known_bytes c.args.input.now (λ i. omega (arith, c.type_inv.input i)) in
    let q = c.take_here-t.ensures in
    let m = c.goes_on.ensures c.if-not-goes_on.false in (
      λ p v h.
          let g = c.loop-t.invariant.0 p v h in
          rw m.0 at (joined g (q.promise _ _ (current-after g b h))),
      (omega (arith, m.1.0), omega (arith, m.1.1)),
    )
