-- Zeros over the gathered list.
use Rattle.std.proofs.Common.{length, take, drop, ◌≡◌, arith, length-drop}
use Rattle.std.proofs.Math.Seq.{drop-drop}
use Rattle.std.proofs.lemmas.List.{length-take}
use Rattle.registers.specs.Register.{gathered_count_at}
use Rattle.interpreter.proofs.StopWords.{held-length, emptied}
use Rattle.interpreter.proofs.lists.open_list.Goals as goal

pub returns : goal.returns
returns c p v h =
    let m = c.args.m.now in
    let n : length (take 33 (drop gathered_count_at m)) ≡ 33 = simp (length-take, length-drop) (omega (arith, held-length h)) in
    let z = rw n at (c.fill.ensures.after (λ y e. e)) in
    rw (z, drop-drop 33 gathered_count_at m, h.same) (emptied v p h.long)
