-- ESC @ and so many letters are written.
use Rattle.std.proofs.Common.{length}
use Rattle.writer.proofs.Cards.{Begun}
use Rattle.writer.proofs.Chunks.{Ahead}
use Rattle.writer.proofs.put_card.Given as goal

abbrev pub invariant-loop-bytes : goal.invariant-loop-bytes
invariant-loop-bytes l =
    let i = length l.yielded in
    record { begun : Begun l.letters l.fn.out i l.at l.before l.out; ahead : Ahead l.letters i l.bytes-iterator }
