-- The letters passed are good.
use Rattle.std.proofs.Common.{length}
use Rattle.writer.proofs.Faults.{Passed}
use Rattle.writer.proofs.Chunks.{Ahead}
use Rattle.writer.proofs.letters.check_letters.Given as goal

abbrev pub invariant-loop-bytes : goal.invariant-loop-bytes
invariant-loop-bytes l = record { passed : Passed l.letters (length l.yielded) l.before; ahead : Ahead l.letters (length l.yielded) l.bytes-iterator }
