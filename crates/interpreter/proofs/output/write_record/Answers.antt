-- A record's bytes, copied over a part of the output.
use native.Mathlib.Omega.{arith}
use Rattle.interpreter.proofs.Writes.{one}
use Rattle.interpreter.proofs.output.write_record.Goals as goal

pub returns : goal.returns
returns c =
    let a = c.args in
    one a.out.now _ a.at a.r (omega arith) (rw c.encoded-encoded.ensures at c.put.ensures)
