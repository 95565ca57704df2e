-- By way of registers: see Packed.
use native.Mathlib.Omega.{arith}
use Rattle.printer.proofs.Types.{known_bytes}
use Rattle.registers.proofs.Types.{plain_value}
use Rattle.reader.proofs.Packed.{read_packed}
use Rattle.reader.proofs.read.Goals as goal

pub returns : goal.returns
returns c =
    read_packed c.args.printer (plain_value c.args.printer c.well_formed.0)
    (known_bytes c.args.input.now (λ i. omega (arith, c.shared_slice_known-1.given i)))
    c.pack.ensures c.read-report.ensures c.unpack-left.ensures
