-- The loop over a record's bytes.
use Rattle.std.proofs.Common.{◌≡◌, refl, arith, length-set}
use Rattle.printer.specs.Records.{record_size}
use Rattle.hex_lines.specs.HexLines.{hex_digits}
use Rattle.hex_lines.proofs.LineLaws.{digits_on, digits_end}
use Rattle.hex_lines.proofs.put_line.Goals as goal

pub loop-i-init : goal.loop-i-init
unfolding hex_digits
loop-i-init c = record { passed = omega arith; same_length = refl; written = refl }

pub loop-i-preserved : goal.loop-i-preserved
loop-i-preserved c =
    record {
      passed = omega arith;
      same_length = simp length-set c.loop-i.invariant.same_length;
      written =
          digits_on _ _ _ c.loop-i.i _ _ (omega arith) (omega arith) c.loop-i.invariant.written c.digit.ensures c.digit-in-loop-i.ensures;
    }

pub returns : goal.returns
returns c =
    let e : c.loop-i.i ≡ record_size = omega arith in
    digits_end _ c.args.out.now _ c.requires.bytes_len c.requires.out_len (rw e at c.loop-i.invariant.written)
