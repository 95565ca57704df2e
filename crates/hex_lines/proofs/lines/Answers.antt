-- The loop over the records.
use Rattle.std.proofs.Common.{refl, rules, arith}
use native.Mathlib.Nat.{add-sub_cancel_left}
use Rattle.hex_lines.specs.HexLines.{hex_lines}
use Rattle.hex_lines.proofs.LineLaws.{lines-on}
use Rattle.hex_lines.proofs.lines.Goals as goal

pub loop-i-init : goal.loop-i-init
unfolding hex_lines
loop-i-init c = record { counted = c.min-count.ensures; passed = omega arith; same_length = refl; written = refl }

pub loop-i-preserved : goal.loop-i-preserved
loop-i-preserved c =
    let e = rw add-sub_cancel_left at c.put_line.ensures in
    record {
      counted = c.loop-i.invariant.counted;
      passed = omega arith;
      same_length = search rules;
      written = rw add-sub_cancel_left (lines-on _ _ _ _ c.loop-i.i (omega arith) c.loop-i.invariant.written e);
    }
