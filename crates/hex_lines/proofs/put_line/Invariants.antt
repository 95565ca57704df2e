-- The loop over a record's bytes: the digits of those passed, and past them what the output held.
use Rattle.std.proofs.Common.{◌≡◌, ◌*◌, length, ◌≤◌, ◌++◌, take, drop}
use Rattle.printer.specs.Records.{record_size}
use Rattle.hex_lines.specs.HexLines.{hex_digits}
use Rattle.hex_lines.proofs.put_line.Given as goal

abbrev pub invariant-loop-i : goal.invariant-loop-i
invariant-loop-i l =
    record {
      passed : l.i ≤ record_size;
      same_length : length l.out ≡ length l.initial.out;
      written : l.out ≡ hex_digits (take l.i l.bytes) ++ drop (2 * l.i) l.initial.out;
    }
