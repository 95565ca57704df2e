-- The loop over the records: the lines of those passed, and past them what the output held.
use Rattle.std.proofs.Common.{◌≡◌, ◌*◌, length, ◌≤◌, ◌++◌, drop}
use Rattle.hex_lines.specs.HexLines.{hex_lines, line_size, count_of}
use Rattle.hex_lines.proofs.lines.Given as goal

abbrev pub invariant-loop-i : goal.invariant-loop-i
invariant-loop-i l =
    record {
      counted : l.count ≡ count_of l.records (length l.initial.out);
      passed : l.i ≤ l.count;
      same_length : length l.out ≡ length l.initial.out;
      written : l.out ≡ hex_lines l.i l.records ++ drop (line_size * l.i) l.initial.out;
    }
