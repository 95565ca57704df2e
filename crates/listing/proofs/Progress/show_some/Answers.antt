-- One call, with room for the records of a byte.
use Rattle.std.proofs.Common.{rules, refl, arith}
use Rattle.listing.proofs.CallLaws.{call_shown, call_some}
use Rattle.listing.proofs.Progress.show_some.Goals as goal

pub returns-in_err-write_all : goal.returns-in_err-write_all
returns-in_err-write_all c =
    let h = c.read-reading.ensures.read_promise in
    record {
      read = c.read-reading.result.report.read;
      counted = record { said = search rules; total = refl };
      shown = call_shown h;
      some = λ e n. call_some h (omega arith) e n;
      kept = c.read-reading.ensures.accepted_kept;
    }

pub returns : goal.returns
returns c =
    let h = c.read-reading.ensures.read_promise in
    record {
      read = c.read-reading.result.report.read;
      counted = record { said = refl; total = refl };
      shown = call_shown h;
      some = λ e n. call_some h (omega arith) e n;
      kept = c.read-reading.ensures.accepted_kept;
    }
