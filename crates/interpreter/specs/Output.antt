-- Records written into an output.
use Rattle.std.specs.Prelude.{ℕ, ◌+◌, ◌*◌, ◌≡◌, List, ◌++◌, length, take, drop}
use Rattle.printer.specs.Records.{record_size, encoded_all, unlisted, not_allowed, past_limits, does_not_fit, no_stop}
use Rattle.printer.specs.declared.records.Record.{Record}
use Rattle.interpreter.specs.declared.output.Reason.{Reason}

-- the records l over the bytes xs, from a place on to an end, and the bytes that this gives
pub record Written (xs : List ℕ) (at : ℕ) (l : List Record) (end : ℕ) (ys : List ℕ) : Type 0 where
  pub place : end ≡ at + record_size * length l
  pub bytes : ys ≡ take at xs ++ (encoded_all l ++ drop end xs)

-- the number of a reason
abbrev pub reason_number : Reason → ℕ
reason_number Reason.Unlisted = unlisted
reason_number Reason.NotAllowed = not_allowed
reason_number Reason.PastLimits = past_limits
reason_number Reason.DoesNotFit = does_not_fit
reason_number Reason.NoStop = no_stop
