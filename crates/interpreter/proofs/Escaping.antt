-- One event done on registers: as decided by an argument's range and by what the command needs.
use Prim.Native.Nat.{ℕ}
use mathlib.Core.Path.{◌≡◌, refl, sym, ap}
use mathlib.Core.Bool.{Bool, true, false}
use mathlib.Core.List.{List, [], ◌∷◌}
use Rattle.printer.specs.Tools.{holds}
use Rattle.printer.specs.Codes.{shows}
use Rattle.printer.specs.Records.{passed_record}
use Rattle.printer.specs.Performing.{Event, done, passed, perform, records_of}
use Rattle.printer.specs.Deciding.{needs_at, attempt, ranged}
use Rattle.printer.specs.declared.commands.Command.{Command}
use Rattle.printer.specs.declared.records.Record.{Record}
use Rattle.printer.specs.declared.state.Printer.{Printer}
use Rattle.registers.specs.declared.pending.Pending.{Pending}
use Rattle.registers.specs.Layout.{words}
use Rattle.registers.specs.Held.{Held}
use Rattle.interpreter.specs.Doing.{Did}
use Rattle.interpreter.proofs.Outcomes.{one, did}

module _ {p : Printer} {v : Pending} {after : List ℕ} where
  -- one event, by its state and its records
  pub performed : {k : List Record} (e : Event) → after ≡ words v (perform p e) → records_of p e ≡ k → Did p v (e ∷ []) after k
  performed e h w = did (one p e refl refl) h w

  -- a command passed over
  pub refused : (c : Command) (reason : ℕ) {r : Record} → Held p v after → r ≡ passed_record (shows c) reason
      → Did p v (passed c reason ∷ []) after (r ∷ [])
  refused c reason h w = performed (passed c reason) h.same (ap (λ (x : Record). x ∷ []) (sym w))

  -- within its range, or not
  module _ (fits : Bool) (c : Command) (e : Event) where
    pub in-range : {k : List Record} → fits ≡ true → Did p v (e ∷ []) after k → Did p v (ranged fits c e ∷ []) after k
    unfolding ranged
    in-range t d = rw t d

    pub out_of_range : {r : Record} → fits ≡ false → Held p v after → r ≡ passed_record (shows c) 2
        → Did p v (ranged fits c e ∷ []) after (r ∷ [])
    unfolding ranged
    out_of_range t h w = rw t (refused c 2 h w)

  -- with what it needs, or not
  module _ (c : Command) (reason : ℕ) where
    pub allowed : {k : List Record} → holds (needs_at p c 0) ≡ true → Did p v (done c 0 ∷ []) after k
        → Did p v (attempt p c reason ∷ []) after k
    unfolding attempt
    allowed t d = rw t d

    pub not-allowed : {r : Record} → holds (needs_at p c 0) ≡ false → Held p v after → r ≡ passed_record (shows c) reason
        → Did p v (attempt p c reason ∷ []) after (r ∷ [])
    unfolding attempt
    not-allowed t h w = rw t (refused c reason h w)

  -- a command that writes nothing
  pub silently : (c : Command) → records_of p (done c 0) ≡ [] → after ≡ words v (perform p (done c 0)) → Did p v (done c 0 ∷ []) after []
  silently c k h = performed (done c 0) h k
