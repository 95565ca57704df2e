-- How the outcome of events follows from what a function gives back: one event, a test that decides, an event before others.
use Prim.Native.Nat.{ℕ}
use mathlib.Core.Path.{◌≡◌, refl, sym, ap, ◌∙◌}
use mathlib.Core.Bool.{Bool, true, false}
use mathlib.Core.List.{List, [], ◌∷◌, append-nil}
use Rattle.printer.specs.Tools.{holds}
use Rattle.printer.specs.Codes.{shows}
use Rattle.printer.specs.Records.{passed_record}
use Rattle.printer.specs.Performing.{Event, done, passed, perform, perform_all, records_of, records_all}
use Rattle.printer.specs.Deciding.{needs_at, attempt, ranged}
use Rattle.printer.specs.declared.commands.Command.{Command}
use Rattle.printer.specs.declared.records.Record.{Record}
use Rattle.printer.specs.declared.state.Printer.{Printer}
use Rattle.registers.specs.declared.pending.Pending.{Pending}
use Rattle.registers.specs.Layout.{words}
use Rattle.interpreter.specs.Outcome.{Stepped, stepped, Outcome}
use Rattle.interpreter.specs.Doing.{Did}

-- one event, by the state and the records
pub one : (p : Printer) (e : Event) {r : Stepped}
    → r.printer ≡ perform p e → r.records ≡ records_of p e → Outcome p (e ∷ []) r
unfolding perform_all records_all
one p e h k = record { printer = h; records = k ∙ sym (append-nil _) }

-- one event, by the whole value
pub whole : (p : Printer) (e : Event) (o : List Record) {r : Stepped}
    → r ≡ stepped (perform p e) o → o ≡ records_of p e → Outcome p (e ∷ []) r
whole p e o h k = one p e (ap (λ (x : Stepped). x.printer) h) (ap (λ (x : Stepped). x.records) h ∙ k)

-- an event that writes nothing, before others
pub silently : (p : Printer) (e : Event) (l : List Event) {r : Stepped}
    → records_of p e ≡ [] → Outcome (perform p e) l r → Outcome p (e ∷ l) r
unfolding perform_all records_all
silently p e l h o = record { printer = o.printer; records = rw h o.records }

-- A command passed over
module _ (p : Printer) (c : Command) (reason : ℕ) {r : Stepped} where
  pub passed_over : r ≡ stepped p (passed_record (shows c) reason ∷ []) → Outcome p (passed c reason ∷ []) r
  passed_over h = whole p (passed c reason) (passed_record (shows c) reason ∷ []) h refl

  -- a command is done if it has what it needs
  pub attempt-done : holds (needs_at p c 0) ≡ true → Outcome p (done c 0 ∷ []) r → Outcome p (attempt p c reason ∷ []) r
  unfolding attempt
  attempt-done t o = rw t o

  -- and else passed over
  pub attempt-passed : holds (needs_at p c 0) ≡ false → r ≡ stepped p (passed_record (shows c) reason ∷ [])
      → Outcome p (attempt p c reason ∷ []) r
  unfolding attempt
  attempt-passed t h = rw t (passed_over h)

-- An argument's range comes first
module _ (p : Printer) (fits : Bool) (c : Command) (e : Event) {r : Stepped} where
  pub in-range : fits ≡ true → Outcome p (e ∷ []) r → Outcome p (ranged fits c e ∷ []) r
  unfolding ranged
  in-range t o = rw t o

  pub out_of_range : fits ≡ false → r ≡ stepped p (passed_record (shows c) 2 ∷ [])
      → Outcome p (ranged fits c e ∷ []) r
  unfolding ranged
  out_of_range t h = rw t (passed_over p c 2 h)

-- events done on registers, by their outcome
pub did : {p : Printer} {v : Pending} {l : List Event} {r : Stepped} {after : List ℕ} {k : List Record}
    → Outcome p l r → after ≡ words v r.printer → r.records ≡ k → Did p v l after k
did {v} o e w = record { state = e ∙ ap (words v) o.printer; wrote = sym o.records ∙ w }
