-- Events done on registers: by their outcome, one after another, and controls as received or inside another command.
use Prim.Native.Nat.{ℕ}
use mathlib.Core.Path.{◌≡◌, refl}
use mathlib.Core.List.{List, [], ◌∷◌, ◌++◌, append-nil}
use Rattle.printer.specs.Performing.{Event, done, inside, automatic, perform, perform_all, records_of, records_all}
use Rattle.printer.specs.declared.commands.Command.{Command}
use Rattle.printer.specs.declared.commands.Control.{Control}
use Rattle.printer.specs.declared.records.Record.{Record}
use Rattle.printer.specs.declared.state.Printer.{Printer}
use Rattle.registers.specs.declared.pending.Pending.{Pending}
use Rattle.registers.specs.Layout.{words}
use Rattle.interpreter.specs.Outcome.{Stepped, Outcome}
use Rattle.interpreter.specs.Doing.{Did}
use Rattle.interpreter.specs.Leaving.{Wrote}
use Rattle.interpreter.proofs.Outcomes.{did}

-- by the outcome that is left and written
pub did-by : {p : Printer} {v : Pending} {l : List Event} {r : Stepped} {after : List ℕ} {k : List Record}
    → Wrote v r after k → Outcome p l r → Did p v l after k
did-by w o = did o w.state w.wrote

-- no event
pub nothing : {p : Printer} {v : Pending} {after : List ℕ} → after ≡ words v p → Did p v [] after []
unfolding perform_all records_all
nothing e = record { state = e; wrote = refl }

module _ {p : Printer} {v : Pending} {after : List ℕ} {k : List Record} where
  -- an event that writes nothing, before others
  pub silently-did : (e : Event) (l : List Event) → records_of p e ≡ [] → Did (perform p e) v l after k
      → Did p v (e ∷ l) after k
  unfolding perform_all records_all
  silently-did e l h d = record { state = d.state; wrote = rw h d.wrote }

  -- an event that writes, before others
  pub then-did : (e : Event) (l : List Event) {m : List ℕ} {j : List Record} → Did p v (e ∷ []) m j
      → Did (perform p e) v l after k → Did p v (e ∷ l) after (j ++ k)
  unfolding perform_all records_all
  then-did e l d f = record { state = f.state; wrote = rw (← d.wrote, append-nil, f.wrote) }

  -- a control as received does what it does inside another command
  pub received : {c : Control} (b : ℕ) {n : ℕ} {l : List Event} → Did p v (inside c n ∷ l) after k
      → Did p v (done (Command.Control c b) n ∷ l) after k
  unfolding perform_all records_all
  received b d = record { state = d.state; wrote = d.wrote }

  -- the LF of an automatic line
  pub automatically : {n : ℕ} {l : List Event} → Did p v (inside Control.LineFeed n ∷ l) after k
      → Did p v (automatic n ∷ l) after k
  unfolding perform_all records_all
  automatically d = record { state = d.state; wrote = d.wrote }

-- one event that writes nothing
pub silent_did : {p : Printer} {v : Pending} {after : List ℕ} (e : Event) → records_of p e ≡ []
    → after ≡ words v (perform p e) → Did p v (e ∷ []) after []
silent_did e h s = silently-did e [] h (nothing s)
