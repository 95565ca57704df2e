-- What functions on registers promise: of every printer that the registers hold.
use Rattle.std.specs.Prelude.{ℕ, ◌≡◌, List}
use Rattle.interpreter.specs.Output.{Written}
use Rattle.printer.specs.Performing.{Event, with_parts, perform_all, records_all}
use Rattle.printer.specs.declared.settings.Settings.{Settings}
use Rattle.printer.specs.declared.state.Printer.{Printer}
use Rattle.registers.specs.declared.pending.Pending.{Pending}
use Rattle.registers.specs.Layout.{words}
use Rattle.registers.specs.Held.{Held}
use Rattle.printer.specs.declared.records.Record.{Record}

-- they leave another printer
abbrev pub Leaves : (m after : List ℕ) → (Printer → Printer) → Type 0
Leaves m after f = (p : Printer) (v : Pending) → Held p v m → after ≡ words v (f p)

-- other settings
abbrev pub Sets : (m after : List ℕ) → (Settings → Settings) → Type 0
Sets m after f = Leaves m after (λ p. with_parts p (f p.settings) p.place p.stops)

-- events: the state after them, and their records
pub record Did (p : Printer) (v : Pending) (l : List Event) (after : List ℕ) (k : List Record) : Type 0 where
  pub state : after ≡ words v (perform_all p l)
  pub wrote : records_all p l ≡ k

-- the events that the rules decide
abbrev pub Does : (Printer → List Event) → (m after : List ℕ) → List Record → Type 0
Does f m after k = (p : Printer) (v : Pending) → Held p v m → Did p v (f p) after k

-- the same, with the records written from a place on to an end
abbrev pub Prints : (Printer → List Event) → (m after xs : List ℕ) → (at end : ℕ) → (ys : List ℕ) → Type 0
Prints f m after xs at end ys =
    (p : Printer) (v : Pending) → Held p v m → (after ≡ words v (perform_all p (f p))) × Written xs at (records_all p (f p)) end ys
