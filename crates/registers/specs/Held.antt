-- Registers that hold a printer.
use Rattle.std.specs.Prelude.{ℕ, ◌≤◌, ◌≡◌, List}
use Rattle.printer.specs.Accepted.{StopsTyped}
use Rattle.printer.specs.declared.settings.Settings.{Settings}
use Rattle.printer.specs.declared.state.Printer.{Printer}
use Rattle.registers.specs.declared.pending.Pending.{Pending}
use Rattle.registers.specs.Layout.{words}

-- the numbers that are bytes by type
abbrev pub Small : Settings → Type 0
Small s = (s.width.spacing ≤ 255) × ((s.face.font ≤ 255) × ((s.face.country ≤ 255) × (s.face.outline ≤ 255)))

-- the registers are those of a printer, with any numbers for what is waited for
pub record Held (p : Printer) (v : Pending) (m : List ℕ) : Type 0 where
  pub same : m ≡ words v p
  pub small : Small p.settings
  pub long : StopsTyped p.stops
