-- Several settings stored at once.
use Rattle.std.specs.Prelude.{ℕ, Bool, false, List, get_or, set}
use Rattle.printer.specs.Tools.{pick, bit}
use Rattle.printer.specs.declared.settings.Pitch.{Pitch}
use Rattle.registers.specs.declared.derived.Shown.{Shown}
use Rattle.registers.specs.Register.{pitch_at, wide_once_at}
use Rattle.registers.specs.Layout.{flag, pitch_number}
use Rattle.registers.specs.Groups.{is_set}
use Rattle.registers.specs.Keeping.{shown_stored, double_stored}

-- ESC W: 0 ends SO too
abbrev pub doubled_in : List ℕ → Bool → List ℕ
doubled_in m on = double_stored m (flag on) (flag (pick on (is_set (get_or m wide_once_at 0)) false))

-- ESC !: a bit as a flag
abbrev pub bit_in : List ℕ → Shown → (argument k : ℕ) → List ℕ
bit_in m s n k = shown_stored m s (flag (bit n k))

abbrev pub master_width_in : List ℕ → ℕ → List ℕ
master_width_in m n =
    doubled_in
    (bit_in (bit_in (set m pitch_at (pitch_number (pick (bit n 0x01) Pitch.Cpi12 Pitch.Cpi10))) Shown.Proportional n 0x02) Shown.Reduced n 0x04)
    (bit n 0x20)

abbrev pub master_emphasis_in : List ℕ → ℕ → List ℕ
master_emphasis_in m n =
    bit_in (bit_in (bit_in (bit_in m Shown.Bold n 0x08) Shown.DoubleStrike n 0x10) Shown.Italic n 0x40) Shown.Underline n 0x80
