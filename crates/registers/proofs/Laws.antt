-- The registers of a printer are read as it, and what follows from its settings is kept.
use Prim.Native.Nat.{ℕ, ◌%◌, ◌≤◌}
use mathlib.Core.Path.{◌≡◌, refl, ap, ◌∙◌}
use mathlib.Core.Bool.{Bool, true, false}
use native.Mathlib.Omega.{arith}
use Rattle.printer.specs.Units.{per_inch_across}
use Rattle.printer.specs.Settings.{advance_of, column_of}
use Rattle.printer.specs.declared.settings.Pitch.{Pitch}
use Rattle.printer.specs.declared.settings.Width.{Width}
use Rattle.printer.specs.declared.state.Printer.{Printer}
use Rattle.printer.specs.declared.units.Resolution.{Resolution}
use Rattle.registers.specs.declared.pending.Pending.{Pending}
use Rattle.registers.specs.Layout.{Derived, flag, pitch_number, advance_dots, laid}
use Rattle.registers.specs.Groups.{is_set, resolution_of, pitch_of, width_in, settings_in}
use Rattle.registers.specs.Keeping.{widths_stored, measured}
use Rattle.registers.specs.Held.{Small}

pub set_flag : (on : Bool) → is_set (flag on) ≡ on
set_flag true = refl
set_flag false = refl

pub resolution_back : (r : Resolution) → resolution_of (per_inch_across r) ≡ r
resolution_back Resolution.Dots300 = refl
resolution_back Resolution.Dots203 = refl

pub pitch_back : (p : Pitch) → pitch_of (pitch_number p) ≡ p
pitch_back Pitch.Cpi10 = refl
pitch_back Pitch.Cpi12 = refl
pitch_back Pitch.Cpi15 = refl

-- a byte is its remainder
pub byte-back : {n : ℕ} → n ≤ 255 → n % 256 ≡ n
byte-back h = omega arith

module _ (v : Pending) (d : Derived) (p : Printer) (h : Small p.settings) where
  pub width_back : width_in (laid v d p) ≡ p.settings.width
  unfolding laid
  width_back = simp (set_flag, pitch_back, byte-back h.0)

  pub settings-back : settings_in (laid v d p) ≡ p.settings
  unfolding laid settings_in
  settings-back =
      simp (set_flag, resolution_back, pitch_back, byte-back h.0, byte-back h.1.0, byte-back h.1.1.0, byte-back h.1.1.1)

-- the advance, the column width and the advance in dots, whatever stood there
pub measured-laid : (v : Pending) (d : Derived) (p : Printer) → Small p.settings
    → measured (laid v d p) ≡ laid v (record { style = d.style; advance = advance_of p.settings; column = column_of p.settings; dots = advance_dots p.settings }) p
unfolding laid measured
measured-laid v d p h =
    let r = p.settings.setup.resolution in
    ap (λ (w : Width). widths_stored (resolution_of (per_inch_across r)) w (laid v d p)) (width_back v d p h)
    ∙ ap (λ (q : Resolution). widths_stored q p.settings.width (laid v d p)) (resolution_back r)
