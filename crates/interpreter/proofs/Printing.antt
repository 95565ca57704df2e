-- What a printed record shows of the registers.
use Prim.Native.Nat.{ℕ, ◌%◌, ◌≤◌}
use mathlib.Core.Path.{◌≡◌, ap, ◌∙◌}
use mathlib.Core.Bool.{Bool, true, false}
use mathlib.Core.List.{List, [], ◌∷◌, ◌++◌}
use native.Mathlib.Omega.{arith}
use lib.ListN.{get_or}
use Rattle.printer.specs.Tools.{pick}
use Rattle.printer.specs.Records.{style_of}
use Rattle.printer.specs.Widths.{double_width}
use Rattle.printer.specs.Performing.{Event, inside, automatic, perform, perform_all}
use Rattle.printer.specs.declared.commands.Control.{Control}
use Rattle.printer.specs.declared.records.Record.{Record}
use Rattle.printer.specs.declared.settings.Settings.{Settings}
use Rattle.printer.specs.declared.state.Printer.{Printer}
use Rattle.registers.specs.declared.pending.Pending.{Pending}
use Rattle.registers.specs.Register.{font_at, country_at, style_at}
use Rattle.registers.specs.Groups.{settings_in}
use Rattle.registers.specs.Held.{Held}
use Rattle.registers.proofs.Reading.{settings-held, style-held}
use Rattle.interpreter.specs.Doing.{Did}
use Rattle.interpreter.proofs.Events.{then-did, automatically}

bit : (on : Bool) (value : ℕ) → pick on value 0 ≤ value
bit true value = omega arith
bit false value = omega arith

-- the style bits are fourteen
style_small : (s : Settings) → style_of s ≤ 0x3FFF
unfolding style_of
style_small s =
    omega (
      arith,
      bit s.emphasis.bold 0x1,
      bit s.emphasis.doublestrike 0x2,
      bit s.emphasis.italic 0x4,
      bit s.emphasis.underline 0x8,
      bit s.script.superscript 0x10,
      bit s.script.subscript 0x20,
      bit (double_width s.width) 0x40,
      bit s.face.doubleheight 0x80,
      bit s.width.proportional 0x400,
      bit s.width.reduced 0x800,
      bit s.face.italictable 0x1000,
      bit s.face.download 0x2000,
    )

module _ {p : Printer} {v : Pending} {m : List ℕ} (h : Held p v m) where
  pub style_back : get_or m style_at 0 % 65536 ≡ style_of p.settings
  style_back = ap (λ (n : ℕ). n % 65536) (style-held h) ∙ omega (arith, style_small p.settings)

  pub font-held : get_or m font_at 0 % 256 ≡ p.settings.face.font
  unfolding settings_in
  font-held = ap (λ (s : Settings). s.face.font) (settings-held h)

  pub country-held : get_or m country_at 0 % 256 ≡ p.settings.face.country
  unfolding settings_in
  country-held = ap (λ (s : Settings). s.face.country) (settings-held h)

-- A letter after a line fed: its records, and what the registers then hold
module _ {p : Printer} {v : Pending} {after : List ℕ} {k : List Record} {n : ℕ} (d : Did p v (inside Control.LineFeed n ∷ []) after k) where
  pub fed-held : {m : List ℕ} → Held p v m → Held (perform p (automatic n)) v after
  unfolding perform_all
  fed-held h = record { same = d.state; small = h.small; long = h.long }

  pub wraps : (l : List Event) {last : List ℕ} {j : List Record} → Did (perform p (automatic n)) v l last j
      → Did p v (automatic n ∷ l) last (k ++ j)
  wraps l f = then-did (automatic n) l (automatically d) f
