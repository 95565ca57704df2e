-- Registers with some settings stored, and then what follows from the settings.
use Prim.Native.Nat.{ℕ}
use mathlib.Core.Path.{◌≡◌, refl, sym, ap, subst, ◌∙◌}
use mathlib.Core.Bool.{Bool, true, false, not}
use mathlib.Core.List.{List, [], ◌∷◌}
use lib.Dec.{eqb}
use lib.ListN.{get_or, set}
use Rattle.printer.specs.Tools.{pick, passes, holds}
use Rattle.printer.specs.Records.{style_of}
use Rattle.printer.specs.Settings.{advance_of, column_of, with_width, with_reduced, with_wide_once}
use Rattle.printer.specs.Performing.{with_parts}
use Rattle.printer.specs.Deciding.{can_reduce, reduced_needs}
use Rattle.printer.specs.declared.settings.Pitch.{Pitch}
use Rattle.printer.specs.declared.settings.Settings.{Settings}
use Rattle.printer.specs.declared.state.Printer.{Printer}
use Rattle.registers.specs.declared.derived.Shown.{Shown}
use Rattle.registers.specs.declared.pending.Pending.{Pending}
use Rattle.registers.specs.Register.{pitch_at, wide_once_at, style_at}
use Rattle.registers.specs.Layout.{flag, pitch_number, advance_dots, laid, words}
use Rattle.registers.specs.Groups.{is_set}
use Rattle.registers.specs.Keeping.{shown_stored, measured}
use Rattle.registers.specs.Held.{Small, Held}
use Rattle.registers.proofs.Laws.{set_flag, measured-laid}
use Rattle.registers.proofs.Styles.{Styled, styled-held, style_known, shown-kept}

module _ {p : Printer} {v : Pending} {m : List ℕ} (h : Held p v m) (s : Settings) where
  abbrev changed : Printer
  changed = with_parts p s p.place p.stops

  -- what follows but for the style bits is that of some settings
  abbrev laid_with : (style : ℕ) → Settings → List ℕ
  laid_with style t = laid v (record { style = style; advance = advance_of t; column = column_of t; dots = advance_dots t }) changed

  -- stores that keep the style bits as what the settings show
  module _ (f : List ℕ → List ℕ) (kept : Styled (f m)) where
    style-kept : (t : Settings) → f (words v p) ≡ laid_with (get_or (f (words v p)) style_at 0) t → f m ≡ laid_with (style_of s) t
    style-kept t alike =
        let e = ap f h.same ∙ alike in
        e ∙ ap (λ (style : ℕ). laid_with style t) (style_known v _ changed (subst Styled e kept))

    pub look-kept : f (words v p) ≡ laid_with (get_or (f (words v p)) style_at 0) s → f m ≡ words v changed
    look-kept = style-kept s

    pub widths-kept : Small s → f (words v p) ≡ laid_with (get_or (f (words v p)) style_at 0) p.settings
        → measured (f m) ≡ words v changed
    widths-kept small alike = ap measured (style-kept p.settings alike) ∙ measured-laid v _ changed small

  -- one setting that shows
  module _ (k : Shown) {n number : ℕ} {after : List ℕ} (e : number ≡ n) (stored : after ≡ shown_stored m k number) where
    pub look-stored : shown_stored (words v p) k n ≡ laid_with (get_or (shown_stored (words v p) k n) style_at 0) s
        → after ≡ words v changed
    look-stored alike = stored ∙ rw e (look-kept (λ (l : List ℕ). shown_stored l k n) (shown-kept (styled-held h) k n) alike)

  -- one that shows, and that the widths depend on
  pub shown-measured : Small s → (k : Shown) (n : ℕ) {after : List ℕ} → after ≡ measured (shown_stored m k n)
      → shown_stored (words v p) k n ≡ laid_with (get_or (shown_stored (words v p) k n) style_at 0) p.settings
      → after ≡ words v changed
  shown-measured small k n stored alike =
      stored ∙ widths-kept (λ (l : List ℕ). shown_stored l k n) (shown-kept (styled-held h) k n) small alike

  -- one that does not show
  pub width-stored : Small s → (register : ℕ) {n number : ℕ} {after : List ℕ} → number ≡ n → after ≡ measured (set m register number)
      → set (words v p) register n ≡ laid_with (style_of s) p.settings → after ≡ words v changed
  width-stored small register {n} e stored alike =
      stored ∙ rw e (ap (λ (l : List ℕ). measured (set l register n)) h.same ∙ ap measured alike ∙ measured-laid v _ changed small)

-- SI, and DC2 that ends it
pub reduced-stored : {p : Printer} {v : Pending} {m after : List ℕ} → Held p v m → (on : Bool)
    → after ≡ measured (shown_stored m Shown.Reduced (flag on))
    → after ≡ words v (with_parts p (with_width p.settings (with_reduced p.settings.width on)) p.place p.stops)
unfolding laid shown_stored
reduced-stored {p} h on stored =
    shown-measured h (with_width p.settings (with_reduced p.settings.width on)) h.small Shown.Reduced (flag on) stored refl

-- SO that is not in force is ended
pub wide_once_off : {p : Printer} {v : Pending} {m : List ℕ} → Held p v m → get_or m wide_once_at 0 ≡ 0
    → m ≡ words v (with_parts p (with_wide_once p.settings false) p.place p.stops)
unfolding laid style_of
wide_once_off {p} {v} {m} h e =
    let stands : get_or m wide_once_at 0 ≡ flag p.settings.width.wideonce = rw h.same in
    let off : p.settings.width.wideonce ≡ false = sym (set_flag _) ∙ ap is_set (sym stands ∙ e) in
    h.same ∙ ap (λ (on : Bool). words v (with_parts p (with_wide_once p.settings on) p.place p.stops)) off

-- SI by the pitch's number
pub reduced_by_pitch : {p : Printer} {v : Pending} {m : List ℕ} → Held p v m
    → not (eqb (get_or m pitch_at 0) 15) ≡ holds (reduced_needs p.settings.width)
unfolding laid
reduced_by_pitch {p} h = rw h.same (by_number p.settings.width.pitch)
  where
    by_number : (x : Pitch) → not (eqb (pitch_number x) 15) ≡ holds (passes (can_reduce x) ∷ [])
    by_number Pitch.Cpi10 = refl
    by_number Pitch.Cpi12 = refl
    by_number Pitch.Cpi15 = refl

pub not_pick : (t : Bool) → not t ≡ pick t false true
not_pick true = refl
not_pick false = refl
