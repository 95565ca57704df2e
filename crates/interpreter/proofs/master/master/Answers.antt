-- The registers stored in turn, and the widths kept once.
use Prim.Native.Nat.{ℕ}
use mathlib.Core.Path.{◌∙◌}
use mathlib.Core.List.{List}
use Rattle.printer.specs.Escapes.{master_settings}
use Rattle.registers.specs.declared.derived.Shown.{Shown}
use Rattle.registers.specs.Layout.{laid}
use Rattle.registers.specs.Keeping.{shown_stored, double_stored}
use Rattle.registers.proofs.Laws.{set_flag}
use Rattle.registers.proofs.Styles.{Styled, styled-held, pitch-kept, shown-kept, double-kept}
use Rattle.interpreter.specs.Storing.{master_width_in, master_emphasis_in}
use Rattle.interpreter.proofs.Setting.{widths-kept}
use Rattle.interpreter.proofs.master.master.Goals as goal

width-kept : {m : List ℕ} → Styled m → (n : ℕ) → Styled (master_width_in m n)
width-kept k n = double-kept (shown-kept (shown-kept (pitch-kept k _) Shown.Proportional _) Shown.Reduced _) _ _

emphasis-kept : {m : List ℕ} → Styled m → (n : ℕ) → Styled (master_emphasis_in m n)
emphasis-kept k n =
    shown-kept (shown-kept (shown-kept (shown-kept k Shown.Bold _) Shown.DoubleStrike _) Shown.Italic _) Shown.Underline _

pub returns : goal.returns
unfolding laid shown_stored double_stored
returns c p v h =
    let n = c.args.n in
    c.keep_widths.ensures
    ∙ rw (c.master_emphasis.ensures, c.master_width.ensures)
    (widths-kept h (master_settings p.settings n) (λ (l : List ℕ). master_emphasis_in (master_width_in l n) n)
    (emphasis-kept (width-kept (styled-held h) n) n) h.small (simp set_flag))
