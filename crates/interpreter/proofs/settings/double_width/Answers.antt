-- Both registers stored, and the widths kept.
use Prim.Native.Nat.{ℕ}
use mathlib.Core.Path.{◌∙◌}
use mathlib.Core.List.{List}
use Rattle.printer.specs.Settings.{with_width}
use Rattle.printer.specs.Escapes.{doubled}
use Rattle.registers.specs.Layout.{laid}
use Rattle.registers.specs.Keeping.{double_stored}
use Rattle.registers.proofs.Laws.{set_flag}
use Rattle.registers.proofs.Styles.{styled-held, double-kept}
use Rattle.interpreter.specs.Storing.{doubled_in}
use Rattle.interpreter.proofs.Setting.{widths-kept}
use Rattle.interpreter.proofs.settings.double_width.Goals as goal

pub returns : goal.returns
unfolding laid double_stored
returns c p v h =
    let on = c.args.on in
    let s = with_width p.settings (doubled p.settings.width on) in
    c.keep_widths.ensures
    ∙ rw c.double.ensures
    (widths-kept h s (λ (l : List ℕ). doubled_in l on) (double-kept (styled-held h) _ _) h.small (simp set_flag))
