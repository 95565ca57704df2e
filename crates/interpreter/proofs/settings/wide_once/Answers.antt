-- SO stored beside ESC W, and the widths kept.
use Prim.Native.Nat.{ℕ}
use mathlib.Core.Path.{refl, ◌∙◌}
use mathlib.Core.List.{List}
use lib.ListN.{get_or}
use Rattle.printer.specs.Settings.{with_wide_once}
use Rattle.registers.specs.Register.{wide_at}
use Rattle.registers.specs.Layout.{flag, laid}
use Rattle.registers.specs.Keeping.{double_stored}
use Rattle.registers.proofs.Styles.{styled-held, double-kept}
use Rattle.interpreter.proofs.Setting.{widths-kept}
use Rattle.interpreter.proofs.settings.wide_once.Goals as goal

pub returns : goal.returns
unfolding laid double_stored
returns c p v h =
    let on = c.args.on in
    c.keep_widths.ensures
    ∙ rw (c.store_double.ensures, c.flag.ensures)
    (widths-kept h (with_wide_once p.settings on) (λ (l : List ℕ). double_stored l (get_or l wide_at 0) (flag on)) (double-kept (styled-held h) _ _) h.small refl)
