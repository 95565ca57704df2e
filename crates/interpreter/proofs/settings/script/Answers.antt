-- Both bits stored.
use Prim.Native.Nat.{ℕ}
use mathlib.Core.Path.{refl, ◌∙◌}
use mathlib.Core.List.{List}
use Rattle.printer.specs.Settings.{with_script}
use Rattle.registers.specs.declared.derived.Shown.{Shown}
use Rattle.registers.specs.Layout.{flag, laid}
use Rattle.registers.specs.Keeping.{shown_stored}
use Rattle.registers.proofs.Styles.{styled-held, shown-kept}
use Rattle.interpreter.proofs.Setting.{look-kept}
use Rattle.interpreter.proofs.settings.script.Goals as goal

pub returns : goal.returns
unfolding laid shown_stored
returns c p v h =
    let a = c.args in
    c.show-2.ensures
    ∙ rw c.show.ensures
    (look-kept h (with_script p.settings a.up a.down)
    (λ (l : List ℕ). shown_stored (shown_stored l Shown.Superscript (flag a.up)) Shown.Subscript (flag a.down))
    (shown-kept (shown-kept (styled-held h) Shown.Superscript _) Shown.Subscript _) refl)
