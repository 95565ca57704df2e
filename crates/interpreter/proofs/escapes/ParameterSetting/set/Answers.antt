-- Each escape's registers; those of the width keep the widths.
use Prim.Native.Nat.{◌%◌}
use mathlib.Core.Path.{refl}
use native.Mathlib.Omega.{arith}
use Rattle.printer.specs.Records.{style_of}
use Rattle.printer.specs.Settings.{with_width, with_spacing, with_proportional}
use Rattle.printer.specs.Escapes.{switched_on}
use Rattle.registers.specs.declared.derived.Shown.{Shown}
use Rattle.registers.specs.Layout.{flag, laid}
use Rattle.registers.specs.Keeping.{shown_stored}
use Rattle.interpreter.proofs.Setting.{width-stored, shown-measured, not_pick}
use Rattle.interpreter.proofs.escapes.ParameterSetting.set.Goals as goal

pub returns-in-Line180ths : goal.returns-in-Line180ths
unfolding laid style_of
returns-in-Line180ths c p v h = rw (c.in-Line180ths.is, h.same)

pub returns-in-Line60ths : goal.returns-in-Line60ths
unfolding laid style_of
returns-in-Line60ths c p v h = rw (c.in-Line60ths.is, h.same)

pub returns-in-Line360ths : goal.returns-in-Line360ths
unfolding laid style_of
returns-in-Line360ths c p v h = rw (c.in-Line360ths.is, h.same)

pub returns-in-Spacing : goal.returns-in-Spacing
unfolding laid style_of
returns-in-Spacing c p v h =
    let s = with_width p.settings (with_spacing p.settings.width (c.args.n % 128)) in
    rw c.in-Spacing.is (width-stored h s (omega arith, h.small.1) 18 refl c.store_width.ensures refl)

pub returns-in-Proportional : goal.returns-in-Proportional
unfolding laid shown_stored
returns-in-Proportional c p v h =
    let on = switched_on c.args.n in
    let s = with_width p.settings (with_proportional p.settings.width on) in
    rw c.in-Proportional.is
    (shown-measured h s h.small Shown.Proportional (flag on)
    (rw c.switched_on.ensures at c.show_width.ensures) refl)

pub returns-in-Quality : goal.returns-in-Quality
unfolding laid style_of
returns-in-Quality c p v h = rw (c.in-Quality.is, c.flag.ensures, c.switched_on-in-Quality.ensures, not_pick, h.same)
