-- Each escape's flag, and its style bit.
use mathlib.Core.Path.{refl}
use Rattle.printer.specs.Settings.{with_bold, with_double_strike, with_italic}
use Rattle.registers.specs.declared.derived.Shown.{Shown}
use Rattle.registers.specs.Layout.{laid}
use Rattle.registers.specs.Keeping.{shown_stored}
use Rattle.interpreter.proofs.Setting.{look-stored}
use Rattle.interpreter.proofs.escapes.switch.Goals as goal

pub returns-in-Bold : goal.returns-in-Bold
unfolding laid shown_stored
returns-in-Bold c p v h =
    rw c.in-Bold.is (look-stored h (with_bold p.settings c.in-Bold.on) Shown.Bold refl c.show.ensures refl)

pub returns-in-DoubleStrike : goal.returns-in-DoubleStrike
unfolding laid shown_stored
returns-in-DoubleStrike c p v h =
    rw c.in-DoubleStrike.is (look-stored h (with_double_strike p.settings c.in-DoubleStrike.on) Shown.DoubleStrike refl c.show-in-DoubleStrike.ensures refl)

pub returns-in-Italic : goal.returns-in-Italic
unfolding laid shown_stored
returns-in-Italic c p v h =
    rw c.in-Italic.is (look-stored h (with_italic p.settings c.in-Italic.on) Shown.Italic refl c.show-in-Italic.ensures refl)
