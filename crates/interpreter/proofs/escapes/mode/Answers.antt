-- Each escape's register; the pitch keeps the widths.
use mathlib.Core.Path.{refl}
use Rattle.printer.specs.Records.{style_of}
use Rattle.printer.specs.Settings.{with_width, with_pitch}
use Rattle.registers.specs.Layout.{laid}
use Rattle.interpreter.proofs.Setting.{width-stored}
use Rattle.interpreter.proofs.escapes.mode.Goals as goal

pub returns-in-EighthInchLine : goal.returns-in-EighthInchLine
unfolding laid style_of
returns-in-EighthInchLine c p v h = rw (c.in-EighthInchLine.is, h.same)

pub returns-in-SixthInchLine : goal.returns-in-SixthInchLine
unfolding laid style_of
returns-in-SixthInchLine c p v h = rw (c.in-SixthInchLine.is, h.same)

pub returns-in-NoSkip : goal.returns-in-NoSkip
unfolding laid style_of
returns-in-NoSkip c p v h = rw (c.in-NoSkip.is, h.same)

pub returns-in-Pitch : goal.returns-in-Pitch
unfolding laid style_of
returns-in-Pitch c p v h =
    let s = with_width p.settings (with_pitch p.settings.width c.in-Pitch.p) in
    rw c.in-Pitch.is (width-stored h s h.small 17 c.pitch_number.ensures c.store_width.ensures refl)

pub returns-in-UpperPrints : goal.returns-in-UpperPrints
unfolding laid style_of
returns-in-UpperPrints c p v h = rw (c.in-UpperPrints.is, c.flag.ensures, h.same)
