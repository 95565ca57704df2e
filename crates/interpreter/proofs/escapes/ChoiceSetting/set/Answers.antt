-- Each escape's register, and its style bits.
use mathlib.Core.Path.{refl, ap}
use Rattle.printer.specs.Records.{style_of}
use Rattle.printer.specs.Escapes.{switched_on}
use Rattle.printer.specs.Settings.{with_underline, with_double_height, with_outline, with_italic_table, with_download}
use Rattle.registers.specs.declared.derived.Shown.{Shown}
use Rattle.registers.specs.Layout.{flag, laid}
use Rattle.registers.specs.Keeping.{shown_stored}
use lib.Dec.{eqb}
use Rattle.interpreter.proofs.Setting.{look-stored}
use Rattle.interpreter.proofs.escapes.ChoiceSetting.set.Goals as goal

pub returns-in-Underline : goal.returns-in-Underline
unfolding laid shown_stored
returns-in-Underline c p v h =
    let on = switched_on c.args.n in
    rw c.in-Underline.is
    (look-stored h (with_underline p.settings on) Shown.Underline
    (ap flag c.switched_on-in-Underline.ensures) c.show.ensures refl)

pub returns-in-DoubleHeight : goal.returns-in-DoubleHeight
unfolding laid shown_stored
returns-in-DoubleHeight c p v h =
    let on = switched_on c.args.n in
    rw c.in-DoubleHeight.is
    (look-stored h (with_double_height p.settings on) Shown.DoubleHeight
    (ap flag c.switched_on-in-DoubleHeight.ensures) c.show-in-DoubleHeight.ensures refl)

pub returns-in-Outline : goal.returns-in-Outline
unfolding laid shown_stored
returns-in-Outline c p v h =
    let n = c.args.n in
    rw c.in-Outline.is
    (look-stored h (with_outline p.settings n) Shown.Outline refl c.store_shown.ensures refl)

pub returns-in-CodeTable : goal.returns-in-CodeTable
unfolding laid shown_stored
returns-in-CodeTable c p v h =
    rw c.in-CodeTable.is
    (look-stored h (with_italic_table p.settings (eqb c.args.n 0)) Shown.ItalicTable
    refl c.show-in-CodeTable.ensures refl)

pub returns-in-Font : goal.returns-in-Font
unfolding laid style_of
returns-in-Font c p v h = rw (c.in-Font.is, h.same)

pub returns-in-Country : goal.returns-in-Country
unfolding laid style_of
returns-in-Country c p v h = rw (c.in-Country.is, h.same)

pub returns-in-Download : goal.returns-in-Download
unfolding laid shown_stored
returns-in-Download c p v h =
    let on = switched_on c.args.n in
    rw c.in-Download.is
    (look-stored h (with_download p.settings on) Shown.Download
    (ap flag c.switched_on-in-Download.ensures) c.show-in-Download.ensures refl)
