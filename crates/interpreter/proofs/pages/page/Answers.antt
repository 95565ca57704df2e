-- ESC C: tried in its range, and else passed over.
use mathlib.Core.Path.{sym, ◌∙◌}
use Rattle.interpreter.proofs.Escaping.{in-range, out_of_range}
use Rattle.interpreter.proofs.Paging.{shows-page}
use Rattle.interpreter.proofs.pages.page.Goals as goal

pub returns-then-page_fits : goal.returns-then-page_fits
returns-then-page_fits c p v h =
    let g = c.args.g in
    in-range _ _ _ (sym c.page_fits.ensures ∙ c.if-page_fits.true)
    (c.new_page.ensures g p v h (c.page_units-units.ensures p v h))

pub returns : goal.returns
returns c p v h =
    let g = c.args.g in
    out_of_range _ _ _ (sym c.page_fits.ensures ∙ c.if-page_fits.false) h
    (rw (shows-page g) c.passed_record.ensures)
