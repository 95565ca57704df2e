-- The stores in turn, and what follows from the settings.
use mathlib.Core.Path.{◌∙◌}
use native.Mathlib.Omega.{arith}
use Rattle.registers.proofs.Starting.{power_on_words}
use Rattle.registers.proofs.power_on.power_on.Goals as goal

pub returns : goal.returns
returns c =
    let a = c.args in
    c.keep_widths.ensures
    ∙ rw (c.store_columns.ensures, c.store_settings.ensures, c.store_setup.ensures, c.clear.ensures)
    (power_on_words a.setup a.m.now (omega arith))
