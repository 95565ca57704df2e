-- The edge of the registers' page length and skip.
use Prim.Native.Nat.{◌-◌}
use mathlib.Core.Path.{ap, ◌∙◌}
use Rattle.printer.specs.Units.{units}
use Rattle.printer.specs.declared.settings.Paper.{Paper}
use Rattle.registers.proofs.Reading.{paper-held}
use Rattle.interpreter.proofs.positions.edge.Goals as goal

pub returns : goal.returns
returns c p v h = c.edge.ensures ∙ ap (λ (x : Paper). units (x.page.0 - x.skip.0)) (c.paper_in.ensures ∙ paper-held h)
