-- ESC @: the state at power-on, but for what is waited for.
use mathlib.Core.Path.{◌∙◌}
use Rattle.printer.specs.Performing.{done, perform}
use Rattle.printer.specs.declared.commands.Command.{Command}
use Rattle.registers.proofs.Reading.{setup-held}
use Rattle.interpreter.proofs.Escaping.{performed}
use Rattle.interpreter.proofs.Paging.{reset_held}
use Rattle.interpreter.proofs.pages.reset.Goals as goal

pub returns : goal.returns
returns c p v h =
    let held = reset_held h (c.setup_in-setup.ensures ∙ setup-held h) c.power_on.ensures in
    let e = done Command.Reset 0 in
    performed e held.same (rw (c.feed_record.ensures (perform p e) v held))
