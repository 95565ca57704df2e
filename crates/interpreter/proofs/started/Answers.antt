-- The places of the channels cleared, the power-on state, and then that nothing is waited for.
use mathlib.Core.Path.{refl, ◌∙◌}
use Rattle.registers.proofs.State.{pended-words}
use Rattle.interpreter.proofs.Paging.{cleared}
use Rattle.interpreter.proofs.started.Goals as goal

pub returns : goal.returns
returns c = (
  refl,
  c.store_pending.ensures
      ∙ rw (c.pending_of.ensures, c.power_on.ensures, c.clear_channels.ensures, cleared c.args.m.now c.told-m) (pended-words _ _ _),
)
