-- The groups in turn, and what is waited for.
use mathlib.Core.Path.{◌∙◌}
use Rattle.printer.proofs.Types.{typed}
use Rattle.registers.specs.Stores.{stale_in}
use Rattle.registers.specs.State.{pending_of}
use Rattle.registers.proofs.Packing.{packed-words}
use Rattle.registers.proofs.State.{pended-words}
use Rattle.registers.proofs.pack.pack.Goals as goal

pub returns : goal.returns
returns c =
    let p = c.args.p in
    let m = c.args.m.now in
    c.store_pending.ensures
    ∙ rw (c.pending_of.ensures, c.store_stops.ensures, c.store_settings.ensures, c.store_place.ensures, packed-words p m c.told-m (typed p c.well_formed.1.0).stops)
    (pended-words (pending_of p.waiting) (stale_in m) p)
