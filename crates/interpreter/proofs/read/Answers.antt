-- A call: on accepted registers its loop, and then what is waited for stored; else nothing read and nothing written.
use mathlib.Core.Path.{sym, ◌∙◌}
use Rattle.interpreter.proofs.Calling.{accepted_waits, refused_waits, begun, read_accepted, read_refused}
use Rattle.interpreter.proofs.read.Goals as goal

pub run-ran-requires : goal.run-ran-requires
run-ran-requires c =
    let x = accepted_waits _ (sym c.examine.ensures ∙ c.in-Ok.is) in
    record { printer = _; stale = _; current = begun c.told-m x.0 x.1 }

pub returns : goal.returns
returns c =
    let x = accepted_waits _ (sym c.examine.ensures ∙ c.in-Ok.is) in
    read_accepted x.0 (c.run-ran.ensures _ _ (begun c.told-m x.0 x.1))
    (rw c.pending_of.ensures at c.store_pending.ensures)

pub returns-in_default : goal.returns-in_default
returns-in_default c =
    read_refused _ _ _ _ (refused_waits _ _ (λ w e. c.in_default.not-Ok w (c.examine.ensures ∙ e)))
