-- A call reads and writes within its input and its output, and leaves a state that is taken.
use Rattle.std.proofs.Common.{arith}
use Rattle.printer.specs.Accepted.{Ours}
use Rattle.printer.proofs.Accepting.{accepted_fact}
use Rattle.printer.proofs.Types.{typed, known_bytes}
use Rattle.listing.proofs.CallLaws.{call_within, call_shown}
use Rattle.listing.proofs.Pieces.{shown-accepted}
use Rattle.listing.proofs.read.Goals as goal

pub returns-clause-read_in_bounds : goal.returns-clause-read_in_bounds
returns-clause-read_in_bounds c = call_within c.read.ensures

pub returns-clause-accepted_kept : goal.returns-clause-accepted_kept
returns-clause-accepted_kept c = λ e.
    let k = known_bytes c.args.input.now (λ i. omega (arith, c.type_inv.input i)) in
    let o : Ours c.args.printer = record { typed = typed c.args.printer c.well_formed.0; accepted = accepted_fact _ e } in
    shown-accepted (call_shown c.read.ensures) k o
