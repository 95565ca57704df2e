-- A byte of a stop list: the list ends, or goes on.
use mathlib.Core.Path.{refl, ◌∙◌}
use native.Mathlib.Omega.{arith}
use borrow.Author.Tests.{le-leb, lt-leb}
use Rattle.printer.specs.declared.commands.Command.{Command}
use Rattle.printer.specs.declared.commands.Listing.{Listing}
use Rattle.printer.specs.declared.commands.ListPart.{ListPart}
use Rattle.interpreter.proofs.Escaping.{silently, allowed}
use Rattle.interpreter.proofs.Stepping.{list-frame, whole}
use Rattle.interpreter.proofs.steps.set_step.Goals as goal

pub returns-then-b-before : goal.returns-then-b-before
returns-then-b-before c p v h =
    let a = c.args in
    let ends = Command.List (Listing.Sets a.t) (ListPart.End a.b) in
    let g = rw (← h.waits) at h.accepted.waiting in
    rw c.whole.ensures
    (whole h _ {c = ends} (list-frame h _ refl ∙ rw (le-leb a.b a.before (omega arith)))
    (allowed ends 3 refl (silently ends refl (c.end_list.ensures p v h.held g.1))))

pub returns : goal.returns
returns c p v h =
    let a = c.args in
    whole h _ {c = Command.List (Listing.Sets a.t) (ListPart.Byte a.b)} (list-frame h _ refl ∙ rw (lt-leb a.b a.before (omega arith)))
    (c.list_byte.ensures p v h.held)
