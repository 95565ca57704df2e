-- The list ends, or goes on; nothing is done.
use mathlib.Core.Path.{refl, ◌∙◌}
use native.Mathlib.Omega.{arith}
use borrow.Author.Tests.{le-leb, lt-leb}
use Rattle.printer.specs.declared.commands.Command.{Command}
use Rattle.printer.specs.declared.commands.Listing.{Listing}
use Rattle.printer.specs.declared.commands.ListPart.{ListPart}
use Rattle.interpreter.proofs.Escaping.{silently, allowed}
use Rattle.interpreter.proofs.Stepping.{list-frame, whole}
use Rattle.interpreter.proofs.steps.dropped_step.Goals as goal

pub returns-then-b-before : goal.returns-then-b-before
returns-then-b-before c p v m h =
    let a = c.args in
    let ends = Command.List Listing.Dropped (ListPart.End a.b) in
    rw c.whole.ensures
    (whole h _ {c = ends} (list-frame h _ refl ∙ rw (le-leb a.b a.before (omega arith))) (allowed ends 3 refl (silently ends refl h.held.same)))

pub returns : goal.returns
returns c p v m h =
    let a = c.args in
    let goes = Command.List Listing.Dropped (ListPart.Byte a.b) in
    rw c.waits.ensures
    (whole h _ {c = goes} (list-frame h _ refl ∙ rw (lt-leb a.b a.before (omega arith))) (allowed goes 3 refl (silently goes refl h.held.same)))
