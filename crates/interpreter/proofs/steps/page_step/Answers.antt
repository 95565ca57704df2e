-- The argument of ESC C: inches follow, or a page of so many lines.
use mathlib.Core.Path.{refl, ◌∙◌}
use borrow.Author.Tests.{ne_eqb}
use Rattle.printer.specs.declared.commands.Command.{Command}
use Rattle.printer.specs.declared.commands.Page.{Page}
use Rattle.interpreter.proofs.Stepping.{argument-frame, waited, whole}
use Rattle.interpreter.proofs.steps.page_step.Goals as goal

pub returns-then-n-eq0 : goal.returns-then-n-eq0
returns-then-n-eq0 c p v h = rw c.waits.ensures (waited h _ (argument-frame h _ refl refl ∙ rw c.if-n-eq0.true))

pub returns : goal.returns
returns c p v h =
    let lines = Command.Page (Page.Lines c.args.n) in
    rw c.whole.ensures
    (whole h _ {c = lines} (argument-frame h _ refl refl ∙ rw (ne_eqb _ _ c.if-n-eq0.false))
    (c.page.ensures p v h.held))
