-- An argument, by those so far.
use mathlib.Core.Path.{refl}
use Rattle.printer.specs.declared.commands.Command.{Command}
use Rattle.printer.specs.declared.commands.Opening.{Opening}
use Rattle.interpreter.proofs.Attempts.{two_bytes}
use Rattle.interpreter.proofs.Escaping.{silently}
use Rattle.interpreter.proofs.Stepping.{argument-frame, waited, whole}
use Rattle.interpreter.proofs.steps.argument_step.Goals as goal

pub returns-in-One : goal.returns-in-One
returns-in-One c p v h =
    rw c.whole.ensures
    (whole h _ (argument-frame h _ refl c.in-One.is) (c.one_argument.ensures p v h.held h.accepted))

pub returns-in-PageInches : goal.returns-in-PageInches
returns-in-PageInches c p v h =
    rw c.whole-in-PageInches.ensures
    (whole h _ (argument-frame h _ refl c.in-PageInches.is) (c.page.ensures p v h.held))

pub returns-in-Advanced : goal.returns-in-Advanced
returns-in-Advanced c p v h = c.advanced_step.ensures p v _ (rw c.in-Advanced.is at h)

pub returns-in-CommandMode : goal.returns-in-CommandMode
returns-in-CommandMode c p v h = c.mode_step.ensures p v _ (rw c.in-CommandMode.is at h)

pub returns-in-FirstOf : goal.returns-in-FirstOf
returns-in-FirstOf c p v h = rw c.waits.ensures (waited h _ (argument-frame h _ refl c.in-FirstOf.is))

pub returns-in-SelectMode : goal.returns-in-SelectMode
returns-in-SelectMode c p v h = c.select_step.ensures p v _ (rw c.in-SelectMode.is at h)

pub returns-in-ColumnsLow : goal.returns-in-ColumnsLow
returns-in-ColumnsLow c p v h = rw c.waits-in-ColumnsLow.ensures (waited h _ (argument-frame h _ refl c.in-ColumnsLow.is))

pub returns-in-ColumnsHigh : goal.returns-in-ColumnsHigh
returns-in-ColumnsHigh c p v h =
    let b = c.args.b in
    rw (c.waits-in-ColumnsHigh.ensures, c.image_wait.ensures, two_bytes _ _ c.from_le_bytes.ensures)
    (whole h _ (argument-frame h _ refl c.in-ColumnsHigh.is) (silently (Command.OpenImage (Opening.Selected c.in-ColumnsHigh.mode) c.in-ColumnsHigh.a b) refl h.held.same))
