-- An image byte: placed, or passed over.
use mathlib.Core.Path.{refl}
use Rattle.printer.specs.declared.commands.Command.{Command}
use Rattle.printer.proofs.CodeLaws.{both_true}
use Rattle.interpreter.proofs.Attempts.{prints}
use Rattle.interpreter.proofs.Events.{did-by}
use Rattle.interpreter.proofs.Places.{across-held, right-held}
use Rattle.interpreter.proofs.letters.ColumnByte.print.Goals as goal

pub returns : goal.returns
returns c p v h =
    let a = c.args in
    did-by (c.print_or_pass.ensures p v h)
    (rw (c.image_record-wrote.ensures p v h, c.end-to.ensures, across-held h, right-held h)
    (prints p (Command.ImageByte a.self.mode a.self.part a.b) _ _ _ (both_true _) refl refl))
