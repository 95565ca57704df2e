-- ESC Q: the right margin, or passed over.
use Prim.Native.Nat.{ℕ}
use mathlib.Core.Path.{refl, sym, ◌∙◌}
use mathlib.Core.List.{[], ◌∷◌}
use Rattle.printer.proofs.CodeLaws.{both_true}
use Rattle.printer.specs.Records.{clear_record}
use Rattle.printer.specs.Settings.{left_of}
use Rattle.registers.proofs.Reading.{column-held}
use Rattle.interpreter.specs.Leaving.{margins_set}
use Rattle.interpreter.proofs.Places.{left-held, paper-held}
use Rattle.interpreter.proofs.Attempts.{sets, keeps}
use Rattle.interpreter.proofs.Outcomes.{did}
use Rattle.interpreter.proofs.margins.right_margin.Goals as goal

pub returns-in_default : goal.returns-in_default
returns-in_default c p v h =
    did
    (keeps p _ _ _ (rw (both_true _) refl)
    (rw (column-held h, left-held h, paper-held h) at (sym c.right_column.ensures ∙ c.in_default.is)) refl)
    h.same (rw c.passed_record.ensures)

pub returns : goal.returns
returns c p v h =
    let w = rw (left-held h) at (c.margins_set.ensures p v h) in
    did
    (sets p _ _ _ (rw (both_true _) refl) (λ (n : ℕ). margins_set p (left_of p.settings) n) (clear_record ∷ []) _ refl refl
    (rw (column-held h, left-held h, paper-held h) at (sym c.right_column.ensures ∙ c.in-Some.is)) refl)
    w.state w.wrote
