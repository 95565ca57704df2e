-- ESC l: the left margin, or passed over.
use Prim.Native.Nat.{ℕ}
use mathlib.Core.Path.{refl, sym, ◌∙◌}
use mathlib.Core.List.{[], ◌∷◌}
use Rattle.printer.proofs.CodeLaws.{both_true}
use Rattle.printer.specs.Records.{clear_record}
use Rattle.printer.specs.Settings.{right_of}
use Rattle.registers.proofs.Reading.{column-held}
use Rattle.interpreter.specs.Leaving.{margins_set}
use Rattle.interpreter.proofs.Places.{right-held}
use Rattle.interpreter.proofs.Attempts.{sets, keeps}
use Rattle.interpreter.proofs.Outcomes.{did}
use Rattle.interpreter.proofs.margins.left_margin.Goals as goal

pub returns-in_default : goal.returns-in_default
returns-in_default c p v h =
    did
    (keeps p _ _ _ (both_true _)
    (rw (column-held h, right-held h) at (sym c.left_column.ensures ∙ c.in_default.is)) refl)
    h.same (rw c.passed_record.ensures)

pub returns : goal.returns
returns c p v h =
    let w = rw (right-held h) at (c.margins_set.ensures p v h) in
    did
    (sets p _ _ _ (both_true _) (λ (n : ℕ). margins_set p n (right_of p.settings)) (clear_record ∷ []) _ refl refl
    (rw (column-held h, right-held h) at (sym c.left_column.ensures ∙ c.in-Some.is)) refl)
    w.state w.wrote
