-- SI: reduced letters, or passed over at 15 cpi.
use mathlib.Core.Path.{refl, sym, ◌∙◌}
use mathlib.Core.Bool.{true}
use Rattle.interpreter.proofs.Outcomes.{did, one, attempt-done, attempt-passed}
use Rattle.interpreter.proofs.Setting.{reduced-stored}
use Rattle.interpreter.proofs.controls.shift_in.Goals as goal

pub returns-then-reduced_allowed : goal.returns-then-reduced_allowed
returns-then-reduced_allowed c p v h =
    did (attempt-done p _ 2 (sym (c.reduced_allowed.ensures p v h) ∙ c.if-reduced_allowed.true) (one p _ refl refl))
    (reduced-stored h true c.show_width.ensures) refl

pub returns : goal.returns
returns c p v h =
    did (attempt-passed p _ 2 (sym (c.reduced_allowed.ensures p v h) ∙ c.if-reduced_allowed.false) refl)
    h.same (rw c.passed_record.ensures)
