-- The controls that are escapes' second bytes: SO and SI.
use Prim.Native.Nat.{ℕ}
use mathlib.Core.Path.{◌≡◌, refl}
use mathlib.Core.Bool.{Bool, true, false}
use mathlib.Core.Logic.{◌⊎◌, inl, inr}
use native.Mathlib.Omega.{arith}
use lib.Dec.{eqb}
use lib.ListN.{drop}
use Rattle.printer.specs.Tools.{lookup, coded}
use Rattle.printer.specs.Escapes.{modes, looks, parameters, choices}
use Rattle.printer.specs.Codes.{second_code, seconds, plain_escapes, argument_escapes, other_escapes}
use Rattle.printer.specs.Framing.{escapes, second_of}
use Rattle.printer.specs.declared.commands.Control.{Control}
use Rattle.printer.specs.declared.commands.Second.{Second}
use Rattle.printer.proofs.Choices.{pick_elim}
use Rattle.printer.proofs.Listed.{found}

abbrev IsShift : Second → Type 0
IsShift s = (c : Control) → s ≡ Second.Control c → (c ≡ Control.ShiftOut) ⊎ (c ≡ Control.ShiftIn)

abbrev no_control : Second → Bool
no_control (Second.Control c) = false
no_control Second.Reset = true
no_control (Second.Mode c) = true
no_control (Second.Switch w) = true
no_control (Second.Begins w) = true
no_control (Second.List t) = true
no_control Second.Unlisted = true

none : (s : Second) → no_control s ≡ true → IsShift s
none s q c e = let z : false ≡ true = rw e at q in let k : ◌≡◌ {A = ℕ} 0 1 = cc in absurd (omega arith)

-- the first two of the table, and none of the rest
pub only_shifts : (b : ℕ) → IsShift (second_of b)
unfolding lookup coded escapes seconds plain_escapes argument_escapes other_escapes modes looks parameters choices
only_shifts b =
    pick_elim IsShift (eqb b 0x0E) (λ _ c e. inl cc)
    (λ _. pick_elim IsShift (eqb b 0x0F) (λ _ c e. inr cc)
    (λ _. found IsShift no_control second_code (drop 2 seconds) Second.Unlisted b refl (λ s q _. none s q) (λ _. none Second.Unlisted refl)))
