-- The number of an answer.
use mathlib.Core.Path.{◌≡◌, refl}
use native.Mathlib.Omega.{arith}
use Rattle.std.specs.Prelude.{Result, Ok, Err, ⊤}
use Rattle.writer.specs.Card.{number_of}
use Rattle.writer.specs.declared.Refusal.{Refusal}

-- an answer of number 0 is none that refuses
pub written-zero : (a : Result ⊤ Refusal) → number_of a ≡ 0 → a ≡ Ok tt
written-zero (Ok _) e = refl
written-zero (Err Refusal.Length) e = absurd (omega (arith, e))
written-zero (Err Refusal.Byte) e = absurd (omega (arith, e))
written-zero (Err Refusal.Place) e = absurd (omega (arith, e))
written-zero (Err Refusal.Room) e = absurd (omega (arith, e))
