-- Laws that proofs of the code cite: a bound on products, and the last of a list of tests.
use Prim.Native.Nat.{ℕ, ◌*◌, ◌≤◌}
use mathlib.Core.Path.{◌≡◌, refl}
use mathlib.Core.Bool.{Bool, true, false}
use native.Mathlib.Nat.{mul-le-mul}
use Rattle.printer.specs.Tools.{both}

-- the product of two numbers with bounds
pub product : (a b m n : ℕ) → a ≤ m → b ≤ n → a * b ≤ m * n
product a b m n h k = mul-le-mul {n₁ = a} {m₁ = b} {n₂ = m} {m₂ = n} h k

-- a list of orders ends with `true`
pub both_true : (t : Bool) → both t true ≡ t
both_true true = refl
both_true false = refl
