-- Choices by a test, lists of orders that hold or not, and tables.
use Rattle.std.specs.Prelude.{ℕ, ◌≤◌, ◌/◌, ◌%◌, Bool, true, false, List, [], ◌∷◌, leb, eqb}

abbrev pub pick : {A : Type 0} → Bool → A → A → A
pick true a b = a
pick false a b = b

abbrev pub both : Bool → Bool → Bool
both true b = b
both false b = false

abbrev pub either : Bool → Bool → Bool
either true b = true
either false b = b

-- n is from low to high
abbrev pub within : ℕ → ℕ → ℕ → Bool
within low high n = both (leb low n) (leb n high)

-- the bit of value k of n is set
abbrev pub bit : ℕ → ℕ → Bool
bit n k = eqb (n / k % 2) 1

-- an order between two numbers, which may hold or not
pub record Order : Type 0 where
  pub low : ℕ
  pub high : ℕ

infix 50 ◌up_to◌
abbrev pub ◌up_to◌ : ℕ → ℕ → Order
◌up_to◌ a b = record { low = a; high = b }

-- a test as an order: it holds just if the test is true
abbrev pub passes : Bool → Order
passes t = (pick t 0 1 up_to 0)

-- all the orders of a list hold: as a test, and as a fact
abbrev pub holds : List Order → Bool
holds [] = true
holds (o ∷ l) = both (leb o.low o.high) (holds l)

abbrev pub Holds : List Order → Type 0
Holds [] = Unit
Holds (o ∷ l) = (o.low ≤ o.high) × Holds l

-- what stands beside b in a table, or else d
unfoldable pub lookup : {A : Type 0} → List (ℕ × A) → A → ℕ → A
lookup [] d b = d
lookup (e ∷ l) d b = pick (eqb b e.0) e.1 (lookup l d b)

-- a table of the elements of a list, each beside its code
unfoldable pub coded : {A : Type 0} → (A → ℕ) → List A → List (ℕ × A)
coded f [] = []
coded f (a ∷ l) = (f a, a) ∷ coded f l

-- P holds of each element
abbrev pub Each : {A : Type 0} → (A → Type 0) → List A → Type 0
Each P [] = Unit
Each P (a ∷ l) = P a × Each P l

-- a list of bytes
abbrev pub Bytes : List ℕ → Type 0
Bytes [] = Unit
Bytes (b ∷ l) = (b ≤ 255) × Bytes l
