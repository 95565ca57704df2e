-- Bytes written over the beginning of an output.
use Rattle.std.specs.Prelude.{ℕ, ◌≡◌, List, ◌++◌, length, drop}

-- the bytes l over xs, how many they are, and what this gives
pub record Laid (xs l : List ℕ) (count : ℕ) (ys : List ℕ) : Type 0 where
  pub count_is : count ≡ length l
  pub bytes : ys ≡ l ++ drop count xs
