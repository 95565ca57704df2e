-- The bytes of an escape begun, as a list.
use Rattle.std.specs.Prelude.{ℕ, List, [], ◌∷◌}
use Rattle.framing.specs.declared.codes.BegunBytes.{BegunBytes}

abbrev pub bytes_of : BegunBytes → List ℕ
bytes_of (BegunBytes.Code c) = c ∷ []
bytes_of (BegunBytes.Argument c a) = c ∷ a ∷ []
bytes_of (BegunBytes.Arguments c a b) = c ∷ a ∷ b ∷ []
