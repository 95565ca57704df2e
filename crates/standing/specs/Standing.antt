-- What stands under a slot, kept record by record: the forward reading of crate slot, with the records in the place of their numbers.
use Rattle.std.specs.Prelude.{ℕ, zero, suc, List, [], Option, Some, None}
use Rattle.slot.specs.Slot.{record_at, seen_at}
use Rattle.slot.specs.declared.Seen.{Seen}
use Rattle.standing.specs.declared.Standing.{Standing}

abbrev pub bytes_held : Option (List ℕ) → List ℕ
bytes_held None = []
bytes_held (Some bytes) = bytes

-- the first, or where there is none the second
abbrev pub or_else : Option (List ℕ) → Option (List ℕ) → Option (List ℕ)
or_else None m = m
or_else (Some bytes) m = Some bytes

abbrev pub nothing : Standing
nothing = record { kept = None; line = None }

abbrev pub standing_now : Standing → Option (List ℕ)
standing_now v = or_else v.line v.kept

-- one record more
abbrev pub next : Seen → List ℕ → Standing → Standing
next Seen.Letter r v = record { kept = v.kept; line = Some r }
next Seen.Line r v = record { kept = standing_now v; line = None }
next Seen.Page r v = nothing
next Seen.Clear r v = record { kept = v.kept; line = None }
next Seen.Other r v = v

-- after the first n records of a list
unfoldable pub after_records : (a b : ℕ) → List ℕ → ℕ → Standing
after_records a b l zero = nothing
after_records a b l (suc n) = next (seen_at a b l n) (record_at l n) (after_records a b l n)
