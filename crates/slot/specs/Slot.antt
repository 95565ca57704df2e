-- Document 02, E2: what stands under a slot, by a forward reading of the whole list.
use Rattle.std.specs.Prelude.{ℕ, zero, suc, ◌*◌, ◌/◌, ◌%◌, Bool, List, [], ◌∷◌, eqb, length, take, drop, Option, Some, None, Result, Ok, Err}
use Rattle.printer.specs.Tools.{pick, within}
use Rattle.printer.specs.Records.{record_size}
use Rattle.printer.specs.Decoding.{decoded}
use Rattle.printer.specs.declared.records.Mark.{Mark}
use Rattle.printer.specs.declared.records.Record.{Record}
use Rattle.slot.specs.declared.Part.{Part}
use Rattle.slot.specs.declared.Seen.{Seen}
use Rattle.slot.specs.declared.LengthRefused.{LengthRefused}

-- What a record is to the question

-- TX: its column lies from a to b, both included
abbrev pub letter_seen : (a b column : ℕ) → Seen
letter_seen a b column = pick (within a b column) Seen.Letter Seen.Other

-- LN: its pages are 0 or not
abbrev pub feed_seen : (pages : ℕ) → Seen
feed_seen pages = pick (eqb pages 0) Seen.Line Seen.Page

-- other marks count for nothing
abbrev pub seen_as : (a b : ℕ) → Mark → Record → Seen
seen_as a b Mark.Tx r = letter_seen a b r.column.0
seen_as a b Mark.Im r = Seen.Other
seen_as a b Mark.Ln r = feed_seen r.byte
seen_as a b Mark.Cl r = Seen.Clear
seen_as a b Mark.No r = Seen.Other

abbrev pub seen_in : (a b : ℕ) → List Record → Seen
seen_in a b [] = Seen.Other
seen_in a b (r ∷ l) = seen_as a b r.mark r

-- the bytes of a record
unfoldable pub seen_of : (a b : ℕ) → List ℕ → Seen
seen_of a b bytes = seen_in a b (decoded bytes)

-- the bytes of the record at a place of the list
abbrev pub record_at : List ℕ → ℕ → List ℕ
record_at l i = take record_size (drop (record_size * i) l)

abbrev pub seen_at : (a b : ℕ) → List ℕ → ℕ → Seen
seen_at a b l i = seen_of a b (record_at l i)

-- The forward reading

-- the last letter asked for on the lines before this one of the present page, and since the last LN or CL: one more than its place, or 0
pub record Found : Type 0 where
  pub kept : ℕ
  pub line : ℕ

abbrev pub nothing : Found
nothing = record { kept = 0; line = 0 }

-- the first, or where there is none the second
abbrev pub or_else : ℕ → ℕ → ℕ
or_else zero m = m
or_else (suc n) m = suc n

abbrev pub standing : Found → ℕ
standing v = or_else v.line v.kept

-- one record more, the k-th
abbrev pub next : Seen → ℕ → Found → Found
next Seen.Letter k v = record { kept = v.kept; line = k }
next Seen.Line k v = record { kept = standing v; line = 0 }
next Seen.Page k v = nothing
next Seen.Clear k v = record { kept = v.kept; line = 0 }
next Seen.Other k v = v

-- after the first n records
unfoldable pub forward : (ℕ → Seen) → ℕ → Found
forward f zero = nothing
forward f (suc n) = next (f n) (suc n) (forward f n)

-- one more than the place of the record asked for, or 0
abbrev pub found : (a b : ℕ) → List ℕ → ℕ
found a b l = standing (forward (seen_at a b l) (length l / record_size))

-- the place that such a number stands for
abbrev pub place_found : ℕ → Option ℕ
place_found zero = None
place_found (suc i) = Some i

-- What comes back

-- the length is a multiple of the record size
abbrev pub whole : List ℕ → Bool
whole l = eqb (length l % record_size) 0

abbrev pub part : (start length : ℕ) → Part
part start length = record { start = start; length = length }

-- the record that a number stands for; an empty part is at the list's beginning
abbrev pub found_part : ℕ → Part
found_part zero = part 0 0
found_part (suc i) = part (record_size * i) record_size

abbrev pub length_refused : LengthRefused
length_refused = record {}

unfoldable pub part_of : (a b : ℕ) → List ℕ → Result Part LengthRefused
part_of a b l = pick (whole l) (Ok (found_part (found a b l))) (Err length_refused)

-- the part that is given, empty where the list is refused
abbrev pub part_given : Result Part LengthRefused → Part
part_given (Ok p) = p
part_given (Err e) = part 0 0

-- the number of the answer
abbrev pub number_of : Result Part LengthRefused → ℕ
number_of (Ok p) = 0
number_of (Err e) = 5

-- its bytes
abbrev pub bytes_in : List ℕ → Part → List ℕ
bytes_in l p = take p.length (drop p.start l)

abbrev pub standing_in : (a b : ℕ) → List ℕ → List ℕ
standing_in a b l = bytes_in l (part_given (part_of a b l))
