-- Small lists worked by hand, computed.
use Prim.Native.Nat.{ℕ}
use mathlib.Core.Path.{◌≡◌, refl}
use mathlib.Core.List.{List, [], ◌∷◌, ◌++◌}
use lib.ListN.{replicate}
use Rattle.printer.specs.Units.{units}
use Rattle.printer.specs.Records.{record_size, plain_record, clear_record, passed_record, new_top, encoded, encoded_all}
use Rattle.printer.specs.Decoding.{marks_of, decoded}
use Rattle.printer.specs.declared.records.Mark.{Mark}
use Rattle.printer.specs.declared.records.Record.{Record}
use Rattle.slot.specs.Slot.{seen_of, forward, found, part, length_refused, part_of, part_given, number_of, standing_in}
use Rattle.slot.specs.declared.LengthRefused.{LengthRefused}
use Rattle.slot.specs.declared.Part.{Part}
use Rattle.std.specs.Prelude.{Result, Ok, Err}

-- a letter at a column, its row and byte other numbers; an LN by its pages; a CL; a NO
abbrev tx : (column : ℕ) → Record
tx column =
    record {
      mark = Mark.Tx;
      column = record { 0 = column };
      row = record { 0 = 300 };
      byte = 65;
      font = 0;
      style = 0;
      country = 0;
      advance = units 360;
      rest = record { 0 = 0 };
    }

abbrev ln : (pages : ℕ) → Record
ln pages = plain_record Mark.Ln (record { 0 = 50 }) pages 0

abbrev cl : Record
cl = clear_record

abbrev no : Record
no = passed_record 1 1

-- an image byte at a column
abbrev im : (column : ℕ) → Record
im column =
    record {
      mark = Mark.Im;
      column = record { 0 = column };
      row = record { 0 = 300 };
      byte = 65;
      font = 0;
      style = 0;
      country = 0;
      advance = units 60;
      rest = record { 0 = 0 };
    }

-- one more than the place of what is found from column 10 to column 20
abbrev under : List Record → ℕ
under l = found 10 20 (encoded_all l)

-- LN and CL
pub lines : under (tx 10 ∷ ln 0 ∷ tx 10 ∷ cl ∷ []) ≡ 1
unfolding encoded encoded_all marks_of decoded seen_of forward
lines = refl

pub shielded : under (tx 10 ∷ ln 0 ∷ cl ∷ cl ∷ []) ≡ 1
unfolding encoded encoded_all marks_of decoded seen_of forward
shielded = refl

pub voided : under (tx 10 ∷ no ∷ cl ∷ ln 0 ∷ []) ≡ 0
unfolding encoded encoded_all marks_of decoded seen_of forward
voided = refl

pub turned : under (tx 10 ∷ ln 1 ∷ tx 9 ∷ []) ≡ 0
unfolding encoded encoded_all marks_of decoded seen_of forward
turned = refl

pub new_top_lem : under (tx 10 ∷ ln new_top ∷ ln 0 ∷ cl ∷ []) ≡ 0
unfolding encoded encoded_all marks_of decoded seen_of forward
new_top_lem = refl

pub once_more : under (tx 10 ∷ cl ∷ tx 20 ∷ no ∷ []) ≡ 3
unfolding encoded encoded_all marks_of decoded seen_of forward
once_more = refl

pub two_pages : under (tx 10 ∷ ln 2 ∷ []) ≡ 0
unfolding encoded encoded_all marks_of decoded seen_of forward
two_pages = refl

-- an image byte is no letter, shields nothing, voids nothing and turns no page
pub drawn : under (tx 10 ∷ im 15 ∷ []) ≡ 1
unfolding encoded encoded_all marks_of decoded seen_of forward
drawn = refl

pub drawn-voided : under (im 15 ∷ tx 10 ∷ im 15 ∷ cl ∷ []) ≡ 0
unfolding encoded encoded_all marks_of decoded seen_of forward
drawn-voided = refl

-- the columns asked for
pub both_ends : under (tx 10 ∷ tx 20 ∷ tx 21 ∷ tx 9 ∷ []) ≡ 2
unfolding encoded encoded_all marks_of decoded seen_of forward
both_ends = refl

pub crossed : found 20 10 (encoded_all (tx 15 ∷ [])) ≡ 0
unfolding encoded encoded_all marks_of decoded seen_of forward
crossed = refl

-- a mark of no record neither shields nor voids
pub unknown : found 10 20 (encoded (tx 10) ++ replicate record_size 67 ++ encoded cl) ≡ 0
unfolding encoded marks_of decoded seen_of forward
unknown = refl

-- what comes back: the record's bytes, the part that they are, and the number
abbrev stands : List ℕ → List ℕ → Result Part LengthRefused → (start length : ℕ) → (number : ℕ) → Type 0
stands l bytes told start length number =
    (standing_in 10 20 l ≡ bytes) × (part_of 10 20 l ≡ told) × (part_given (part_of 10 20 l) ≡ part start length)
    × (number_of (part_of 10 20 l) ≡ number)

pub comes_back : stands (encoded_all (ln 0 ∷ tx 12 ∷ no ∷ [])) (encoded (tx 12)) (Ok (part record_size record_size)) record_size record_size 0
unfolding encoded encoded_all marks_of decoded seen_of forward part_of
comes_back = (refl, refl, refl, refl)

pub none : stands (encoded_all (ln 0 ∷ tx 9 ∷ no ∷ [])) [] (Ok (part 0 0)) 0 0 0
unfolding encoded encoded_all marks_of decoded seen_of forward part_of
none = (refl, refl, refl, refl)

pub empty : stands [] [] (Ok (part 0 0)) 0 0 0
unfolding forward part_of
empty = (refl, refl, refl, refl)

pub ragged : stands (65 ∷ encoded (tx 12)) [] (Err length_refused) 0 0 5
unfolding encoded part_of
ragged = (refl, refl, refl, refl)
