-- Records read back from their bytes.
use Rattle.std.specs.Prelude.{ℕ, zero, suc, ◌+◌, ◌*◌, ◌/◌, ◌≤◌, List, [], ◌∷◌, ◌++◌, eqb, length, get_or, take, drop}
use Rattle.printer.specs.Tools.{pick, both}
use Rattle.printer.specs.Units.{units}
use Rattle.printer.specs.Records.{record_size}
use Rattle.printer.specs.Types.{Mark, Record}

-- the mark of two bytes, if they are one
unfoldable pub marks_of : ℕ → ℕ → List Mark
marks_of a b =
    pick (both (eqb a 0x54) (eqb b 0x58)) (Mark.Tx ∷ [])
    (pick (both (eqb a 0x49) (eqb b 0x4D)) (Mark.Im ∷ [])
    (pick (both (eqb a 0x4C) (eqb b 0x4E)) (Mark.Ln ∷ [])
    (pick (both (eqb a 0x43) (eqb b 0x4C)) (Mark.Cl ∷ [])
    (pick (both (eqb a 0x4E) (eqb b 0x4F)) (Mark.No ∷ []) []))))

-- a two-byte number, low byte first, at a place of the bytes
abbrev pub word_at : List ℕ → ℕ → ℕ
word_at l i = get_or l i 0 + 256 * get_or l (i + 1) 0

abbrev pub fields_at : List ℕ → List Mark → List Record
fields_at l [] = []
fields_at l (m ∷ ms) =
    record {
      mark = m;
      column = record { 0 = word_at l 2 };
      row = record { 0 = word_at l 4 };
      byte = get_or l 6 0;
      font = get_or l 7 0;
      style = word_at l 8;
      country = get_or l 10 0;
      advance = units (word_at l 12);
      rest = record { 0 = word_at l 14 };
    } ∷ []

-- the record that 16 bytes are; none if they begin with no mark
unfoldable pub decoded : List ℕ → List Record
decoded l = fields_at l (marks_of (get_or l 0 0) (get_or l 1 0))

-- the records of the first n times 16 bytes
unfoldable pub decoded_first : ℕ → List ℕ → List Record
decoded_first zero l = []
decoded_first (suc n) l = decoded (take record_size l) ++ decoded_first n (drop record_size l)

abbrev pub decoded_all : List ℕ → List Record
decoded_all l = decoded_first (length l / record_size) l

-- the fields of a record fit their bytes
pub record FitsBytes (r : Record) : Type 0 where
  pub column : r.column.0 ≤ 65535
  pub row : r.row.0 ≤ 65535
  pub byte : r.byte ≤ 255
  pub font : r.font ≤ 255
  pub style : r.style ≤ 65535
  pub country : r.country ≤ 255
  pub advance : r.advance.0 ≤ 65535
  pub rest : r.rest.0 ≤ 65535
