-- Document 01, 'Checked by hand': the table, and what each case comes to from power-on.
use Rattle.std.specs.Prelude.{ℕ, zero, suc, ◌+◌, ◌*◌, ◌≡◌, List, [], ◌∷◌, ◌++◌, map, length, take, drop, replicate}
use Rattle.printer.specs.Records.{room_for_byte}
use Rattle.printer.specs.Decoding.{decoded_all}
use Rattle.printer.specs.Calls.{start_at, start_of, reading_of, output_of}
use Rattle.printer.specs.Types.{Mark, Record, Printer}

-- the bytes that reading an input from power-on writes, with allowance and room enough
abbrev pub bytes_from : Printer → List ℕ → List ℕ
bytes_from p input =
    take (reading_of p input (length input) (room_for_byte * length input)).report.written
    (output_of p input (length input) (replicate (room_for_byte * length input) 0))

abbrev pub bytes_at : (resolution : ℕ) → List ℕ → List ℕ
bytes_at resolution input = bytes_from (start_of (start_at resolution)).printer input

-- the fields of a record that the table speaks of
pub record Line : Type 0 where
  pub mark : Mark
  pub column : ℕ
  pub row : ℕ
  pub byte : ℕ
  pub style : ℕ
  pub advance : ℕ

abbrev pub shown_line : Record → Line
shown_line r =
    record {
      mark = r.mark;
      column = r.column.0;
      row = r.row.0;
      byte = r.byte;
      style = r.style;
      advance = r.advance.0;
    }

abbrev tx : ℕ → ℕ → ℕ → ℕ → Line
tx column row byte advance =
    record { mark = Mark.Tx; column = column; row = row; byte = byte; style = 0; advance = advance }

-- so many letters, 30 dots apart, from a column on
unfoldable pub letters : ℕ → ℕ → List Line
letters zero column = []
letters (suc n) column = tx column 0 0x41 360 ∷ letters n (column + 30)

abbrev styled : ℕ → ℕ → ℕ → Line
styled byte style advance =
    record { mark = Mark.Tx; column = 0; row = 0; byte = byte; style = style; advance = advance }

abbrev im : ℕ → ℕ → ℕ → Line
im column byte step =
    record { mark = Mark.Im; column = column; row = 0; byte = byte; style = 0; advance = step }

abbrev ln : ℕ → ℕ → Line
ln row pages = record { mark = Mark.Ln; column = 0; row = row; byte = pages; style = 0; advance = 0 }

abbrev cl : Line
cl = record { mark = Mark.Cl; column = 0; row = 0; byte = 0; style = 0; advance = 0 }

abbrev no : ℕ → ℕ → Line
no byte reason = record { mark = Mark.No; column = 0; row = 0; byte = byte; style = reason; advance = 0 }

-- a case: the resolution, the input, how many records are skipped, and those that come then
pub record Case : Type 0 where
  pub resolution : ℕ
  pub input : List ℕ
  pub skipped : ℕ
  pub lines : List Line

abbrev pub lines_of_case : Case → List Line
lines_of_case c = drop c.skipped (map shown_line (decoded_all (bytes_at c.resolution c.input)))

abbrev at300 : List ℕ → List Line → Case
at300 input lines = record { resolution = 300; input = input; skipped = 0; lines = lines }

unfoldable pub table : List Case
table =
    -- 1: 41 0A
    at300 (0x41 ∷ 0x0A ∷ []) (tx 0 0 0x41 360 ∷ ln 50 0 ∷ []) ∷
    -- 2: ESC D 4 8 12 0, then HT A, HT B, HT C, HT
    at300 (0x1B ∷ 0x44 ∷ 4 ∷ 8 ∷ 12 ∷ 0 ∷ 0x09 ∷ 0x41 ∷ 0x09 ∷ 0x42 ∷ 0x09 ∷ 0x43 ∷ 0x09 ∷ [])
    (tx 120 0 0x41 360 ∷ tx 240 0 0x42 360 ∷ tx 360 0 0x43 360 ∷ no 0x09 5 ∷ []) ∷
    -- 3: at 203, AAA
    record {
      resolution = 203;
      input = 0x41 ∷ 0x41 ∷ 0x41 ∷ [];
      skipped = 0;
      lines = tx 0 0 0x41 360 ∷ tx 20 0 0x41 360 ∷ tx 41 0 0x41 360 ∷ [];
    } ∷
    -- 4: ESC L, 2 bytes
    at300 (0x1B ∷ 0x4C ∷ 2 ∷ 0 ∷ 7 ∷ 8 ∷ []) (im 0 7 30 ∷ im 3 8 30 ∷ []) ∷
    -- 5: 80 letters fit; the 81st gives LN row 50, column 0
    at300 (replicate 81 0x41) (letters 80 0 ++ (ln 50 0 ∷ tx 0 50 0x41 360 ∷ [])) ∷
    -- 6: ESC A 85 taken; 86 NO 2
    at300 (0x1B ∷ 0x41 ∷ 85 ∷ 0x0A ∷ 0x1B ∷ 0x41 ∷ 86 ∷ []) (ln 425 0 ∷ no 0x41 2 ∷ []) ∷
    -- 7: 65 LF; one more; ESC J 60 instead
    record { resolution = 300; input = replicate 66 0x0A; skipped = 64; lines = ln 3250 0 ∷ ln 0 1 ∷ [] } ∷
    record {
      resolution = 300;
      input = replicate 65 0x0A ++ (0x1B ∷ 0x4A ∷ 60 ∷ []);
      skipped = 64;
      lines = ln 3250 0 ∷ ln 50 1 ∷ [];
    } ∷
    -- 8: ESC l 79 taken; 80 NO 3
    at300 (0x1B ∷ 0x6C ∷ 79 ∷ 0x1B ∷ 0x6C ∷ 80 ∷ []) (cl ∷ no 0x6C 3 ∷ []) ∷
    -- 9: ESC \ FFh FFh; after A, next letter at 28
    at300 (0x1B ∷ 0x5C ∷ 0xFF ∷ 0xFF ∷ 0x41 ∷ 0x1B ∷ 0x5C ∷ 0xFF ∷ 0xFF ∷ 0x41 ∷ [])
    (no 0x5C 3 ∷ tx 0 0 0x41 360 ∷ tx 28 0 0x41 360 ∷ []) ∷
    -- 10: ESC ! 25h; ESC p 1, SI
    at300 (0x1B ∷ 0x21 ∷ 0x25 ∷ 0x41 ∷ []) (styled 0x41 0x840 360 ∷ []) ∷
    at300 (0x1B ∷ 0x70 ∷ 1 ∷ 0x0F ∷ 0x41 ∷ []) (styled 0x41 0xC00 180 ∷ []) ∷
    -- 'Errors that read well': HT to 4 is 1,440 units, dot 120, not 1,080: ESC D 4 0, HT A
    at300 (0x1B ∷ 0x44 ∷ 4 ∷ 0 ∷ 0x09 ∷ 0x41 ∷ []) (tx 120 0 0x41 360 ∷ []) ∷
    -- at 203 the 80th 10 cpi letter is at 1,604
    record { resolution = 203; input = replicate 80 0x41; skipped = 79; lines = tx 1604 0 0x41 360 ∷ [] } ∷
    -- stops are not frozen at the width of their setting: ESC D 4 0, ESC M, HT A
    at300 (0x1B ∷ 0x44 ∷ 4 ∷ 0 ∷ 0x1B ∷ 0x4D ∷ 0x09 ∷ 0x41 ∷ []) (tx 100 0 0x41 300 ∷ []) ∷
    -- 1Bh 40h inside a stop list, and inside an image, is no ESC @
    at300 (0x1B ∷ 0x44 ∷ 0x1E ∷ 0x1B ∷ 0x40 ∷ []) (tx 0 0 0x40 360 ∷ []) ∷
    at300 (0x1B ∷ 0x4B ∷ 2 ∷ 0 ∷ 0x1B ∷ 0x40 ∷ 0x41 ∷ []) (im 0 0x1B 60 ∷ im 5 0x40 60 ∷ tx 10 0 0x41 360 ∷ []) ∷
    []

pub record CheckedByHand : Type 0 where
  -- case 1, byte for byte
  pub bytes :
      bytes_at 300 (0x41 ∷ 0x0A ∷ [])
      ≡ 0x54 ∷ 0x58 ∷ 0 ∷ 0 ∷ 0 ∷ 0 ∷ 0x41 ∷ 0 ∷ 0 ∷ 0 ∷ 0 ∷ 0 ∷ 0x68 ∷ 0x01 ∷ 0 ∷ 0 ∷
      0x4C ∷ 0x4E ∷ 0 ∷ 0 ∷ 0x32 ∷ 0 ∷ 0 ∷ 0 ∷ 0 ∷ 0 ∷ 0 ∷ 0 ∷ 0 ∷ 0 ∷ 0 ∷ 0 ∷ []
  pub cases : map lines_of_case table ≡ map (λ c. c.lines) table
