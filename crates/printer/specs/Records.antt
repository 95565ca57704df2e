-- Document 01, 'Records': the fields, and their bytes; document 02, E7: the rest across, at the end.
use Rattle.std.specs.Prelude.{ℕ, ◌+◌, ◌*◌, ◌/◌, ◌%◌, Bool, List, [], ◌∷◌, ◌++◌}
use Rattle.printer.specs.Tools.{pick}
use Rattle.printer.specs.Units.{units, across_rounding, row_dots}
use Rattle.printer.specs.Widths.{double_width}
use Rattle.printer.specs.Settings.{across_of, down_of}
use Rattle.printer.specs.Types.{Mark, Record, Settings, Place, Dots, Resolution}

-- the bytes of a record, and the room that a byte's records may take
abbrev pub record_size : ℕ
record_size = 16

abbrev pub room_for_byte : ℕ
room_for_byte = 2 * record_size

-- Style

abbrev flag : Bool → ℕ → ℕ
flag on value = pick on value 0

-- the style bits, from 0
unfoldable pub style_of : Settings → ℕ
style_of s =
    flag s.emphasis.bold 0x1 + flag s.emphasis.doublestrike 0x2 + flag s.emphasis.italic 0x4
    + flag s.emphasis.underline 0x8 + flag s.script.superscript 0x10
    + flag s.script.subscript 0x20 + flag (double_width s.width) 0x40
    + flag s.face.doubleheight 0x80 + s.face.outline % 4 * 0x100
    + flag s.width.proportional 0x400 + flag s.width.reduced 0x800
    + flag s.face.italictable 0x1000 + flag s.face.download 0x2000

-- The records

-- TX: a letter; all fields
abbrev pub letter_record : Settings → Place → (byte advance : ℕ) → Record
letter_record s x b n =
    record {
      mark = Mark.Tx;
      column = (across_rounding s.setup.resolution (across_of x)).dot;
      row = row_dots s.setup.resolution (down_of x);
      byte = b;
      font = s.face.font;
      style = style_of s;
      country = s.face.country;
      advance = units n;
      rest = (across_rounding s.setup.resolution (across_of x)).rest;
    }

-- IM: an image byte; column, row, byte, advance, rest; document 02, E4: the font says which of three bytes it is
abbrev pub image_record : Settings → Place → (byte part advance : ℕ) → Record
image_record s x b part n =
    record {
      mark = Mark.Im;
      column = (across_rounding s.setup.resolution (across_of x)).dot;
      row = row_dots s.setup.resolution (down_of x);
      byte = b;
      font = part;
      style = 0;
      country = 0;
      advance = units n;
      rest = (across_rounding s.setup.resolution (across_of x)).rest;
    }

-- the others have no column, font, country, advance or rest
abbrev pub plain_record : Mark → Dots → (byte style : ℕ) → Record
plain_record m row b style =
    record {
      mark = m;
      column = record { 0 = 0 };
      row = row;
      byte = b;
      font = 0;
      style = style;
      country = 0;
      advance = units 0;
      rest = record { 0 = 0 };
    }

-- LN: the new place down, and the pages turned
abbrev pub feed_record : Resolution → ℕ → ℕ → Record
feed_record r down pages = plain_record Mark.Ln (row_dots r down) pages 0

-- LN's byte for a new top
abbrev pub new_top : ℕ
new_top = 255

-- CL: TX and IM since the last LN, CL or start are void
abbrev pub clear_record : Record
clear_record = plain_record Mark.Cl (record { 0 = 0 }) 0 0

-- NO: the byte passed over, and the reason
abbrev pub passed_record : ℕ → ℕ → Record
passed_record b reason = plain_record Mark.No (record { 0 = 0 }) b reason

-- Reasons: 1 unlisted; 2 argument or setting not allowed; 3 past margin, page or stop limits; 4 letter or image column does not fit;
-- 5 no stop to the right
abbrev pub unlisted : ℕ
unlisted = 1

abbrev pub not_allowed : ℕ
not_allowed = 2

abbrev pub past_limits : ℕ
past_limits = 3

abbrev pub does_not_fit : ℕ
does_not_fit = 4

abbrev pub no_stop : ℕ
no_stop = 5

-- The bytes

-- two bytes, low byte first
abbrev pub low : ℕ → ℕ
low n = n % 256

abbrev pub high : ℕ → ℕ
high n = n / 256 % 256

abbrev pub mark_low : Mark → ℕ
mark_low Mark.Tx = 0x54
mark_low Mark.Im = 0x49
mark_low Mark.Ln = 0x4C
mark_low Mark.Cl = 0x43
mark_low Mark.No = 0x4E

abbrev pub mark_high : Mark → ℕ
mark_high Mark.Tx = 0x58
mark_high Mark.Im = 0x4D
mark_high Mark.Ln = 0x4E
mark_high Mark.Cl = 0x4C
mark_high Mark.No = 0x4F

unfoldable pub encoded : Record → List ℕ
encoded r =
    mark_low r.mark ∷ mark_high r.mark ∷
    low r.column.0 ∷ high r.column.0 ∷
    low r.row.0 ∷ high r.row.0 ∷
    r.byte ∷
    r.font ∷
    low r.style ∷ high r.style ∷
    r.country ∷
    0 ∷
    low r.advance.0 ∷ high r.advance.0 ∷
    low r.rest.0 ∷ high r.rest.0 ∷
    []

unfoldable pub encoded_all : List Record → List ℕ
encoded_all [] = []
encoded_all (r ∷ l) = encoded r ++ encoded_all l
