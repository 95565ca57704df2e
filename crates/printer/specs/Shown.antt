-- What demand 3 says is written: the records of the same events, by the reckoning alone. No printer is read, and none of the rules' records.
use Rattle.std.specs.Prelude.{ℕ, List, [], ◌∷◌, ◌++◌, eqb}
use Rattle.printer.specs.Tools.{pick}
use Rattle.printer.specs.Units.{rounded, rest_word}
use Rattle.printer.specs.Codes.{spelt}
use Rattle.printer.specs.Performing.{Event, done, passed, inside, automatic, Writing, silent, letter, image_byte, feed, clear}
use Rattle.printer.specs.Reckoning.{Axis, moved, exact, Change, control_change, change_of, Reckoning, reckon_next, Occurrence, start, event, Printed, printed_of}
use Rattle.printer.specs.Types.{Command, Control, Mark, Record}

-- Records as demand 3 speaks of them

-- a TX or IM record: all but font, style and country; an IM's font is its part
pub record Placed : Type 0 where
  pub mark : Mark
  pub byte : ℕ
  pub part : ℕ
  pub column : ℕ
  pub row : ℕ
  pub advance : ℕ
  pub rest : ℕ

-- LN, CL and NO: every field
pub record Plain : Type 0 where
  pub mark : Mark
  pub byte : ℕ
  pub column : ℕ
  pub row : ℕ
  pub font : ℕ
  pub style : ℕ
  pub country : ℕ
  pub advance : ℕ
  pub rest : ℕ

pub data Shown : Type 0 where
  placed : Placed → Shown
  plain : Plain → Shown

abbrev placed_as : Record → Mark → (part : ℕ) → Placed
placed_as r m part =
    record { mark = m; byte = r.byte; part = part; column = r.column.0; row = r.row.0; advance = r.advance.0; rest = r.rest.0 }

abbrev plain_as : Record → Mark → Plain
plain_as r m =
    record {
      mark = m;
      byte = r.byte;
      column = r.column.0;
      row = r.row.0;
      font = r.font;
      style = r.style;
      country = r.country;
      advance = r.advance.0;
      rest = r.rest.0;
    }

abbrev pub shown_record : Record → Mark → Shown
shown_record r Mark.Tx = placed (placed_as r Mark.Tx 0)
shown_record r Mark.Im = placed (placed_as r Mark.Im r.font)
shown_record r Mark.Ln = plain (plain_as r Mark.Ln)
shown_record r Mark.Cl = plain (plain_as r Mark.Cl)
shown_record r Mark.No = plain (plain_as r Mark.No)

-- every record of a list, in order
unfoldable pub shown : List Record → List Shown
shown [] = []
shown (r ∷ l) = shown_record r r.mark ∷ shown l

-- What an event writes

-- what is printed, at the rounding rule's dots of its exact place, with the rest across
abbrev pub dotted : Printed → Shown
dotted e =
    placed (record {
      mark = e.mark;
      byte = e.byte;
      part = e.part;
      column = rounded e.here.force.kept.d_across (exact e.here.across);
      row = rounded e.here.force.kept.d_down (exact e.here.down);
      advance = e.advance;
      rest = rest_word e.here.force.kept.d_across (exact e.here.across);
    })

abbrev only : Mark → (byte row style : ℕ) → Shown
only m byte row style =
    plain (record {
      mark = m;
      byte = byte;
      column = 0;
      row = row;
      font = 0;
      style = style;
      country = 0;
      advance = 0;
      rest = 0;
    })

-- by the reckoning before, and the place down after: LN bears its row
abbrev pub shown_as : Reckoning → (down : Axis) → Writing → List Shown
shown_as r down silent = []
shown_as r down (letter b n) = dotted (printed_of Mark.Tx b 0 n r) ∷ []
shown_as r down (image_byte b part n) = dotted (printed_of Mark.Im b part n r) ∷ []
shown_as r down (feed pages) = only Mark.Ln pages (rounded r.force.kept.d_down (exact down)) 0 ∷ []
shown_as r down clear = only Mark.Cl 0 0 0 ∷ []

abbrev pub shown_by : Reckoning → Change → List Shown
shown_by r t = shown_as r (moved r.down t.down) t.writing

-- NO's byte: the first of the bytes that the command was received by (an escape's first is a command by itself); of ESC i and a third byte
-- alone, that
abbrev pub no_byte_of : List ℕ → ℕ
no_byte_of [] = 0
no_byte_of (b ∷ []) = b
no_byte_of (b ∷ third ∷ []) = pick (eqb b 0x69) third b
no_byte_of (b ∷ a ∷ n ∷ l) = b

abbrev pub no_byte : Command → ℕ
no_byte c = no_byte_of (spelt c)

abbrev pub writes : Reckoning → Event → List Shown
writes r (done c n) = shown_by r (change_of r.force c n)
writes r (passed c reason) = only Mark.No (no_byte c) 0 reason ∷ []
writes r (inside c n) = shown_by r (control_change r.force c n)
writes r (automatic n) = shown_by r (control_change r.force Control.LineFeed n)

abbrev pub writes_next : Reckoning → Occurrence → List Shown
writes_next r (start settings) = []
writes_next r (event e) = writes r e

unfoldable pub written : Reckoning → List Occurrence → List Shown
written r [] = []
written r (o ∷ l) = writes_next r o ++ written (reckon_next r o) l
