-- Document 02, E10: what reading a card from power-on comes to.
use Rattle.std.specs.Prelude.{ℕ, zero, suc, ◌≡◌, Bool, true, false, List, [], ◌∷◌, ◌++◌, map, ◌⊎◌}
use Rattle.printer.specs.Tools.{pick, Each}
use Rattle.printer.specs.Units.{units, across_rounding, row_dots}
use Rattle.printer.specs.Records.{new_top}
use Rattle.printer.specs.Steps.{state_after, records_over, events_over}
use Rattle.printer.specs.Decoding.{decoded_all}
use Rattle.printer.specs.Calls.{start_at, start_of, StartCall, ReadCall}
use Rattle.printer.specs.Cutting.{last_state, joined_output}
use Rattle.printer.specs.Demand3.{started, read, printed_over}
use Rattle.printer.specs.Reckoning.{exact, event, begun, Printed, printed}
use Rattle.printer.specs.declared.commands.Waiting.{Waiting}
use Rattle.printer.specs.declared.records.Mark.{Mark}
use Rattle.printer.specs.declared.records.Record.{Record}
use Rattle.printer.specs.declared.settings.StartSettings.{StartSettings}
use Rattle.printer.specs.declared.state.Printer.{Printer}
use Rattle.printer.specs.declared.units.Resolution.{Resolution}
use Rattle.writer.specs.Card.{letter_at}
use Rattle.writer.specs.declared.Letter.{Letter}

-- the first n letters of a list
unfoldable pub letters_of : List ℕ → (n : ℕ) → List Letter
letters_of l zero = []
letters_of l (suc n) = letters_of l n ++ (letter_at l n ∷ [])

-- Power-on: at either resolution, at full width, with automatic line feed off

abbrev pub start_on : Resolution → StartSettings
start_on Resolution.Dots300 = start_at 300
start_on Resolution.Dots203 = start_at 203

abbrev pub at_power_on : Resolution → Printer
at_power_on r = (start_of (start_on r)).printer

-- Records

-- TX and IM: what was printed
abbrev pub prints : Mark → Bool
prints Mark.Tx = true
prints Mark.Im = true
prints Mark.Ln = false
prints Mark.Cl = false
prints Mark.No = false

unfoldable pub texts_in : List Record → List Record
texts_in [] = []
texts_in (x ∷ l) = pick (prints x.mark) (x ∷ texts_in l) (texts_in l)

-- TX of a letter at the dots of its place, with the rest across, plain, 10 cpi
abbrev pub text_of : Resolution → Letter → Record
text_of r x =
    record {
      mark = Mark.Tx;
      column = (across_rounding r x.across).dot;
      row = row_dots r x.down;
      byte = x.byte;
      font = 0;
      style = 0;
      country = 0;
      advance = units 360;
      rest = (across_rounding r x.across).rest;
    }

-- no NO, and no page turned: a TX, or an LN of no pages
abbrev pub TextOrFeed : Record → Type 0
TextOrFeed x = (x.mark ≡ Mark.Tx) ⊎ ((x.mark ≡ Mark.Ln) × (x.byte ≡ 0))

-- after the LN of ESC @
abbrev pub TextsAndFeeds : List Record → Type 0
TextsAndFeeds [] = ⊥
TextsAndFeeds (x ∷ l) = ((x.mark ≡ Mark.Ln) × (x.byte ≡ new_top)) × Each TextOrFeed l

-- Exact places, in units, by demand 3's reckoning

pub record Placed : Type 0 where
  pub mark : Mark
  pub byte : ℕ
  pub part : ℕ
  pub advance : ℕ
  pub across : ℕ
  pub down : ℕ

abbrev pub placed_as : Printed → Placed
placed_as e =
    record {
      mark = e.mark;
      byte = e.byte;
      part = e.part;
      advance = e.advance;
      across = exact e.here.across;
      down = exact e.here.down;
    }

-- a letter at its place
abbrev pub placed_letter : Letter → Placed
placed_letter x = record { mark = Mark.Tx; byte = x.byte; part = 0; advance = 360; across = x.across; down = x.down }

-- The claim: these letters at exactly these places, in this order, and no others; nothing passed over, no page turned, nothing waited for
pub record ReadsBack (r : Resolution) (letters : List Letter) (bytes : List ℕ) : Type 0 where
  pub places : map placed_as (printed (begun (start_on r)) (map event (events_over (at_power_on r) bytes))) ≡ map placed_letter letters
  pub texts : texts_in (records_over (at_power_on r) bytes) ≡ map (text_of r) letters
  pub nothing_else : TextsAndFeeds (records_over (at_power_on r) bytes)
  pub waiting : (state_after (at_power_on r) bytes).waiting ≡ Waiting.Nothing

-- the same of a start, and calls that read the card from its state: of what demand 3's reckoning says they printed, of the bytes that they wrote,
-- and of the state that they left
pub record ReadByCalls (r : Resolution) (letters : List Letter) (before : Printer) (c : StartCall) (calls : List ReadCall) : Type 0 where
  pub places : map placed_as (printed_over before (started c ∷ map read calls)) ≡ map placed_letter letters
  pub texts : texts_in (decoded_all (joined_output calls)) ≡ map (text_of r) letters
  pub nothing_else : TextsAndFeeds (decoded_all (joined_output calls))
  pub waiting : (last_state c.back.printer calls).waiting ≡ Waiting.Nothing
