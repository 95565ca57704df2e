-- Worked cases: short inputs and states with what the papers say of them. The rows, `WorkedInputs` and `WorkedStates`, are written by cases/make
-- from cases/short.txt and cases/states.txt, which were reckoned from the papers, not from these definitions.
use Rattle.std.specs.Prelude.{ℕ, zero, suc, ◌*◌, ◌-◌, ◌≡◌, Bool, false, List, [], ◌∷◌, ◌++◌, map, eqb, length, drop, replicate, set}
use Rattle.std.proofs.Math.Seq.{paste}
use Rattle.printer.specs.Tools.{pick, either}
use Rattle.printer.specs.Units.{units}
use Rattle.printer.specs.PowerOn.{stop_room, power_on}
use Rattle.printer.specs.Settings.{left_of, right_of, page_of, skip_of, line_of, across_of, down_of, at, with_width, with_spacing, with_margins, with_paper, with_country, with_outline, settings_of}
use Rattle.printer.specs.Records.{encoded}
use Rattle.printer.specs.Performing.{stops_of, choosing}
use Rattle.printer.specs.Bounds.{accepted}
use Rattle.printer.specs.Steps.{state_after, wait_for}
use Rattle.printer.specs.Calls.{Run, number_of, setup_of, plain_start, start_of, call_of}
use Rattle.printer.specs.Types.{Channels, Mark, Place, Printer, Record, Settings, StartSettings, Stops, TabStops, Waiting}

-- Records by their fields

abbrev record_of : Mark → (column row byte font style country advance rest : ℕ) → Record
record_of m column row byte font style country advance rest =
    record {
      mark = m;
      column = record { 0 = column };
      row = record { 0 = row };
      byte = byte;
      font = font;
      style = style;
      country = country;
      advance = units advance;
      rest = record { 0 = rest };
    }

-- a rest below 0
abbrev pub minus : ℕ → ℕ
minus n = 0x10000 - n

-- A record of each mark with another number in each field, and its bytes: 16, low byte first
unfoldable pub layouts : List (Record × List ℕ)
layouts = (
  record_of Mark.Tx 0x0102 0x0304 0x05 0x06 0x0708 0x09 0x0A0B 0x0C0D,
  0x54 ∷ 0x58 ∷ 0x02 ∷ 0x01 ∷ 0x04 ∷ 0x03 ∷ 0x05 ∷ 0x06 ∷ 0x08 ∷ 0x07 ∷ 0x09 ∷ 0x00 ∷ 0x0B ∷ 0x0A ∷ 0x0D ∷ 0x0C ∷ [],
) ∷ (
  record_of Mark.Im 0x1112 0x1314 0x15 0x16 0x1718 0x19 0x1A1B 0x1C1D,
  0x49 ∷ 0x4D ∷ 0x12 ∷ 0x11 ∷ 0x14 ∷ 0x13 ∷ 0x15 ∷ 0x16 ∷ 0x18 ∷ 0x17 ∷ 0x19 ∷ 0x00 ∷ 0x1B ∷ 0x1A ∷ 0x1D ∷ 0x1C ∷ [],
) ∷ (
  record_of Mark.Ln 0x2122 0x2324 0x25 0x26 0x2728 0x29 0x2A2B 0x2C2D,
  0x4C ∷ 0x4E ∷ 0x22 ∷ 0x21 ∷ 0x24 ∷ 0x23 ∷ 0x25 ∷ 0x26 ∷ 0x28 ∷ 0x27 ∷ 0x29 ∷ 0x00 ∷ 0x2B ∷ 0x2A ∷ 0x2D ∷ 0x2C ∷ [],
) ∷ (
  record_of Mark.Cl 0x3132 0x3334 0x35 0x36 0x3738 0x39 0x3A3B 0x3C3D,
  0x43 ∷ 0x4C ∷ 0x32 ∷ 0x31 ∷ 0x34 ∷ 0x33 ∷ 0x35 ∷ 0x36 ∷ 0x38 ∷ 0x37 ∷ 0x39 ∷ 0x00 ∷ 0x3B ∷ 0x3A ∷ 0x3D ∷ 0x3C ∷ [],
) ∷ (
  record_of Mark.No 0x4142 0x4344 0x45 0x46 0x4748 0x49 0x4A4B 0x4C4D,
  0x4E ∷ 0x4F ∷ 0x42 ∷ 0x41 ∷ 0x44 ∷ 0x43 ∷ 0x45 ∷ 0x46 ∷ 0x48 ∷ 0x47 ∷ 0x49 ∷ 0x00 ∷ 0x4B ∷ 0x4A ∷ 0x4D ∷ 0x4C ∷ [],
) ∷
    []

-- What comes of an input: its records, and the answers that are not 0, each where it comes

pub data Line : Type 0 where
  shows : Record → Line
  answer : (number : ℕ) → Line

abbrev pub tx : (column row byte font style country advance rest : ℕ) → Line
tx column row byte font style country advance rest = shows (record_of Mark.Tx column row byte font style country advance rest)

abbrev pub im : (column row byte font advance rest : ℕ) → Line
im column row byte font advance rest = shows (record_of Mark.Im column row byte font 0 0 advance rest)

abbrev pub ln : (row pages : ℕ) → Line
ln row pages = shows (record_of Mark.Ln 0 row pages 0 0 0 0 0)

abbrev pub cl : Line
cl = shows (record_of Mark.Cl 0 0 0 0 0 0 0 0)

abbrev pub no : (byte reason : ℕ) → Line
no byte reason = shows (record_of Mark.No 0 0 byte 0 reason 0 0 0)

abbrev answered : ℕ → List Line
answered n = pick (eqb n 0) [] (answer n ∷ [])

-- Parts of a state, as they are set: numbers; the stops of a list, or of a channel, with its count; what is waited for

pub data Part : Type 0 where
  across : Part
  down : Part
  left : Part
  right : Part
  page : Part
  skip : Part
  line : Part
  paper_width : Part
  spacing : Part
  country : Part
  outline : Part
  chosen : Part

pub data Change : Type 0 where
  sets : Part → ℕ → Change
  columns : (count : ℕ) → List ℕ → Change
  channel : (m count : ℕ) → List ℕ → Change
  gathered : (count : ℕ) → List ℕ → Change
  waits : Waiting → Change

abbrev with_settings : Printer → Settings → Printer
with_settings p s = record { settings = s; place = p.place; stops = p.stops; waiting = p.waiting }

abbrev with_place : Printer → Place → Printer
with_place p x = record { settings = p.settings; place = x; stops = p.stops; waiting = p.waiting }

abbrev with_stops : Printer → Stops → Printer
with_stops p t = record { settings = p.settings; place = p.place; stops = t; waiting = p.waiting }

abbrev with_paper_width : Settings → ℕ → Settings
with_paper_width s n =
    settings_of (record { resolution = s.setup.resolution; autofeed = s.setup.autofeed; width = units n }) s.width s.emphasis
    s.script s.face s.margins s.paper s.draft s.upperprints

abbrev with_part : Printer → Part → ℕ → Printer
with_part p across n = with_place p (at n (down_of p.place))
with_part p down n = with_place p (at (across_of p.place) n)
with_part p left n = let s = p.settings in with_settings p (with_margins s n (right_of s))
with_part p right n = let s = p.settings in with_settings p (with_margins s (left_of s) n)
with_part p page n = let s = p.settings in with_settings p (with_paper s n (skip_of s) (line_of s))
with_part p skip n = let s = p.settings in with_settings p (with_paper s (page_of s) n (line_of s))
with_part p line n = let s = p.settings in with_settings p (with_paper s (page_of s) (skip_of s) n)
with_part p paper_width n = with_settings p (with_paper_width p.settings n)
with_part p spacing n = let s = p.settings in with_settings p (with_width s (with_spacing s.width n))
with_part p country n = with_settings p (with_country p.settings n)
with_part p outline n = with_settings p (with_outline p.settings n)
with_part p chosen n = let t = p.stops in with_stops p (stops_of t.columns (choosing t.channels n) t.gathered)

abbrev pub held : (count : ℕ) → List ℕ → TabStops
held count l = record { stops = l ++ replicate (stop_room - length l) 0; count = count }

-- a channel's count, and its first places
abbrev with_places : Channels → (m count : ℕ) → List ℕ → Channels
with_places c m count l =
    record { stops = paste c.stops (16 * m) l (length l); counts = set c.counts m count; chosen = c.chosen }

abbrev pub with_change : Printer → Change → Printer
with_change p (sets part n) = with_part p part n
with_change p (columns n l) = let t = p.stops in with_stops p (stops_of (held n l) t.channels t.gathered)
with_change p (channel m n l) = let t = p.stops in with_stops p (stops_of t.columns (with_places t.channels m n l) t.gathered)
with_change p (gathered n l) = let t = p.stops in with_stops p (stops_of t.columns t.channels (held n l))
with_change p (waits w) = wait_for p w

unfoldable pub changed : Printer → List Change → Printer
changed p [] = p
changed p (c ∷ l) = changed (with_change p c) l

-- Inputs

-- a row: a start's settings; the input, the allowance and the room of each call; the lines; some parts of the state after the last byte
pub record InputRow : Type 0 where
  pub settings : StartSettings
  pub input : List ℕ
  pub allowance : ℕ
  pub room : ℕ
  pub lines : List Line
  pub parts : List Change

abbrev pub limited : (allowance room dots : ℕ) → (autofeed : Bool) → (width : ℕ) → List ℕ → List Line → InputRow
limited allowance room dots autofeed width input lines =
    record {
      settings = record { resolution = dots; autofeed = autofeed; width = width };
      input = input;
      allowance = allowance;
      room = room;
      lines = lines;
      parts = [];
    }

-- allowance and room enough
abbrev enough : ℕ
enough = 0xFFFF

abbrev pub from : (dots : ℕ) → (autofeed : Bool) → (width : ℕ) → List ℕ → List Line → InputRow
from dots autofeed width input lines = limited enough enough dots autofeed width input lines

-- at 300 dots, on the widest paper, automatic line feed off
abbrev pub plain : List ℕ → List Line → InputRow
plain input lines = from 300 false 28800 input lines

abbrev pub leaving : List Change → InputRow → InputRow
leaving parts r =
    record {
      settings = r.settings;
      input = r.input;
      allowance = r.allowance;
      room = r.room;
      lines = r.lines;
      parts = parts;
    }

-- Calls one after the other, each with the rest of the input, until there is none or one reads nothing; no more than so many

abbrev lines_of_run : Run → List Line
lines_of_run v = map shows v.records ++ answered (number_of v.answer)

unfoldable pub lines_of_calls : (most : ℕ) → Printer → List ℕ → (allowance room : ℕ) → List Line
lines_of_calls zero p input allowance room = []
lines_of_calls (suc most) p input allowance room =
    let v = call_of p input allowance room in
    lines_of_run v
    ++ pick (either (eqb v.read 0) (eqb (length (drop v.read input)) 0)) []
    (lines_of_calls most v.printer (drop v.read input) allowance room)

abbrev pub lines_of : InputRow → List Line
lines_of r =
    let s = start_of r.settings in
    answered (number_of s.answer) ++ lines_of_calls (suc (length r.input)) s.printer r.input r.allowance r.room

-- the state after the last byte
abbrev pub state_left : InputRow → Printer
state_left r = state_after (start_of r.settings).printer r.input

pub record InputsWorked (rows : List InputRow) : Type 0 where
  pub bytes : map (λ e. encoded e.0) layouts ≡ map (λ e. e.1) layouts
  pub lines : map lines_of rows ≡ map (λ r. r.lines) rows
  -- the parts named are as they are: to set them so changes nothing
  pub states : map (λ r. changed (state_left r) r.parts) rows ≡ map state_left rows

-- States

-- a row: whether power-on with these parts so is within the bounds
pub record StateRow : Type 0 where
  pub accepted : Bool
  pub parts : List Change

abbrev pub state : Bool → List Change → StateRow
state b parts = record { accepted = b; parts = parts }

abbrev pub StatesWorked : List StateRow → Type 0
StatesWorked rows = map (λ r. accepted (changed (power_on (setup_of plain_start)) r.parts)) rows ≡ map (λ r. r.accepted) rows
