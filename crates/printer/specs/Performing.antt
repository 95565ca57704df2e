-- Document 01, 'Commands': what a command that is done leaves, and what it writes.
use Rattle.std.specs.Prelude.{ℕ, zero, suc, ◌+◌, ◌*◌, ◌-◌, ◌%◌, Bool, true, false, List, [], ◌∷◌, ◌++◌, ltb, eqb, get_or}
use Rattle.std.proofs.Math.ListN as ListN
use Rattle.std.proofs.Math.Seq.{paste}
use Rattle.printer.specs.Tools.{pick}
use Rattle.printer.specs.Widths.{image_step, image_bytes}
use Rattle.printer.specs.Settings.{left_of, right_of, line_of, edge_of, relative_step, advance_of, column_of, across_of, down_of, at, held_in, chosen_stops, with_width, with_reduced, with_wide_once, with_margins, with_page, with_skip}
use Rattle.printer.specs.PowerOn.{power_on_settings, no_stops, never_set, start_stops}
use Rattle.printer.specs.Escapes.{mode_row, parameter_row, look_settings}
use Rattle.printer.specs.Records.{letter_record, image_record, feed_record, clear_record, passed_record, new_top}
use Rattle.printer.specs.Codes.{shows}
use Rattle.printer.specs.Types.{Channels, Command, Control, ImageMode, Listing, ListPart, Move, Page, Place, Printer, Record, Settings, Side, Stops, TabStops, Target}

-- Events

-- What the rules do at a command, in order. The number is the pages turned (LF, ESC J) or that of the stop taken, counted from 1
-- (HT; VT, where 0 says that none is and another command is performed inside); else 0.
pub data Event : Type 0 where
  -- a command as received, done
  done : Command → (number : ℕ) → Event
  -- a command as received, passed over
  passed : Command → (reason : ℕ) → Event
  -- performed inside another command: LF, CR or FF
  inside : Control → (number : ℕ) → Event
  -- the LF of an automatic line
  automatic : (number : ℕ) → Event

-- Settings

-- ESC C: n lines, or n inches
abbrev pub page_units : Settings → Page → ℕ
page_units s (Page.Lines n) = n * line_of s
page_units s (Page.Inches n) = 3600 * n

-- ESC l, ESC Q: one margin set
abbrev pub with_margin : Settings → Side → ℕ → Settings
with_margin s Side.Left n = with_margins s n (right_of s)
with_margin s Side.Right n = with_margins s (left_of s) n

-- Places

-- LF: the line amount further down, or the top of a new page
abbrev pub line_fed : Settings → Place → (pages : ℕ) → Place
line_fed s x zero = at (left_of s) (down_of x + line_of s)
line_fed s x (suc n) = at (left_of s) 0

-- the n-th stop of a list, counted from 1
abbrev pub stop_at : List ℕ → ℕ → ℕ
stop_at l zero = 0
stop_at l (suc n) = get_or l n 0

-- HT: to the stop taken, in columns of the present width
abbrev pub tab_to : Settings → List ℕ → Place → (stop : ℕ) → Place
tab_to s l x zero = x
tab_to s l x (suc n) = at (left_of s + stop_at l (suc n) * column_of s) (down_of x)

-- VT: to the stop taken; across = left
abbrev pub vertical_to : Settings → List ℕ → Place → (stop : ℕ) → Place
vertical_to s l x zero = x
vertical_to s l x (suc n) = at (left_of s) (stop_at l (suc n))

-- a signed move of 16 bits, in steps
abbrev pub relative_move : ℕ → ℕ → ℕ → ℕ
relative_move x n step = pick (ltb n 0x8000) (x + n * step) (x - (0x10000 - n) * step)

-- ESC $: from the left margin; ESC \: from here
abbrev pub move_to : Settings → Place → Move → ℕ → ℕ
move_to s x Move.Absolute n = left_of s + 60 * n
move_to s x Move.Relative n = relative_move (across_of x) n (relative_step s)

-- document 02, E4: the place moves after the last byte of an image column
abbrev pub last_of_column : ImageMode → (k : ℕ) → Bool
last_of_column m k = eqb k (image_bytes m)

abbrev pub column_move : ImageMode → (k : ℕ) → ℕ
column_move m k = pick (last_of_column m k) (image_step m) 0

-- the first, second or third byte where a column has three, else 0
abbrev pub column_part : ImageMode → (k : ℕ) → ℕ
column_part m k = pick (eqb (image_bytes m) 1) 0 k

-- Stops

abbrev pub stops_of : (columns : TabStops) → Channels → (gathered : TabStops) → Stops
stops_of c v g = record { columns = c; channels = v; gathered = g }

abbrev pub gathering : Stops → TabStops → Stops
gathering t g = stops_of t.columns t.channels g

-- a list byte made a stop: a column, or n times the line amount, fixed then
abbrev pub stop_of : Settings → Target → ℕ → ℕ
stop_of s Target.Columns n = n
stop_of s (Target.Channel m) n = n * line_of s

abbrev pub one_more : TabStops → ℕ → TabStops
one_more l n = record { stops = ListN.set l.stops l.count n; count = l.count + 1 }

-- document 02, E6: the channel that VT uses; and one channel set, in its sixteen places: the others stay
abbrev pub choosing : Channels → ℕ → Channels
choosing c m = record { stops = c.stops; counts = c.counts; chosen = m }

abbrev pub with_channel : Channels → (m : ℕ) → TabStops → Channels
with_channel c m l =
    record {
      stops = paste c.stops (16 * m) l.stops 16;
      counts = ListN.set c.counts m (l.count + 1);
      chosen = c.chosen;
    }

-- the list replaces the old one at its end
abbrev pub list_ended : Stops → Target → Stops
list_ended t Target.Columns = stops_of t.gathered t.channels no_stops
list_ended t (Target.Channel m) = stops_of t.columns (with_channel t.channels m t.gathered) no_stops

-- a list that is dropped changes nothing
abbrev pub list_stops : Settings → Stops → Listing → ListPart → Stops
list_stops s t (Listing.Sets k) (ListPart.Byte b) = gathering t (one_more t.gathered (stop_of s k b))
list_stops s t (Listing.Sets k) (ListPart.End b) = list_ended t k
list_stops s t Listing.Dropped part = t

-- Records

-- what a command writes
pub data Writing : Type 0 where
  -- no record
  silent : Writing
  -- TX: the byte and its advance
  letter : (byte advance : ℕ) → Writing
  -- IM: the byte, which of three it is or 0, and the units of its column
  image_byte : (byte part advance : ℕ) → Writing
  -- LN: the pages turned, or 255 for a new top
  feed : (pages : ℕ) → Writing
  -- CL
  clear : Writing

-- its record, by the settings and the place before, and the place after
abbrev pub records_by : Settings → (before after : Place) → Writing → List Record
records_by s x y silent = []
records_by s x y (letter b n) = letter_record s x b n ∷ []
records_by s x y (image_byte b part n) = image_record s x b part n ∷ []
records_by s x y (feed pages) = feed_record s.setup.resolution (down_of y) pages ∷ []
records_by s x y clear = clear_record ∷ []

-- VT: LN if a stop is taken
abbrev pub vertical_feed : (stop : ℕ) → Writing
vertical_feed zero = silent
vertical_feed (suc n) = feed 0

-- What a command done leaves and writes

pub record Effect : Type 0 where
  pub settings : Settings
  pub place : Place
  pub stops : Stops
  pub writing : Writing

abbrev pub leaves : Settings → Place → Stops → Writing → Effect
leaves s x t w = record { settings = s; place = x; stops = t; writing = w }

-- a row for each control, whether received or performed inside another command; the stops stay. LF, FF, VT, DC4 end SO.
abbrev pub control_effect : Settings → Stops → Place → Control → ℕ → Effect
control_effect s t x Control.CarriageReturn n = leaves s (at (left_of s) (down_of x)) t silent
control_effect s t x Control.LineFeed n = leaves (with_wide_once s false) (line_fed s x n) t (feed n)
control_effect s t x Control.FormFeed n = leaves (with_wide_once s false) (at (left_of s) 0) t (feed 1)
control_effect s t x Control.HorizontalTab n = leaves s (tab_to s (held_in t.columns) x n) t silent
control_effect s t x Control.VerticalTab n =
    leaves (with_wide_once s false) (vertical_to s (held_in (chosen_stops t)) x n) t (vertical_feed n)
control_effect s t x Control.Backspace n = leaves s (at (across_of x - advance_of s) (down_of x)) t silent
control_effect s t x Control.ShiftOut n = leaves (with_wide_once s true) x t silent
control_effect s t x Control.ShiftIn n = leaves (with_width s (with_reduced s.width true)) x t silent
control_effect s t x Control.Dc2 n = leaves (with_width s (with_reduced s.width false)) x t silent
control_effect s t x Control.Dc4 n = leaves (with_wide_once s false) x t silent

-- the same, with the stops as they are for every control
abbrev pub effect_of_control : Settings → Stops → Place → Control → ℕ → Effect
effect_of_control s t x c n = let e = control_effect s t x c n in leaves e.settings e.place t e.writing

-- a row for each command, by the settings, the stops and the place before it
abbrev pub effect : Settings → Stops → Place → Command → ℕ → Effect
effect s t x (Command.Letter b) n =
    leaves s (at (across_of x + advance_of s) (down_of x)) t (letter b (advance_of s))
effect s t x (Command.Control c b) n = effect_of_control s t x c n
effect s t x (Command.Refused r) n = leaves s x t silent
effect s t x (Command.Silent k) n = leaves s x t silent
effect s t x Command.Reset n = leaves (power_on_settings s.setup) (at 0 0) (start_stops (never_set t.channels.stops)) (feed new_top)
effect s t x (Command.Mode c) n = leaves ((mode_row c).sets s 0) x t silent
effect s t x (Command.Parameter c a) n = leaves ((parameter_row c).sets s a) x t silent
effect s t x (Command.Look k) n = leaves (look_settings s k) x t silent
-- n lines of the amount in force are skipped
effect s t x (Command.Skip a) n = leaves (with_skip s (a * line_of s)) x t silent
-- the sum divided by the edge: the remainder down, the quotient pages
effect s t x (Command.Feed a) n = leaves s (at (across_of x) ((down_of x + 20 * a) % edge_of s)) t (feed n)
-- n columns; then across = left, and CL
effect s t x (Command.Margin side a) n =
    let s' = with_margin s side (a * column_of s) in leaves s' (at (left_of s') (down_of x)) t clear
-- then down 0, skip 0, LN 255
effect s t x (Command.Page g) n = leaves (with_page s (page_units s g)) (at (across_of x) 0) t (feed new_top)
effect s t x (Command.Move m a b) n = leaves s (at (move_to s x m (a + 256 * b)) (down_of x)) t silent
effect s t x (Command.OpenImage o a b) n = leaves s x t silent
effect s t x (Command.ImageByte m k b) n =
    leaves s (at (across_of x + column_move m k) (down_of x)) t (image_byte b (column_part m k) (image_step m))
effect s t x (Command.Channel a) n = leaves s x (stops_of t.columns (choosing t.channels a) t.gathered) silent
effect s t x (Command.OpenList o) n = leaves s x (gathering t no_stops) silent
effect s t x (Command.List k part) n = leaves s x (list_stops s t k part) silent

abbrev pub effect_at : Printer → Command → ℕ → Effect
effect_at p c n = effect p.settings p.stops p.place c n

abbrev pub control_at : Printer → Control → ℕ → Effect
control_at p c n = effect_of_control p.settings p.stops p.place c n

-- The printer

abbrev pub with_parts : Printer → Settings → Place → Stops → Printer
with_parts p s x t = record { settings = s; place = x; stops = t; waiting = p.waiting }

abbrev pub with_effect : Printer → Effect → Printer
with_effect p l = with_parts p l.settings l.place l.stops

abbrev pub perform : Printer → Event → Printer
perform p (done c n) = with_effect p (effect_at p c n)
perform p (passed c reason) = p
perform p (inside c n) = with_effect p (control_at p c n)
perform p (automatic n) = with_effect p (control_at p Control.LineFeed n)

unfoldable pub perform_all : Printer → List Event → Printer
perform_all p [] = p
perform_all p (e ∷ l) = perform_all (perform p e) l

abbrev pub records_at : Printer → Effect → List Record
records_at p l = records_by p.settings p.place l.place l.writing

abbrev pub records_of : Printer → Event → List Record
records_of p (done c n) = records_at p (effect_at p c n)
records_of p (passed c reason) = passed_record (shows c) reason ∷ []
records_of p (inside c n) = records_at p (control_at p c n)
records_of p (automatic n) = records_at p (control_at p Control.LineFeed n)

unfoldable pub records_all : Printer → List Event → List Record
records_all p [] = []
records_all p (e ∷ l) = records_of p e ++ records_all (perform p e) l
