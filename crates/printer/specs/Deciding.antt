-- Document 01, 'Widths' and 'Commands': which commands are done and which are passed over.
use Rattle.std.specs.Prelude.{ℕ, zero, suc, ◌+◌, ◌*◌, ◌-◌, ◌/◌, Bool, true, false, List, [], ◌∷◌, Option, None, Some, leb, ltb, eqb}
use Rattle.printer.specs.Tools.{pick, within, Order, ◌up_to◌, passes, holds}
use Rattle.printer.specs.Units.{units, shortest_page, longest_page}
use Rattle.printer.specs.Widths.{image_step}
use Rattle.printer.specs.Settings.{left_of, right_of, paper_width_of, page_of, line_of, edge_of, relative_step, advance_of, column_of, across_of, down_of, held_in, channel_count, chosen_stops}
use Rattle.printer.specs.Escapes.{parameter_row, look_takes}
use Rattle.printer.specs.Records.{unlisted, not_allowed, past_limits, does_not_fit, no_stop}
use Rattle.printer.specs.Performing.{Event, done, passed, inside, automatic, stop_at, stop_of, page_units, perform}
use Rattle.printer.specs.Types.{Command, Control, Listing, ListOpening, ListPart, Move, Page, Pitch, Place, Printer, Refused, Settings, Side, Stop, Stops, Target, Units, Width}

-- Range: reason 2; that of settings stands in their rows

-- ESC N n (1 to 127)
abbrev pub skip_range : ℕ → Bool
skip_range n = within 1 127 n

-- ESC C n (1 to 127); ESC C 0 n (1 to 22)
abbrev pub page_range : Page → Bool
page_range (Page.Lines n) = within 1 127 n
page_range (Page.Inches n) = within 1 22 n

-- What a command needs of the settings and the place at which it is done. Those of LF, HT, VT and ESC J, which are not decided by it, say what
-- holds of the number of pages turned or of the stop taken.

-- SI: not at 15 cpi
abbrev pub can_reduce : Pitch → Bool
can_reduce Pitch.Cpi10 = true
can_reduce Pitch.Cpi12 = true
can_reduce Pitch.Cpi15 = false

abbrev pub reduced_needs : Width → List Order
reduced_needs w = passes (can_reduce w.pitch) ∷ []

-- LF: the page turns just if the sum reaches the edge
abbrev pub line_needs : Settings → Place → ℕ → List Order
line_needs s x zero = (suc (down_of x + line_of s) up_to edge_of s) ∷ []
line_needs s x (suc pages) = (edge_of s up_to down_of x + line_of s) ∷ (pages up_to 0) ∷ []

-- HT: the stop is to the right of the place and within the right margin
abbrev pub tab_needs : Settings → Place → ℕ → List Order
tab_needs s x n =
    (suc (across_of x) up_to left_of s + n * column_of s) ∷
    (left_of s + n * column_of s up_to right_of s) ∷
    []

-- VT: the stop is before the edge
abbrev pub vertical_needs : Settings → List ℕ → ℕ → List Order
vertical_needs s l zero = []
vertical_needs s l (suc n) = (suc (stop_at l (suc n)) up_to edge_of s) ∷ []

abbrev pub control_needs : Settings → Stops → Place → Control → ℕ → List Order
control_needs s t x Control.CarriageReturn m = []
control_needs s t x Control.LineFeed m = line_needs s x m
control_needs s t x Control.FormFeed m = []
control_needs s t x Control.HorizontalTab m = tab_needs s x (stop_at (held_in t.columns) m)
control_needs s t x Control.VerticalTab m = vertical_needs s (held_in (chosen_stops t)) m
control_needs s t x Control.Backspace m = (left_of s + advance_of s up_to across_of x) ∷ []
control_needs s t x Control.ShiftOut m = []
control_needs s t x Control.ShiftIn m = reduced_needs s.width
control_needs s t x Control.Dc2 m = []
control_needs s t x Control.Dc4 m = []

-- ESC N: 3,600 remain, and the place is before the new edge
abbrev pub skip_needs : Settings → Place → ℕ → List Order
skip_needs s x n =
    (shortest_page + n * line_of s up_to page_of s) ∷ (suc (down_of x + n * line_of s) up_to page_of s) ∷ []

-- ESC l, ESC Q: left < right ≤ the paper's width
abbrev pub margin_needs : Settings → Side → ℕ → List Order
margin_needs s Side.Left n = (suc n up_to right_of s) ∷ []
margin_needs s Side.Right n = (suc (left_of s) up_to n) ∷ (n up_to paper_width_of s) ∷ []

-- ESC \: the move stays between the margins
abbrev pub relative_needs : Settings → Place → ℕ → List Order
relative_needs s x n =
    pick (ltb n 0x8000)
    ((across_of x + n * relative_step s up_to right_of s) ∷ [])
    ((left_of s + (0x10000 - n) * relative_step s up_to across_of x) ∷ [])

-- ESC $, ESC \
abbrev pub move_needs : Settings → Place → Move → ℕ → List Order
move_needs s x Move.Absolute n = (left_of s + 60 * n up_to right_of s) ∷ []
move_needs s x Move.Relative n = relative_needs s x n

-- document 02, E6: a channel is 0 to 7
abbrev pub channel_needs : ℕ → List Order
channel_needs m = (m up_to 7) ∷ []

abbrev pub open_needs : ListOpening → List Order
open_needs (ListOpening.Named t) = []
open_needs (ListOpening.Channel m) = channel_needs m

-- at most 32 horizontal and 16 vertical stops
abbrev pub most_stops : Target → ℕ
most_stops Target.Columns = 32
most_stops (Target.Channel m) = 16

-- a stop: within the right margin, or from 1 to the edge less 1
abbrev pub stop_place : Settings → Target → ℕ → List Order
stop_place s Target.Columns n = (left_of s + n * column_of s up_to right_of s) ∷ []
stop_place s (Target.Channel m) n = (1 up_to n) ∷ (suc n up_to edge_of s) ∷ []

abbrev pub stop_needs : Settings → Stops → Target → ℕ → List Order
stop_needs s t k b = (suc t.gathered.count up_to most_stops k) ∷ stop_place s k (stop_of s k b)

-- of a list that is dropped nothing is asked
abbrev pub list_needs : Settings → Stops → Listing → ListPart → List Order
list_needs s t (Listing.Sets k) (ListPart.Byte b) = stop_needs s t k b
list_needs s t (Listing.Sets k) (ListPart.End b) = []
list_needs s t Listing.Dropped part = []

abbrev pub needs : Settings → Stops → Place → Command → ℕ → List Order
needs s t x (Command.Letter b) number = (across_of x + advance_of s up_to right_of s) ∷ []
needs s t x (Command.Control c b) number = control_needs s t x c number
needs s t x (Command.Refused r) number = []
needs s t x (Command.Silent k) number = []
needs s t x Command.Reset number = []
needs s t x (Command.Mode c) number = []
needs s t x (Command.Parameter c n) number = []
needs s t x (Command.Look k) number = []
needs s t x (Command.Skip n) number = skip_needs s x n
needs s t x (Command.Feed n) number =
    (number up_to (down_of x + 20 * n) / edge_of s) ∷ ((down_of x + 20 * n) / edge_of s up_to number) ∷ []
needs s t x (Command.Margin side n) number = margin_needs s side (n * column_of s)
needs s t x (Command.Page g) number = (shortest_page up_to page_units s g) ∷ (page_units s g up_to longest_page) ∷ []
needs s t x (Command.Move m a b) number = move_needs s x m (a + 256 * b)
needs s t x (Command.OpenImage o a b) number = []
needs s t x (Command.ImageByte m k b) number = (across_of x + image_step m up_to right_of s) ∷ []
needs s t x (Command.Channel n) number = channel_needs n
needs s t x (Command.OpenList o) number = open_needs o
needs s t x (Command.List k part) number = list_needs s t k part

abbrev pub needs_at : Printer → Command → ℕ → List Order
needs_at p c number = needs p.settings p.stops p.place c number

-- Deciding

-- a command is done if it has what it needs, and else passed over
unfoldable pub attempt : Printer → Command → (reason : ℕ) → Event
attempt p c reason = pick (holds (needs_at p c 0)) (done c 0) (passed c reason)

-- range comes before geometry
unfoldable pub ranged : Bool → Command → Event → Event
ranged fits c e = pick fits e (passed c not_allowed)

-- the pages that an LF turns
abbrev pub pages_of_line : Printer → ℕ
pages_of_line p = pick (leb (edge_of p.settings) (down_of p.place + line_of p.settings)) 1 0

-- a letter is placed; or, at the left margin, passed over; or tried again after an automatic line
unfoldable pub letter_events : Printer → ℕ → List Event
letter_events p b =
    pick (holds (needs_at p (Command.Letter b) 0))
    (done (Command.Letter b) 0 ∷ [])
    (pick (eqb (across_of p.place) (left_of p.settings))
    (passed (Command.Letter b) does_not_fit ∷ [])
    (automatic (pages_of_line p) ∷ attempt (perform p (automatic (pages_of_line p))) (Command.Letter b) does_not_fit ∷ []))

-- after a CR: LF if automatic line feed is set
unfoldable pub feed_after_return : Printer → List Event
feed_after_return p = pick p.settings.setup.autofeed (inside Control.LineFeed (pages_of_line p) ∷ []) []

-- the stop of a number, at a place
abbrev pub numbered : (number : ℕ) → (place : Units) → Stop
numbered k n = record { number = k; place = n }

-- HT: the first stop above across and not past right, by its number; the list's first is the k-th
unfoldable pub column_from : Settings → Place → ℕ → List ℕ → Option Stop
column_from s x k [] = None
column_from s x k (n ∷ l) =
    pick (holds (tab_needs s x n)) (Some (numbered k (units (left_of s + n * column_of s)))) (column_from s x (suc k) l)

abbrev pub tab_event : Command → Option Stop → Event
tab_event c (Some s) = done c s.number
tab_event c None = passed c no_stop

-- VT: the first stop greater than down
unfoldable pub line_from : ℕ → ℕ → List ℕ → Option Stop
line_from down k [] = None
line_from down k (n ∷ l) = pick (ltb down n) (Some (numbered k (units n))) (line_from down (suc k) l)

-- VT performed as another command
abbrev pub form_inside : Command → List Event
form_inside c = done c 0 ∷ inside Control.FormFeed 0 ∷ []

-- go to the stop; if there is none, or it is at or past the edge: FF
abbrev pub vertical_events : Printer → Command → Option Stop → List Event
vertical_events p c (Some s) = pick (ltb s.place.0 (edge_of p.settings)) (done c s.number ∷ []) (form_inside c)
vertical_events p c None = form_inside c

-- the chosen channel never set: LF; its list empty: CR; else the search
unfoldable pub vertical : Printer → Command → List Event
vertical p c =
    pick (eqb (channel_count p.stops.channels p.stops.channels.chosen) 0)
    (done c 0 ∷ inside Control.LineFeed (pages_of_line p) ∷ [])
    (pick (eqb (chosen_stops p.stops).count 0)
    (done c 0 ∷ inside Control.CarriageReturn 0 ∷ feed_after_return (perform (perform p (done c 0)) (inside Control.CarriageReturn 0)))
    (vertical_events p c (line_from (down_of p.place) 1 (held_in (chosen_stops p.stops)))))

abbrev pub control_events : Printer → Control → ℕ → List Event
control_events p Control.CarriageReturn b =
    done (Command.Control Control.CarriageReturn b) 0
    ∷ feed_after_return (perform p (done (Command.Control Control.CarriageReturn b) 0))
control_events p Control.LineFeed b = done (Command.Control Control.LineFeed b) (pages_of_line p) ∷ []
control_events p Control.FormFeed b = done (Command.Control Control.FormFeed b) 0 ∷ []
control_events p Control.HorizontalTab b =
    tab_event (Command.Control Control.HorizontalTab b)
    (column_from p.settings p.place 1 (held_in p.stops.columns))
    ∷ []
control_events p Control.VerticalTab b = vertical p (Command.Control Control.VerticalTab b)
control_events p Control.Backspace b = attempt p (Command.Control Control.Backspace b) past_limits ∷ []
control_events p Control.ShiftOut b = done (Command.Control Control.ShiftOut b) 0 ∷ []
control_events p Control.ShiftIn b = attempt p (Command.Control Control.ShiftIn b) not_allowed ∷ []
control_events p Control.Dc2 b = done (Command.Control Control.Dc2 b) 0 ∷ []
control_events p Control.Dc4 b = done (Command.Control Control.Dc4 b) 0 ∷ []

-- why it is always passed over
abbrev pub reason_of : Refused → ℕ
reason_of (Refused.Byte b) = unlisted
reason_of (Refused.Escape b) = unlisted
reason_of (Refused.Advanced b) = unlisted
reason_of (Refused.CommandMode n) = not_allowed
reason_of (Refused.ImageMode n) = not_allowed

-- what the rules do at a command
abbrev pub decide : Printer → Command → List Event
decide p (Command.Letter b) = letter_events p b
decide p (Command.Control c b) = control_events p c b
decide p (Command.Refused r) = passed (Command.Refused r) (reason_of r) ∷ []
decide p (Command.Silent k) = done (Command.Silent k) 0 ∷ []
decide p Command.Reset = done Command.Reset 0 ∷ []
decide p (Command.Mode c) = done (Command.Mode c) 0 ∷ []
decide p (Command.Parameter c n) =
    ranged ((parameter_row c).takes n) (Command.Parameter c n) (done (Command.Parameter c n) 0) ∷ []
decide p (Command.Look k) = ranged (look_takes k) (Command.Look k) (done (Command.Look k) 0) ∷ []
decide p (Command.Skip n) = ranged (skip_range n) (Command.Skip n) (attempt p (Command.Skip n) past_limits) ∷ []
decide p (Command.Feed n) =
    done (Command.Feed n) ((down_of p.place + 20 * n) / edge_of p.settings) ∷ []
decide p (Command.Margin side n) = attempt p (Command.Margin side n) past_limits ∷ []
decide p (Command.Page g) = ranged (page_range g) (Command.Page g) (attempt p (Command.Page g) past_limits) ∷ []
decide p (Command.Move m a b) = attempt p (Command.Move m a b) past_limits ∷ []
decide p (Command.OpenImage o a b) = done (Command.OpenImage o a b) 0 ∷ []
decide p (Command.ImageByte m k b) = attempt p (Command.ImageByte m k b) does_not_fit ∷ []
decide p (Command.Channel n) = attempt p (Command.Channel n) not_allowed ∷ []
decide p (Command.OpenList o) = attempt p (Command.OpenList o) not_allowed ∷ []
decide p (Command.List k part) = attempt p (Command.List k part) past_limits ∷ []
