-- The reckoning of demand 3: the last two paragraphs of document 01's 'Commands'. It is fed the starts' settings and the commands done,
-- as received, with the number that goes with them, and keeps settings, margins, stops and places of its own. It reads no printer.
use Rattle.std.specs.Prelude.{ℕ, zero, suc, ◌+◌, ◌*◌, ◌-◌, true, false, List, [], ◌∷◌, ◌++◌, leb, get_or}
use Rattle.printer.specs.Tools.{pick}
use Rattle.printer.specs.Performing.{Event, done, passed, inside, automatic, Writing, silent, letter, image_byte, feed, clear}
use Rattle.printer.specs.Types.{Command, Control, Mark, Move, StartSettings}
use Rattle.printer.specs.InForce.{InForce, advance_in, column_in, kept_by, at_start, once_in_force, reduced_in_force, margin_in_force, page_in_force, skip_in_force, opened_in_force, image_in_force, opened, byte_received, part_next, move_next, mode_in_force, parameter_in_force, lines_in, chosen_in_force, open_list_in_force, list_in_force}

-- Places

-- What a command does to a place: nothing, sets it outright, or moves it forth or back.
pub data Motion : Type 0 where
  stays : Motion
  sets : ℕ → Motion
  moves : (forth back : ℕ) → Motion

-- A place along one axis: what the last setting command set, and the sums of the moves done since, forth and back.
pub record Axis : Type 0 where
  pub set : ℕ
  pub forth : ℕ
  pub back : ℕ

abbrev pub origin : Axis
origin = record { set = 0; forth = 0; back = 0 }

abbrev pub moved : Axis → Motion → Axis
moved a stays = a
moved a (sets n) = record { set = n; forth = 0; back = 0 }
moved a (moves n m) = record { set = a.set; forth = a.forth + n; back = a.back + m }

-- a motion that sets nothing
abbrev pub Moves : Motion → Type 0
Moves stays = Unit
Moves (sets n) = ⊥
Moves (moves n m) = Unit

-- the sums of the moves of a list, forth and back
unfoldable pub forth_of : List Motion → ℕ
forth_of [] = 0
forth_of (stays ∷ l) = forth_of l
forth_of (sets n ∷ l) = forth_of l
forth_of (moves n m ∷ l) = n + forth_of l

unfoldable pub back_of : List Motion → ℕ
back_of [] = 0
back_of (stays ∷ l) = back_of l
back_of (sets n ∷ l) = back_of l
back_of (moves n m ∷ l) = m + back_of l

-- the motions of a list of commands, one after the other
unfoldable pub moved_all : Axis → List Motion → Axis
moved_all a [] = a
moved_all a (m ∷ l) = moved_all (moved a m) l

-- the exact place
abbrev pub exact : Axis → ℕ
exact a = a.set + a.forth - a.back

-- Commands

-- what a command done does: what is in force after it, its motions across and down, and what it writes
pub record Change : Type 0 where
  pub force : InForce
  pub across : Motion
  pub down : Motion
  pub writing : Writing

abbrev change : InForce → Motion → Motion → Writing → Change
change f across down w = record { force = f; across = across; down = down; writing = w }

-- it only changes what is in force
abbrev in_force_only : InForce → Change
in_force_only f = change f stays stays silent

-- LF: the line amount, or the top of a new page
abbrev line_motion : InForce → (pages : ℕ) → Motion
line_motion f zero = moves f.measures.line 0
line_motion f (suc n) = sets 0

-- and then one page
abbrev line_feed : (pages : ℕ) → Writing
line_feed zero = feed 0
line_feed (suc n) = feed 1

-- HT and VT: to a stop, if one is taken
abbrev tab_motion : (ℕ → ℕ) → (stop : ℕ) → Motion
tab_motion place zero = stays
tab_motion place (suc n) = sets (place n)

-- VT: LN if a stop is taken, and then no page
abbrev tab_feed : (stop : ℕ) → Writing
tab_feed zero = silent
tab_feed (suc n) = feed 0

abbrev pub control_change : InForce → Control → ℕ → Change
control_change f Control.CarriageReturn n = change f (sets f.measures.left) stays silent
control_change f Control.LineFeed n = change (once_in_force f false) (sets f.measures.left) (line_motion f n) (line_feed n)
control_change f Control.FormFeed n = change (once_in_force f false) (sets f.measures.left) (sets 0) (feed 1)
control_change f Control.HorizontalTab n =
    change f (tab_motion (λ m. f.measures.left + get_or f.lists.columns m 0 * column_in f) n) stays silent
control_change f Control.VerticalTab n =
    change (once_in_force f false) (tab_motion (λ m. f.measures.left) n) (tab_motion (λ m. get_or (lines_in f) m 0) n) (tab_feed n)
control_change f Control.Backspace n = change f (moves 0 (advance_in f)) stays silent
control_change f Control.ShiftOut n = in_force_only (once_in_force f true)
control_change f Control.ShiftIn n = in_force_only (reduced_in_force f true)
control_change f Control.Dc2 n = in_force_only (reduced_in_force f false)
control_change f Control.Dc4 n = in_force_only (once_in_force f false)

-- ESC \: the two bytes as a signed number of steps, 1/180 inch or in draft 1/120 inch
abbrev pub relative_motion : InForce → ℕ → ℕ → Motion
relative_motion f a b =
    moves ((a + 256 * b) * pick f.draft 30 20) (pick (leb 128 b) 65536 0 * pick f.draft 30 20)

-- ESC $: from the left margin; ESC \: from here
abbrev pub move_motion : InForce → Move → ℕ → ℕ → Motion
move_motion f Move.Absolute a b = sets (f.measures.left + 60 * (a + 256 * b))
move_motion f Move.Relative a b = relative_motion f a b

-- a row for each command, by what is in force before it and the number that goes with it
abbrev pub change_of : InForce → Command → ℕ → Change
change_of f (Command.Letter b) n = change f (moves (advance_in f) 0) stays (letter b (advance_in f))
change_of f (Command.Control c b) n = control_change f c n
change_of f (Command.Refused r) n = in_force_only f
change_of f (Command.Silent k) n = in_force_only f
change_of f Command.Reset n = change (at_start f.kept) (sets 0) (sets 0) (feed 255)
change_of f (Command.Mode c) n = in_force_only (mode_in_force f c)
change_of f (Command.Parameter c a) n = in_force_only (parameter_in_force f c a)
change_of f (Command.Look k) n = in_force_only f
change_of f (Command.Skip a) n = in_force_only (skip_in_force f (a * f.measures.line))
-- less the pages times the edge, page length less skip
change_of f (Command.Feed a) n =
    change f stays (moves (20 * a + n * f.measures.skip) (n * f.measures.page)) (feed n)
change_of f (Command.Margin side a) n =
    let f' = margin_in_force f side (a * column_in f) in change f' (sets f'.measures.left) stays clear
change_of f (Command.Page g) n = change (page_in_force f g) stays (sets 0) (feed 255)
change_of f (Command.Move m a b) n = change f (move_motion f m a b) stays silent
change_of f (Command.OpenImage o a b) n = in_force_only (image_in_force f (opened o))
change_of f (Command.ImageByte m k b) n =
    change (image_in_force f (byte_received f.opened.image)) (moves (move_next f.opened.image) 0) stays (image_byte b (part_next f.opened.image) f.opened.image.step)
change_of f (Command.Channel a) n = in_force_only (chosen_in_force f a)
change_of f (Command.OpenList o) n = in_force_only (open_list_in_force f o)
change_of f (Command.List k part) n = in_force_only (list_in_force f part)

-- The reckoning

-- what is in force, and the two places
pub record Reckoning : Type 0 where
  pub force : InForce
  pub across : Axis
  pub down : Axis

-- a start, accepted or refused, begins it anew
abbrev pub begun : StartSettings → Reckoning
begun settings = record { force = at_start (kept_by settings); across = origin; down = origin }

-- what an event does; what is passed over changes nothing in force but what was opened: an image byte was received, or ESC b opened a list that
-- is dropped
abbrev pub change_by : InForce → Event → Change
change_by f (done c n) = change_of f c n
change_by f (passed c reason) = in_force_only (opened_in_force f (change_of f c 0).force.opened)
change_by f (inside c n) = control_change f c n
change_by f (automatic n) = control_change f Control.LineFeed n

abbrev pub across_motion : InForce → Event → Motion
across_motion f e = (change_by f e).across

abbrev pub down_motion : InForce → Event → Motion
down_motion f e = (change_by f e).down

abbrev pub reckon : Reckoning → Event → Reckoning
reckon r e =
    record {
      force = (change_by r.force e).force;
      across = moved r.across (across_motion r.force e);
      down = moved r.down (down_motion r.force e);
    }

-- What is printed

-- a letter or an image byte printed: its mark, byte, part (which of a column's three bytes, else 0) and advance (an image column's units), and
-- the reckoning at that moment
pub record Printed : Type 0 where
  pub mark : Mark
  pub byte : ℕ
  pub part : ℕ
  pub advance : ℕ
  pub here : Reckoning

abbrev pub printed_of : Mark → (byte part advance : ℕ) → Reckoning → Printed
printed_of m b part n r = record { mark = m; byte = b; part = part; advance = n; here = r }

abbrev pub printed_by : Reckoning → Writing → List Printed
printed_by r silent = []
printed_by r (letter b n) = printed_of Mark.Tx b 0 n r ∷ []
printed_by r (image_byte b part n) = printed_of Mark.Im b part n r ∷ []
printed_by r (feed pages) = []
printed_by r clear = []

abbrev pub printed_at : Reckoning → Event → List Printed
printed_at r e = printed_by r (change_by r.force e).writing

-- what happens over a list of calls: a start, with its settings, or an event
pub data Occurrence : Type 0 where
  start : StartSettings → Occurrence
  event : Event → Occurrence

abbrev pub reckon_next : Reckoning → Occurrence → Reckoning
reckon_next r (start settings) = begun settings
reckon_next r (event e) = reckon r e

abbrev pub printed_next : Reckoning → Occurrence → List Printed
printed_next r (start settings) = []
printed_next r (event e) = printed_at r e

unfoldable pub printed : Reckoning → List Occurrence → List Printed
printed r [] = []
printed r (o ∷ l) = printed_next r o ++ printed (reckon_next r o) l

-- the reckoning after all of them
unfoldable pub reckon_all : Reckoning → List Occurrence → Reckoning
reckon_all r [] = r
reckon_all r (o ∷ l) = reckon_all (reckon_next r o) l

-- The motions of occurrences along an axis, each by what is in force then; a start sets both places to 0

abbrev pub motion_of : (InForce → Event → Motion) → InForce → Occurrence → Motion
motion_of m f (start settings) = sets 0
motion_of m f (event e) = m f e

abbrev pub force_next : InForce → Occurrence → InForce
force_next f (start settings) = at_start (kept_by settings)
force_next f (event e) = (change_by f e).force

unfoldable pub motions : (InForce → Event → Motion) → InForce → List Occurrence → List Motion
motions m f [] = []
motions m f (o ∷ l) = motion_of m f o ∷ motions m (force_next f o) l
