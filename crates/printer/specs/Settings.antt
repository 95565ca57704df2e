-- The settings with one part changed, and short names for some of their parts.
use Rattle.std.specs.Prelude.{ℕ, ◌*◌, ◌-◌, Bool, get_or, take, drop, List}
use Rattle.printer.specs.Tools.{pick}
use Rattle.printer.specs.Units.{units}
use Rattle.printer.specs.Widths.{advance, column_width}
use Rattle.printer.specs.Types.{Channels, Emphasis, Face, Margins, Paper, Pitch, Place, Script, Settings, Setup, Stops, TabStops, Width}

-- Parts

abbrev pub left_of : Settings → ℕ
left_of s = s.margins.left.0

abbrev pub right_of : Settings → ℕ
right_of s = s.margins.right.0

abbrev pub page_of : Settings → ℕ
page_of s = s.paper.page.0

abbrev pub skip_of : Settings → ℕ
skip_of s = s.paper.skip.0

abbrev pub line_of : Settings → ℕ
line_of s = s.paper.line.0

-- the width of the paper
abbrev pub paper_width_of : Settings → ℕ
paper_width_of s = s.setup.width.0

-- the edge: page length less skip
abbrev pub edge_of : Settings → ℕ
edge_of s = page_of s - skip_of s

-- the advance, and the column width
abbrev pub advance_of : Settings → ℕ
advance_of s = advance s.width

abbrev pub column_of : Settings → ℕ
column_of s = column_width s.width

-- the units of one step of ESC \
abbrev pub relative_step : Settings → ℕ
relative_step s = pick s.draft 30 20

abbrev pub across_of : Place → ℕ
across_of x = x.across.0

abbrev pub down_of : Place → ℕ
down_of x = x.down.0

abbrev pub at : ℕ → ℕ → Place
at x y = record { across = units x; down = units y }

-- the stops that are held
abbrev pub held_in : TabStops → List ℕ
held_in l = take l.count l.stops

-- document 02, E6: a channel's count, which is 0 if it was never set; and its stops, in its sixteen places, one less than its count
abbrev pub channel_count : Channels → ℕ → ℕ
channel_count c m = get_or c.counts m 0

abbrev pub channel_stops : Channels → ℕ → TabStops
channel_stops c m = record { stops = take 16 (drop (16 * m) c.stops); count = channel_count c m - 1 }

-- those of the chosen one
abbrev pub chosen_stops : Stops → TabStops
chosen_stops t = channel_stops t.channels t.channels.chosen

-- Makers, since a record is not changed in a part

abbrev pub width_of : Pitch → (spacing : ℕ) → (wide once reduced proportional : Bool) → Width
width_of p n w o r l = record { pitch = p; spacing = n; wide = w; wideonce = o; reduced = r; proportional = l }

abbrev pub emphasis_of : (bold doublestrike italic underline : Bool) → Emphasis
emphasis_of b d i u = record { bold = b; doublestrike = d; italic = i; underline = u }

abbrev pub script_of : (up down : Bool) → Script
script_of up down = record { superscript = up; subscript = down }

abbrev pub face_of : (font country outline : ℕ) → (doubleheight italictable download : Bool) → Face
face_of f c o h i d = record { font = f; country = c; outline = o; doubleheight = h; italictable = i; download = d }

abbrev pub margins_of : (left right : ℕ) → Margins
margins_of l r = record { left = units l; right = units r }

abbrev pub paper_of : (page skip line : ℕ) → Paper
paper_of p s l = record { page = units p; skip = units s; line = units l }

abbrev pub settings_of : Setup → Width → Emphasis → Script → Face → Margins → Paper → (draft upperprints : Bool) → Settings
settings_of a b c d e f g h i = record { setup = a; width = b; emphasis = c; script = d; face = e; margins = f; paper = g; draft = h; upperprints = i }

-- Settings with one group changed

abbrev pub with_width : Settings → Width → Settings
with_width s x = settings_of s.setup x s.emphasis s.script s.face s.margins s.paper s.draft s.upperprints

abbrev pub with_emphasis : Settings → Emphasis → Settings
with_emphasis s x = settings_of s.setup s.width x s.script s.face s.margins s.paper s.draft s.upperprints

abbrev pub with_script : Settings → (up down : Bool) → Settings
with_script s up down = settings_of s.setup s.width s.emphasis (script_of up down) s.face s.margins s.paper s.draft s.upperprints

abbrev pub with_face : Settings → Face → Settings
with_face s x = settings_of s.setup s.width s.emphasis s.script x s.margins s.paper s.draft s.upperprints

abbrev pub with_margins : Settings → (left right : ℕ) → Settings
with_margins s left right = settings_of s.setup s.width s.emphasis s.script s.face (margins_of left right) s.paper s.draft s.upperprints

abbrev pub with_paper : Settings → (page skip line : ℕ) → Settings
with_paper s page skip line = settings_of s.setup s.width s.emphasis s.script s.face s.margins (paper_of page skip line) s.draft s.upperprints

abbrev pub with_draft : Settings → Bool → Settings
with_draft s x = settings_of s.setup s.width s.emphasis s.script s.face s.margins s.paper x s.upperprints

abbrev pub with_upper_prints : Settings → Bool → Settings
with_upper_prints s x = settings_of s.setup s.width s.emphasis s.script s.face s.margins s.paper s.draft x

-- A width with one part changed

abbrev pub with_pitch : Width → Pitch → Width
with_pitch w x = width_of x w.spacing w.wide w.wideonce w.reduced w.proportional

abbrev pub with_spacing : Width → ℕ → Width
with_spacing w x = width_of w.pitch x w.wide w.wideonce w.reduced w.proportional

abbrev pub with_doubling : Width → (wide once : Bool) → Width
with_doubling w wide once = width_of w.pitch w.spacing wide once w.reduced w.proportional

abbrev pub with_reduced : Width → Bool → Width
with_reduced w x = width_of w.pitch w.spacing w.wide w.wideonce x w.proportional

abbrev pub with_proportional : Width → Bool → Width
with_proportional w x = width_of w.pitch w.spacing w.wide w.wideonce w.reduced x

-- SO begins or ends
abbrev pub with_wide_once : Settings → Bool → Settings
with_wide_once s x = with_width s (with_doubling s.width s.width.wide x)

-- Settings with one part of a group changed

abbrev pub with_bold : Settings → Bool → Settings
with_bold s x = let e = s.emphasis in with_emphasis s (emphasis_of x e.doublestrike e.italic e.underline)

abbrev pub with_double_strike : Settings → Bool → Settings
with_double_strike s x = let e = s.emphasis in with_emphasis s (emphasis_of e.bold x e.italic e.underline)

abbrev pub with_italic : Settings → Bool → Settings
with_italic s x = let e = s.emphasis in with_emphasis s (emphasis_of e.bold e.doublestrike x e.underline)

abbrev pub with_underline : Settings → Bool → Settings
with_underline s x = let e = s.emphasis in with_emphasis s (emphasis_of e.bold e.doublestrike e.italic x)

abbrev pub with_font : Settings → ℕ → Settings
with_font s x = let f = s.face in with_face s (face_of x f.country f.outline f.doubleheight f.italictable f.download)

abbrev pub with_country : Settings → ℕ → Settings
with_country s x = let f = s.face in with_face s (face_of f.font x f.outline f.doubleheight f.italictable f.download)

abbrev pub with_outline : Settings → ℕ → Settings
with_outline s x = let f = s.face in with_face s (face_of f.font f.country x f.doubleheight f.italictable f.download)

abbrev pub with_double_height : Settings → Bool → Settings
with_double_height s x = let f = s.face in with_face s (face_of f.font f.country f.outline x f.italictable f.download)

abbrev pub with_italic_table : Settings → Bool → Settings
with_italic_table s x = let f = s.face in with_face s (face_of f.font f.country f.outline f.doubleheight x f.download)

abbrev pub with_download : Settings → Bool → Settings
with_download s x = let f = s.face in with_face s (face_of f.font f.country f.outline f.doubleheight f.italictable x)

-- ESC C: the page length, and no skip
abbrev pub with_page : Settings → ℕ → Settings
with_page s n = with_paper s n 0 (line_of s)

abbrev pub with_skip : Settings → ℕ → Settings
with_skip s n = with_paper s (page_of s) n (line_of s)

abbrev pub with_line : Settings → ℕ → Settings
with_line s n = with_paper s (page_of s) (skip_of s) n
