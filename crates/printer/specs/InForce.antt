-- The settings, margins and stops in force for the reckoning of demand 3: those that the last start and the commands done since have set.
use Rattle.std.specs.Prelude.{ℕ, suc, ◌*◌, ◌%◌, Bool, true, false, List, [], ◌∷◌, ◌++◌, leb, eqb, get_or, replicate}
use Rattle.std.proofs.Math.ListN as ListN
use Rattle.printer.specs.Tools.{pick, both, either, within, lookup}
use Rattle.printer.specs.Widths.{advance, column_width}
use Rattle.printer.specs.Codes.{two_code, second_code, image_mode_number}
use Rattle.printer.specs.Types.{ListOpening, ListPart, Mode, Opening, Page, Parameter, Pitch, Second, Side, StartSettings, Two, Width}

-- margins, page length, skip and line amount
pub record Measures : Type 0 where
  pub left : ℕ
  pub right : ℕ
  pub page : ℕ
  pub skip : ℕ
  pub line : ℕ

-- the stops in force, the vertical ones a list for each of the eight channels, and the channel chosen; those being gathered
pub record Lists : Type 0 where
  pub columns : List ℕ
  pub channels : List (List ℕ)
  pub chosen : ℕ
  pub gathered : List ℕ

-- what a start has set and ESC @ keeps: D across and down, and the width of the paper. (Automatic line feed shows in the events.)
pub record Kept : Type 0 where
  pub d_across : ℕ
  pub d_down : ℕ
  pub paper : ℕ

-- the image opened last: the units and the bytes of a column, and which byte of one comes next
pub record Image : Type 0 where
  pub step : ℕ
  pub bytes : ℕ
  pub next : ℕ

-- what the stop list opened last sets: the columns, a channel, or nothing
pub data ListSets : Type 0 where
  sets_columns : ListSets
  sets_channel : ℕ → ListSets
  sets_nothing : ListSets

-- what was opened last, by the bytes received
pub record Opened : Type 0 where
  pub image : Image
  pub list : ListSets

-- what is kept, what the width of letters and of relative moves depends on, whether 80h to 9Fh print, what was opened, the measures, the stops
pub record InForce : Type 0 where
  pub kept : Kept
  pub width : Width
  pub draft : Bool
  pub upper : Bool
  pub opened : Opened
  pub measures : Measures
  pub lists : Lists

-- the advance, and the column width
abbrev pub advance_in : InForce → ℕ
advance_in f = advance f.width

abbrev pub column_in : InForce → ℕ
column_in f = column_width f.width

-- its own maker, not the rules' changes of a width
abbrev width : Pitch → (spacing : ℕ) → (wide once reduced proportional : Bool) → Width
width pitch spacing wide once reduced proportional =
    record {
      pitch = pitch;
      spacing = spacing;
      wide = wide;
      wideonce = once;
      reduced = reduced;
      proportional = proportional;
    }

-- an image at the first byte of a column
abbrev image : (step bytes : ℕ) → Image
image step bytes = record { step = step; bytes = bytes; next = 1 }

abbrev pub no_image : Image
no_image = image 0 0

abbrev pub none_opened : Opened
none_opened = record { image = no_image; list = sets_nothing }

abbrev pub keeping : (d_across d_down paper : ℕ) → Kept
keeping d_across d_down paper = record { d_across = d_across; d_down = d_down; paper = paper }

-- of a start: those asked for, if it is accepted, by the paper's numbers again
abbrev pub kept_by : StartSettings → Kept
kept_by r =
    pick (both (either (eqb r.resolution 300) (eqb r.resolution 203)) (within 7200 28800 r.width))
    (pick (eqb r.resolution 203) (keeping 203 200 r.width) (keeping 300 300 r.width))
    (keeping 300 300 28800)

-- at a start, and after ESC @: the paper's numbers again, not the rules' power-on
abbrev pub at_start : Kept → InForce
at_start k =
    record {
      kept = k;
      width = width Pitch.Cpi10 0 false false false false;
      draft = false;
      upper = true;
      opened = none_opened;
      measures = record { left = 0; right = k.paper; page = 39600; skip = 0; line = 600 };
      lists =
          record {
            columns = 8 ∷ 16 ∷ 24 ∷ 32 ∷ 40 ∷ 48 ∷ 56 ∷ 64 ∷ 72 ∷ [];
            channels = replicate 8 [];
            chosen = 0;
            gathered = [];
          };
    }

abbrev in_force : InForce → Width → (draft upper : Bool) → Opened → Measures → Lists → InForce
in_force f w draft upper g m l =
    record { kept = f.kept; width = w; draft = draft; upper = upper; opened = g; measures = m; lists = l }

abbrev width_in_force : InForce → Width → InForce
width_in_force f w = in_force f w f.draft f.upper f.opened f.measures f.lists

abbrev measures_in_force : InForce → Measures → InForce
measures_in_force f m = in_force f f.width f.draft f.upper f.opened m f.lists

abbrev margins_in_force : InForce → ℕ → ℕ → InForce
margins_in_force f left right =
    let m = f.measures in
    measures_in_force f (record { left = left; right = right; page = m.page; skip = m.skip; line = m.line })

abbrev paper_in_force : InForce → ℕ → ℕ → ℕ → InForce
paper_in_force f page skip line =
    let m = f.measures in
    measures_in_force f (record { left = m.left; right = m.right; page = page; skip = skip; line = line })

-- ESC l, ESC Q
abbrev pub margin_in_force : InForce → Side → ℕ → InForce
margin_in_force f Side.Left n = margins_in_force f n f.measures.right
margin_in_force f Side.Right n = margins_in_force f f.measures.left n

-- ESC C: n lines of the amount in force, or n inches
abbrev pub page_in_force : InForce → Page → InForce
page_in_force f (Page.Lines n) = paper_in_force f (n * f.measures.line) 0 f.measures.line
page_in_force f (Page.Inches n) = paper_in_force f (3600 * n) 0 f.measures.line

abbrev lists_in_force : InForce → (columns : List ℕ) → (channels : List (List ℕ)) → (chosen : ℕ) → (gathered : List ℕ) → InForce
lists_in_force f columns channels chosen gathered =
    in_force f f.width f.draft f.upper f.opened f.measures
    (record { columns = columns; channels = channels; chosen = chosen; gathered = gathered })

-- the vertical stops of the channel chosen
abbrev pub lines_in : InForce → List ℕ
lines_in f = get_or f.lists.channels f.lists.chosen []

abbrev line_in_force : InForce → ℕ → InForce
line_in_force f n = paper_in_force f f.measures.page f.measures.skip n

abbrev pub skip_in_force : InForce → ℕ → InForce
skip_in_force f n = paper_in_force f f.measures.page n f.measures.line

abbrev wide_in_force : InForce → Bool → Bool → InForce
wide_in_force f wide once =
    let w = f.width in width_in_force f (width w.pitch w.spacing wide once w.reduced w.proportional)

abbrev pub reduced_in_force : InForce → Bool → InForce
reduced_in_force f x =
    let w = f.width in width_in_force f (width w.pitch w.spacing w.wide w.wideonce x w.proportional)

abbrev pitch_in_force : InForce → Pitch → InForce
pitch_in_force f x =
    let w = f.width in width_in_force f (width x w.spacing w.wide w.wideonce w.reduced w.proportional)

abbrev spacing_in_force : InForce → ℕ → InForce
spacing_in_force f x =
    let w = f.width in width_in_force f (width w.pitch x w.wide w.wideonce w.reduced w.proportional)

abbrev proportional_in_force : InForce → Bool → InForce
proportional_in_force f x =
    let w = f.width in width_in_force f (width w.pitch w.spacing w.wide w.wideonce w.reduced x)

abbrev draft_in_force : InForce → Bool → InForce
draft_in_force f x = in_force f f.width x f.upper f.opened f.measures f.lists

abbrev upper_in_force : InForce → Bool → InForce
upper_in_force f x = in_force f f.width f.draft x f.opened f.measures f.lists

abbrev pub opened_in_force : InForce → Opened → InForce
opened_in_force f x = in_force f f.width f.draft f.upper x f.measures f.lists

abbrev pub image_in_force : InForce → Image → InForce
image_in_force f x = opened_in_force f (record { image = x; list = f.opened.list })

-- SO begins or ends
abbrev pub once_in_force : InForce → Bool → InForce
once_in_force f x = wide_in_force f f.width.wide x

-- of the four arguments 0, 1, 30h, 31h the odd ones switch on
abbrev pub odd : ℕ → Bool
odd n = eqb (n % 2) 1

-- the bit of value k: what is left of n by 2 k reaches k
abbrev pub has_bit : ℕ → ℕ → Bool
has_bit k n = leb k (n % (2 * k))

abbrev pub mode_in_force : InForce → Mode → InForce
mode_in_force f Mode.EighthInchLine = line_in_force f 450
mode_in_force f Mode.SixthInchLine = line_in_force f 600
mode_in_force f Mode.NoSkip = skip_in_force f 0
mode_in_force f (Mode.Pitch p) = pitch_in_force f p
mode_in_force f (Mode.UpperPrints x) = upper_in_force f x

abbrev pub parameter_in_force : InForce → Parameter → ℕ → InForce
parameter_in_force f Parameter.Line180ths n = line_in_force f (20 * n)
parameter_in_force f Parameter.Line60ths n = line_in_force f (60 * n)
parameter_in_force f Parameter.Line360ths n = line_in_force f (10 * n)
parameter_in_force f Parameter.Spacing n = spacing_in_force f (n % 128)
parameter_in_force f Parameter.Proportional n = proportional_in_force f (odd n)
parameter_in_force f Parameter.Quality n = draft_in_force f (pick (odd n) false true)
parameter_in_force f Parameter.DoubleWidth n = wide_in_force f (odd n) (pick (odd n) f.width.wideonce false)
parameter_in_force f Parameter.Master n =
    width_in_force f
    (width (pick (has_bit 1 n) Pitch.Cpi12 Pitch.Cpi10) f.width.spacing (has_bit 32 n)
    (pick (has_bit 32 n) f.width.wideonce false) (has_bit 4 n) (has_bit 2 n))

-- ESC / m
abbrev pub chosen_in_force : InForce → ℕ → InForce
chosen_in_force f n = let l = f.lists in lists_in_force f l.columns l.channels n l.gathered

-- a list opened, by the bytes received: ESC D or ESC B by the second byte, ESC b by its channel
unfoldable pub list_of_code : ℕ → ListSets
list_of_code n = lookup ((0x44, sets_columns) ∷ (0x42, sets_channel 0) ∷ []) sets_nothing n

abbrev pub opened_sets : ListOpening → ListSets
opened_sets (ListOpening.Named t) = list_of_code (second_code (Second.List t))
opened_sets (ListOpening.Channel m) = pick (leb m 7) (sets_channel m) sets_nothing

-- nothing is gathered yet
abbrev pub open_list_in_force : InForce → ListOpening → InForce
open_list_in_force f o =
    let l = f.lists in
    lists_in_force (opened_in_force f (record { image = f.opened.image; list = opened_sets o })) l.columns l.channels l.chosen []

-- the stop that a list byte makes: a column, or lines of the amount in force, or none
abbrev pub own_stop : (line : ℕ) → ListSets → ℕ → List ℕ
own_stop line sets_columns b = b ∷ []
own_stop line (sets_channel m) b = b * line ∷ []
own_stop line sets_nothing b = []

abbrev pub end_list : InForce → ListSets → InForce
end_list f sets_columns = let l = f.lists in lists_in_force f l.gathered l.channels l.chosen []
end_list f (sets_channel m) = let l = f.lists in lists_in_force f l.columns (ListN.set l.channels m l.gathered) l.chosen []
end_list f sets_nothing = f

-- by what was opened, whatever the rules take the list for
abbrev pub list_in_force : InForce → ListPart → InForce
list_in_force f (ListPart.Byte b) =
    let l = f.lists in lists_in_force f l.columns l.channels l.chosen (l.gathered ++ own_stop f.measures.line f.opened.list b)
list_in_force f (ListPart.End b) = end_list f f.opened.list

-- an image opened, by the paper's numbers and the bytes received, not by the rules' tables: ESC K, L, Y, Z by the second byte
unfoldable pub image_of_code : ℕ → Image
image_of_code n = lookup ((0x4B, image 60 1) ∷ (0x4C, image 30 1) ∷ (0x59, image 30 1) ∷ (0x5A, image 15 1) ∷ []) no_image n

-- ESC * m, by the mode's number as it was received
unfoldable pub image_of_mode : ℕ → Image
image_of_mode n =
    lookup
    ((0, image 60 1) ∷ (1, image 30 1) ∷ (2, image 30 1) ∷ (3, image 15 1) ∷ (4, image 45 1) ∷ (6, image 40 1) ∷
    (32, image 60 3) ∷ (33, image 30 3) ∷ (38, image 40 3) ∷ (39, image 20 3) ∷ (40, image 10 3) ∷ [])
    no_image n

abbrev pub opened : Opening → Image
opened (Opening.Named d) = image_of_code (two_code (Two.Image d))
opened (Opening.Selected m) = image_of_mode (image_mode_number m)

-- the last byte of a column
abbrev pub last_byte : Image → Bool
last_byte g = eqb g.next g.bytes

-- a byte of it received, printed or passed over
abbrev pub byte_received : Image → Image
byte_received g = record { step = g.step; bytes = g.bytes; next = pick (last_byte g) 1 (suc g.next) }

-- the number that its record bears: 1, 2 or 3 where a column has three bytes
abbrev pub part_next : Image → ℕ
part_next g = pick (eqb g.bytes 3) g.next 0

-- the units that it moves by
abbrev pub move_next : Image → ℕ
move_next g = pick (last_byte g) g.step 0
