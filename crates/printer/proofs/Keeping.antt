-- Events keep the bounds, and what they write can be written.
use Prim.Native.Nat.{ℕ, zero, suc, ◌+◌, ◌*◌, ◌-◌, ◌/◌, ◌%◌, ◌≤◌, ◌<◌}
use mathlib.Core.Path.{◌≡◌, refl}
use mathlib.Core.Bool.{Bool, true, false}
use mathlib.Core.List.{List, [], ◌∷◌}
use native.Mathlib.Omega.{arith}
use native.Mathlib.Nat.{mod-lt, div-add-mod', mul-le-mul_left}
use lib.Dec.{ltb, eqb}
use lib.ListN.{length, length-set}
use borrow.Author.Tests.{leb-true}
use Rattle.printer.specs.Tools.{pick, ◌up_to◌, Holds, Bytes}
use Rattle.printer.specs.Widths.{base, double_width, advance, image_step, image_bytes}
use Rattle.printer.specs.Settings.{left_of, right_of, edge_of, relative_step, across_of, down_of, at}
use Rattle.printer.specs.PowerOn.{no_stops}
use Rattle.printer.specs.Escapes.{mode_row, parameter_row, choice_row, look_takes, look_settings}
use Rattle.printer.specs.Codes.{spelt}
use Rattle.printer.specs.Performing.{Event, done, passed, inside, automatic, Writing, silent, letter, image_byte, feed, clear, control_effect, effect_at, last_of_column, column_move, column_part, gathering, stop_of, one_more, list_stops, relative_move, perform, perform_all}
use Rattle.printer.specs.Deciding.{relative_needs, control_needs}
use Rattle.printer.specs.Bounds.{settings_bounds, place_bounds, column_bounds, channel_bounds}
use Rattle.printer.specs.Accepted.{StopsTyped}
use Rattle.printer.specs.Types.{Choice, Command, Control, ImageMode, Listing, ListPart, Look, Mode, Move, Parameter, Pitch, Place, Printer, Settings, Side, Stops, Switch, TabStops, Target, Width}
use Rattle.printer.proofs.Choices.{pick_elim}
use Rattle.printer.proofs.Modes.{step_within}
use Rattle.printer.proofs.Accepting.{power_on_accepted}
use Rattle.printer.proofs.ChannelLaws.{set_places, channel_set, chosen_within, never-within}
use Rattle.printer.proofs.Legal.{Given, Done, Legal, LegalAll}

-- Widths

base_le : (p : Pitch) (reduced proportional : Bool) → base p reduced proportional ≤ 360
base_le Pitch.Cpi10 false false = omega arith
base_le Pitch.Cpi12 false false = omega arith
base_le Pitch.Cpi15 false false = omega arith
base_le Pitch.Cpi10 true false = omega arith
base_le Pitch.Cpi12 true false = omega arith
base_le Pitch.Cpi15 true false = omega arith
base_le p false true = omega arith
base_le p true true = omega arith

doubled_le : (on : Bool) (n m : ℕ) → n ≤ m → pick on 2 1 * n ≤ 2 * m
doubled_le true n m h = omega arith
doubled_le false n m h = omega arith

pub advance_le : (w : Width) → w.spacing ≤ 127 → advance w ≤ 5800
advance_le w h =
    doubled_le (double_width w) (base w.pitch w.reduced w.proportional + 20 * w.spacing) 2900
    (omega (arith, base_le w.pitch w.reduced w.proportional))

-- a byte moves the place by no more than its column's step, and bears no more than its number
move_le : (m : ImageMode) (k : ℕ) → column_move m k ≤ image_step m
move_le m k = pick_elim (λ (n : ℕ). n ≤ image_step m) (last_of_column m k) (λ _. omega arith) (λ _. omega arith)

part_le : (m : ImageMode) (k : ℕ) → k ≤ 255 → column_part m k ≤ 255
part_le m k h = pick_elim (λ (n : ℕ). n ≤ 255) (eqb (image_bytes m) 1) (λ _. omega arith) (λ _. h)

-- the pages that ESC J turns are few
pages_fit : (down n edge : ℕ) → down ≤ 79200 → n ≤ 255 → 3600 ≤ edge → (down + 20 * n) / edge ≤ 255
pages_fit down n edge h k m =
    omega (arith, div-add-mod' (down + 20 * n) edge, mul-le-mul_left ((down + 20 * n) / edge) m)

-- Settings and places

-- settings and place within their bounds, and the font a byte
abbrev pub WithinBounds : Settings → Place → Type 0
WithinBounds s x = Holds (settings_bounds s) × Holds (place_bounds s x) × (s.face.font ≤ 255)

keep-mode : (s : Settings) (x : Place) (c : Mode) → WithinBounds s x → WithinBounds ((mode_row c).sets s 0) x
keep-mode s x Mode.EighthInchLine f = omega arith
keep-mode s x Mode.SixthInchLine f = omega arith
keep-mode s x Mode.NoSkip f = omega arith
keep-mode s x (Mode.Pitch p) f = f
keep-mode s x (Mode.UpperPrints b) f = f

keep-parameter : (s : Settings) (x : Place) (c : Parameter) (n : ℕ) → n ≤ 255 → (parameter_row c).takes n ≡ true → WithinBounds s x
    → WithinBounds ((parameter_row c).sets s n) x
keep-parameter s x Parameter.Line180ths n b r f = omega arith
keep-parameter s x Parameter.Line60ths n b r f = let k : n ≤ 85 = leb-true _ _ r in omega arith
keep-parameter s x Parameter.Line360ths n b r f = omega arith
keep-parameter s x Parameter.Spacing n b r f = omega arith
keep-parameter s x Parameter.Proportional n b r f = f
keep-parameter s x Parameter.Quality n b r f = f
keep-parameter s x Parameter.DoubleWidth n b r f = f
keep-parameter s x Parameter.Master n b r f = f

keep-switch : (s : Settings) (x : Place) (w : Switch) → WithinBounds s x → WithinBounds (look_settings s (Look.Switch w)) x
keep-switch s x (Switch.Bold on) f = f
keep-switch s x (Switch.DoubleStrike on) f = f
keep-switch s x (Switch.Italic on) f = f
keep-switch s x Switch.NoScript f = f

keep-choice : (s : Settings) (x : Place) (c : Choice) (n : ℕ) → n ≤ 255 → (choice_row c).takes n ≡ true → WithinBounds s x
    → WithinBounds (look_settings s (Look.Choice c n)) x
keep-choice s x Choice.Script n b r f = f
keep-choice s x Choice.Underline n b r f = f
keep-choice s x Choice.DoubleHeight n b r f = f
keep-choice s x Choice.Outline n b r f = let k : n ≤ 3 = leb-true _ _ r in omega arith
keep-choice s x Choice.CodeTable n b r f = f
keep-choice s x Choice.Font n b r f = omega arith
keep-choice s x Choice.Country n b r f = rw r (omega arith)
keep-choice s x Choice.Download n b r f = f

-- what is written has bytes, advances and pages that fit their fields, and is within the right margin
abbrev pub Writable : Settings → Place → Writing → Type 0
Writable s x silent = Unit
Writable s x (letter b n) = (b ≤ 255) × (n ≤ 65535) × (across_of x + n ≤ right_of s)
Writable s x (image_byte b part n) = (b ≤ 255) × (n ≤ 65535) × (across_of x + n ≤ right_of s) × (part ≤ 255)
Writable s x (feed pages) = pages ≤ 255
Writable s x clear = Unit

module _ (s : Settings) (t : Stops) (x : Place) where
  pub keep-control : (c : Control) (n : ℕ) → Holds (control_needs s t x c n) → WithinBounds s x
      → WithinBounds (control_effect s t x c n).settings (control_effect s t x c n).place × Writable s x (control_effect s t x c n).writing
  keep-control Control.CarriageReturn n h f = (omega arith, tt)
  keep-control Control.LineFeed zero h f = (omega arith, omega arith)
  keep-control Control.LineFeed (suc m) h f = (omega arith, omega arith)
  keep-control Control.FormFeed n h f = (omega arith, omega arith)
  keep-control Control.HorizontalTab zero h f = (f, tt)
  keep-control Control.HorizontalTab (suc m) h f = (omega arith, tt)
  keep-control Control.VerticalTab zero h f = (f, tt)
  keep-control Control.VerticalTab (suc m) h f = (omega arith, omega arith)
  keep-control Control.Backspace n h f = (omega arith, tt)
  keep-control Control.ShiftOut n h f = (f, tt)
  keep-control Control.ShiftIn n h f = (f, tt)
  keep-control Control.Dc2 n h f = (f, tt)
  keep-control Control.Dc4 n h f = (f, tt)

keep-relative : (s : Settings) (x : Place) (n : ℕ) → Holds (relative_needs s x n) → WithinBounds s x
    → WithinBounds s (at (relative_move (across_of x) n (relative_step s)) (down_of x))
keep-relative s x n h f = go (ltb n 0x8000) h
  where
    go : (t : Bool)
        → Holds (pick t (◌up_to◌ (across_of x + n * relative_step s) (right_of s) ∷ []) (◌up_to◌ (left_of s + (0x10000 - n) * relative_step s) (across_of x) ∷ []))
        → WithinBounds s (at (pick t (across_of x + n * relative_step s) (across_of x - (0x10000 - n) * relative_step s)) (down_of x))
    go true k = omega arith
    go false k = omega arith

-- Stops

-- stops within their bounds, in arrays of their lengths
pub record StopsWithinBounds (t : Stops) : Type 0 where
  pub typed : StopsTyped t
  pub columns : Holds (column_bounds t)
  pub channels : Holds (channel_bounds t.channels)

module _ (s : Settings) (t : Stops) (f : StopsWithinBounds t) where
  -- another list is gathered
  keep-gathering : (l : TabStops) → length l.stops ≡ 32 → StopsWithinBounds (gathering t l)
  keep-gathering l e =
      record {
        typed = record { columns = f.typed.columns; channels = f.typed.channels; counts = f.typed.counts; gathered = e };
        columns = f.columns;
        channels = f.channels;
      }

  keep-list : (k : Listing) (part : ListPart) → Given s t (Command.List k part) → StopsWithinBounds (list_stops s t k part)
  keep-list (Listing.Sets k) (ListPart.Byte b) g = keep-gathering (one_more t.gathered (stop_of s k b)) (simp length-set f.typed.gathered)
  keep-list (Listing.Sets Target.Columns) (ListPart.End b) g =
      record {
        typed = record { columns = f.typed.gathered; channels = f.typed.channels; counts = f.typed.counts; gathered = refl };
        columns = (g.end Target.Columns b refl).1;
        channels = f.channels;
      }
  keep-list (Listing.Sets (Target.Channel m)) (ListPart.End b) g =
      let e = g.end (Target.Channel m) b refl in
      let y = f.typed in
      record {
        typed =
            record {
              columns = y.columns;
              channels = set_places t.channels m t.gathered y.channels y.gathered (omega arith);
              counts = simp length-set y.counts;
              gathered = refl;
            };
        columns = f.columns;
        channels = channel_set t.channels m t.gathered y.channels y.counts y.gathered (omega arith) e.1 f.channels;
      }
  keep-list Listing.Dropped part g = f

-- Events

pub record Bounded (p : Printer) : Type 0 where
  pub within : WithinBounds p.settings p.place
  pub stops : StopsWithinBounds p.stops

keep_look : (s : Settings) (x : Place) (k : Look) → Bytes (spelt (Command.Look k)) → look_takes k ≡ true → WithinBounds s x
    → WithinBounds (look_settings s k) x
keep_look s x (Look.Switch w) b r f = keep-switch s x w f
keep_look s x (Look.Choice c n) b r f = keep-choice s x c n b.1.0 r f

-- a command done leaves a state within the bounds, and writes what can be written
abbrev pub Keeps : Printer → Command → ℕ → Type 0
Keeps p c n = Bounded (perform p (done c n)) × Writable p.settings p.place (effect_at p c n).writing

pub keep_done : (p : Printer) (c : Command) (n : ℕ) → Done p c n → Bounded p → Keeps p c n
keep_done p (Command.Letter b) n h k =
    let m = h.needs in
    let a = advance_le p.settings.width (omega arith) in
    (record { within = omega arith; stops = k.stops }, (h.bytes.0, omega arith, m.0))
keep_done p (Command.Control c b) n h k =
    let m = keep-control p.settings p.stops p.place c n h.needs k.within in
    (record { within = m.0; stops = k.stops }, m.1)
keep_done p (Command.Refused r) n h k = (k, tt)
keep_done p (Command.Silent c) n h k = (k, tt)
keep_done p Command.Reset n h k =
    let a = power_on_accepted p.settings.setup (omega arith) (omega arith) in (
      record {
        within = omega arith;
        stops =
            record {
              typed = record { columns = refl; channels = k.stops.typed.channels; counts = refl; gathered = refl };
              columns = a.columns;
              channels = never-within p.stops.channels.stops;
            };
      },
      omega arith,
    )
keep_done p (Command.Mode c) n h k =
    (record { within = keep-mode p.settings p.place c k.within; stops = k.stops }, tt)
keep_done p (Command.Parameter c a) n h k =
    (record { within = keep-parameter p.settings p.place c a h.bytes.1.0 (h.range.parameter c a refl) k.within; stops = k.stops }, tt)
keep_done p (Command.Look c) n h k =
    (record { within = keep_look p.settings p.place c h.bytes (h.range.look c refl) k.within; stops = k.stops }, tt)
keep_done p (Command.Skip a) n h k = let m = h.needs in (record { within = omega arith; stops = k.stops }, tt)
keep_done p (Command.Feed a) n h k =
    let m : (down_of p.place + 20 * a) % edge_of p.settings < edge_of p.settings = mod-lt (down_of p.place + 20 * a) (omega arith) in
    let q = pages_fit (down_of p.place) a (edge_of p.settings) (omega arith) h.bytes.1.0 (omega arith) in
    let v = h.needs in
    (record { within = omega arith; stops = k.stops }, omega arith)
keep_done p (Command.Margin Side.Left a) n h k = let m = h.needs in (record { within = omega arith; stops = k.stops }, tt)
keep_done p (Command.Margin Side.Right a) n h k = let m = h.needs in (record { within = omega arith; stops = k.stops }, tt)
keep_done p (Command.Page g) n h k = let m = h.needs in (record { within = omega arith; stops = k.stops }, omega arith)
keep_done p (Command.Move Move.Absolute a b) n h k = let m = h.needs in (record { within = omega arith; stops = k.stops }, tt)
keep_done p (Command.Move Move.Relative a b) n h k =
    (record { within = keep-relative p.settings p.place (a + 256 * b) h.needs k.within; stops = k.stops }, tt)
keep_done p (Command.OpenImage o a b) n h k = (k, tt)
keep_done p (Command.ImageByte m i b) n h k =
    let v = h.needs in
    let a = (step_within m).1 in
    let u = move_le m i in
    (record { within = omega arith; stops = k.stops }, (h.bytes.0, omega arith, v.0, part_le m i (h.given.part m i b refl)))
keep_done p (Command.Channel a) n h k =
    let f = k.stops in
    let m = h.needs in (
      record {
        within = k.within;
        stops =
            record {
              typed = record { columns = f.typed.columns; channels = f.typed.channels; counts = f.typed.counts; gathered = f.typed.gathered };
              columns = f.columns;
              channels = chosen_within p.stops.channels a m.0 f.channels;
            };
      },
      tt,
    )
keep_done p (Command.OpenList o) n h k =
    (record { within = k.within; stops = keep-gathering p.settings p.stops k.stops no_stops refl }, tt)
keep_done p (Command.List t part) n h k =
    (record { within = k.within; stops = keep-list p.settings p.stops k.stops t part h.given }, tt)

pub keep : (p : Printer) (e : Event) → Legal p e → Bounded p → Bounded (perform p e)
keep p (done c n) h k = (keep_done p c n h k).0
keep p (passed c reason) h k = k
keep p (inside c n) h k =
    record { within = (keep-control p.settings p.stops p.place c n h k.within).0; stops = k.stops }
keep p (automatic n) h k =
    record { within = (keep-control p.settings p.stops p.place Control.LineFeed n h.0 k.within).0; stops = k.stops }

pub keep_all : (p : Printer) (l : List Event) → LegalAll p l → Bounded p → Bounded (perform_all p l)
unfolding perform_all
keep_all p [] h k = k
keep_all p (e ∷ l) h k = keep_all (perform p e) l h.1 (keep p e h.0 k)
