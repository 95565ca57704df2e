-- The reckoning follows the rules: after each event its settings, margins and stops are the state's, and its exact places the state's places.
use Prim.Native.Nat.{ℕ, zero, suc, ◌+◌, ◌*◌, ◌-◌, ◌/◌, ◌%◌, ◌≤◌, ◌<◌}
use mathlib.Core.Path.{◌≡◌, refl, sym, ap}
use mathlib.Core.Bool.{Bool, true, false}
use mathlib.Core.List.{[], ◌∷◌, append-nil}
use mathlib.Core.Logic.{◌⊎◌, inl, inr, ⊎_elim}
use native.Mathlib.Omega.{arith}
use native.Mathlib.Nat.{div-add-mod'}
use lib.Dec.{leb, ltb, eqb}
use borrow.Author.Tests.{leb-true, leb-false, ltb-true, ltb-false, le-leb, lt-leb, eq-eqb, ne_eqb}
use Rattle.printer.specs.Tools.{pick, bit, within, ◌up_to◌, Holds}
use Rattle.printer.specs.Widths.{image_bytes}
use Rattle.printer.specs.Settings.{left_of, right_of, page_of, skip_of, line_of, edge_of, relative_step, across_of, down_of, held_in}
use Rattle.printer.specs.Escapes.{switches, switched_on, mode_row, parameter_row, look_settings}
use Rattle.printer.specs.Performing.{stop_of, stops_of, choosing, relative_move, column_part, list_stops, Effect, effect_of_control, effect_at}
use Rattle.printer.specs.Deciding.{most_stops, control_needs, relative_needs, list_needs}
use Rattle.printer.specs.Accepted.{StopsTyped}
use Rattle.printer.specs.InForce.{Opened, InForce, odd, has_bit, mode_in_force, parameter_in_force, chosen_in_force, own_stop, list_in_force}
use Rattle.printer.specs.Reckoning.{moves, Axis, moved, relative_motion, Change, control_change, change_of, Reckoning}
use Rattle.printer.specs.Types.{Command, Control, ImageMode, Listing, ListPart, Look, Mode, Move, Page, Parameter, Place, Printer, Settings, Side, Stops, Target}
use Rattle.printer.proofs.Choices.{either_elim, within_fact}
use Rattle.printer.proofs.StopLists.{one_more_lem}
use Rattle.printer.proofs.ChannelLaws.{list_of, lists_set, lists_chosen, lists_never}
use Rattle.printer.proofs.Legal.{force_of, set_by, InStep, Given, Done}
use Rattle.printer.proofs.Keeping.{WithinBounds, Bounded}

-- the reckoning at a state, with what was opened and two places of its own
abbrev pub from : Printer → Opened → Axis → Axis → Reckoning
from p g k j =
    record {
      force = force_of p.settings p.stops g;
      across = k;
      down = j;
    }

-- What is in force

-- of 0, 1, 30h, 31h the odd ones switch on

bit_of : (n : ℕ) → n ≤ 1 → (n ≡ 0) ⊎ (n ≡ 1)
bit_of zero h = inl refl
bit_of (suc zero) h = inr refl
bit_of (suc (suc n)) h = absurd (omega arith)

switched_odd : (n : ℕ) → switches n ≡ true → switched_on n ≡ odd n
switched_odd n e =
    either_elim _ (leb n 1) (within 0x30 0x31 n) e
    (λ h. ⊎_elim (λ k. rw k) (λ k. rw k) (bit_of n (leb-true _ _ h)))
    (λ h. let w = within_fact 0x30 0x31 n h in
    ⊎_elim (λ k. at 0x30 (omega arith) refl) (λ k. at 0x31 (omega arith) refl) (bit_of (n - 0x30) (omega arith)))
  where
    at : (m : ℕ) → n ≡ m → switched_on m ≡ odd m → switched_on n ≡ odd n
    at m k h = rw k h

-- the reckoning's test of a bit is the rules'
own_bit : (k n : ℕ) → (k ≤ n % (2 * k) → n / k % 2 ≡ 1) → (n % (2 * k) < k → n / k % 2 ≡ 1 → ⊥) → has_bit k n ≡ bit n k
own_bit k n f g = go (leb k (n % (2 * k))) refl
  where
    go : (t : Bool) → leb k (n % (2 * k)) ≡ t → t ≡ eqb (n / k % 2) 1
    go true e = sym (eq-eqb (n / k % 2) 1 (f (leb-true _ _ e)))
    go false e = sym (ne_eqb (n / k % 2) 1 (g (leb-false _ _ e)))

-- what is in force is what settings and stops say
abbrev pub Agrees : InForce → Settings → Stops → Type 0
Agrees f s t = f ≡ force_of s t f.opened

module _ (s : Settings) (t : Stops) (g : Opened) where
  abbrev pub here : InForce
  here = force_of s t g

  agree-mode : (c : Mode) → Agrees (mode_in_force here c) ((mode_row c).sets s 0) t
  agree-mode Mode.EighthInchLine = refl
  agree-mode Mode.SixthInchLine = refl
  agree-mode Mode.NoSkip = refl
  agree-mode (Mode.Pitch p) = refl
  agree-mode (Mode.UpperPrints x) = refl

  agree-parameter : (c : Parameter) (m : ℕ) → (parameter_row c).takes m ≡ true → Agrees (parameter_in_force here c m) ((parameter_row c).sets s m) t
  agree-parameter Parameter.Line180ths m r = refl
  agree-parameter Parameter.Line60ths m r = refl
  agree-parameter Parameter.Line360ths m r = refl
  agree-parameter Parameter.Spacing m r = refl
  agree-parameter Parameter.Proportional m r = rw (switched_odd m r)
  agree-parameter Parameter.Quality m r = rw (switched_odd m r)
  agree-parameter Parameter.DoubleWidth m r = rw (switched_odd m r)
  agree-parameter Parameter.Master m r =
      rw (own_bit 1 m (omega arith) (omega arith), own_bit 2 m (omega arith) (omega arith), own_bit 4 m (omega arith) (omega arith), own_bit 32 m (omega arith) (omega arith))

  -- what only shows on a record is not in force
  agree-look : (k : Look) → Agrees here (look_settings s k) t
  agree-look (Look.Switch w) = refl
  agree-look (Look.Choice c m) = refl

  most_fit : (k : Target) → most_stops k ≤ 32
  most_fit Target.Columns = omega arith
  most_fit (Target.Channel m) = omega arith

  agree-channel : (m : ℕ) → Agrees (chosen_in_force here m) s (stops_of t.columns (choosing t.channels m) t.gathered)
  agree-channel m = rw (lists_chosen t.channels m)

  own-stop : (k : Target) (b : ℕ) → own_stop (line_of s) (set_by (Listing.Sets k)) b ≡ stop_of s k b ∷ []
  own-stop Target.Columns b = refl
  own-stop (Target.Channel m) b = refl

  agree-list : (k : Listing) (part : ListPart) → g.list ≡ set_by k → StopsTyped t → Given s t (Command.List k part) → Holds (list_needs s t k part)
      → Agrees (list_in_force here part) s (list_stops s t k part)
  agree-list (Listing.Sets k) (ListPart.Byte b) e y v h =
      rw (e, own-stop k b, one_more_lem t.gathered.count t.gathered.stops (stop_of s k b) (omega (arith, y.gathered, most_fit k)))
  agree-list (Listing.Sets Target.Columns) (ListPart.End b) e y v h = rw e
  agree-list (Listing.Sets (Target.Channel m)) (ListPart.End b) e y v h =
      let u = v.end (Target.Channel m) b refl in
      rw (e, lists_set t.channels m t.gathered y.channels y.counts y.gathered (omega arith) u.1)
  agree-list Listing.Dropped (ListPart.Byte b) e y v h = rw (e, append-nil (held_in t.gathered))
  agree-list Listing.Dropped (ListPart.End b) e y v h = rw e

-- The reckoned places, and what is in force, after a command

-- the reckoned place is this number
abbrev pub At : Axis → ℕ → Type 0
At k n = k.set + k.forth ≡ n + k.back

-- a command's row in the reckoning agrees with its row in the rules
pub record Follows (f : Change) (l : Effect) (k j : Axis) : Type 0 where
  pub force : Agrees f.force l.settings l.stops
  pub across : At (moved k f.across) (across_of l.place)
  pub down : At (moved j f.down) (down_of l.place)
  pub writing : f.writing ≡ l.writing

follows : {f : Change} {l : Effect} {k j : Axis} → Agrees f.force l.settings l.stops → At (moved k f.across) (across_of l.place)
    → At (moved j f.down) (down_of l.place) → f.writing ≡ l.writing → Follows f l k j
follows e a d w = record { force = e; across = a; down = d; writing = w }

module _ (s : Settings) (t : Stops) (x : Place) (g : Opened) (q : t.channels.chosen ≤ 7) where
  pub follow-control : (c : Control) (m : ℕ) (k j : Axis) → Holds (control_needs s t x c m) → At k (across_of x) → At j (down_of x)
      → Follows (control_change (force_of s t g) c m) (effect_of_control s t x c m) k j
  follow-control Control.CarriageReturn m k j h a d = follows refl refl d refl
  follow-control Control.LineFeed zero k j h a d = follows refl refl (omega arith) refl
  follow-control Control.LineFeed (suc m) k j h a d = let e : m ≡ 0 = omega arith in follows refl refl refl (rw e)
  follow-control Control.FormFeed m k j h a d = follows refl refl refl refl
  follow-control Control.HorizontalTab zero k j h a d = follows refl a d refl
  follow-control Control.HorizontalTab (suc m) k j h a d = follows refl refl d refl
  follow-control Control.VerticalTab zero k j h a d = follows refl a d refl
  follow-control Control.VerticalTab (suc m) k j h a d = follows refl refl (rw (list_of t.channels t.channels.chosen (omega arith))) refl
  follow-control Control.Backspace m k j h a d = follows refl (omega arith) d refl
  follow-control Control.ShiftOut m k j h a d = follows refl a d refl
  follow-control Control.ShiftIn m k j h a d = follows refl a d refl
  follow-control Control.Dc2 m k j h a d = follows refl a d refl
  follow-control Control.Dc4 m k j h a d = follows refl a d refl

-- ESC J: less the pages times the edge
feed_down : (s : Settings) (x : Place) (v m : ℕ) (j : Axis)
    → Holds (◌up_to◌ m ((down_of x + 20 * v) / edge_of s) ∷ ◌up_to◌ ((down_of x + 20 * v) / edge_of s) m ∷ []) → WithinBounds s x → At j (down_of x)
    → At (moved j (moves (20 * v + m * skip_of s) (m * page_of s))) ((down_of x + 20 * v) % edge_of s)
feed_down s x v m j h f d =
    let e : m ≡ (down_of x + 20 * v) / edge_of s = omega arith in
    let g : edge_of s + skip_of s ≡ page_of s = omega arith in
    let i : m * edge_of s + m * skip_of s ≡ m * page_of s = omega (arith, ap (λ (u : ℕ). m * u) g) in
    omega (arith, rw (← e) at (div-add-mod' (down_of x + 20 * v) (edge_of s)))

-- ESC \: the signed number of steps, forth by the two bytes and back by 65,536 if it is negative
module _ (k : Axis) (x n m step : ℕ) (e : At k x) where
  forth-back : n + m ≡ 0x10000 → m * step ≤ x
      → At (record { set = k.set; forth = k.forth + n * step; back = k.back + 0x10000 * step }) (x - m * step)
  forth-back h l = omega (arith, ap (λ (v : ℕ). v * step) h)

follow-relative : (s : Settings) (t : Stops) (x : Place) (g : Opened) (a b : ℕ) (k : Axis) → a ≤ 255 → b ≤ 255 → Holds (relative_needs s x (a + 256 * b))
    → At k (across_of x) → At (moved k (relative_motion (force_of s t g) a b)) (relative_move (across_of x) (a + 256 * b) (relative_step s))
follow-relative s t x g a b k ha hb h e = go (ltb (a + 256 * b) 0x8000) refl h
  where
    go : (u : Bool) → ltb (a + 256 * b) 0x8000 ≡ u
        → Holds (pick u (◌up_to◌ (across_of x + (a + 256 * b) * relative_step s) (right_of s) ∷ []) (◌up_to◌ (left_of s + (0x10000 - (a + 256 * b)) * relative_step s) (across_of x) ∷ []))
        → At (moved k (relative_motion (force_of s t g) a b))
        (pick u (across_of x + (a + 256 * b) * relative_step s) (across_of x - (0x10000 - (a + 256 * b)) * relative_step s))
    go true u l = let v : a + 256 * b < 0x8000 = ltb-true _ _ u in rw (lt-leb 128 b (omega arith)) (omega arith)
    go false u l =
        let v : 0x8000 ≤ a + 256 * b = ltb-false _ _ u in
        rw (le-leb 128 b (omega arith))
        (forth-back k (across_of x) (a + 256 * b) (0x10000 - (a + 256 * b)) (relative_step s) e (omega arith) (omega arith))

-- the reckoning's part of an image byte is the rules'
own_part : (m : ImageMode) (k : ℕ) → pick (eqb (image_bytes m) 3) k 0 ≡ column_part m k
own_part ImageMode.Single k = refl
own_part ImageMode.Double k = refl
own_part ImageMode.DoubleSpeed k = refl
own_part ImageMode.Quadruple k = refl
own_part ImageMode.Crt80 k = refl
own_part ImageMode.Crt90 k = refl
own_part ImageMode.Single24 k = refl
own_part ImageMode.Double24 k = refl
own_part ImageMode.Crt24 k = refl
own_part ImageMode.Triple24 k = refl
own_part ImageMode.Hex24 k = refl

pub follow : (p : Printer) (g : Opened) (c : Command) (m : ℕ) (k j : Axis) → Done p c m → InStep c g → Bounded p
    → At k (across_of p.place) → At j (down_of p.place)
    → Follows (change_of (force_of p.settings p.stops g) c m) (effect_at p c m) k j
follow p g (Command.Letter b) m k j h i f a d = follows refl (omega arith) d refl
follow p g (Command.Control c b) m k j h i f a d = follow-control p.settings p.stops p.place g f.stops.channels.0 c m k j h.needs a d
follow p g (Command.Refused r) m k j h i f a d = follows refl a d refl
follow p g (Command.Silent c) m k j h i f a d = follows refl a d refl
follow p g Command.Reset m k j h i f a d = follows (rw (lists_never p.stops.channels.stops)) refl refl refl
follow p g (Command.Mode c) m k j h i f a d = follows (agree-mode p.settings p.stops g c) a d refl
follow p g (Command.Parameter c v) m k j h i f a d =
    follows (agree-parameter p.settings p.stops g c v (h.range.parameter c v refl)) a d refl
follow p g (Command.Look c) m k j h i f a d = follows (agree-look p.settings p.stops g c) a d refl
follow p g (Command.Skip v) m k j h i f a d = follows refl a d refl
follow p g (Command.Feed v) m k j h i f a d = follows refl a (feed_down p.settings p.place v m j h.needs f.within d) refl
follow p g (Command.Margin Side.Left v) m k j h i f a d = follows refl refl d refl
follow p g (Command.Margin Side.Right v) m k j h i f a d = follows refl refl d refl
follow p g (Command.Page (Page.Lines v)) m k j h i f a d = follows refl a refl refl
follow p g (Command.Page (Page.Inches v)) m k j h i f a d = follows refl a refl refl
follow p g (Command.Move Move.Absolute u b) m k j h i f a d = follows refl refl d refl
follow p g (Command.Move Move.Relative u b) m k j h i f a d =
    follows refl (follow-relative p.settings p.stops p.place g u b k h.bytes.1.0 h.bytes.1.1.0 h.needs a) d refl
follow p g (Command.OpenImage u b v) m k j h i f a d = follows refl a d refl
follow p g (Command.ImageByte u v b) m k j h i f a d =
    let e = i.image u v b refl in follows refl (rw e (omega arith)) d (rw (e, own_part u v))
follow p g (Command.Channel v) m k j h i f a d = follows (agree-channel p.settings p.stops g v) a d refl
follow p g (Command.OpenList u) m k j h i f a d = follows refl a d refl
follow p g (Command.List u part) m k j h i f a d =
    follows (agree-list p.settings p.stops g u part (i.list u part refl) f.stops.typed h.given h.needs) a d refl
