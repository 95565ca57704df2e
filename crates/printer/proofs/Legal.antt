-- What is known of an event where it happens, and that the events that the rules decide have it.
use Prim.Native.Nat.{ℕ, zero, suc, ◌+◌, ◌≤◌, ◌<◌}
use mathlib.Core.Path.{◌≡◌, refl, ◌∙◌}
use mathlib.Core.Bool.{Bool, true, false}
use mathlib.Core.List.{List, [], ◌∷◌, ◌++◌}
use native.Mathlib.Omega.{arith}
use lib.Dec.{leb, ltb, eqb}
use native.Mathlib.Numerals.{add-one}
use lib.ListN.{length, get_or, length-append}
use lib.Seq.{get_or-append_seam, append_snoc}
use borrow.Author.Tests.{leb-true, leb-false, ltb-true, eqb-true, eqb-false}
use Rattle.printer.specs.Tools.{both, within, ◌up_to◌, holds, Holds, Bytes}
use Rattle.printer.specs.Units.{per_inch_across, per_inch_down}
use Rattle.printer.specs.Widths.{advance, image_step, image_bytes}
use Rattle.printer.specs.Settings.{across_of, left_of, right_of, paper_width_of, page_of, skip_of, line_of, edge_of, down_of, held_in, channel_count, chosen_stops}
use Rattle.printer.specs.Escapes.{parameter_row, look_takes}
use Rattle.printer.specs.Codes.{spelt}
use Rattle.printer.specs.Performing.{Event, done, passed, inside, automatic, Writing, silent, letter, image_byte, feed, clear, stop_of, line_fed, perform}
use Rattle.printer.specs.Deciding.{page_range, reason_of, tab_needs, line_needs, control_needs, needs_at, attempt, ranged, pages_of_line, letter_events, feed_after_return, column_from, tab_event, line_from, vertical_events, vertical, control_events, decide}
use Rattle.printer.specs.Bounds.{last_of, target_bounds, channel_of}
use Rattle.printer.specs.InForce.{Image, ListSets, sets_columns, sets_channel, sets_nothing, Opened, InForce, keeping}
use Rattle.printer.specs.Reckoning.{change_of}
use Rattle.printer.specs.Spelling.{Classified}
use Rattle.printer.specs.Types.{Command, Control, ImageMode, Listing, ListPart, Look, Parameter, Place, Printer, Settings, Stop, Stops, Target}
use Rattle.std.specs.Prelude.{Option}
use Rattle.printer.proofs.Choices.{pick_elim, holds_fact}
use Rattle.printer.proofs.Frames.{known, NoList, NoImage}
use Rattle.printer.proofs.ChannelLaws.{eight_lists}

-- what is in force by a state's settings and stops, and what was opened
abbrev pub force_of : Settings → Stops → Opened → InForce
force_of s t g =
    record {
      kept = keeping (per_inch_across s.setup.resolution) (per_inch_down s.setup.resolution) (paper_width_of s);
      width = s.width;
      draft = s.draft;
      upper = s.upperprints;
      opened = g;
      measures = record { left = left_of s; right = right_of s; page = page_of s; skip = skip_of s; line = line_of s };
      lists =
          record {
            columns = held_in t.columns;
            channels = eight_lists t.channels;
            chosen = t.channels.chosen;
            gathered = held_in t.gathered;
          };
    }

-- a setting's argument is in its range; of other commands nothing is said
pub record InRange (c : Command) : Type 0 where
  pub parameter : (k : Parameter) (n : ℕ) → c ≡ Command.Parameter k n → (parameter_row k).takes n ≡ true
  pub look : (k : Look) → c ≡ Command.Look k → look_takes k ≡ true

pub free : {c : Command} → ((k : Parameter) (n : ℕ) → c ≡ Command.Parameter k n → ◌≡◌ {A = ℕ} 0 1)
    → ((k : Look) → c ≡ Command.Look k → ◌≡◌ {A = ℕ} 0 1) → InRange c
free f g =
    record {
      parameter = λ k n z. let e = f k n z in absurd (omega arith);
      look = λ k z. let e = g k z in absurd (omega arith);
    }

takes_same : (c k : Parameter) (n m : ℕ) → Command.Parameter c n ≡ Command.Parameter k m → (parameter_row c).takes n ≡ true
    → (parameter_row k).takes m ≡ true
takes_same c k n m z h = let i : c ≡ k = cc in let e : n ≡ m = cc in rw (i, e) at h

look_same : (k j : Look) → Command.Look k ≡ Command.Look j → look_takes k ≡ true → look_takes j ≡ true
look_same k j z h = let i : k ≡ j = cc in rw i at h

-- the list being gathered is within its bounds, and for a channel that there is
abbrev pub Gathered : Stops → Target → Type 0
Gathered t k = (channel_of k ≤ 7) × Holds (target_bounds k t.gathered)

-- a list byte, made a stop, is above the list's last stop
abbrev pub Above : Settings → Stops → Target → ℕ → Type 0
Above s t k b = 1 ≤ stop_of s k b → last_of 0 (held_in t.gathered) < stop_of s k b

-- what a byte of a list or of an image gets from what was waited for; of other commands nothing is said
pub record Given (s : Settings) (t : Stops) (c : Command) : Type 0 where
  pub stop : (k : Target) (b : ℕ) → c ≡ Command.List (Listing.Sets k) (ListPart.Byte b) → Gathered t k × Above s t k b
  pub end : (k : Target) (b : ℕ) → c ≡ Command.List (Listing.Sets k) (ListPart.End b) → Gathered t k
  pub part : (m : ImageMode) (k b : ℕ) → c ≡ Command.ImageByte m k b → k ≤ 255

pub given_none : (s : Settings) (t : Stops) (c : Command) → NoList c → NoImage c → Given s t c
given_none s t c n i =
    record {
      stop = λ k b z. let e = n (Listing.Sets k) (ListPart.Byte b) z in absurd (omega arith);
      end = λ k b z. let e = n (Listing.Sets k) (ListPart.End b) z in absurd (omega arith);
      part = λ m k b z. let e = i m k b z in absurd (omega arith);
    }

-- a command done: its bytes are bytes, its argument is in range, it has what it needs
pub record Done (p : Printer) (c : Command) (n : ℕ) : Type 0 where
  pub bytes : Bytes (spelt c)
  pub range : InRange c
  pub needs : Holds (needs_at p c n)
  pub given : Given p.settings p.stops c
  pub classified : Classified p.settings.upperprints c

-- an image at the k-th byte of a column
abbrev pub image_at : ImageMode → ℕ → Image
image_at m k = record { step = image_step m; bytes = image_bytes m; next = k }

-- what a list that is read sets, in the reckoning's words
abbrev pub set_by : Listing → ListSets
set_by (Listing.Sets Target.Columns) = sets_columns
set_by (Listing.Sets (Target.Channel m)) = sets_channel m
set_by Listing.Dropped = sets_nothing

-- an image byte is of the image opened, and a list byte of the list
pub record InStep (c : Command) (g : Opened) : Type 0 where
  pub image : (m : ImageMode) (k b : ℕ) → c ≡ Command.ImageByte m k b → g.image ≡ image_at m k
  pub list : (k : Listing) (part : ListPart) → c ≡ Command.List k part → g.list ≡ set_by k

-- a letter or an image byte that is passed over does not fit, a letter at the left margin
abbrev pub Overflowing : Printer → (reason : ℕ) → Writing → Type 0
Overflowing p reason silent = Unit
Overflowing p reason (letter b n) =
    (across_of p.place ≡ left_of p.settings) × (right_of p.settings < across_of p.place + n) × (reason ≡ 4)
Overflowing p reason (image_byte b part n) = (right_of p.settings < across_of p.place + n) × (reason ≡ 4)
Overflowing p reason (feed pages) = Unit
Overflowing p reason clear = Unit

-- by what the reckoning says that it would write
abbrev pub PassedFor : Printer → Command → (reason : ℕ) → Type 0
PassedFor p c reason = (g : Opened) → InStep c g → Overflowing p reason (change_of (force_of p.settings p.stops g) c 0).writing

pub record Passed (p : Printer) (c : Command) (reason : ℕ) : Type 0 where
  pub bytes : Bytes (spelt c)
  pub known : reason ≤ 5
  pub overflows : PassedFor p c reason
  pub classified : Classified p.settings.upperprints c

abbrev pub Legal : Printer → Event → Type 0
Legal p (done c n) = Done p c n
Legal p (passed c reason) = Passed p c reason
Legal p (inside c n) = Holds (control_needs p.settings p.stops p.place c n)
Legal p (automatic n) =
    Holds (line_needs p.settings p.place n)
    × (across_of p.place ≡ left_of p.settings → ⊥)
    × (right_of p.settings < across_of p.place + advance p.settings.width)

abbrev pub LegalAll : Printer → List Event → Type 0
LegalAll p [] = Unit
LegalAll p (e ∷ l) = Legal p e × LegalAll (perform p e) l

-- The ways to decide

-- an order that does not hold
over : (low high : ℕ) → holds (◌up_to◌ low high ∷ []) ≡ false → high < low
over low high e = go (leb low high) refl e
  where
    go : (t : Bool) → leb low high ≡ t → both t true ≡ false → high < low
    go true k h = let z : ◌≡◌ {A = ℕ} 0 1 = cc in absurd (omega arith)
    go false k h = leb-false low high k

line-needs : (p : Printer) → Holds (line_needs p.settings p.place (pages_of_line p))
line-needs p =
    pick_elim (λ (n : ℕ). Holds (line_needs p.settings p.place n))
    (leb (edge_of p.settings) (down_of p.place + line_of p.settings))
    (λ e. (leb-true _ _ e, (omega arith, tt)))
    (λ e. (leb-false _ _ e, tt))

pub attempted : (P : Event → Type 0) (p : Printer) (c : Command) (reason : ℕ) → (Holds (needs_at p c 0) → P (done c 0))
    → (holds (needs_at p c 0) ≡ false → P (passed c reason)) → P (attempt p c reason)
unfolding attempt
attempted P p c reason f g = pick_elim P (holds (needs_at p c 0)) (λ e. f (holds_fact (needs_at p c 0) e)) g

abbrev pub cr : ℕ → Command
cr b = Command.Control Control.CarriageReturn b

abbrev pub ht : ℕ → Command
ht b = Command.Control Control.HorizontalTab b

abbrev pub vt : ℕ → Command
vt b = Command.Control Control.VerticalTab b

-- a claim about a command and its events, for each way that the rules decide
pub record Ways (p : Printer) (P : Command → List Event → Type 0) : Type 0 where
  pub does : (c : Command) (n : ℕ) → InRange c → Holds (needs_at p c n) → P c (done c n ∷ [])
  pub passes : (c : Command) (reason : ℕ) → reason ≤ 5 → PassedFor p c reason → P c (passed c reason ∷ [])
  -- a letter after an automatic line
  pub wraps : (b : ℕ) → Legal p (automatic (pages_of_line p))
      → P (Command.Letter b) (automatic (pages_of_line p) ∷ attempt (perform p (automatic (pages_of_line p))) (Command.Letter b) 4 ∷ [])
  -- CR, and VT performed as CR: an LF may follow
  pub returns : (b : ℕ) → P (cr b) (done (cr b) 0 ∷ feed_after_return (perform p (done (cr b) 0)))
  pub performs_return : (b : ℕ)
      → P (vt b) (done (vt b) 0 ∷ inside Control.CarriageReturn 0 ∷ feed_after_return (perform (perform p (done (vt b) 0)) (inside Control.CarriageReturn 0)))
  -- VT performed as LF or FF
  pub performs : (b : ℕ) (x : Control) (n : ℕ) → Legal (perform p (done (vt b) 0)) (inside x n)
      → P (vt b) (done (vt b) 0 ∷ inside x n ∷ [])

-- Searches: the stop found is the one of its number

number : (before : List ℕ) (n : ℕ) (l whole : List ℕ) → before ++ n ∷ l ≡ whole → get_or whole (length before) 0 ≡ n
number before n l whole e = rw (← e) (get_or-append_seam before n l 0)

longer : (before : List ℕ) (n : ℕ) → length (before ++ (n ∷ [])) ≡ suc (length before)
longer before n = length-append before (n ∷ []) ∙ add-one (length before)

module _ (p : Printer) (P : Command → List Event → Type 0) (w : Ways p P) where
  tried : (c : Command) (reason : ℕ) → reason ≤ 5 → InRange c → (holds (needs_at p c 0) ≡ false → PassedFor p c reason)
      → P c (attempt p c reason ∷ [])
  tried c reason k r u = attempted (λ (e : Event). P c (e ∷ [])) p c reason (w.does c 0 r) (λ e. w.passes c reason k (u e))

  -- range before geometry
  in-range : (fits : Bool) (c : Command) (e : Event) → (fits ≡ true → P c (e ∷ [])) → PassedFor p c 2 → P c (ranged fits c e ∷ [])
  unfolding ranged
  in-range fits c e h u = pick_elim (λ (e : Event). P c (e ∷ [])) fits h (λ _. w.passes c 2 (omega arith) u)

  decided-letter : (b : ℕ) → P (Command.Letter b) (letter_events p b)
  unfolding letter_events
  decided-letter b =
      pick_elim (P (Command.Letter b)) (holds (needs_at p (Command.Letter b) 0))
      (λ e. w.does _ 0 (free (λ k n z. cc) (λ k z. cc)) (holds_fact (needs_at p (Command.Letter b) 0) e))
      (λ e. let u : right_of p.settings < across_of p.place + advance p.settings.width = over _ _ e in
      pick_elim (P (Command.Letter b)) (eqb (across_of p.place) (left_of p.settings))
      (λ f. w.passes _ 4 (omega arith) (λ n i. (eqb-true _ _ f, u, refl)))
      (λ f. w.wraps b (line-needs p, eqb-false _ _ f, u)))

  decided-tab : (b : ℕ) (before l : List ℕ) → before ++ l ≡ held_in p.stops.columns
      → P (ht b) (tab_event (ht b) (column_from p.settings p.place (suc (length before)) l) ∷ [])
  unfolding column_from
  decided-tab b before [] e = w.passes _ 5 (omega arith) (λ n i. tt)
  decided-tab b before (n ∷ l) e =
      pick_elim (λ (x : Option Stop). P (ht b) (tab_event (ht b) x ∷ [])) (holds (tab_needs p.settings p.place n))
      (λ t. w.does _ _ (free (λ k m z. cc) (λ k z. cc)) (rw (number before n l _ e) (holds_fact (tab_needs p.settings p.place n) t)))
      (λ _. rw (longer before n) at (decided-tab b (before ++ (n ∷ [])) l (append_snoc before n l ∙ e)))

  decided-stop : (b : ℕ) (before l : List ℕ) → before ++ l ≡ held_in (chosen_stops p.stops)
      → P (vt b) (vertical_events p (vt b) (line_from (down_of p.place) (suc (length before)) l))
  unfolding line_from
  decided-stop b before [] e = w.performs b Control.FormFeed 0 tt
  decided-stop b before (n ∷ l) e =
      pick_elim (λ (x : Option Stop). P (vt b) (vertical_events p (vt b) x)) (ltb (down_of p.place) n)
      (λ _. pick_elim (P (vt b)) (ltb n (edge_of p.settings))
      (λ t. w.does _ _ (free (λ k m z. cc) (λ k z. cc)) (rw (number before n l _ e) (ltb-true _ _ t, tt)))
      (λ _. w.performs b Control.FormFeed 0 tt))
      (λ _. rw (longer before n) at (decided-stop b (before ++ (n ∷ [])) l (append_snoc before n l ∙ e)))

  decided-vertical : (b : ℕ) → P (vt b) (vertical p (vt b))
  unfolding vertical
  decided-vertical b =
      pick_elim (P (vt b)) (eqb (channel_count p.stops.channels p.stops.channels.chosen) 0)
      (λ _. w.performs b Control.LineFeed (pages_of_line p) (line-needs (perform p (done (vt b) 0))))
      (λ _. pick_elim (P (vt b)) (eqb (chosen_stops p.stops).count 0) (λ _. w.performs_return b) (λ _. decided-stop b [] (held_in (chosen_stops p.stops)) refl))

  decided-control : (c : Control) (b : ℕ) → P (Command.Control c b) (control_events p c b)
  decided-control Control.CarriageReturn b = w.returns b
  decided-control Control.LineFeed b = w.does _ _ (free (λ k n z. cc) (λ k z. cc)) (line-needs p)
  decided-control Control.FormFeed b = w.does _ 0 (free (λ k n z. cc) (λ k z. cc)) tt
  decided-control Control.HorizontalTab b = decided-tab b [] (held_in p.stops.columns) refl
  decided-control Control.VerticalTab b = decided-vertical b
  decided-control Control.Backspace b = tried _ 3 (omega arith) (free (λ k n z. cc) (λ k z. cc)) (λ _ n i. tt)
  decided-control Control.ShiftOut b = w.does _ 0 (free (λ k n z. cc) (λ k z. cc)) tt
  decided-control Control.ShiftIn b = tried _ 2 (omega arith) (free (λ k n z. cc) (λ k z. cc)) (λ _ n i. tt)
  decided-control Control.Dc2 b = w.does _ 0 (free (λ k n z. cc) (λ k z. cc)) tt
  decided-control Control.Dc4 b = w.does _ 0 (free (λ k n z. cc) (λ k z. cc)) tt

  pub decided : (c : Command) → P c (decide p c)
  decided (Command.Letter b) = decided-letter b
  decided (Command.Control c b) = decided-control c b
  decided (Command.Refused r) = w.passes _ (reason_of r) (known r) (λ n i. tt)
  decided (Command.Silent k) = w.does _ 0 (free (λ k n z. cc) (λ k z. cc)) tt
  decided Command.Reset = w.does _ 0 (free (λ k n z. cc) (λ k z. cc)) tt
  decided (Command.Mode c) = w.does _ 0 (free (λ k n z. cc) (λ k z. cc)) tt
  decided (Command.Parameter c n) =
      in-range ((parameter_row c).takes n) _ _ (λ e. w.does _ 0 (record { parameter = λ k m z. takes_same c k n m z e; look = λ k z. cc }) tt) (λ n i. tt)
  decided (Command.Look k) =
      in-range (look_takes k) _ _ (λ e. w.does _ 0 (record { parameter = λ c n z. cc; look = λ j z. look_same k j z e }) tt) (λ n i. tt)
  decided (Command.Skip n) = in-range (within 1 127 n) _ _ (λ e. tried _ 3 (omega arith) (free (λ k m z. cc) (λ k z. cc)) (λ _ n i. tt)) (λ n i. tt)
  decided (Command.Feed n) = w.does _ _ (free (λ k m z. cc) (λ k z. cc)) (omega arith)
  decided (Command.Margin side n) = tried _ 3 (omega arith) (free (λ k m z. cc) (λ k z. cc)) (λ _ n i. tt)
  decided (Command.Page g) = in-range (page_range g) _ _ (λ e. tried _ 3 (omega arith) (free (λ k m z. cc) (λ k z. cc)) (λ _ n i. tt)) (λ n i. tt)
  decided (Command.Move m a b) = tried _ 3 (omega arith) (free (λ k n z. cc) (λ k z. cc)) (λ _ n i. tt)
  decided (Command.OpenImage o a b) = w.does _ 0 (free (λ k n z. cc) (λ k z. cc)) tt
  decided (Command.ImageByte m k b) = tried _ 4 (omega arith) (free (λ k n z. cc) (λ k z. cc)) (λ e g i. (rw (i.image m k b refl) (over _ _ e), refl))
  decided (Command.Channel n) = tried _ 2 (omega arith) (free (λ k n z. cc) (λ k z. cc)) (λ _ n i. tt)
  decided (Command.OpenList o) = tried _ 2 (omega arith) (free (λ k n z. cc) (λ k z. cc)) (λ _ n i. tt)
  decided (Command.List k part) = tried _ 3 (omega arith) (free (λ k n z. cc) (λ k z. cc)) (λ _ n i. tt)

-- What is decided is legal

-- an LF goes to the left margin
fed_left : (s : Settings) (x : Place) (n : ℕ) → across_of (line_fed s x n) ≡ left_of s
fed_left s x zero = refl
fed_left s x (suc n) = refl

legal_feed : (p : Printer) → LegalAll p (feed_after_return p)
unfolding feed_after_return
legal_feed p = pick_elim (LegalAll p) p.settings.setup.autofeed (λ _. (line-needs p, tt)) (λ _. tt)

legal_letter : (p : Printer) (b : ℕ) → Bytes (b ∷ []) → Classified p.settings.upperprints (Command.Letter b) → across_of p.place ≡ left_of p.settings
    → Legal p (attempt p (Command.Letter b) 4)
legal_letter p b h k l =
    attempted (Legal p) p _ 4 (λ n. record { bytes = h; range = free (λ k m z. cc) (λ k z. cc); needs = n; given = given_none _ _ _ (λ k x z. cc) (λ m i n z. cc); classified = k })
    (λ e. record { bytes = h; known = omega arith; overflows = λ n i. (l, over _ _ e, refl); classified = k })

pub legal_decide : (p : Printer) (c : Command) → Bytes (spelt c) → Given p.settings p.stops c → Classified p.settings.upperprints c
    → LegalAll p (decide p c)
legal_decide p =
    decided p (λ (c : Command) (l : List Event). Bytes (spelt c) → Given p.settings p.stops c → Classified p.settings.upperprints c → LegalAll p l)
    (record {
      does = λ c n r k h g v. (record { bytes = h; range = r; needs = k; given = g; classified = v }, tt);
      passes = λ c reason k u h g v. (record { bytes = h; known = k; overflows = u; classified = v }, tt);
      wraps = λ b a h g v. (a, (legal_letter _ b h v (fed_left p.settings p.place (pages_of_line p)), tt));
      returns = λ b h g v. (record { bytes = h; range = free (λ k n z. cc) (λ k z. cc); needs = tt; given = given_none _ _ _ (λ k x z. cc) (λ m i n z. cc); classified = v }, legal_feed _);
      performs_return = λ b h g v. (record { bytes = h; range = free (λ k n z. cc) (λ k z. cc); needs = tt; given = given_none _ _ _ (λ k x z. cc) (λ m i n z. cc); classified = v }, (tt, legal_feed _));
      performs = λ b x n k h g v. (record { bytes = h; range = free (λ k n z. cc) (λ k z. cc); needs = tt; given = given_none _ _ _ (λ k x z. cc) (λ m i n z. cc); classified = v }, (k, tt));
    })
