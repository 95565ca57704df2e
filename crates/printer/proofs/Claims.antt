-- Demand 3's claim, for events and bytes: the records are those that the reckoning writes, and what it prints is between the margins.
use Prim.Native.Nat.{ℕ, zero, suc, ◌+◌, ◌*◌, ◌-◌, ◌≤◌}
use mathlib.Core.Path.{◌≡◌, refl, sym, subst}
use mathlib.Core.Bool.{Bool, true, false}
use mathlib.Core.List.{List, [], ◌∷◌, ◌++◌, map, append_assoc, append-nil, map-append}
use native.Mathlib.Omega.{arith}
use lib.Dec.{leb, eqb}
use Rattle.printer.specs.Tools.{pick, lookup, Each, Bytes, Holds}
use Rattle.printer.specs.Widths.{image_bytes}
use Rattle.printer.specs.Settings.{across_of, down_of}
use Rattle.printer.specs.Framing.{frame, opened_mode, image_wait, after_image_byte, opened_list, list_opened, list_frame}
use Rattle.printer.specs.Performing.{Event, done, passed, inside, automatic, Writing, silent, letter, image_byte, feed, clear, records_by, Effect, control_at, effect_at, records_at, records_of, records_all, perform, perform_all}
use Rattle.printer.specs.Deciding.{control_needs, needs_at, attempt, decide}
use Rattle.printer.specs.Steps.{frame_at, events_in, next_in, step_events, step_records, step_of, state_after, records_over, events_over}
use Rattle.printer.specs.Accepted.{Ours}
use Rattle.printer.specs.InForce.{ListSets, sets_channel, sets_nothing, Opened, list_of_code, opened_sets, image_of_code, image_of_mode, opened, byte_received}
use Rattle.printer.specs.Reckoning.{Axis, moved, exact, Change, control_change, change_of, change_by, Reckoning, reckon, Printed, printed_by, printed_at, Occurrence, event, printed}
use Rattle.printer.specs.Shown.{Shown, shown, shown_as, shown_by, writes, written}
use Rattle.printer.specs.Demand3.{Between, GivesBack, NotBelowZero, LeadsOn, LeadsAs, DoesNotFit, Reckoned, ReckonedAll}
use Rattle.printer.specs.Types.{Begun, Command, Control, Density, Frame, ImageMode, Listing, ListOpening, ListPart, Opening, Place, Printer, Record, Settings, Stops, Tabs, Target, Waiting}
use Rattle.printer.proofs.Choices.{pick_elim, each_append, each_map}
use Rattle.printer.proofs.Frames.{NoList, NoImage, clash, Framed, begins, single, opens_list, opens_image, rests, after_escape, framed_first, framed_second, framed_argument}
use Rattle.printer.proofs.Spelling.{EventOf, of_decide}
use Rattle.printer.proofs.Legal.{force_of, image_at, set_by, InStep, Overflowing, Done, Legal, LegalAll, attempted}
use Rattle.printer.proofs.Keeping.{Writable, Bounded, keep-control, keep_done, keep}
use Rattle.printer.proofs.KeepingSteps.{bounded, sound, step_ours}
use Rattle.printer.proofs.NoBytes.{no_byte_lem}
use Rattle.printer.proofs.Rests.{dots_across_lem, place-back}
use Rattle.printer.proofs.Following.{from, At, Follows, follow-control, follow}

-- Claims, and two of them joined

-- of records, what is written, what is printed, and what holds where it happens
pub record Claim (records : List Record) (written : List Shown) (events : List Printed) (holding : Type 0) : Type 0 where
  pub same : shown records ≡ written
  pub between : Each Between events
  pub gives_back : Each GivesBack events
  pub reckoned : holding

shown-append : (a b : List Record) → shown (a ++ b) ≡ shown a ++ shown b
unfolding shown
shown-append [] b = refl
shown-append (r ∷ a) b = rw (shown-append a b)

join : (a b : List Record) (v w : List Shown) (x y : List Printed) (R S : Type 0) → Claim a v x R → Claim b w y S → Claim (a ++ b) (v ++ w) (x ++ y) (R × S)
join a b v w x y R S h k =
    record {
      same = rw (shown-append a b, h.same, k.same);
      between = each_append Between x y h.between k.between;
      gives_back = each_append GivesBack x y h.gives_back k.gives_back;
      reckoned = (h.reckoned, k.reckoned);
    }

pub nothing : Claim [] [] [] Unit
unfolding shown
nothing = record { same = refl; between = tt; gives_back = tt; reckoned = tt }

-- the claim of all that a list of occurrences writes
abbrev pub ClaimOver : Reckoning → List Record → List Occurrence → Type 0
ClaimOver r rs os = Claim rs (written r os) (printed r os) (ReckonedAll r os)

-- One event

-- the printer is within its bounds, and the reckoned places are its own
pub record Tracks (p : Printer) (k j : Axis) : Type 0 where
  pub bounded : Bounded p
  pub across : At k (across_of p.place)
  pub down : At j (down_of p.place)

exact-at : (k : Axis) (n : ℕ) → At k n → exact k ≡ n
exact-at k n h = omega arith

not_below : (k : Axis) (n : ℕ) → At k n → NotBelowZero k
not_below k n h = omega arith

module _ (p : Printer) (g : Opened) (k j : Axis) (f : Tracks p k j) where
  -- what can be written is written as the reckoning says, if it says where the place down is then
  same-writing : (y : Place) (down : Axis) (w : Writing) → exact down ≡ down_of y
      → shown (records_by p.settings p.place y w) ≡ shown_as (from p g k j) down w
  unfolding shown
  same-writing y down silent e = refl
  same-writing y down (letter b m) e = rw (exact-at k _ f.across, exact-at j _ f.down)
  same-writing y down (image_byte b part m) e = rw (exact-at k _ f.across, exact-at j _ f.down)
  same-writing y down (feed pages) e = rw e
  same-writing y down clear e = refl

  between-margins : (w : Writing) → Writable p.settings p.place w → Each Between (printed_by (from p g k j) w)
  between-margins silent h = tt
  between-margins (letter b m) h = let a = f.across in let q = f.bounded.within in (omega arith, tt)
  between-margins (image_byte b part m) h = let a = f.across in let q = f.bounded.within in (omega arith, tt)
  between-margins (feed pages) h = tt
  between-margins clear h = tt

  -- and what it says is printed gives the place across back
  gives_back_lem : (w : Writing) → Each GivesBack (printed_by (from p g k j) w)
  gives_back_lem silent = tt
  gives_back_lem (letter b m) = (place-back _ (dots_across_lem p.settings.setup.resolution), tt)
  gives_back_lem (image_byte b part m) = (place-back _ (dots_across_lem p.settings.setup.resolution), tt)
  gives_back_lem (feed pages) = tt
  gives_back_lem clear = tt

  -- what follows the rules is claimed
  turn-claim : (t : Change) (l : Effect) → Follows t l k j → Writable p.settings p.place l.writing
      → Claim (records_at p l) (shown_by (from p g k j) t) (printed_by (from p g k j) t.writing) (NotBelowZero (moved k t.across) × NotBelowZero (moved j t.down))
  turn-claim t l h w =
      record {
        same = rw h.writing (same-writing l.place (moved j t.down) l.writing (exact-at _ _ h.down));
        between = rw h.writing (between-margins l.writing w);
        gives_back = gives_back_lem t.writing;
        reckoned = (not_below _ _ h.across, not_below _ _ h.down);
      }

  -- what is passed over for want of room has none by the reckoning either
  does-not-fit : (reason : ℕ) (w : Writing) → Overflowing p reason w → DoesNotFit (from p g k j) reason w
  does-not-fit reason silent u = tt
  does-not-fit reason (letter b m) u = let a = f.across in (omega arith, omega arith, u.2)
  does-not-fit reason (image_byte b part m) u = let a = f.across in (omega arith, u.1)
  does-not-fit reason (feed pages) u = tt
  does-not-fit reason clear u = tt

-- what is opened after an event
abbrev opened_after : Opened → Printer → Event → Opened
opened_after g p e = (change_by (force_of p.settings p.stops g) e).force.opened

-- an event of an image or a list is of the one opened
abbrev InStepEvent : Event → Opened → Type 0
InStepEvent (done c m) g = InStep c g
InStepEvent (passed c reason) g = InStep c g
InStepEvent (inside c m) g = Unit
InStepEvent (automatic m) g = Unit

-- after an event the reckoning is that of the state after it
record ReckonedAfter (p : Printer) (g : Opened) (k j : Axis) (e : Event) : Type 0 where
  across : Axis
  down : Axis
  same : reckon (from p g k j) e ≡ from (perform p e) (opened_after g p e) across down
  tracks : Tracks (perform p e) across down

module _ (p : Printer) (g : Opened) (k j : Axis) (f : Tracks p k j) where
  control-follows : (c : Control) (m : ℕ) → Legal p (inside c m) → Follows (control_change (force_of p.settings p.stops g) c m) (control_at p c m) k j
  control-follows c m h = follow-control p.settings p.stops p.place g f.bounded.stops.channels.0 c m k j h f.across f.down

  command-follows : (c : Command) (m : ℕ) → Done p c m → InStep c g → Follows (change_of (force_of p.settings p.stops g) c m) (effect_at p c m) k j
  command-follows c m h i = follow p g c m k j h i f.bounded f.across f.down

  reckoned-control : (c : Control) (m : ℕ) → Legal p (inside c m) → ReckonedAfter p g k j (inside c m)
  reckoned-control c m h =
      let v = control-follows c m h in
      record {
        across = moved k (control_change (force_of p.settings p.stops g) c m).across;
        down = moved j (control_change (force_of p.settings p.stops g) c m).down;
        same = cc v.force;
        tracks = record { bounded = keep p (inside c m) h f.bounded; across = v.across; down = v.down };
      }

  reckoned : (e : Event) → Legal p e → InStepEvent e g → ReckonedAfter p g k j e
  reckoned (done c m) h i =
      let v = command-follows c m h i in
      record {
        across = moved k (change_of (force_of p.settings p.stops g) c m).across;
        down = moved j (change_of (force_of p.settings p.stops g) c m).down;
        same = cc v.force;
        tracks = record { bounded = keep p (done c m) h f.bounded; across = v.across; down = v.down };
      }
  reckoned (passed c reason) h i =
      record { across = k; down = j; same = refl; tracks = f }
  reckoned (inside c m) h i = reckoned-control c m h
  reckoned (automatic m) h i =
      let r = reckoned-control Control.LineFeed m h.0 in
      record { across = r.across; down = r.down; same = r.same; tracks = r.tracks }

  control-claim : (c : Control) (m : ℕ) → Legal p (inside c m)
      → Claim (records_of p (inside c m)) (writes (from p g k j) (inside c m)) (printed_at (from p g k j) (inside c m)) (NotBelowZero (moved k (control_change (force_of p.settings p.stops g) c m).across) × NotBelowZero (moved j (control_change (force_of p.settings p.stops g) c m).down))
  control-claim c m h =
      turn-claim p g k j f _ (control_at p c m) (control-follows c m h) (keep-control p.settings p.stops p.place c m h f.bounded.within).1

  -- where a control leads is right by the reckoning
  leads-on : (c : Control) (m : ℕ) → Holds (control_needs p.settings p.stops p.place c m) → LeadsOn (from p g k j) c m
  leads-on Control.CarriageReturn m h = tt
  leads-on Control.LineFeed zero h = let a = f.down in omega (arith, h.0)
  leads-on Control.LineFeed (suc m) h = let a = f.down in omega (arith, h.0)
  leads-on Control.FormFeed m h = tt
  leads-on Control.HorizontalTab zero h = tt
  leads-on Control.HorizontalTab (suc m) h = let a = f.across in omega (arith, h.0)
  leads-on Control.VerticalTab m h = tt
  leads-on Control.Backspace m h = tt
  leads-on Control.ShiftOut m h = tt
  leads-on Control.ShiftIn m h = tt
  leads-on Control.Dc2 m h = tt
  leads-on Control.Dc4 m h = tt

  leads-as : (c : Command) (m : ℕ) → Holds (needs_at p c m) → LeadsAs (from p g k j) c m
  leads-as (Command.Letter b) m h = tt
  leads-as (Command.Control c b) m h = leads-on c m h
  leads-as (Command.Refused e) m h = tt
  leads-as (Command.Silent x) m h = tt
  leads-as Command.Reset m h = tt
  leads-as (Command.Mode c) m h = tt
  leads-as (Command.Parameter c a) m h = tt
  leads-as (Command.Look x) m h = tt
  leads-as (Command.Skip a) m h = tt
  leads-as (Command.Feed a) m h = tt
  leads-as (Command.Margin side a) m h = tt
  leads-as (Command.Page x) m h = tt
  leads-as (Command.Move x a b) m h = tt
  leads-as (Command.OpenImage o a b) m h = tt
  leads-as (Command.ImageByte x i b) m h = tt
  leads-as (Command.Channel n) m h = tt
  leads-as (Command.OpenList o) m h = tt
  leads-as (Command.List x part) m h = tt

  event-claim : (e : Event) → Legal p e → InStepEvent e g
      → Claim (records_of p e) (writes (from p g k j) e) (printed_at (from p g k j) e) (Reckoned (from p g k j) (event e))
  unfolding shown
  event-claim (done c m) h i =
      let v = turn-claim p g k j f _ (effect_at p c m) (command-follows c m h i) (keep_done p c m h f.bounded).1 in
      record { same = v.same; between = v.between; gives_back = v.gives_back; reckoned = record { across = v.reckoned.0; down = v.reckoned.1; room = tt; leads = leads-as c m h.needs; classified = h.classified } }
  event-claim (passed c reason) h i =
      record {
        same = rw (no_byte_lem c);
        between = tt;
        gives_back = tt;
        reckoned =
            record {
              across = not_below _ _ f.across;
              down = not_below _ _ f.down;
              room = does-not-fit p g k j f reason (change_of (force_of p.settings p.stops g) c 0).writing (h.overflows g i);
              leads = tt;
              classified = h.classified;
            };
      }
  event-claim (inside c m) h i =
      let v = control-claim c m h in
      record { same = v.same; between = v.between; gives_back = v.gives_back; reckoned = record { across = v.reckoned.0; down = v.reckoned.1; room = tt; leads = leads-on c m h; classified = tt } }
  event-claim (automatic m) h i =
      let v = control-claim Control.LineFeed m h.0 in
      let a = f.across in let q = f.bounded.within in let u = h.1 in let z = h.2 in
      record { same = v.same; between = v.between; gives_back = v.gives_back; reckoned = record { across = v.reckoned.0; down = v.reckoned.1; room = omega arith; leads = leads-on Control.LineFeed m h.0; classified = tt } }

-- Events, then what follows them

-- what is claimed of all that comes after a state, with this opened
abbrev Rest : Printer → Opened → List Record → List Occurrence → Type 0
Rest p g rs os = (k j : Axis) → Tracks p k j → ClaimOver (from p g k j) rs os

event_then : (p : Printer) (g : Opened) (k j : Axis) (e : Event) (rs : List Record) (os : List Occurrence)
    → Legal p e → InStepEvent e g → Tracks p k j → Rest (perform p e) (opened_after g p e) rs os
    → ClaimOver (from p g k j) (records_of p e ++ rs) (event e ∷ os)
unfolding printed written
event_then p g k j e rs os h i f rest =
    let r = reckoned p g k j f e h i in
    join (records_of p e) rs (writes (from p g k j) e) (written (reckon (from p g k j) e) os) (printed_at (from p g k j) e) (printed (reckon (from p g k j) e) os)
    (Reckoned (from p g k j) (event e)) (ReckonedAll (reckon (from p g k j) e) os) (event-claim p g k j f e h i)
    (rw r.same (rest r.across r.down r.tracks))

-- events of no image and no list
abbrev AlwaysInStep : Event → Type 0
AlwaysInStep e = (g : Opened) → InStepEvent e g

events_then : (p : Printer) (g : Opened) (k j : Axis) (l : List Event) (rs : List Record) (os : List Occurrence)
    → LegalAll p l → Each AlwaysInStep l → Tracks p k j → ((x : Opened) → Rest (perform_all p l) x rs os)
    → ClaimOver (from p g k j) (records_all p l ++ rs) (map event l ++ os)
unfolding perform_all records_all printed
events_then p g k j [] rs os h i f rest = rest g k j f
events_then p g k j (e ∷ l) rs os h i f rest =
    rw append_assoc
    (event_then p g k j e (records_all (perform p e) l ++ rs) (map event l ++ os) h.0 (i.0 g) f
    (λ k' j' t. events_then (perform p e) (opened_after g p e) k' j' l rs os h.1 i.1 t rest))

-- What was opened, over a byte

-- image data or a list that is waited for is of what was opened
pub record OpenedAgrees (w : Waiting) (g : Opened) : Type 0 where
  pub image : (m : ImageMode) (k n : ℕ) → w ≡ Waiting.ImageData m k n → g.image ≡ image_at m k
  pub list : (k : Listing) (b : ℕ) → w ≡ Waiting.StopList k b → g.list ≡ set_by k

-- a byte waits, or is a command of no image and no list, or opens an image; or it opens a list or is a byte of either, done or passed over
data Stepping (g : Opened) : Frame → Type 0 where
  waits : {w : Waiting} → ((x : Opened) → OpenedAgrees w x) → Stepping g (Frame.Waits w)
  other : {c : Command} {w : Waiting} → ((x : Opened) → InStep c x) → ((x : Opened) → OpenedAgrees w x) → Stepping g (Frame.Whole c w)
  opens : {o : Opening} {a b : ℕ} {w : Waiting} → ((x : ListSets) → OpenedAgrees w (record { image = image_at (opened_mode o) 1; list = x }))
      → Stepping g (Frame.Whole (Command.OpenImage o a b) w)
  tries : {c : Command} {w : Waiting} (reason : ℕ) → ((p : Printer) → decide p c ≡ attempt p c reason ∷ []) → InStep c g
      → ((s : Settings) (t : Stops) → OpenedAgrees w (change_of (force_of s t g) c 0).force.opened) → Stepping g (Frame.Whole c w)

image_wait_lem : (m : ImageMode) (n : ℕ) (x : ListSets) → OpenedAgrees (image_wait m n) (record { image = image_at m 1; list = x })
image_wait_lem m n x =
    pick_elim (λ (w : Waiting). OpenedAgrees w (record { image = image_at m 1; list = x })) (eqb n 0)
    (λ _. record { image = λ u i v z. cc; list = λ u v z. cc }) (λ _. record { image = λ u i v z. cc; list = λ u v z. cc })

after-byte : (m : ImageMode) (k n : ℕ) (x : ListSets) → OpenedAgrees (after_image_byte m k n) (record { image = byte_received (image_at m k); list = x })
after-byte m k n x = go (eqb k (image_bytes m))
  where
    go : (t : Bool) → OpenedAgrees (pick t (image_wait m (n - 1)) (Waiting.ImageData m (suc k) n)) (record { image = image_at m (pick t 1 (suc k)); list = x })
    go true = image_wait_lem m (n - 1) x
    go false = record { image = λ u i v z. cc; list = λ u v z. cc }

-- nothing is said where neither is waited for

at_rest : (g : Opened) → OpenedAgrees Waiting.Nothing g
at_rest g = record { image = λ m k n z. cc; list = λ k b z. cc }

at_second : (g : Opened) → OpenedAgrees Waiting.SecondByte g
at_second g = record { image = λ m k n z. cc; list = λ k b z. cc }

at-arguments : (w : Begun) (g : Opened) → OpenedAgrees (Waiting.Arguments w) g
at-arguments w g = record { image = λ m k n z. cc; list = λ k b z. cc }

apart : (c : Command) → NoList c → NoImage c → (g : Opened) → InStep c g
apart c l i g = record { image = λ m k b z. absurd (clash (i m k b z)); list = λ k x z. absurd (clash (l k x z)) }

-- a list

at-list : (k : Listing) (b : ℕ) (g : Opened) → g.list ≡ set_by k → OpenedAgrees (Waiting.StopList k b) g
at-list k b g e = record { image = λ m i n z. cc; list = λ j n z. let i : k ≡ j = cc in rw i at e }

in_list : (k : Listing) (part : ListPart) (g : Opened) → g.list ≡ set_by k → InStep (Command.List k part) g
in_list k part g e = record { image = λ m i n z. cc; list = λ j x z. let i : k ≡ j = cc in rw i at e }

-- the reckoning's list is the rules'
own_list : (o : ListOpening) → opened_sets o ≡ set_by (opened_list o)
unfolding list_of_code lookup
own_list (ListOpening.Named Tabs.Horizontal) = refl
own_list (ListOpening.Named Tabs.Vertical) = refl
own_list (ListOpening.Channel m) = go (leb m 7)
  where
    go : (t : Bool) → pick t (sets_channel m) sets_nothing ≡ set_by (pick t (Listing.Sets (Target.Channel m)) Listing.Dropped)
    go true = refl
    go false = refl

stepping-opened : (g : Opened) (o : ListOpening) → Stepping g (list_opened o)
stepping-opened g o =
    tries {c = Command.OpenList o} 2 (λ p. refl) (record { image = λ m k b z. cc; list = λ k x z. cc }) (λ s t. at-list (opened_list o) 0 _ (own_list o))

stepping-list : (g : Opened) (k : Listing) (before b : ℕ) → g.list ≡ set_by k → Stepping g (list_frame k before b)
stepping-list g k before b e =
    pick_elim (Stepping g) (leb b before)
    (λ _. tries 3 (λ p. refl) (in_list k (ListPart.End b) g e) (λ s t. at_rest _))
    (λ _. tries 3 (λ p. refl) (in_list k (ListPart.Byte b) g e) (λ s t. at-list k b _ e))

stepping_framed : (g : Opened) (upper : Bool) (l : List ℕ) (f : Frame) → Framed upper l f → Stepping g f
stepping_framed g upper l (Frame.Waits Waiting.Nothing) h = elim h [ ]
stepping_framed g upper l (Frame.Waits Waiting.SecondByte) h = elim h [ ]
stepping_framed g upper l (Frame.Waits (Waiting.StopList k b)) h = elim h [ ]
stepping_framed g upper l (Frame.Waits (Waiting.ImageData m k n)) h = elim h [ ]
stepping_framed g upper l (Frame.Waits (Waiting.Arguments w)) (begins e) = waits (at-arguments w)
stepping_framed g upper l (Frame.Whole c w) (single e k x i rests) = other (apart c x i) at_rest
stepping_framed g upper l (Frame.Whole c w) (single e k x i after_escape) = other (apart c x i) at_second
stepping_framed g upper l (Frame.Whole (Command.OpenList o) w) (opens_list e) = stepping-opened g o
stepping_framed g upper l (Frame.Whole (Command.OpenImage o a b) w) (opens_image e) = opens (image_wait_lem (opened_mode o) (a + 256 * b))

own_image : (m : ImageMode) (k b : ℕ) (g : Opened) → g.image ≡ image_at m k → InStep (Command.ImageByte m k b) g
own_image m k b g i = record { image = λ u v n z. cc; list = λ u x z. cc }

stepping : (g : Opened) (upper : Bool) (w : Waiting) (b : ℕ) → OpenedAgrees w g → Stepping g (frame upper w b)
unfolding frame
stepping g upper Waiting.Nothing b h = stepping_framed g upper _ _ (framed_first upper b)
stepping g upper Waiting.SecondByte b h = stepping_framed g upper _ _ (framed_second upper b)
stepping g upper (Waiting.Arguments w) b h = stepping_framed g upper _ _ (framed_argument upper w b)
stepping g upper (Waiting.StopList k before) b h = stepping-list g k before b (h.list k before refl)
stepping g upper (Waiting.ImageData m k n) b h =
    let e = h.image m k n refl in
    tries {w = after_image_byte m k n} 4 (λ p. refl) (own_image m k b g e) (λ s t. rw e (after-byte m k n g.list))

-- A byte, then what follows it

own_in_step : (c : Command) (e : Event) → ((g : Opened) → InStep c g) → EventOf c e → AlwaysInStep e
own_in_step c (done x n) h o = rw o h
own_in_step c (passed x reason) h o = rw o h
own_in_step c (inside x n) h o = λ g. tt
own_in_step c (automatic n) h o = λ g. tt

-- the reckoning's image is the rules'
own_density : (d : Density) → opened (Opening.Named d) ≡ image_at (opened_mode (Opening.Named d)) 1
unfolding image_of_code lookup
own_density Density.Single = refl
own_density Density.Double = refl
own_density Density.DoubleSpeed = refl
own_density Density.Quadruple = refl

own_mode : (m : ImageMode) → opened (Opening.Selected m) ≡ image_at m 1
unfolding image_of_mode lookup
own_mode ImageMode.Single = refl
own_mode ImageMode.Double = refl
own_mode ImageMode.DoubleSpeed = refl
own_mode ImageMode.Quadruple = refl
own_mode ImageMode.Crt80 = refl
own_mode ImageMode.Crt90 = refl
own_mode ImageMode.Single24 = refl
own_mode ImageMode.Double24 = refl
own_mode ImageMode.Crt24 = refl
own_mode ImageMode.Triple24 = refl
own_mode ImageMode.Hex24 = refl

own_opened : (o : Opening) → opened o ≡ image_at (opened_mode o) 1
own_opened (Opening.Named d) = own_density d
own_opened (Opening.Selected m) = own_mode m

-- what is claimed of all that comes after a state, if what it waits for is of what was opened
abbrev RestOf : Printer → Waiting → List Record → List Occurrence → Type 0
RestOf p w rs os = (g : Opened) → OpenedAgrees w g → Rest p g rs os

-- a command tried, done or passed over: it was received
tried_then : (p : Printer) (g : Opened) (k j : Axis) (c : Command) (reason : ℕ) (w : Waiting) (rs : List Record) (os : List Occurrence)
    → InStep c g → OpenedAgrees w (change_of (force_of p.settings p.stops g) c 0).force.opened → Tracks p k j → Legal p (attempt p c reason)
    → RestOf (perform_all p (attempt p c reason ∷ [])) w rs os
    → ClaimOver (from p g k j) (records_all p (attempt p c reason ∷ []) ++ rs) (event (attempt p c reason) ∷ os)
unfolding perform_all records_all
tried_then p g k j c reason w rs os i s t =
    attempted
    (λ (v : Event). Legal p v → RestOf (perform p v) w rs os → ClaimOver (from p g k j) ((records_of p v ++ []) ++ rs) (event v ∷ os))
    p c reason
    (λ _ h rest. rw (append-nil (records_of p (done c 0))) (event_then p g k j (done c 0) rs os h i t (rest _ s)))
    (λ _ h rest. event_then p g k j (passed c reason) rs os h i t (rest _ s))

frame_then : (p : Printer) (g : Opened) (k j : Axis) (f : Frame) (rs : List Record) (os : List Occurrence)
    → LegalAll p (events_in p f) → Stepping g f → Tracks p k j → RestOf (perform_all p (events_in p f)) (next_in f) rs os
    → ClaimOver (from p g k j) (records_all p (events_in p f) ++ rs) (map event (events_in p f) ++ os)
unfolding perform_all records_all
frame_then p g k j (Frame.Waits w) rs os h (waits s) t rest = rest g (s g) k j t
frame_then p g k j (Frame.Whole c w) rs os h (other i s) t rest =
    events_then p g k j (decide p c) rs os h (each_map (λ e. own_in_step c e i) (decide p c) (of_decide p c).own) t (λ x. rest x (s x))
frame_then p g k j (Frame.Whole (Command.OpenImage o a b) w) rs os h (opens s) t rest =
    event_then p g k j (done (Command.OpenImage o a b) 0) rs os h.0 (record { image = λ m i n z. cc; list = λ i x z. cc }) t
    (rest _ (rw (own_opened o) (s g.list)))
frame_then p g k j (Frame.Whole c w) rs os h (tries reason e i s) t rest =
    subst (λ (l : List Event). LegalAll p l → RestOf (perform_all p l) w rs os → ClaimOver (from p g k j) (records_all p l ++ rs) (map event l ++ os))
    (sym (e p)) (λ h rest. tried_then p g k j c reason w rs os i (s p.settings p.stops) t h.0 rest) h rest

-- Bytes, then what follows them

-- a state of ours that the reckoning follows, with what was opened
pub record Keeps (p : Printer) (g : Opened) (k j : Axis) : Type 0 where
  pub ours : Ours p
  pub across : At k (across_of p.place)
  pub down : At j (down_of p.place)
  pub opened : OpenedAgrees p.waiting g

abbrev pub After : Printer → List Record → List Occurrence → Type 0
After p rs os = (g : Opened) (k j : Axis) → Keeps p g k j → ClaimOver (from p g k j) rs os

byte-then : (p : Printer) (g : Opened) (k j : Axis) (b : ℕ) (rs : List Record) (os : List Occurrence) → b ≤ 255 → Keeps p g k j
    → After (step_of p b) rs os → ClaimOver (from p g k j) (step_records p b ++ rs) (map event (step_events p b) ++ os)
unfolding step_records step_events step_of
byte-then p g k j b rs os m h rest =
    let o = h.ours in
    frame_then p g k j (frame_at p b) rs os (sound p b m o.typed o.accepted).legal
    (stepping g p.settings.upperprints p.waiting b h.opened)
    (record { bounded = bounded p o.typed o.accepted; across = h.across; down = h.down })
    (λ x s k' j' t. rest x k' j' (record { ours = step_ours p b m o; across = t.across; down = t.down; opened = s }))

pub bytes_then : (p : Printer) (g : Opened) (k j : Axis) (l : List ℕ) (rs : List Record) (os : List Occurrence) → Bytes l → Keeps p g k j
    → After (state_after p l) rs os → ClaimOver (from p g k j) (records_over p l ++ rs) (map event (events_over p l) ++ os)
unfolding records_over events_over state_after
bytes_then p g k j [] rs os m h rest = rest g k j h
bytes_then p g k j (b ∷ l) rs os m h rest =
    rw (append_assoc, map-append, append_assoc)
    (byte-then p g k j b (records_over (step_of p b) l ++ rs) (map event (events_over (step_of p b) l) ++ os) m.0 h
    (λ x k' j' t. bytes_then (step_of p b) x k' j' l rs os m.1 t rest))
