-- Steps keep the bounds: a state of ours stays so over a byte and over an input.
use Prim.Native.Nat.{ℕ, zero, suc, ◌+◌, ◌*◌, ◌-◌, ◌≤◌, ◌<◌}
use mathlib.Core.Path.{◌≡◌, refl}
use mathlib.Core.Bool.{Bool, true, false}
use mathlib.Core.List.{List, [], ◌∷◌}
use native.Mathlib.Omega.{arith}
use native.Mathlib.Nat.{mul-le-mul_right}
use lib.Dec.{leb, eqb}
use lib.ListN.{length}
use borrow.Author.Tests.{leb-true, leb-false, eqb-false}
use Rattle.printer.specs.Tools.{pick, both, Holds, Bytes}
use Rattle.printer.specs.Units.{narrowest_paper, widest_paper}
use Rattle.printer.specs.Settings.{line_of}
use Rattle.printer.specs.PowerOn.{power_on, no_stops}
use Rattle.printer.specs.Widths.{image_bytes}
use Rattle.printer.specs.Framing.{frame, opened_mode, image_wait, after_image_byte, opened_list, list_opened, list_frame}
use Rattle.printer.specs.Performing.{Event, done, passed, gathering, stop_of, list_stops, perform, perform_all}
use Rattle.printer.specs.Deciding.{most_stops, stop_place, stop_needs, attempt, decide}
use Rattle.printer.specs.Codes.{spelt, begun_by}
use Rattle.printer.specs.Steps.{frame_at, events_in, next_in, step_events, step_of, state_after}
use Rattle.printer.specs.Bounds.{settings_bounds, gathering_bounds, waiting_bounds, ascending, last_of, last_stop, channel_of}
pub use Rattle.printer.specs.Accepted.{Ours}
use Rattle.printer.specs.Accepted.{Accepted, Typed, StopsTyped, WaitingTyped}
use Rattle.printer.specs.Spelling.{Classified}
use Rattle.printer.specs.Types.{Command, Frame, ImageMode, Listing, ListOpening, ListPart, Opening, Printer, Settings, Setup, Stops, Tabs, Target, Waiting}
use Rattle.printer.proofs.Choices.{pick_elim, bytes_append}
use Rattle.printer.proofs.Accepting.{power_on_accepted, power_on_typed}
use Rattle.printer.proofs.StopLists.{list-more, last_more}
use Rattle.printer.proofs.Modes.{bytes_within}
use Rattle.printer.proofs.Frames.{NoList, NoImage, clash, Framed, begins, single, opens_list, opens_image, rests, after_escape, open_list_classified, list-classified, open_classified, image-classified, framed_first, framed_second, framed_argument}
use Rattle.printer.proofs.Keeping.{Bounded, keep_all}
use Rattle.printer.proofs.Legal.{Gathered, Above, Given, given_none, LegalAll, attempted, legal_decide}

-- Bytes: the events are legal, and what is waited for next is within its bounds

abbrev pub Waits : Printer → Waiting → Type 0
Waits p w = Holds (waiting_bounds p.settings p.stops w)

pub record Sound (p : Printer) (f : Frame) : Type 0 where
  pub legal : LegalAll p (events_in p f)
  pub waits : Waits (perform_all p (events_in p f)) (next_in f)
  pub typed : WaitingTyped (next_in f)

-- a whole command
sound_given : (p : Printer) (c : Command) (w : Waiting) → Bytes (spelt c) → Given p.settings p.stops c
    → Classified p.settings.upperprints c → Waits (perform_all p (decide p c)) w → WaitingTyped w → Sound p (Frame.Whole c w)
sound_given p c w b g k h t = record { legal = legal_decide p c b g k; waits = h; typed = t }

-- one that is no byte of a list
sound-whole : (p : Printer) (c : Command) (w : Waiting) → Bytes (spelt c) → NoList c → NoImage c → Classified p.settings.upperprints c
    → Waits (perform_all p (decide p c)) w → WaitingTyped w → Sound p (Frame.Whole c w)
sound-whole p c w b n i k h t =
    sound_given p c w b (given_none p.settings p.stops c n i) k h t

wait_image : (p : Printer) (m : ImageMode) (n : ℕ) → n ≤ 65535 → Waits p (image_wait m n)
wait_image p m n h =
    pick_elim (Waits p) (eqb n 0) (λ _. tt)
    (λ e. let k : (n ≡ 0 → ⊥) = eqb-false n 0 e in (omega arith, (h, (omega arith, ((bytes_within m).0, tt)))))

wait_byte : (p : Printer) (m : ImageMode) (k n : ℕ) → n ≤ 65535 → 1 ≤ n → k ≤ image_bytes m → Waits p (after_image_byte m k n)
wait_byte p m k n h l u =
    pick_elim (Waits p) (eqb k (image_bytes m)) (λ _. wait_image p m (n - 1) (omega arith))
    (λ e. let v : (k ≡ image_bytes m → ⊥) = eqb-false k (image_bytes m) e in (l, (h, (omega arith, (omega (arith, v), tt)))))

typed-image : (m : ImageMode) (n : ℕ) → WaitingTyped (image_wait m n)
typed-image m n = pick_elim WaitingTyped (eqb n 0) (λ _. tt) (λ _. tt)

typed_byte : (m : ImageMode) (k n : ℕ) → WaitingTyped (after_image_byte m k n)
typed_byte m k n = pick_elim WaitingTyped (eqb k (image_bytes m)) (λ _. typed-image m (n - 1)) (λ _. tt)

sound_waits : (p : Printer) (w : Waiting) → Waits p w → WaitingTyped w → Sound p (Frame.Waits w)
unfolding perform_all
sound_waits p w h t = record { legal = tt; waits = h; typed = t }

-- a list is opened, or one that is dropped

wait_set : (s : Settings) (t : Stops) (k : Target) → channel_of k ≤ 7 → Holds (gathering_bounds s (gathering t no_stops) k 0)
unfolding ascending last_of
wait_set s t Target.Columns h = omega arith
wait_set s t (Target.Channel m) h = omega arith

wait_opened : (p : Printer) (o : ListOpening) → Waits (perform_all p (decide p (Command.OpenList o))) (Waiting.StopList (opened_list o) 0)
unfolding perform_all attempt
wait_opened p (ListOpening.Named Tabs.Horizontal) = wait_set p.settings p.stops Target.Columns (omega arith)
wait_opened p (ListOpening.Named Tabs.Vertical) = wait_set p.settings p.stops (Target.Channel 0) (omega arith)
wait_opened p (ListOpening.Channel m) = go (leb m 7) refl
  where
    go : (u : Bool) → leb m 7 ≡ u
        → Waits (perform p (pick (both u true) (done (Command.OpenList (ListOpening.Channel m)) 0) (passed (Command.OpenList (ListOpening.Channel m)) 2)))
        (Waiting.StopList (pick u (Listing.Sets (Target.Channel m)) Listing.Dropped) 0)
    go true e = wait_set p.settings p.stops (Target.Channel m) (leb-true m 7 e)
    go false e = tt

sound-opened : (p : Printer) (o : ListOpening) → Bytes (spelt (Command.OpenList o)) → Sound p (list_opened o)
sound-opened p o h =
    sound-whole p (Command.OpenList o) (Waiting.StopList (opened_list o) 0) h (λ k x z. cc) (λ m k n z. cc) (open_list_classified _ o) (wait_opened p o) (omega arith)

-- an image is opened
opened-columns : (o : Opening) (a b : ℕ) → Bytes (spelt (Command.OpenImage o a b)) → a + 256 * b ≤ 65535
opened-columns (Opening.Named d) a b h = let u = h.1.0 in let v = h.1.1.0 in omega arith
opened-columns (Opening.Selected m) a b h = let u = h.1.1.0 in let v = h.1.1.1.0 in omega arith

sound-image : (p : Printer) (o : Opening) (a b : ℕ) → Bytes (spelt (Command.OpenImage o a b))
    → Sound p (Frame.Whole (Command.OpenImage o a b) (image_wait (opened_mode o) (a + 256 * b)))
sound-image p o a b h =
    sound-whole p (Command.OpenImage o a b) (image_wait (opened_mode o) (a + 256 * b)) h (λ k x z. cc) (λ m k n z. cc) (open_classified _ o a b)
    (wait_image (perform_all p (decide p (Command.OpenImage o a b))) (opened_mode o) (a + 256 * b) (opened-columns o a b h)) (typed-image (opened_mode o) (a + 256 * b))

as_bytes : {a l : List ℕ} → a ≡ l → Bytes l → Bytes a
as_bytes e h = rw e h

sound_framed : (p : Printer) (l : List ℕ) (f : Frame) → Bytes l → Framed p.settings.upperprints l f → Sound p f
sound_framed p l (Frame.Waits w) h (begins e) = sound_waits p w tt (as_bytes e h)
sound_framed p l (Frame.Whole c w) h (single e k n i rests) = sound-whole p c w (as_bytes e h) n i k tt tt
sound_framed p l (Frame.Whole c w) h (single e k n i after_escape) = sound-whole p c w (as_bytes e h) n i k tt tt
sound_framed p l (Frame.Whole (Command.OpenList o) w) h (opens_list e) = sound-opened p o (as_bytes e h)
sound_framed p l (Frame.Whole (Command.OpenImage o a b) w) h (opens_image e) = sound-image p o a b (as_bytes e h)

-- a byte of a list, above the byte before

positive : (n y : ℕ) → 1 ≤ n * y → 1 ≤ y
positive n zero h = omega arith
positive n (suc y) h = omega arith

above : (s : Settings) (t : Stops) (k : Target) (before b : ℕ) → before < b → Holds (gathering_bounds s t k before) → Above s t k b
above s t Target.Columns before b l h = λ m. omega arith
above s t (Target.Channel c) before b l h =
    λ m. omega (arith, mul-le-mul_right (line_of s) l, positive b (line_of s) m)

-- a larger byte makes no smaller stop
later : (s : Settings) (k : Target) (before b : ℕ) → before < b → stop_of s k before ≤ stop_of s k b
later s Target.Columns before b l = omega arith
later s (Target.Channel c) before b l = omega (arith, mul-le-mul_right (line_of s) l)

-- passed over, its byte is still the last
wait_passed : (s : Settings) (t : Stops) (k : Target) (before b : ℕ) → before < b → Holds (gathering_bounds s t k before)
    → Holds (gathering_bounds s t k b)
wait_passed s t k before b l h = (omega (arith, later s k before b l), h.1)

-- a stop taken is from 1 to its limit
within_limit : (s : Settings) (k : Target) (before b : ℕ) → before < b → b ≤ 255 → Holds (settings_bounds s) → Holds (stop_place s k (stop_of s k b))
    → (1 ≤ stop_of s k b) × (stop_of s k b ≤ last_stop k)
within_limit s Target.Columns before b l m f h = omega arith
within_limit s (Target.Channel c) before b l m f h = omega arith

most_fit : (k : Target) → most_stops k ≤ 32
most_fit Target.Columns = omega arith
most_fit (Target.Channel c) = omega arith

wait_added : (s : Settings) (t : Stops) (k : Target) (before b : ℕ) → before < b → b ≤ 255 → StopsTyped t
    → Holds (gathering_bounds s t k before) → Holds (settings_bounds s) → Holds (stop_needs s t k b)
    → Holds (gathering_bounds s (list_stops s t (Listing.Sets k) (ListPart.Byte b)) k b)
wait_added s t k before b l m y g f h =
    let w = within_limit s k before b l m f h.1 in
    let e : t.gathered.count < length t.gathered.stops = omega (arith, most_fit k, y.gathered) in (
      rw (last_more t.gathered (stop_of s k b) e) (omega arith),
      (g.1.0, list-more (most_stops k) (last_stop k) t.gathered (stop_of s k b) e h.0 (above s t k before b l g w.0) w.1 g.1.1),
    )

wait_list : (p : Printer) (k : Target) (before b : ℕ) → before < b → b ≤ 255 → Bounded p
    → Holds (gathering_bounds p.settings p.stops k before)
    → Waits (perform_all p (decide p (Command.List (Listing.Sets k) (ListPart.Byte b)))) (Waiting.StopList (Listing.Sets k) b)
unfolding perform_all
wait_list p k before b l m f h =
    attempted (λ (e : Event). Waits (perform p e) (Waiting.StopList (Listing.Sets k) b)) p (Command.List (Listing.Sets k) (ListPart.Byte b)) 3
    (λ e. wait_added p.settings p.stops k before b l m f.stops.typed h f.within.0 e)
    (λ _. wait_passed p.settings p.stops k before b l h)

list_kind : (k j : Target) (x y : ListPart) → Command.List (Listing.Sets k) x ≡ Command.List (Listing.Sets j) y → k ≡ j
list_kind k j x y z = cc

given_stop : (p : Printer) (k j : Target) (b n : ℕ) → Command.List (Listing.Sets k) (ListPart.Byte b) ≡ Command.List (Listing.Sets j) (ListPart.Byte n)
    → Gathered p.stops k → Above p.settings p.stops k b → Gathered p.stops j × Above p.settings p.stops j n
given_stop p k j b n z g a =
    let i : k ≡ j = cc in let e : b ≡ n = cc in
    (rw i at g, rw (i, e) at a)

sound-list : (p : Printer) (k : Target) (before b : ℕ) → b ≤ 255 → Bounded p
    → Holds (gathering_bounds p.settings p.stops k before) → Sound p (list_frame (Listing.Sets k) before b)
sound-list p k before b m f h =
    pick_elim (Sound p) (leb b before)
    (λ _. sound_given p (Command.List (Listing.Sets k) (ListPart.End b)) Waiting.Nothing (m, tt)
    (record { stop = λ j n z. absurd (clash cc); end = λ j n z. rw (list_kind k j _ _ z) at h.1; part = λ m j n z. absurd (clash cc) }) (list-classified _ (Listing.Sets k) _) tt tt)
    (λ e. let l : before < b = leb-false _ _ e in
    sound_given p (Command.List (Listing.Sets k) (ListPart.Byte b)) (Waiting.StopList (Listing.Sets k) b) (m, tt)
    (record { stop = λ j n z. given_stop p k j b n z h.1 (above p.settings p.stops k before b l h); end = λ j n z. absurd (clash cc); part = λ m j n z. absurd (clash cc) }) (list-classified _ (Listing.Sets k) _)
    (wait_list p k before b l m f h) m)

-- one of a list that is dropped
sound-dropped : (p : Printer) (before b : ℕ) → b ≤ 255 → Sound p (list_frame Listing.Dropped before b)
sound-dropped p before b m =
    pick_elim (Sound p) (leb b before)
    (λ _. sound_given p (Command.List Listing.Dropped (ListPart.End b)) Waiting.Nothing (m, tt) (given-dropped p (ListPart.End b)) (list-classified _ Listing.Dropped _) tt tt)
    (λ _. sound_given p (Command.List Listing.Dropped (ListPart.Byte b)) (Waiting.StopList Listing.Dropped b) (m, tt) (given-dropped p (ListPart.Byte b)) (list-classified _ Listing.Dropped _) tt m)
  where
    given-dropped : (p : Printer) (part : ListPart) → Given p.settings p.stops (Command.List Listing.Dropped part)
    given-dropped p part = record { stop = λ j n z. absurd (clash cc); end = λ j n z. absurd (clash cc); part = λ m j n z. absurd (clash cc) }

part_same : (m u : ImageMode) (k b v n : ℕ) → Command.ImageByte m k b ≡ Command.ImageByte u v n → k ≡ v
part_same m u k b v n z = cc

given_part : (p : Printer) (m : ImageMode) (k b : ℕ) → k ≤ 255 → Given p.settings p.stops (Command.ImageByte m k b)
given_part p m k b h =
    record {
      stop = λ j n z. absurd (clash cc);
      end = λ j n z. absurd (clash cc);
      part = λ u v n z. rw (part_same m u k b v n z) at h;
    }

sound-at : (p : Printer) (w : Waiting) (b : ℕ) → b ≤ 255 → Bounded p → Waits p w → WaitingTyped w → Sound p (frame p.settings.upperprints w b)
unfolding frame
sound-at p Waiting.Nothing b m f h t = sound_framed p _ _ (m, tt) (framed_first _ b)
sound-at p Waiting.SecondByte b m f h t = sound_framed p _ _ (m, tt) (framed_second _ b)
sound-at p (Waiting.Arguments w) b m f h t =
    sound_framed p _ _ (bytes_append (begun_by w) (b ∷ []) t (m, tt)) (framed_argument _ w b)
sound-at p (Waiting.StopList (Listing.Sets k) before) b m f h t = sound-list p k before b m f h
sound-at p (Waiting.StopList Listing.Dropped before) b m f h t = sound-dropped p before b m
sound-at p (Waiting.ImageData d k n) b m f h t =
    sound_given p (Command.ImageByte d k b) (after_image_byte d k n) (m, tt) (given_part p d k b (omega (arith, h.1.1.1.0, (bytes_within d).1))) (image-classified _ d k b)
    (wait_byte (perform_all p (decide p (Command.ImageByte d k b))) d k n h.1.0 h.0 h.1.1.1.0) (typed_byte d k n)

pub bounded : (p : Printer) → Typed p → Accepted p → Bounded p
bounded p t a =
    record {
      within = (a.settings, a.place, t.font);
      stops = record { typed = t.stops; columns = a.columns; channels = a.channels };
    }

pub sound : (p : Printer) (b : ℕ) → b ≤ 255 → Typed p → Accepted p → Sound p (frame_at p b)
sound p b m t a = sound-at p p.waiting b m (bounded p t a) a.waiting t.waiting

pub step_ours : (p : Printer) (b : ℕ) → b ≤ 255 → Ours p → Ours (step_of p b)
unfolding step_of step_events
step_ours p b m o =
    let s = sound p b m o.typed o.accepted in
    let k = keep_all p (events_in p (frame_at p b)) s.legal (bounded p o.typed o.accepted) in
    record {
      typed = record { font = k.within.2; stops = k.stops.typed; waiting = s.typed };
      accepted =
          record {
            settings = k.within.0;
            place = k.within.1;
            columns = k.stops.columns;
            channels = k.stops.channels;
            waiting = s.waits;
          };
    }

pub steps_ours : (p : Printer) (l : List ℕ) → Bytes l → Ours p → Ours (state_after p l)
unfolding state_after
steps_ours p [] m o = o
steps_ours p (b ∷ l) m o = steps_ours (step_of p b) l m.1 (step_ours p b m.0 o)

pub power_on_ours : (t : Setup) → narrowest_paper ≤ t.width.0 → t.width.0 ≤ widest_paper → Ours (power_on t)
power_on_ours t h k = record { typed = power_on_typed t; accepted = power_on_accepted t h k }
