-- The commands that the steps report spell the bytes that were read, and a single byte is taken for what it is.
use Prim.Native.Nat.{ℕ, ◌-◌}
use mathlib.Core.Path.{◌≡◌, sym, refl, ◌∙◌}
use mathlib.Core.Bool.{Bool}
use mathlib.Core.List.{List, [], ◌∷◌, ◌++◌, append_assoc, append-nil}
use lib.Dec.{leb, eqb}
use Rattle.printer.specs.Tools.{Each}
use Rattle.printer.specs.Codes.{spelt}
use Rattle.printer.specs.Widths.{image_bytes}
use Rattle.printer.specs.Framing.{image_wait, after_image_byte, frame}
use Rattle.printer.specs.Performing.{Event, done, passed, inside, automatic}
use Rattle.printer.specs.Deciding.{feed_after_return, pages_of_line, decide}
use Rattle.printer.specs.Steps.{frame_at, events_in, next_in, step_events, step_of, state_after, events_over}
use Rattle.printer.specs.Spelling.{pending, spelt_all, Classified, ClassifiedEvent, ClassifiedOver}
use Rattle.printer.specs.Types.{Command, Frame, ImageMode, Printer, Waiting}
use Rattle.printer.proofs.Choices.{pick_elim, each_map}
use Rattle.printer.proofs.Frames.{Framed, begins, single, opens_list, opens_image, rests, after_escape, open_list_classified, list-classified, open_classified, image-classified, framed_first, framed_second, framed_argument}
use Rattle.printer.proofs.Legal.{attempted, decided}

-- One byte

-- the bytes of a frame: its command's, and those of what it leaves waited for
abbrev spelt_in : Frame → List ℕ
spelt_in (Frame.Waits w) = pending w
spelt_in (Frame.Whole c w) = spelt c ++ pending w

image-pending : (m : ImageMode) (n : ℕ) → pending (image_wait m n) ≡ []
image-pending m n = pick_elim (λ (w : Waiting). pending w ≡ []) (eqb n 0) (λ _. refl) (λ _. refl)

byte-pending : (m : ImageMode) (k n : ℕ) → pending (after_image_byte m k n) ≡ []
byte-pending m k n =
    pick_elim (λ (w : Waiting). pending w ≡ []) (eqb k (image_bytes m)) (λ _. image-pending m (n - 1)) (λ _. refl)

framed_spells : (upper : Bool) (l : List ℕ) (f : Frame) → Framed upper l f → spelt_in f ≡ l
framed_spells upper l (Frame.Waits w) (begins e) = e
framed_spells upper l (Frame.Whole c w) (single e k n i rests) = append-nil (spelt c) ∙ e
framed_spells upper l (Frame.Whole c w) (single e k n i after_escape) = append-nil (spelt c) ∙ e
framed_spells upper l (Frame.Whole c w) (opens_list e) = append-nil (spelt c) ∙ e
framed_spells upper l (Frame.Whole c w) (opens_image e) = rw (image-pending _ _) (append-nil (spelt c) ∙ e)

frame_spells : (upper : Bool) (w : Waiting) (b : ℕ) → spelt_in (frame upper w b) ≡ pending w ++ (b ∷ [])
unfolding frame
frame_spells upper Waiting.Nothing b = framed_spells upper _ _ (framed_first upper b)
frame_spells upper Waiting.SecondByte b = framed_spells upper _ _ (framed_second upper b)
frame_spells upper (Waiting.Arguments w) b = framed_spells upper _ _ (framed_argument upper w b)
frame_spells upper (Waiting.StopList k before) b =
    pick_elim (λ (f : Frame). spelt_in f ≡ b ∷ []) (leb b before) (λ _. refl) (λ _. refl)
frame_spells upper (Waiting.ImageData m k n) b = rw (byte-pending m k n)

-- each single byte is taken for what it is

abbrev ClassifiedIn : Bool → Frame → Type 0
ClassifiedIn upper (Frame.Waits w) = Unit
ClassifiedIn upper (Frame.Whole c w) = Classified upper c

framed_classified : (upper : Bool) (l : List ℕ) (f : Frame) → Framed upper l f → ClassifiedIn upper f
framed_classified upper l (Frame.Waits w) (begins e) = tt
framed_classified upper l (Frame.Whole c w) (single e k n i r) = k
framed_classified upper l (Frame.Whole (Command.OpenList o) w) (opens_list e) = open_list_classified upper o
framed_classified upper l (Frame.Whole (Command.OpenImage o a b) w) (opens_image e) = open_classified upper o a b

frame-classified : (upper : Bool) (w : Waiting) (b : ℕ) → ClassifiedIn upper (frame upper w b)
unfolding frame
frame-classified upper Waiting.Nothing b = framed_classified upper _ _ (framed_first upper b)
frame-classified upper Waiting.SecondByte b = framed_classified upper _ _ (framed_second upper b)
frame-classified upper (Waiting.Arguments w) b = framed_classified upper _ _ (framed_argument upper w b)
frame-classified upper (Waiting.StopList k before) b =
    pick_elim (ClassifiedIn upper) (leb b before) (λ _. list-classified upper k _) (λ _. list-classified upper k _)
frame-classified upper (Waiting.ImageData m k n) b = image-classified upper m k b

-- The events of a command are that command's

-- an event of a command: that command, or one performed inside it
abbrev pub EventOf : Command → Event → Type 0
EventOf c (done x n) = x ≡ c
EventOf c (passed x reason) = x ≡ c
EventOf c (inside x n) = Unit
EventOf c (automatic n) = Unit

pub record OfCommand (c : Command) (l : List Event) : Type 0 where
  pub spells : spelt_all l ≡ spelt c
  pub own : Each (EventOf c) l

-- what is performed inside a command
record Inside (c : Command) (l : List Event) : Type 0 where
  spells : spelt_all l ≡ []
  own : Each (EventOf c) l

silent_feed : (c : Command) (p : Printer) → Inside c (feed_after_return p)
unfolding feed_after_return spelt_all
silent_feed c p =
    pick_elim (Inside c) p.settings.setup.autofeed (λ _. record { spells = refl; own = (tt, tt) })
    (λ _. record { spells = refl; own = tt })

of_done : (c : Command) (n : ℕ) (l : List Event) → Inside c l → OfCommand c (done c n ∷ l)
unfolding spelt_all
of_done c n l h = record { spells = rw h.spells (append-nil (spelt c)); own = (refl, h.own) }

pub of_decide : (p : Printer) (c : Command) → OfCommand c (decide p c)
unfolding spelt_all
of_decide p =
    decided p OfCommand
    (record {
      does = λ c n r k. of_done c n [] (record { spells = refl; own = tt });
      passes = λ c reason k u. record { spells = append-nil (spelt c); own = (refl, tt) };
      wraps = λ b h.
          attempted (λ (e : Event). OfCommand (Command.Letter b) (automatic (pages_of_line p) ∷ e ∷ [])) _ _ 4
          (λ _. record { spells = refl; own = (tt, (refl, tt)) }) (λ _. record { spells = refl; own = (tt, (refl, tt)) });
      returns = λ b. of_done _ 0 _ (silent_feed _ _);
      performs_return = λ b. let f = silent_feed _ _ in of_done _ 0 _ (record { spells = f.spells; own = (tt, f.own) });
      performs = λ b x n h. of_done _ 0 _ (record { spells = refl; own = (tt, tt) });
    })

-- Steps

frame_events : (p : Printer) (f : Frame) → spelt_all (events_in p f) ++ pending (next_in f) ≡ spelt_in f
unfolding spelt_all
frame_events p (Frame.Waits w) = refl
frame_events p (Frame.Whole c w) = rw (of_decide p c).spells

step_spells : (p : Printer) (b : ℕ) → spelt_all (step_events p b) ++ pending (step_of p b).waiting ≡ pending p.waiting ++ (b ∷ [])
unfolding step_events step_of
step_spells p b = frame_events p (frame_at p b) ∙ frame_spells p.settings.upperprints p.waiting b

spelt-append : (a b : List Event) → spelt_all (a ++ b) ≡ spelt_all a ++ spelt_all b
unfolding spelt_all
spelt-append [] b = refl
spelt-append (e ∷ a) b = rw (spelt-append a b, append_assoc)

pub steps_spell : (p : Printer) (input : List ℕ)
    → spelt_all (events_over p input) ++ pending (state_after p input).waiting ≡ pending p.waiting ++ input
unfolding events_over state_after spelt_all
steps_spell p [] = sym (append-nil (pending p.waiting))
steps_spell p (b ∷ l) =
    rw (spelt-append (step_events p b) (events_over (step_of p b) l), append_assoc, steps_spell (step_of p b) l, ← append_assoc, step_spells p b, append_assoc)

own_classified : (upper : Bool) (c : Command) (e : Event) → Classified upper c → EventOf c e → ClassifiedEvent upper e
own_classified upper c (done x n) h o = rw o h
own_classified upper c (passed x reason) h o = rw o h
own_classified upper c (inside x n) h o = tt
own_classified upper c (automatic n) h o = tt

frame_events_classified : (upper : Bool) (p : Printer) (f : Frame) → ClassifiedIn upper f → Each (ClassifiedEvent upper) (events_in p f)
frame_events_classified upper p (Frame.Waits w) h = tt
frame_events_classified upper p (Frame.Whole c w) h = each_map (λ e. own_classified upper c e h) (decide p c) (of_decide p c).own

pub steps_classified : (p : Printer) (input : List ℕ) → ClassifiedOver p input
unfolding step_events
steps_classified p [] = tt
steps_classified p (b ∷ l) = (
  frame_events_classified p.settings.upperprints p (frame_at p b) (frame-classified p.settings.upperprints p.waiting b),
  steps_classified (step_of p b) l,
)
