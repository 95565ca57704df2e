-- Bytes that are one whole command do it.
use Prim.Native.Nat.{ℕ, ◌+◌, ◌*◌}
use mathlib.Core.Path.{◌≡◌, refl, sym, ◌∙◌}
use mathlib.Core.Bool.{Bool}
use mathlib.Core.List.{List, [], ◌∷◌, ◌++◌, append_assoc, append-nil}
use borrow.Author.Tests.{ne_eqb}
use Rattle.printer.specs.Codes.{one_code, two_code, image_mode_number, spelt}
use Rattle.printer.specs.Framing.{frame, one_command, two_command, after_two}
use Rattle.printer.specs.Performing.{Event, perform_all, records_all}
use Rattle.printer.specs.Deciding.{decide}
use Rattle.printer.specs.Steps.{wait_for, frame_at, step_events, step_of, step_records, state_after, records_over, events_over}
use Rattle.printer.specs.Spelling.{StandsFor}
use Rattle.printer.specs.declared.commands.Begun.{Begun}
use Rattle.printer.specs.declared.commands.Command.{Command}
use Rattle.printer.specs.declared.commands.Frame.{Frame}
use Rattle.printer.specs.declared.commands.ImageMode.{ImageMode}
use Rattle.printer.specs.declared.commands.One.{One}
use Rattle.printer.specs.declared.commands.Silent.{Silent}
use Rattle.printer.specs.declared.commands.Two.{Two}
use Rattle.printer.specs.declared.commands.Waiting.{Waiting}
use Rattle.printer.specs.declared.state.Printer.{Printer}
use Rattle.printer.proofs.Advanced.{escape-frame}
use Rattle.printer.proofs.Listed.{every_listed}
use Rattle.whole.specs.Whole.{Frames, Does, beginning, Escape, shift_out, shift_in, reset, mode, switch, one, lines, inches, two, selected, list, channel_list, keep_mode, status_request, unlisted, other_third, other_mode, other_image_mode}
use Rattle.whole.proofs.Pending.{decides-alike, leaves_alike, writes_alike}

-- a byte that is waited on
step_waits : (p : Printer) (b : ℕ) (w : Waiting) → frame_at p b ≡ Frame.Waits w → (step_of p b ≡ wait_for p w) × (step_events p b ≡ [])
unfolding step_of step_events perform_all
step_waits p b w e = (rw e, rw e)

-- a byte with which a command is whole
step_does : (p : Printer) (b : ℕ) (c : Command) (w : Waiting) → frame_at p b ≡ Frame.Whole c w → Does p (b ∷ []) [] c w
unfolding state_after records_over events_over step_of step_records step_events
step_does p b c w e = record { state = rw e; records = rw e (append-nil _); events = rw e (append-nil _) }

-- one byte more before, which is waited on or changes nothing: what was waited for makes no difference
module _ (p : Printer) (b : ℕ) (w : Waiting) (begins : List Event) (e : step_of p b ≡ wait_for p w) (f : step_events p b ≡ begins) (r : records_all p begins ≡ []) where
  pub does-after : (l : List ℕ) (begun : List Event) (c : Command) (v : Waiting) → Does (wait_for p w) l begun c v → Does p (b ∷ l) (begins ++ begun) c v
  unfolding state_after records_over events_over step_records
  does-after l begun c v h =
      record {
        state = rw e (h.state ∙ rw (decides-alike p w c, leaves_alike p w (decide p c)));
        records = rw (f, r, e) (h.records ∙ rw (decides-alike p w c, writes_alike p w (decide p c)));
        events = rw (f, e, h.events, decides-alike p w c) (sym (append_assoc begins begun (decide p c)));
      }

pub whole : (p : Printer) (l : List ℕ) (c : Command) (v : Waiting) → Frames p.settings.upperprints p.waiting l c v → Does p l [] c v
unfolding Frames records_all
whole p [] c v h = absurd h
whole p (b ∷ []) c v h = step_does p b c v h
whole p (b ∷ n ∷ l) c v h =
    let s = step_waits p b h.0 h.1 in
    does-after p b h.0 [] s.0 s.1 refl (n ∷ l) [] c v (whole (wait_for p h.0) (n ∷ l) c v h.2)

-- Escapes

-- the byte that begins one, where nothing is waited for
module _ (p : Printer) (e : ℕ) (w : p.waiting ≡ Waiting.Nothing) (s : StandsFor p.settings.upperprints e 0x1B) where
  frame_here : frame_at p e ≡ Frame.Whole (Command.Silent (Silent.Escape e)) Waiting.SecondByte
  frame_here = rw w (escape-frame p.settings.upperprints e s)

  begins : (step_of p e ≡ wait_for p Waiting.SecondByte) × (step_events p e ≡ beginning e)
  unfolding step_of step_events perform_all
  begins = (rw frame_here, rw frame_here)

  pub whole-escape : (l : List ℕ) (c : Command) (v : Waiting) → Frames p.settings.upperprints Waiting.SecondByte l c v
      → Does p (e ∷ l) (beginning e) c v
  unfolding records_all
  whole-escape l c v h =
      does-after p e Waiting.SecondByte (beginning e) begins.0 begins.1 refl l [] c v (whole (wait_for p Waiting.SecondByte) l c v h)

-- the second byte of an escape with arguments
abbrev Begins : Begun → ℕ → Type 0
Begins w b = (upper : Bool) → frame upper Waiting.SecondByte b ≡ Frame.Waits (Waiting.Arguments w)

one-begins : (c : One) → Begins (Begun.One c) (one_code c)
unfolding frame
one-begins c upper = rw (every_listed.one c)

page-begins : Begins Begun.PageLength 0x43
unfolding frame
page-begins upper = rw every_listed.page

two_begins : (c : Two) → Begins (Begun.FirstOf c) (two_code c)
unfolding frame
two_begins c upper = rw (every_listed.two c)

advanced-begins : Begins Begun.Advanced 0x69
unfolding frame
advanced-begins upper = rw every_listed.advanced

select_begins : Begins Begun.SelectMode 0x2A
unfolding frame
select_begins upper = rw every_listed.select

list-begins : Begins Begun.ListChannel 0x62
unfolding frame
list-begins upper = rw every_listed.list_channel

mode_selected_lem : (m : ImageMode) (upper : Bool)
    → frame upper (Waiting.Arguments Begun.SelectMode) (image_mode_number m) ≡ Frame.Waits (Waiting.Arguments (Begun.ColumnsLow m))
unfolding frame
mode_selected_lem m upper = rw (every_listed.image_mode m)

abbrev Whole : Bool → Command → Waiting → Type 0
Whole upper c v = Frames upper Waiting.SecondByte (spelt c) c v

one_frames : (upper : Bool) (c : One) (n : ℕ) → Whole upper (one_command c n) Waiting.Nothing
unfolding Frames frame
one_frames upper (One.Parameter c) n = (_, one-begins (One.Parameter c) upper, refl)
one_frames upper (One.Choice c) n = (_, one-begins (One.Choice c) upper, refl)
one_frames upper One.Skip n = (_, one-begins One.Skip upper, refl)
one_frames upper One.Feed n = (_, one-begins One.Feed upper, refl)
one_frames upper (One.Margin side) n = (_, one-begins (One.Margin side) upper, refl)
one_frames upper One.Channel n = (_, one-begins One.Channel upper, refl)

two_frames : (upper : Bool) (c : Two) (a b : ℕ) → Whole upper (two_command c a b) (after_two c (a + 256 * b))
unfolding Frames frame
two_frames upper (Two.Move m) a b = (_, two_begins (Two.Move m) upper, (_, refl, refl))
two_frames upper (Two.Image d) a b = (_, two_begins (Two.Image d) upper, (_, refl, refl))

escape_frames : (upper : Bool) (c : Command) (v : Waiting) → Escape c v → Whole upper c v
unfolding Frames frame
escape_frames upper c v shift_out = rw every_listed.shift_out
escape_frames upper c v shift_in = rw every_listed.shift_in
escape_frames upper c v reset = rw every_listed.reset
escape_frames upper c v (mode k) = rw (every_listed.mode k)
escape_frames upper c v (switch w) = rw (every_listed.look w)
escape_frames upper c v (one k n) = one_frames upper k n
escape_frames upper c v (lines n h) = (_, page-begins upper, rw (ne_eqb n 0 h))
escape_frames upper c v (inches n) = (_, page-begins upper, (_, refl, refl))
escape_frames upper c v (two k a b) = two_frames upper k a b
escape_frames upper c v (selected m a b) = (_, select_begins upper, (_, mode_selected_lem m upper, (_, refl, refl)))
escape_frames upper c v (list t) = rw (every_listed.list t)
escape_frames upper c v (channel_list m) = (_, list-begins upper, refl)
escape_frames upper c v keep_mode = (_, advanced-begins upper, (_, refl, refl))
escape_frames upper c v status_request = (_, advanced-begins upper, refl)
escape_frames upper c v (unlisted b h) = rw (every_listed.no_escape b h)
escape_frames upper c v (other_third b h k) = (_, advanced-begins upper, rw (ne_eqb b 0x61 h, ne_eqb b 0x53 k))
escape_frames upper c v (other_mode n h) = (_, advanced-begins upper, (_, refl, rw (ne_eqb n 0 h)))
escape_frames upper c v (other_image_mode n h) = (_, select_begins upper, rw (every_listed.no_image_mode n h))

-- where nothing is waited for, the bytes of an escape do it
pub escape : (p : Printer) (e : ℕ) (c : Command) (v : Waiting) → p.waiting ≡ Waiting.Nothing → StandsFor p.settings.upperprints e 0x1B
    → Escape c v → Does p (e ∷ spelt c) (beginning e) c v
escape p e c v w s h = whole-escape p e w s (spelt c) c v (escape_frames p.settings.upperprints c v h)
