-- A byte's step on registers: a frame that is waited on, or a whole command.
use Prim.Native.Nat.{ℕ}
use mathlib.Core.Path.{◌≡◌, sym, ap, ◌∙◌}
use mathlib.Core.Bool.{true, false}
use mathlib.Core.List.{List, []}
use lib.ListN.{get_or}
use Rattle.printer.specs.Framing.{is_letter, read_as, first_of, second_of, first_frame, second_frame, continued, list_frame, after_image_byte, frame}
use Rattle.printer.specs.Performing.{perform_all, records_all}
use Rattle.printer.specs.Deciding.{decide}
use Rattle.printer.specs.Steps.{frame_at, step_events, step_of, step_records}
use Rattle.printer.specs.declared.commands.Begun.{Begun}
use Rattle.printer.specs.declared.commands.Command.{Command}
use Rattle.printer.specs.declared.commands.ImageMode.{ImageMode}
use Rattle.printer.specs.declared.commands.First.{First}
use Rattle.printer.specs.declared.commands.Frame.{Frame}
use Rattle.printer.specs.declared.commands.Listing.{Listing}
use Rattle.printer.specs.declared.commands.Second.{Second}
use Rattle.printer.specs.declared.records.Record.{Record}
use Rattle.printer.specs.declared.commands.Waiting.{Waiting}
use Rattle.printer.specs.declared.state.Printer.{Printer}
use Rattle.registers.specs.declared.pending.Pending.{Pending}
use Rattle.registers.specs.Register.{upper_prints_at}
use Rattle.registers.specs.Groups.{is_set}
use Rattle.registers.specs.Layout.{laid}
use Rattle.registers.proofs.Reading.{upper-held}
use Rattle.interpreter.specs.Doing.{Did}
use Rattle.interpreter.specs.Taking.{Current, StepPromise}

module _ {p : Printer} {v : Pending} {w : Waiting} {m : List ℕ} (h : Current p v w m) where
  -- the frame by the registers is that of the rules
  frame_here : (b : ℕ) {f : Frame} → f ≡ frame (is_set (get_or m upper_prints_at 0)) w b → frame_at p b ≡ f
  frame_here b {f} e = sym (rw (upper-held h.held, h.waits) at e)

  pub waited : (b : ℕ) {next : Waiting} → frame_at p b ≡ Frame.Waits next → StepPromise p v b next [] m
  unfolding step_of step_events step_records perform_all records_all laid
  waited b e = record { same = rw e h.held.same; waits = rw e; wrote = rw e }

  pub whole : (b : ℕ) {c : Command} {next : Waiting} {m' : List ℕ} {k : List Record} → frame_at p b ≡ Frame.Whole c next
      → Did p v (decide p c) m' k → StepPromise p v b next k m'
  unfolding step_of step_events step_records laid
  whole b e d = record { same = rw e d.state; waits = rw e; wrote = rw e d.wrote }

  -- between commands
  module _ (b : ℕ) (e : w ≡ Waiting.Nothing) where
    between : frame_at p b ≡ frame (is_set (get_or m upper_prints_at 0)) Waiting.Nothing b
    between = frame_here b (ap (λ (x : Waiting). frame (is_set (get_or m upper_prints_at 0)) x b) (sym e))

    pub letter-frame : is_letter (is_set (get_or m upper_prints_at 0)) b ≡ true → frame_at p b ≡ Frame.Whole (Command.Letter b) Waiting.Nothing
    unfolding frame
    letter-frame t = between ∙ rw t

    pub control-frame : {f : First} → is_letter (is_set (get_or m upper_prints_at 0)) b ≡ false → f ≡ first_of (read_as (is_set (get_or m upper_prints_at 0)) b)
        → frame_at p b ≡ first_frame f b
    unfolding frame
    control-frame t g = between ∙ rw (t, g)

  -- an escape's second byte, by what it is
  pub second-frame : (b : ℕ) {s t : Second} → w ≡ Waiting.SecondByte → s ≡ second_of b → s ≡ t → frame_at p b ≡ second_frame t b
  unfolding frame
  second-frame b e f g = frame_here b (rw (e, ← f, g))

  -- an argument, by those so far
  pub argument-frame : (b : ℕ) {k l : Begun} → w ≡ Waiting.Arguments k → k ≡ l → frame_at p b ≡ continued l b
  unfolding frame
  argument-frame b e f = frame_here b (rw (e, f))

  -- a byte of a stop list
  pub list-frame : (b : ℕ) {k : Listing} {before : ℕ} → w ≡ Waiting.StopList k before → frame_at p b ≡ list_frame k before b
  unfolding frame
  list-frame b e = frame_here b (rw e)

  -- in image data
  pub image-frame : (b : ℕ) {mode : ImageMode} {k columns : ℕ} → w ≡ Waiting.ImageData mode k columns
      → frame_at p b ≡ Frame.Whole (Command.ImageByte mode k b) (after_image_byte mode k columns)
  unfolding frame
  image-frame b e = frame_here b (rw e)
