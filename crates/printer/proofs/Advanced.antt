-- ESC i, where nothing is waited for: each of its frames, and then its steps.
use Prim.Native.Nat.{ℕ}
use mathlib.Core.Path.{◌≡◌, refl, sym, ◌∙◌, ap}
use mathlib.Core.Bool.{Bool, true, false}
use mathlib.Core.List.{List, ◌∷◌}
use mathlib.Core.Logic.{inl, inr}
use borrow.Author.Tests.{ne_eqb}
use Rattle.printer.specs.Tools.{lookup, coded}
use Rattle.printer.specs.Escapes.{modes, looks, parameters, choices}
use Rattle.printer.specs.Codes.{firsts, seconds, plain_escapes, argument_escapes, other_escapes}
use Rattle.printer.specs.Framing.{is_letter, read_as, controls, escapes, frame}
use Rattle.printer.specs.Performing.{perform_all, records_all}
use Rattle.printer.specs.Steps.{frame_at, wait_for, step_events, step_of, step_records, state_after, records_over}
use Rattle.printer.specs.Spelling.{StandsFor}
use Rattle.printer.specs.Advanced.{OnlyWrites, AdvancedCommands}
use Rattle.printer.specs.Types.{Command, Frame, Printer, Record, Silent, Waiting}
use Rattle.printer.proofs.Frames.{clash}

-- a byte that stands for ESC begins an escape
pub escape-frame : (upper : Bool) (b : ℕ) → StandsFor upper b 0x1B
    → frame upper Waiting.Nothing b ≡ Frame.Whole (Command.Silent (Silent.Escape b)) Waiting.SecondByte
unfolding frame is_letter read_as lookup coded controls firsts
escape-frame true b (inl e) = rw e refl
escape-frame true b (inr e) = absurd (clash cc)
escape-frame false b (inl e) = rw e refl
escape-frame false b (inr e) = rw e.0 refl

-- after it the second byte is waited for, and nothing else has changed or been written
module _ (p : Printer) (b : ℕ) (w : p.waiting ≡ Waiting.Nothing) (s : StandsFor p.settings.upperprints b 0x1B) where
  frame_here : frame_at p b ≡ Frame.Whole (Command.Silent (Silent.Escape b)) Waiting.SecondByte
  frame_here = rw w (escape-frame p.settings.upperprints b s)

  pub escape-read : (l : List ℕ)
      → (state_after p (b ∷ l) ≡ state_after (wait_for p Waiting.SecondByte) l) × (records_over p (b ∷ l) ≡ records_over (wait_for p Waiting.SecondByte) l)
  unfolding state_after records_over step_of step_records step_events perform_all records_all
  escape-read l = (rw frame_here, rw frame_here)

  pub after-escape : (l : List ℕ) (rs : List Record) → state_after (wait_for p Waiting.SecondByte) l ≡ wait_for p Waiting.Nothing
      → records_over (wait_for p Waiting.SecondByte) l ≡ rs → OnlyWrites p (b ∷ l) rs
  after-escape l rs h r =
      let e = escape-read l in record { state = e.0 ∙ h ∙ ap (wait_for p) (sym w); records = e.1 ∙ r }

pub advanced_commands : (p : Printer) (b : ℕ) → p.waiting ≡ Waiting.Nothing → StandsFor p.settings.upperprints b 0x1B → AdvancedCommands p b
unfolding state_after records_over step_of step_records step_events perform_all records_all frame lookup coded escapes seconds plain_escapes argument_escapes other_escapes modes looks parameters choices
advanced_commands p b w s =
    record {
      keep_mode = after-escape p b w s _ _ refl refl;
      status_request = after-escape p b w s _ _ refl refl;
      other_mode = λ n k. after-escape p b w s _ _ (rw (ne_eqb n 0 k)) (rw (ne_eqb n 0 k));
      other_third = λ n k j. after-escape p b w s _ _ (rw (ne_eqb n 0x61 k, ne_eqb n 0x53 j)) (rw (ne_eqb n 0x61 k, ne_eqb n 0x53 j));
    }
