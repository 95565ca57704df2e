-- Whole commands: bytes that are one, what they do, and the escapes, with what is waited for after them.
use Rattle.std.specs.Prelude.{ℕ, ◌+◌, ◌*◌, ◌≡◌, Bool, false, List, [], ◌∷◌, ◌++◌}
use Rattle.printer.specs.Framing.{frame, one_command, two_command, after_two, image_wait, opened_list}
use Rattle.printer.specs.Performing.{Event, done, perform_all, records_all}
use Rattle.printer.specs.Deciding.{decide}
use Rattle.printer.specs.Steps.{wait_for, state_after, records_over, events_over}
use Rattle.printer.specs.Spelling.{among, listed_escapes, listed_image_modes}
use Rattle.printer.specs.declared.commands.Command.{Command}
use Rattle.printer.specs.declared.commands.Control.{Control}
use Rattle.printer.specs.declared.commands.Frame.{Frame}
use Rattle.printer.specs.declared.commands.ImageMode.{ImageMode}
use Rattle.printer.specs.declared.commands.ListOpening.{ListOpening}
use Rattle.printer.specs.declared.commands.Look.{Look}
use Rattle.printer.specs.declared.commands.Mode.{Mode}
use Rattle.printer.specs.declared.commands.One.{One}
use Rattle.printer.specs.declared.commands.Opening.{Opening}
use Rattle.printer.specs.declared.commands.Page.{Page}
use Rattle.printer.specs.declared.commands.Refused.{Refused}
use Rattle.printer.specs.declared.commands.Silent.{Silent}
use Rattle.printer.specs.declared.commands.Switch.{Switch}
use Rattle.printer.specs.declared.commands.Tabs.{Tabs}
use Rattle.printer.specs.declared.commands.Two.{Two}
use Rattle.printer.specs.declared.commands.Waiting.{Waiting}
use Rattle.printer.specs.declared.state.Printer.{Printer}

-- bytes that, after what was waited for, are one command, whole with the last of them; what is waited for then
unfoldable pub Frames : (upper : Bool) → Waiting → List ℕ → Command → Waiting → Type 0
Frames upper w [] c v = ⊥
Frames upper w (b ∷ []) c v = frame upper w b ≡ Frame.Whole c v
Frames upper w (b ∷ n ∷ l) c v = (u : Waiting) × (frame upper w b ≡ Frame.Waits u) × Frames upper u (n ∷ l) c v

-- bytes that do a command, after what began it: they leave and write what its decision leaves and writes
pub record Does (p : Printer) (bytes : List ℕ) (begun : List Event) (c : Command) (next : Waiting) : Type 0 where
  pub state : state_after p bytes ≡ wait_for (perform_all p (decide p c)) next
  pub records : records_over p bytes ≡ records_all p (decide p c)
  pub events : events_over p bytes ≡ begun ++ decide p c

-- an escape's first byte is a command by itself, done without effect
abbrev pub beginning : ℕ → List Event
beginning e = done (Command.Silent (Silent.Escape e)) 0 ∷ []

-- the escapes, with what is waited for after their last byte: nothing, but for stop lists and image data
pub data Escape : Command → Waiting → Type 0 where
  shift_out : Escape (Command.Control Control.ShiftOut 0x0E) Waiting.Nothing
  shift_in : Escape (Command.Control Control.ShiftIn 0x0F) Waiting.Nothing
  reset : Escape Command.Reset Waiting.Nothing
  mode : (c : Mode) → Escape (Command.Mode c) Waiting.Nothing
  switch : (w : Switch) → Escape (Command.Look (Look.Switch w)) Waiting.Nothing
  one : (c : One) (n : ℕ) → Escape (one_command c n) Waiting.Nothing
  lines : (n : ℕ) → (n ≡ 0 → ⊥) → Escape (Command.Page (Page.Lines n)) Waiting.Nothing
  inches : (n : ℕ) → Escape (Command.Page (Page.Inches n)) Waiting.Nothing
  two : (c : Two) (a b : ℕ) → Escape (two_command c a b) (after_two c (a + 256 * b))
  selected : (m : ImageMode) (a b : ℕ) → Escape (Command.OpenImage (Opening.Selected m) a b) (image_wait m (a + 256 * b))
  list : (t : Tabs) → Escape (Command.OpenList (ListOpening.Named t)) (Waiting.StopList (opened_list (ListOpening.Named t)) 0)
  channel_list : (m : ℕ) → Escape (Command.OpenList (ListOpening.Channel m)) (Waiting.StopList (opened_list (ListOpening.Channel m)) 0)
  keep_mode : Escape (Command.Silent Silent.KeepMode) Waiting.Nothing
  status_request : Escape (Command.Silent Silent.StatusRequest) Waiting.Nothing
  -- and what is passed over in every state
  unlisted : (b : ℕ) → among listed_escapes b ≡ false → Escape (Command.Refused (Refused.Escape b)) Waiting.Nothing
  other_third : (b : ℕ) → (b ≡ 0x61 → ⊥) → (b ≡ 0x53 → ⊥) → Escape (Command.Refused (Refused.Advanced b)) Waiting.Nothing
  other_mode : (n : ℕ) → (n ≡ 0 → ⊥) → Escape (Command.Refused (Refused.CommandMode n)) Waiting.Nothing
  other_image_mode : (n : ℕ) → among listed_image_modes n ≡ false → Escape (Command.Refused (Refused.ImageMode n)) Waiting.Nothing
