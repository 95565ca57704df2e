-- The bytes that commands were received by: the terms of the spelling law.
use Rattle.std.specs.Prelude.{ℕ, ◌+◌, ◌≤◌, ◌≡◌, List, [], ◌∷◌, ◌++◌, ◌⊎◌, Some, None, eqb, Bool, true, false}
use Rattle.printer.specs.Tools.{either, Each}
use Rattle.printer.specs.Escapes.{mode_row, switch_row}
use Rattle.printer.specs.Codes.{control_code, one_code, two_code, begun_by, second_code, image_mode_number, spelt}
use Rattle.printer.specs.Framing.{first_of, second_of, selected_of}
use Rattle.printer.specs.Performing.{Event, done, passed, inside, automatic}
use Rattle.printer.specs.Steps.{step_events, step_of}
use Rattle.printer.specs.Types.{Begun, Command, Control, First, ImageMode, Mode, One, Printer, Refused, Second, Silent, Switch, Tabs, Two, Waiting}

-- What events spell: commands performed inside another have no bytes of their own.

abbrev pub spelt_by : Event → List ℕ
spelt_by (done c n) = spelt c
spelt_by (passed c reason) = spelt c
spelt_by (inside c n) = []
spelt_by (automatic n) = []

unfoldable pub spelt_all : List Event → List ℕ
spelt_all [] = []
spelt_all (e ∷ l) = spelt_by e ++ spelt_all l

-- the bytes received of what is still waited for
abbrev pub pending : Waiting → List ℕ
pending Waiting.Nothing = []
pending Waiting.SecondByte = []
pending (Waiting.Arguments w) = begun_by w
pending (Waiting.StopList t b) = []
pending (Waiting.ImageData m k n) = []

-- A single byte is taken for what it is. Whether 80h to 9Fh print is that of the moment.

-- a byte that stands for a control code: that code, or 80h more where 80h to 9Fh do not print
abbrev pub StandsFor : (upper : Bool) → ℕ → ℕ → Type 0
StandsFor upper b code = (b ≡ code) ⊎ ((b ≡ code + 0x80) × (upper ≡ false))

-- n is among the numbers of a list
unfoldable pub among : List ℕ → ℕ → Bool
among [] n = false
among (m ∷ l) n = either (eqb n m) (among l n)

-- the control bytes that are listed, ESC among them, and the second bytes of the escapes that are: written again, not taken from the rules' tables
unfoldable pub listed_controls : List ℕ
listed_controls = 0x08 ∷ 0x09 ∷ 0x0A ∷ 0x0B ∷ 0x0C ∷ 0x0D ∷ 0x0E ∷ 0x0F ∷ 0x12 ∷ 0x14 ∷ 0x1B ∷ []

unfoldable pub listed_escapes : List ℕ
listed_escapes =
    0x0E ∷ 0x0F ∷ 0x30 ∷ 0x32 ∷ 0x4F ∷ 0x50 ∷ 0x4D ∷ 0x67 ∷ 0x36 ∷ 0x37 ∷ 0x45 ∷ 0x46 ∷ 0x47 ∷ 0x48 ∷ 0x34 ∷ 0x35 ∷
    0x54 ∷ 0x33 ∷ 0x41 ∷ 0x2B ∷ 0x20 ∷ 0x70 ∷ 0x78 ∷ 0x57 ∷ 0x21 ∷ 0x53 ∷ 0x2D ∷ 0x77 ∷ 0x71 ∷ 0x74 ∷ 0x6B ∷ 0x52 ∷
    0x25 ∷ 0x4E ∷ 0x4A ∷ 0x6C ∷ 0x51 ∷ 0x2F ∷ 0x24 ∷ 0x5C ∷ 0x4B ∷ 0x4C ∷ 0x59 ∷ 0x5A ∷ 0x43 ∷ 0x69 ∷ 0x2A ∷ 0x62 ∷ 0x44 ∷ 0x42 ∷ 0x40 ∷ []

-- the modes of ESC * that are
unfoldable pub listed_image_modes : List ℕ
listed_image_modes = 0 ∷ 1 ∷ 2 ∷ 3 ∷ 4 ∷ 6 ∷ 32 ∷ 33 ∷ 38 ∷ 39 ∷ 40 ∷ []

-- what is passed over in every state is not listed, whichever code it may stand for; or its argument is not 0
abbrev pub Unlisted : (upper : Bool) → Refused → Type 0
Unlisted upper (Refused.Byte b) =
    ((b ≤ 0x1F) ⊎ ((0x7F ≤ b) × (b ≤ 0x9F)))
    × (0x80 ≤ b → upper ≡ false) × ((n : ℕ) → StandsFor upper b n → among listed_controls n ≡ false)
Unlisted upper (Refused.Escape b) = among listed_escapes b ≡ false
Unlisted upper (Refused.Advanced b) = (b ≡ 0x61 → ⊥) × (b ≡ 0x53 → ⊥)
Unlisted upper (Refused.CommandMode n) = n ≡ 0 → ⊥
Unlisted upper (Refused.ImageMode n) = among listed_image_modes n ≡ false

abbrev pub Begins : (upper : Bool) → Silent → Type 0
Begins upper (Silent.Escape b) = StandsFor upper b 0x1B
Begins upper Silent.KeepMode = Unit
Begins upper Silent.StatusRequest = Unit

-- a letter, a control, what is passed over, the beginning of an escape; of other commands nothing is said
pub record Classified (upper : Bool) (c : Command) : Type 0 where
  pub letter : (b : ℕ) → c ≡ Command.Letter b → (0x20 ≤ b) × (b ≡ 0x7F → ⊥) × (0x80 ≤ b → b ≤ 0x9F → upper ≡ true)
  pub control : (k : Control) (b : ℕ) → c ≡ Command.Control k b → StandsFor upper b (control_code k)
  pub refused : (r : Refused) → c ≡ Command.Refused r → Unlisted upper r
  pub silent : (k : Silent) → c ≡ Command.Silent k → Begins upper k

abbrev pub ClassifiedEvent : (upper : Bool) → Event → Type 0
ClassifiedEvent upper (done c n) = Classified upper c
ClassifiedEvent upper (passed c reason) = Classified upper c
ClassifiedEvent upper (inside c n) = Unit
ClassifiedEvent upper (automatic n) = Unit

-- the events of each byte of an input, by what prints before that byte
abbrev pub ClassifiedOver : Printer → List ℕ → Type 0
ClassifiedOver p [] = Unit
ClassifiedOver p (b ∷ l) = Each (ClassifiedEvent p.settings.upperprints) (step_events p b) × ClassifiedOver (step_of p b) l

-- Every control and every escape is listed: it is found by its code.
pub record EveryListed : Type 0 where
  pub control : (c : Control) → first_of (control_code c) ≡ First.Control c
  pub escape : first_of 0x1B ≡ First.Escape
  pub shift_out : second_of 0x0E ≡ Second.Control Control.ShiftOut
  pub shift_in : second_of 0x0F ≡ Second.Control Control.ShiftIn
  pub mode : (c : Mode) → second_of (mode_row c).code ≡ Second.Mode c
  pub look : (w : Switch) → second_of (switch_row w).code ≡ Second.Switch w
  pub one : (c : One) → second_of (one_code c) ≡ Second.Begins (Begun.One c)
  pub two : (c : Two) → second_of (two_code c) ≡ Second.Begins (Begun.FirstOf c)
  pub page : second_of (second_code (Second.Begins Begun.PageLength)) ≡ Second.Begins Begun.PageLength
  pub advanced : second_of (second_code (Second.Begins Begun.Advanced)) ≡ Second.Begins Begun.Advanced
  pub select : second_of (second_code (Second.Begins Begun.SelectMode)) ≡ Second.Begins Begun.SelectMode
  pub list_channel : second_of (second_code (Second.Begins Begun.ListChannel)) ≡ Second.Begins Begun.ListChannel
  pub list : (t : Tabs) → second_of (second_code (Second.List t)) ≡ Second.List t
  pub reset : second_of (second_code Second.Reset) ≡ Second.Reset
  -- and nothing else is
  pub no_control : (b : ℕ) → among listed_controls b ≡ false → first_of b ≡ First.Unlisted
  pub no_escape : (b : ℕ) → among listed_escapes b ≡ false → second_of b ≡ Second.Unlisted
  -- so with the modes of ESC *
  pub image_mode : (m : ImageMode) → selected_of (image_mode_number m) ≡ Some m
  pub no_image_mode : (b : ℕ) → among listed_image_modes b ≡ false → selected_of b ≡ None
