-- Document 01, 'Widths' (what a letter is) and 'Commands', and document 02, E1, E4 and E6: what each of the 256 bytes is, by the papers' numbers,
-- apart from the rules' own tables.
use Rattle.std.specs.Prelude.{ℕ, zero, suc, ◌-◌, ◌≡◌, Bool, true, false, List, [], ◌∷◌, ◌++◌, map}
use Rattle.printer.specs.Tools.{pick, lookup, holds}
use Rattle.printer.specs.Escapes.{parameter_row, choice_row}
use Rattle.printer.specs.Framing.{frame}
use Rattle.printer.specs.Deciding.{skip_range, page_range, channel_needs}
use Rattle.printer.specs.Types.{Begun, Choice, Command, Control, Density, Frame, ImageMode, Listing, ListOpening, Look, Mode, Move, One, Page, Parameter, Pitch, Refused, Side, Silent, Switch, Tabs, Target, Two, Waiting}

-- so many bytes, from one on
unfoldable pub byte_range : (first count : ℕ) → List ℕ
byte_range first zero = []
byte_range first (suc n) = first ∷ byte_range (suc first) n

abbrev all_bytes : List ℕ
all_bytes = byte_range 0 256

-- a command that is whole, after which nothing is waited for; one whose arguments are waited for
abbrev whole : Command → Frame
whole c = Frame.Whole c Waiting.Nothing

abbrev begins : Begun → Frame
begins w = Frame.Waits (Waiting.Arguments w)

-- Between commands

abbrev letter : ℕ → Frame
letter b = whole (Command.Letter b)

abbrev control : Control → ℕ → Frame
control c b = whole (Command.Control c b)

abbrev escape : ℕ → Frame
escape b = Frame.Whole (Command.Silent (Silent.Escape b)) Waiting.SecondByte

abbrev other_byte : ℕ → Frame
other_byte b = whole (Command.Refused (Refused.Byte b))

-- the control bytes, each with what comes of it as received
unfoldable pub control_bytes : List (ℕ × (ℕ → Frame))
control_bytes =
    (0x08, control Control.Backspace) ∷
    (0x09, control Control.HorizontalTab) ∷
    (0x0A, control Control.LineFeed) ∷
    (0x0B, control Control.VerticalTab) ∷
    (0x0C, control Control.FormFeed) ∷
    (0x0D, control Control.CarriageReturn) ∷
    (0x0E, control Control.ShiftOut) ∷
    (0x0F, control Control.ShiftIn) ∷
    (0x12, control Control.Dc2) ∷
    (0x14, control Control.Dc4) ∷
    (0x1B, escape) ∷ []

abbrev control_as : (code received : ℕ) → Frame
control_as code b = lookup control_bytes other_byte code b

-- 00h to 1Fh; letters; 7Fh; 80h to 9Fh, letters after ESC 6, read less 80h after ESC 7; letters
unfoldable pub between_commands : Bool → List Frame
between_commands upper =
    map (λ b. control_as b b) (byte_range 0x00 32)
    ++ map letter (byte_range 0x20 95)
    ++ map (λ b. control_as b b) (byte_range 0x7F 1)
    ++ map (pick upper letter (λ b. control_as (b - 0x80) b)) (byte_range 0x80 32)
    ++ map letter (byte_range 0xA0 96)

-- After ESC

abbrev mode : Mode → Frame
mode m = whole (Command.Mode m)

abbrev switch : Switch → Frame
switch w = whole (Command.Look (Look.Switch w))

abbrev parameter : Parameter → Frame
parameter c = begins (Begun.One (One.Parameter c))

abbrev choice : Choice → Frame
choice c = begins (Begun.One (One.Choice c))

abbrev set_by : Tabs → Target
set_by Tabs.Horizontal = Target.Columns
set_by Tabs.Vertical = Target.Channel 0

abbrev list : Tabs → Frame
list t = Frame.Whole (Command.OpenList (ListOpening.Named t)) (Waiting.StopList (Listing.Sets (set_by t)) 0)

abbrev other_second : ℕ → Frame
other_second b = whole (Command.Refused (Refused.Escape b))

unfoldable pub second_bytes : List (ℕ × Frame)
second_bytes =
    (0x0E, control Control.ShiftOut 0x0E) ∷
    (0x0F, control Control.ShiftIn 0x0F) ∷
    (0x20, parameter Parameter.Spacing) ∷
    (0x21, parameter Parameter.Master) ∷
    (0x24, begins (Begun.FirstOf (Two.Move Move.Absolute))) ∷
    (0x25, choice Choice.Download) ∷
    (0x2A, begins Begun.SelectMode) ∷
    (0x2B, parameter Parameter.Line360ths) ∷
    (0x2D, choice Choice.Underline) ∷
    (0x2F, begins (Begun.One One.Channel)) ∷
    (0x30, mode Mode.EighthInchLine) ∷
    (0x32, mode Mode.SixthInchLine) ∷
    (0x33, parameter Parameter.Line180ths) ∷
    (0x34, switch (Switch.Italic true)) ∷
    (0x35, switch (Switch.Italic false)) ∷
    (0x36, mode (Mode.UpperPrints true)) ∷
    (0x37, mode (Mode.UpperPrints false)) ∷
    (0x40, whole Command.Reset) ∷
    (0x41, parameter Parameter.Line60ths) ∷
    (0x42, list Tabs.Vertical) ∷
    (0x43, begins Begun.PageLength) ∷
    (0x44, list Tabs.Horizontal) ∷
    (0x45, switch (Switch.Bold true)) ∷
    (0x46, switch (Switch.Bold false)) ∷
    (0x47, switch (Switch.DoubleStrike true)) ∷
    (0x48, switch (Switch.DoubleStrike false)) ∷
    (0x4A, begins (Begun.One One.Feed)) ∷
    (0x4B, begins (Begun.FirstOf (Two.Image Density.Single))) ∷
    (0x4C, begins (Begun.FirstOf (Two.Image Density.Double))) ∷
    (0x4D, mode (Mode.Pitch Pitch.Cpi12)) ∷
    (0x4E, begins (Begun.One One.Skip)) ∷
    (0x4F, mode Mode.NoSkip) ∷
    (0x50, mode (Mode.Pitch Pitch.Cpi10)) ∷
    (0x51, begins (Begun.One (One.Margin Side.Right))) ∷
    (0x52, choice Choice.Country) ∷
    (0x53, choice Choice.Script) ∷
    (0x54, switch Switch.NoScript) ∷
    (0x57, parameter Parameter.DoubleWidth) ∷
    (0x59, begins (Begun.FirstOf (Two.Image Density.DoubleSpeed))) ∷
    (0x5A, begins (Begun.FirstOf (Two.Image Density.Quadruple))) ∷
    (0x5C, begins (Begun.FirstOf (Two.Move Move.Relative))) ∷
    (0x62, begins Begun.ListChannel) ∷
    (0x67, mode (Mode.Pitch Pitch.Cpi15)) ∷
    (0x69, begins Begun.Advanced) ∷
    (0x6B, choice Choice.Font) ∷
    (0x6C, begins (Begun.One (One.Margin Side.Left))) ∷
    (0x70, parameter Parameter.Proportional) ∷
    (0x71, choice Choice.Outline) ∷
    (0x74, choice Choice.CodeTable) ∷
    (0x77, choice Choice.DoubleHeight) ∷
    (0x78, parameter Parameter.Quality) ∷
    []

-- After ESC i, and after ESC i a

abbrev other_third : ℕ → Frame
other_third b = whole (Command.Refused (Refused.Advanced b))

unfoldable pub third_bytes : List (ℕ × Frame)
third_bytes = (0x53, whole (Command.Silent Silent.StatusRequest)) ∷ (0x61, begins Begun.CommandMode) ∷ []

abbrev other_mode : ℕ → Frame
other_mode n = whole (Command.Refused (Refused.CommandMode n))

unfoldable pub mode_bytes : List (ℕ × Frame)
mode_bytes = (0, whole (Command.Silent Silent.KeepMode)) ∷ []

-- After ESC *: the modes of images

abbrev columns : ImageMode → Frame
columns m = begins (Begun.ColumnsLow m)

abbrev other_image : ℕ → Frame
other_image b = whole (Command.Refused (Refused.ImageMode b))

unfoldable pub image_numbers : List (ℕ × Frame)
image_numbers =
    (0, columns ImageMode.Single) ∷ (1, columns ImageMode.Double) ∷ (2, columns ImageMode.DoubleSpeed) ∷
    (3, columns ImageMode.Quadruple) ∷ (4, columns ImageMode.Crt80) ∷ (6, columns ImageMode.Crt90) ∷
    (32, columns ImageMode.Single24) ∷ (33, columns ImageMode.Double24) ∷ (38, columns ImageMode.Crt24) ∷
    (39, columns ImageMode.Triple24) ∷ (40, columns ImageMode.Hex24) ∷ []

-- Arguments: those that are taken; any other is reason 2

-- the bytes of a list that pass a test
unfoldable pub passing : (ℕ → Bool) → List ℕ → List ℕ
passing f [] = []
passing f (b ∷ l) = pick (f b) (b ∷ []) [] ++ passing f l

-- an escape of one argument, or ESC C, and the test of its argument
abbrev pub takes_one : One → ℕ → Bool
takes_one (One.Parameter c) n = (parameter_row c).takes n
takes_one (One.Choice c) n = (choice_row c).takes n
takes_one One.Skip n = skip_range n
takes_one One.Feed n = true
takes_one (One.Margin side) n = true
takes_one One.Channel n = holds (channel_needs n)

-- 0, 1, 30h, 31h
abbrev on_or_off : List ℕ
on_or_off = byte_range 0 2 ++ byte_range 0x30 2

unfoldable pub arguments_taken : List ((ℕ → Bool) × List ℕ)
arguments_taken =
    (takes_one (One.Parameter Parameter.Line180ths), all_bytes) ∷
    (takes_one (One.Parameter Parameter.Line60ths), byte_range 0 86) ∷
    (takes_one (One.Parameter Parameter.Line360ths), all_bytes) ∷
    (takes_one (One.Parameter Parameter.Spacing), all_bytes) ∷
    (takes_one (One.Parameter Parameter.Proportional), on_or_off) ∷
    (takes_one (One.Parameter Parameter.Quality), on_or_off) ∷
    (takes_one (One.Parameter Parameter.DoubleWidth), on_or_off) ∷
    (takes_one (One.Parameter Parameter.Master), all_bytes) ∷
    (takes_one (One.Choice Choice.Script), on_or_off) ∷
    (takes_one (One.Choice Choice.Underline), on_or_off) ∷
    (takes_one (One.Choice Choice.DoubleHeight), on_or_off) ∷
    (takes_one (One.Choice Choice.Outline), byte_range 0 4) ∷
    (takes_one (One.Choice Choice.CodeTable), byte_range 0 2) ∷
    (takes_one (One.Choice Choice.Font), all_bytes) ∷
    (takes_one (One.Choice Choice.Country), byte_range 0 14 ++ byte_range 0x40 1) ∷
    (takes_one (One.Choice Choice.Download), on_or_off) ∷
    (takes_one One.Skip, byte_range 1 127) ∷
    (takes_one One.Channel, byte_range 0 8) ∷
    ((λ n. page_range (Page.Lines n)), byte_range 1 127) ∷
    ((λ n. page_range (Page.Inches n)), byte_range 1 22) ∷
    []

-- The claim: each byte is what stands beside its number, and every other byte is none of these

abbrev AsNumbered : Bool → Waiting → List (ℕ × Frame) → (ℕ → Frame) → Type 0
AsNumbered upper w table other = map (frame upper w) all_bytes ≡ map (λ b. lookup table (other b) b) all_bytes

pub record PaperCodes (upper : Bool) : Type 0 where
  pub between : map (frame upper Waiting.Nothing) all_bytes ≡ between_commands upper
  pub after_escape : AsNumbered upper Waiting.SecondByte second_bytes other_second
  pub after_advanced : AsNumbered upper (Waiting.Arguments Begun.Advanced) third_bytes other_third
  pub after_mode : AsNumbered upper (Waiting.Arguments Begun.CommandMode) mode_bytes other_mode
  pub after_select : AsNumbered upper (Waiting.Arguments Begun.SelectMode) image_numbers other_image

abbrev pub ArgumentsTaken : Type 0
ArgumentsTaken = map (λ e. passing e.0 all_bytes) arguments_taken ≡ map (λ e. e.1) arguments_taken
