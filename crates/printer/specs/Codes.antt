-- The bytes that commands are received by: with those of Escapes, each written once. What is listed, and the byte that a NO bears.
use Rattle.std.specs.Prelude.{ℕ, List, [], ◌∷◌, ◌++◌, Option, Some, None, map, get_or}
use Rattle.printer.specs.Escapes.{mode_row, parameter_row, switch_row, choice_row, modes, looks, parameters, choices}
use Rattle.printer.specs.Types.{Begun, Command, Control, Density, First, ImageMode, ListOpening, ListPart, Look, Move, One, Opening, Page, Refused, Second, Side, Silent, Tabs, Two}

abbrev pub control_code : Control → ℕ
control_code Control.Backspace = 0x08
control_code Control.HorizontalTab = 0x09
control_code Control.LineFeed = 0x0A
control_code Control.VerticalTab = 0x0B
control_code Control.FormFeed = 0x0C
control_code Control.CarriageReturn = 0x0D
control_code Control.ShiftOut = 0x0E
control_code Control.ShiftIn = 0x0F
control_code Control.Dc2 = 0x12
control_code Control.Dc4 = 0x14

abbrev pub one_code : One → ℕ
one_code (One.Parameter c) = (parameter_row c).code
one_code (One.Choice c) = (choice_row c).code
one_code One.Skip = 0x4E
one_code One.Feed = 0x4A
one_code (One.Margin Side.Left) = 0x6C
one_code (One.Margin Side.Right) = 0x51
one_code One.Channel = 0x2F

abbrev pub two_code : Two → ℕ
two_code (Two.Move Move.Absolute) = 0x24
two_code (Two.Move Move.Relative) = 0x5C
two_code (Two.Image Density.Single) = 0x4B
two_code (Two.Image Density.Double) = 0x4C
two_code (Two.Image Density.DoubleSpeed) = 0x59
two_code (Two.Image Density.Quadruple) = 0x5A

abbrev page_code : ℕ
page_code = 0x43

-- ESC i, and its third bytes "a" and "S"
abbrev advanced_code : ℕ
advanced_code = 0x69

abbrev pub mode_code : ℕ
mode_code = 0x61

abbrev pub status_code : ℕ
status_code = 0x53

-- ESC *, and its modes by their numbers
abbrev select_code : ℕ
select_code = 0x2A

abbrev pub image_mode_number : ImageMode → ℕ
image_mode_number ImageMode.Single = 0
image_mode_number ImageMode.Double = 1
image_mode_number ImageMode.DoubleSpeed = 2
image_mode_number ImageMode.Quadruple = 3
image_mode_number ImageMode.Crt80 = 4
image_mode_number ImageMode.Crt90 = 6
image_mode_number ImageMode.Single24 = 32
image_mode_number ImageMode.Double24 = 33
image_mode_number ImageMode.Crt24 = 38
image_mode_number ImageMode.Triple24 = 39
image_mode_number ImageMode.Hex24 = 40

-- ESC b
abbrev channel_code : ℕ
channel_code = 0x62

-- an escape begun: its second byte, and its arguments so far
abbrev pub begun_by : Begun → List ℕ
begun_by (Begun.One c) = one_code c ∷ []
begun_by Begun.PageLength = page_code ∷ []
begun_by Begun.PageInches = page_code ∷ 0 ∷ []
begun_by Begun.Advanced = advanced_code ∷ []
begun_by Begun.CommandMode = advanced_code ∷ mode_code ∷ []
begun_by (Begun.FirstOf c) = two_code c ∷ []
begun_by (Begun.SecondOf c a) = two_code c ∷ a ∷ []
begun_by Begun.SelectMode = select_code ∷ []
begun_by (Begun.ColumnsLow m) = select_code ∷ image_mode_number m ∷ []
begun_by (Begun.ColumnsHigh m a) = select_code ∷ image_mode_number m ∷ a ∷ []
begun_by Begun.ListChannel = channel_code ∷ []

-- (what is not listed has no code, and is never looked up)
abbrev pub first_code : First → ℕ
first_code (First.Control c) = control_code c
first_code First.Escape = 0x1B
first_code First.Unlisted = 0

abbrev pub second_code : Second → ℕ
second_code (Second.Control c) = control_code c
second_code Second.Reset = 0x40
second_code (Second.Mode c) = (mode_row c).code
second_code (Second.Switch w) = (switch_row w).code
second_code (Second.Begins w) = get_or (begun_by w) 0 0
second_code (Second.List Tabs.Horizontal) = 0x44
second_code (Second.List Tabs.Vertical) = 0x42
second_code Second.Unlisted = 0

-- What is listed

-- the control bytes, and ESC
unfoldable pub firsts : List First
firsts =
    map First.Control
    (Control.Backspace ∷ Control.HorizontalTab ∷ Control.LineFeed ∷ Control.VerticalTab ∷ Control.FormFeed ∷
    Control.CarriageReturn ∷ Control.ShiftOut ∷ Control.ShiftIn ∷ Control.Dc2 ∷ Control.Dc4 ∷ [])
    ++ (First.Escape ∷ [])

-- the escapes without an argument that change a setting, those with one that do, and the others
unfoldable pub plain_escapes : List Second
plain_escapes = map Second.Control (Control.ShiftOut ∷ Control.ShiftIn ∷ []) ++ map Second.Mode modes ++ map Second.Switch looks

abbrev one : One → Second
one c = Second.Begins (Begun.One c)

unfoldable pub argument_escapes : List Second
argument_escapes = map (λ c. one (One.Parameter c)) parameters ++ map (λ c. one (One.Choice c)) choices

unfoldable pub other_escapes : List Second
other_escapes =
    map one (One.Skip ∷ One.Feed ∷ One.Margin Side.Left ∷ One.Margin Side.Right ∷ One.Channel ∷ [])
    ++ map (λ c. Second.Begins (Begun.FirstOf c))
    (Two.Move Move.Absolute ∷ Two.Move Move.Relative ∷ Two.Image Density.Single ∷
    Two.Image Density.Double ∷ Two.Image Density.DoubleSpeed ∷ Two.Image Density.Quadruple ∷ [])
    ++ (Second.Begins Begun.PageLength ∷ Second.Begins Begun.Advanced ∷ Second.Begins Begun.SelectMode ∷ Second.Begins Begun.ListChannel ∷
    Second.List Tabs.Horizontal ∷ Second.List Tabs.Vertical ∷ Second.Reset ∷ [])

unfoldable pub seconds : List Second
seconds = plain_escapes ++ (argument_escapes ++ other_escapes)

-- the modes of ESC *
abbrev pub selected_number : Option ImageMode → ℕ
selected_number (Some m) = image_mode_number m
selected_number None = 0

unfoldable pub image_modes : List (Option ImageMode)
image_modes =
    map Some
    (ImageMode.Single ∷ ImageMode.Double ∷ ImageMode.DoubleSpeed ∷ ImageMode.Quadruple ∷ ImageMode.Crt80 ∷ ImageMode.Crt90 ∷
    ImageMode.Single24 ∷ ImageMode.Double24 ∷ ImageMode.Crt24 ∷ ImageMode.Triple24 ∷ ImageMode.Hex24 ∷ [])

-- Commands as received

-- a command's bytes: its code and its arguments. An escape's first byte is a command by itself, so its code is its second byte. Or its code
-- and a third byte, which a NO then bears.
pub data Received : Type 0 where
  by : (code : ℕ) → (arguments : List ℕ) → Received
  by_third : (code third : ℕ) → Received

abbrev pub refused_by : Refused → Received
refused_by (Refused.Byte b) = by b []
refused_by (Refused.Escape b) = by b []
refused_by (Refused.Advanced b) = by_third advanced_code b
refused_by (Refused.CommandMode n) = by advanced_code (mode_code ∷ n ∷ [])
refused_by (Refused.ImageMode n) = by select_code (n ∷ [])

abbrev pub silent_by : Silent → Received
silent_by (Silent.Escape b) = by b []
silent_by Silent.KeepMode = by advanced_code (mode_code ∷ 0 ∷ [])
silent_by Silent.StatusRequest = by_third advanced_code status_code

abbrev pub look_by : Look → Received
look_by (Look.Switch w) = by (second_code (Second.Switch w)) []
look_by (Look.Choice c n) = by (one_code (One.Choice c)) (n ∷ [])

abbrev pub page_by : Page → Received
page_by (Page.Lines n) = by page_code (n ∷ [])
page_by (Page.Inches n) = by page_code (0 ∷ n ∷ [])

abbrev pub list_opened_by : ListOpening → Received
list_opened_by (ListOpening.Named t) = by (second_code (Second.List t)) []
list_opened_by (ListOpening.Channel m) = by channel_code (m ∷ [])

abbrev pub list_by : ListPart → Received
list_by (ListPart.Byte b) = by b []
list_by (ListPart.End b) = by b []

abbrev pub opened_by : Opening → (a b : ℕ) → Received
opened_by (Opening.Named d) a b = by (two_code (Two.Image d)) (a ∷ b ∷ [])
opened_by (Opening.Selected m) a b = by select_code (image_mode_number m ∷ a ∷ b ∷ [])

abbrev pub received : Command → Received
received (Command.Letter b) = by b []
received (Command.Control c b) = by b []
received (Command.Refused r) = refused_by r
received (Command.Silent k) = silent_by k
received Command.Reset = by (second_code Second.Reset) []
received (Command.Mode c) = by (second_code (Second.Mode c)) []
received (Command.Parameter c n) = by (one_code (One.Parameter c)) (n ∷ [])
received (Command.Look k) = look_by k
received (Command.Skip n) = by (one_code One.Skip) (n ∷ [])
received (Command.Feed n) = by (one_code One.Feed) (n ∷ [])
received (Command.Margin side n) = by (one_code (One.Margin side)) (n ∷ [])
received (Command.Page g) = page_by g
received (Command.Move m a b) = by (two_code (Two.Move m)) (a ∷ b ∷ [])
received (Command.OpenImage o a b) = opened_by o a b
received (Command.ImageByte m k b) = by b []
received (Command.Channel n) = by (one_code One.Channel) (n ∷ [])
received (Command.OpenList o) = list_opened_by o
received (Command.List k part) = list_by part

abbrev pub spelt_as : Received → List ℕ
spelt_as (by code arguments) = code ∷ arguments
spelt_as (by_third code third) = code ∷ third ∷ []

-- a NO's byte: the letter, image or list byte passed over, else the control byte or the escape's second byte; a third byte that is not listed
abbrev pub shows_as : Received → ℕ
shows_as (by code arguments) = code
shows_as (by_third code third) = third

abbrev pub spelt : Command → List ℕ
spelt c = spelt_as (received c)

abbrev pub shows : Command → ℕ
shows c = shows_as (received c)
