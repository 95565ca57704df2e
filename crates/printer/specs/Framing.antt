-- From bytes to commands: what a byte is after what was waited for. Document 01, 'Widths' (what a letter is) and 'Commands'.
use Rattle.std.specs.Prelude.{ℕ, suc, ◌+◌, ◌*◌, ◌-◌, Bool, true, false, List, Option, Some, None, leb, eqb}
use Rattle.printer.specs.Tools.{pick, both, either, within, lookup, coded}
use Rattle.printer.specs.Widths.{image_bytes}
use Rattle.printer.specs.Codes.{first_code, second_code, selected_number, firsts, seconds, image_modes, mode_code, status_code}
use Rattle.printer.specs.Types.{Begun, Command, Density, First, Frame, ImageMode, Listing, ListOpening, ListPart, Look, One, Opening, Page, Refused, Second, Silent, Tabs, Target, Two, Waiting}

-- a letter: 20h to 7Eh, A0h to FFh, and 80h to 9Fh after ESC 6
unfoldable pub is_letter : Bool → ℕ → Bool
is_letter upper b = either (within 0x20 0x7E b) (either (leb 0xA0 b) (both upper (within 0x80 0x9F b)))

-- after ESC 7, 80h to 9Fh as the first byte of a command is read less 80h
unfoldable pub read_as : Bool → ℕ → ℕ
read_as upper b = pick (both (pick upper false true) (within 0x80 0x9F b)) (b - 0x80) b

-- the control bytes and the escapes, by their codes
unfoldable pub controls : List (ℕ × First)
controls = coded first_code firsts

unfoldable pub escapes : List (ℕ × Second)
escapes = coded second_code seconds

unfoldable pub selections : List (ℕ × Option ImageMode)
selections = coded selected_number image_modes

abbrev pub first_of : ℕ → First
first_of b = lookup controls First.Unlisted b

abbrev pub second_of : ℕ → Second
second_of b = lookup escapes Second.Unlisted b

abbrev pub selected_of : ℕ → Option ImageMode
selected_of b = lookup selections None b

abbrev pub one_command : One → ℕ → Command
one_command (One.Parameter c) n = Command.Parameter c n
one_command (One.Choice c) n = Command.Look (Look.Choice c n)
one_command One.Skip n = Command.Skip n
one_command One.Feed n = Command.Feed n
one_command (One.Margin side) n = Command.Margin side n
one_command One.Channel n = Command.Channel n

abbrev pub two_command : Two → ℕ → ℕ → Command
two_command (Two.Move m) a b = Command.Move m a b
two_command (Two.Image d) a b = Command.OpenImage (Opening.Named d) a b

-- ESC K, L, Y, Z are modes 0 to 3
abbrev pub density_mode : Density → ImageMode
density_mode Density.Single = ImageMode.Single
density_mode Density.Double = ImageMode.Double
density_mode Density.DoubleSpeed = ImageMode.DoubleSpeed
density_mode Density.Quadruple = ImageMode.Quadruple

abbrev pub opened_mode : Opening → ImageMode
opened_mode (Opening.Named d) = density_mode d
opened_mode (Opening.Selected m) = m

-- so many columns of image data are waited for, from the first byte of one; none is nothing
abbrev pub image_wait : ImageMode → ℕ → Waiting
image_wait m n = pick (eqb n 0) Waiting.Nothing (Waiting.ImageData m 1 n)

-- after the k-th byte of a column
abbrev pub after_image_byte : ImageMode → (k columns : ℕ) → Waiting
after_image_byte m k n = pick (eqb k (image_bytes m)) (image_wait m (n - 1)) (Waiting.ImageData m (suc k) n)

-- ESC D sets the columns and ESC B channel 0; document 02, E6: ESC b m sets channel m, and above 7 its list is read and dropped
abbrev pub opened_list : ListOpening → Listing
opened_list (ListOpening.Named Tabs.Horizontal) = Listing.Sets Target.Columns
opened_list (ListOpening.Named Tabs.Vertical) = Listing.Sets (Target.Channel 0)
opened_list (ListOpening.Channel m) = pick (leb m 7) (Listing.Sets (Target.Channel m)) Listing.Dropped

-- a list opened, with no byte before its first
abbrev pub list_opened : ListOpening → Frame
list_opened o = Frame.Whole (Command.OpenList o) (Waiting.StopList (opened_list o) 0)

abbrev pub after_two : Two → ℕ → Waiting
after_two (Two.Move m) n = Waiting.Nothing
after_two (Two.Image d) n = image_wait (density_mode d) n

abbrev pub first_frame : First → ℕ → Frame
first_frame (First.Control c) b = Frame.Whole (Command.Control c b) Waiting.Nothing
first_frame First.Escape b = Frame.Whole (Command.Silent (Silent.Escape b)) Waiting.SecondByte
first_frame First.Unlisted b = Frame.Whole (Command.Refused (Refused.Byte b)) Waiting.Nothing

abbrev pub second_frame : Second → ℕ → Frame
second_frame (Second.Control c) b = Frame.Whole (Command.Control c b) Waiting.Nothing
second_frame Second.Reset b = Frame.Whole Command.Reset Waiting.Nothing
second_frame (Second.Mode c) b = Frame.Whole (Command.Mode c) Waiting.Nothing
second_frame (Second.Switch w) b = Frame.Whole (Command.Look (Look.Switch w)) Waiting.Nothing
second_frame (Second.Begins w) b = Frame.Waits (Waiting.Arguments w)
second_frame (Second.List t) b = list_opened (ListOpening.Named t)
second_frame Second.Unlisted b = Frame.Whole (Command.Refused (Refused.Escape b)) Waiting.Nothing

-- document 02, E1: the third byte of ESC i, which is used up: "a", after which an argument comes; "S"; or one that is not listed
abbrev pub advanced_frame : ℕ → Frame
advanced_frame b =
    pick (eqb b mode_code)
    (Frame.Waits (Waiting.Arguments Begun.CommandMode))
    (pick (eqb b status_code)
    (Frame.Whole (Command.Silent Silent.StatusRequest) Waiting.Nothing)
    (Frame.Whole (Command.Refused (Refused.Advanced b)) Waiting.Nothing))

-- the argument of ESC i a: 0 keeps ESC/P mode, another is not allowed
abbrev pub mode_frame : ℕ → Frame
mode_frame n =
    pick (eqb n 0)
    (Frame.Whole (Command.Silent Silent.KeepMode) Waiting.Nothing)
    (Frame.Whole (Command.Refused (Refused.CommandMode n)) Waiting.Nothing)

-- document 02, E4: the mode of ESC *; another is not allowed
abbrev pub selected_frame : Option ImageMode → ℕ → Frame
selected_frame (Some m) b = Frame.Waits (Waiting.Arguments (Begun.ColumnsLow m))
selected_frame None b = Frame.Whole (Command.Refused (Refused.ImageMode b)) Waiting.Nothing

-- an argument; that of ESC C is 0 where inches follow
abbrev pub continued : Begun → ℕ → Frame
continued (Begun.One c) b = Frame.Whole (one_command c b) Waiting.Nothing
continued Begun.PageLength b =
    pick (eqb b 0) (Frame.Waits (Waiting.Arguments Begun.PageInches)) (Frame.Whole (Command.Page (Page.Lines b)) Waiting.Nothing)
continued Begun.PageInches b = Frame.Whole (Command.Page (Page.Inches b)) Waiting.Nothing
continued Begun.Advanced b = advanced_frame b
continued Begun.CommandMode b = mode_frame b
continued (Begun.FirstOf c) b = Frame.Waits (Waiting.Arguments (Begun.SecondOf c b))
continued (Begun.SecondOf c a) b = Frame.Whole (two_command c a b) (after_two c (a + 256 * b))
continued Begun.SelectMode b = selected_frame (selected_of b) b
continued (Begun.ColumnsLow m) b = Frame.Waits (Waiting.Arguments (Begun.ColumnsHigh m b))
continued (Begun.ColumnsHigh m a) b = Frame.Whole (Command.OpenImage (Opening.Selected m) a b) (image_wait m (a + 256 * b))
continued Begun.ListChannel b = list_opened (ListOpening.Channel b)

-- a byte that is not above the byte before ends a stop list
abbrev pub list_frame : Listing → ℕ → ℕ → Frame
list_frame k before b =
    pick (leb b before)
    (Frame.Whole (Command.List k (ListPart.End b)) Waiting.Nothing)
    (Frame.Whole (Command.List k (ListPart.Byte b)) (Waiting.StopList k b))

-- what a byte is: whether 80h to 9Fh print, what was waited for, the byte
unfoldable pub frame : Bool → Waiting → ℕ → Frame
frame upper Waiting.Nothing b =
    pick (is_letter upper b)
    (Frame.Whole (Command.Letter b) Waiting.Nothing)
    (first_frame (first_of (read_as upper b)) b)
frame upper Waiting.SecondByte b = second_frame (second_of b) b
frame upper (Waiting.Arguments w) b = continued w b
frame upper (Waiting.StopList k before) b = list_frame k before b
frame upper (Waiting.ImageData m k n) b = Frame.Whole (Command.ImageByte m k b) (after_image_byte m k n)
