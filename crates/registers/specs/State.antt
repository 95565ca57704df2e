-- The state as registers and back: what is waited for as numbers, the printer that registers are read as, and whether they are
-- those of a printer within its bounds.
use Rattle.std.specs.Prelude.{ℕ, ◌%◌, ◌≤◌, Bool, true, false, ◌&&◌, List, [], ◌∷◌, Option, Some, None, eqb, get_or}
use Rattle.printer.specs.Accepted.{Typed}
use Rattle.printer.specs.Bounds.{accepted}
use Rattle.printer.specs.Codes.{second_code, image_mode_number, begun_by}
use Rattle.printer.specs.Framing.{selected_of, continued, frame}
use Rattle.printer.specs.Steps.{next_in}
use Rattle.printer.specs.Tools.{lookup}
use Rattle.printer.specs.declared.commands.Begun.{Begun}
use Rattle.printer.specs.declared.commands.Frame.{Frame}
use Rattle.printer.specs.declared.commands.ImageMode.{ImageMode}
use Rattle.printer.specs.declared.commands.Listing.{Listing}
use Rattle.printer.specs.declared.commands.Second.{Second}
use Rattle.printer.specs.declared.commands.Tabs.{Tabs}
use Rattle.printer.specs.declared.commands.Target.{Target}
use Rattle.printer.specs.declared.commands.Waiting.{Waiting}
use Rattle.printer.specs.declared.state.Printer.{Printer}
use Rattle.registers.specs.declared.pending.Pending.{Pending}
use Rattle.registers.specs.Register.{kind_at, command_at, argument_at, image_mode_at, image_byte_at, image_columns_at}
use Rattle.registers.specs.Layout.{words}
use Rattle.registers.specs.Groups.{place_in, settings_in, stops_in}
use Rattle.registers.specs.Held.{Small}

abbrev pub pending : (kind command argument mode part columns : ℕ) → Pending
pending kind command argument mode part columns =
    record { kind = kind; command = command; argument = argument; mode = mode; part = part; columns = columns }

-- the kinds, 0 to 7; what a kind does not use is 0

abbrev pub escaped : (kind command argument : ℕ) → Pending
escaped kind command argument = pending kind command argument 0 0 0

-- an escape by its bytes so far; of three, the second is the mode of ESC *
abbrev pub pending_bytes : List ℕ → Pending
pending_bytes [] = escaped 1 0 0
pending_bytes (code ∷ []) = escaped 2 code 0
pending_bytes (code ∷ argument ∷ []) = escaped 3 code argument
pending_bytes (code ∷ mode ∷ argument ∷ l) = pending 6 code argument mode 0 0

-- a stop list: ESC D's, or ESC B's, with the channel that it sets where an image has its mode; or one that is dropped
abbrev pub pending_list : Listing → ℕ → Pending
pending_list (Listing.Sets Target.Columns) b = escaped 4 (second_code (Second.List Tabs.Horizontal)) b
pending_list (Listing.Sets (Target.Channel m)) b = pending 4 (second_code (Second.List Tabs.Vertical)) b m 0 0
pending_list Listing.Dropped b = escaped 7 0 b

abbrev pub pending_of : Waiting → Pending
pending_of Waiting.Nothing = escaped 0 0 0
pending_of Waiting.SecondByte = pending_bytes []
pending_of (Waiting.Arguments w) = pending_bytes (begun_by w)
pending_of (Waiting.StopList k b) = pending_list k b
pending_of (Waiting.ImageData m k n) = pending 5 0 0 (image_mode_number m) k n

-- the registers of a printer: the one law between them
abbrev pub registers_of : Printer → List ℕ
registers_of p = words (pending_of p.waiting) p

-- what an escape's second byte begins; whether 80h to 9Fh print makes no difference in an escape
abbrev pub begins : ℕ → Waiting
begins code = next_in (frame false Waiting.SecondByte code)

-- what is waited for where no command is whole yet
abbrev pub waits_in : Frame → Waiting
waits_in (Frame.Waits w) = w
waits_in (Frame.Whole c w) = Waiting.Nothing

-- an escape after its first argument, if another follows
abbrev pub argued : Begun → ℕ → Waiting
argued w a = waits_in (continued w a)

-- what was begun, after a byte of it
abbrev pub resumed : Waiting → ℕ → Waiting
resumed Waiting.Nothing b = Waiting.Nothing
resumed Waiting.SecondByte b = Waiting.Nothing
resumed (Waiting.Arguments w) b = argued w b
resumed (Waiting.StopList k before) b = Waiting.Nothing
resumed (Waiting.ImageData m k n) b = Waiting.Nothing

-- a list that was begun, for a channel, after a byte of it
abbrev pub on_channel : Target → (channel : ℕ) → Target
on_channel Target.Columns c = Target.Columns
on_channel (Target.Channel m) c = Target.Channel c

abbrev pub listed_as : Listing → (channel b : ℕ) → Waiting
listed_as (Listing.Sets k) c b = Waiting.StopList (Listing.Sets (on_channel k c)) b
listed_as Listing.Dropped c b = Waiting.Nothing

abbrev pub listed : Waiting → (channel b : ℕ) → Waiting
listed Waiting.Nothing c b = Waiting.Nothing
listed Waiting.SecondByte c b = Waiting.Nothing
listed (Waiting.Arguments w) c b = Waiting.Nothing
listed (Waiting.StopList k before) c b = listed_as k c b
listed (Waiting.ImageData m k n) c b = Waiting.Nothing

-- image data by its mode
abbrev pub imaged_by : Option ImageMode → (k n : ℕ) → Waiting
imaged_by (Some m) k n = Waiting.ImageData m k n
imaged_by None k n = Waiting.Nothing

abbrev pub imaged : (mode k n : ℕ) → Waiting
imaged mode k n = imaged_by (selected_of mode) k n

-- what each kind is, by what the escape's second byte begins or is; numbers that no kind has so are refused, since what they are
-- read as has others
unfoldable pub kinds : Waiting → Pending → List (ℕ × Waiting)
kinds begun v =
    (0, Waiting.Nothing) ∷
    (1, Waiting.SecondByte) ∷
    (2, begun) ∷
    (3, resumed begun v.argument) ∷
    (4, listed begun v.mode v.argument) ∷
    (5, imaged v.mode v.part v.columns) ∷
    (6, resumed (resumed begun v.mode) v.argument) ∷
    (7, Waiting.StopList Listing.Dropped v.argument) ∷
    []

abbrev pub waiting_of : Pending → Waiting
waiting_of v = lookup (kinds (begins v.command) v) Waiting.Nothing v.kind

-- the numbers as the types of what is waited for hold them
abbrev pub pending_in : List ℕ → Pending
pending_in m =
    pending (get_or m kind_at 0) (get_or m command_at 0 % 256) (get_or m argument_at 0 % 256) (get_or m image_mode_at 0 % 256) (get_or m image_byte_at 0 % 256) (get_or m image_columns_at 0 % 65536)

-- the printer that registers are read as: the one way back
unfoldable pub printer_in : List ℕ → Printer
printer_in m =
    record { settings = settings_in m; place = place_in m; stops = stops_in m; waiting = waiting_of (pending_in m) }

-- two lists of numbers are the same
unfoldable pub same_list : List ℕ → List ℕ → Bool
same_list [] [] = true
same_list [] (y ∷ ys) = false
same_list (x ∷ xs) [] = false
same_list (x ∷ xs) (y ∷ ys) = eqb x y && same_list xs ys

-- the registers are those of the printer that they are read as, and it is within its bounds: the test that answer 4 goes by
unfoldable pub accepted_in : List ℕ → Bool
accepted_in m = same_list m (registers_of (printer_in m)) && accepted (printer_in m)

-- What every printer by value has: bytes are below 256, image columns below 65,536, and lists of stops have their room.

abbrev pub ListTyped : Listing → Type 0
ListTyped (Listing.Sets Target.Columns) = Unit
ListTyped (Listing.Sets (Target.Channel m)) = m ≤ 255
ListTyped Listing.Dropped = Unit

abbrev pub ImageTyped : Waiting → Type 0
ImageTyped Waiting.Nothing = Unit
ImageTyped Waiting.SecondByte = Unit
ImageTyped (Waiting.Arguments w) = Unit
ImageTyped (Waiting.StopList k b) = ListTyped k
ImageTyped (Waiting.ImageData m k n) = (k ≤ 255) × (n ≤ 65535)

pub record Plain (p : Printer) : Type 0 where
  pub typed : Typed p
  pub small : Small p.settings
  pub image : ImageTyped p.waiting
