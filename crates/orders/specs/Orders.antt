-- Document 02, E8: settings that may be sent in either order, and moves that add up.
use Rattle.std.specs.Prelude.{ℕ, ◌+◌, ◌%◌, ◌≡◌, Bool, true, List, [], ◌∷◌, ◌++◌, leb, eqb}
use Rattle.printer.specs.Tools.{pick}
use Rattle.printer.specs.Escapes.{switches, countries}
use Rattle.printer.specs.Records.{low, high}
use Rattle.printer.specs.Steps.{state_after, records_over}
use Rattle.printer.specs.Spelling.{StandsFor}
use Rattle.printer.specs.declared.commands.Choice.{Choice}
use Rattle.printer.specs.declared.commands.Look.{Look}
use Rattle.printer.specs.declared.commands.Switch.{Switch}
use Rattle.printer.specs.declared.state.Printer.{Printer}

-- The commands

-- what only shows on a letter's record, and ESC SP n
pub data Setting : Type 0 where
  look : Look → Setting
  spacing : (n : ℕ) → Setting

-- a row: the item that a command belongs to, its bytes after ESC, and whether its argument is accepted
pub record Row : Type 0 where
  pub item : ℕ
  pub bytes : List ℕ
  pub accepted : Bool

abbrev row : ℕ → List ℕ → Bool → Row
row item bytes accepted = record { item = item; bytes = bytes; accepted = accepted }

-- with an argument
abbrev by : ℕ → (code n : ℕ) → Bool → Row
by item code n accepted = row item (code ∷ n ∷ []) accepted

-- the items, in document 02's order: E F, G H, 4 5, -, w, S T, q, t, k, R, SP. (ESC %, which it does not name, is an item too.)
abbrev pub row_of : Setting → Row
row_of (look (Look.Switch (Switch.Bold on))) = row 0 (pick on 0x45 0x46 ∷ []) true
row_of (look (Look.Switch (Switch.DoubleStrike on))) = row 1 (pick on 0x47 0x48 ∷ []) true
row_of (look (Look.Switch (Switch.Italic on))) = row 2 (pick on 0x34 0x35 ∷ []) true
row_of (look (Look.Choice Choice.Underline n)) = by 3 0x2D n (switches n)
row_of (look (Look.Choice Choice.DoubleHeight n)) = by 4 0x77 n (switches n)
row_of (look (Look.Choice Choice.Script n)) = by 5 0x53 n (switches n)
row_of (look (Look.Switch Switch.NoScript)) = row 5 (0x54 ∷ []) true
row_of (look (Look.Choice Choice.Outline n)) = by 6 0x71 n (leb n 3)
row_of (look (Look.Choice Choice.CodeTable n)) = by 7 0x74 n (leb n 1)
row_of (look (Look.Choice Choice.Font n)) = by 8 0x6B n true
row_of (look (Look.Choice Choice.Country n)) = by 9 0x52 n (countries n)
row_of (spacing n) = by 10 0x20 n true
row_of (look (Look.Choice Choice.Download n)) = by 11 0x25 n (switches n)

-- a command as sent: the byte that its escape begins with, and the command
abbrev pub Sent : Type 0
Sent = ℕ × Setting

unfoldable pub sent_all : List Sent → List ℕ
sent_all [] = []
sent_all (x ∷ l) = x.0 ∷ (row_of x.1).bytes ++ sent_all l

-- that byte stands for ESC, where 80h to 9Fh print or do not, and the argument is accepted
abbrev pub Accepted : (upper : Bool) → Sent → Type 0
Accepted upper x = StandsFor upper x.0 0x1B × ((row_of x.1).accepted ≡ true)

-- Their order

-- those of an item
unfoldable pub of_item : ℕ → List Sent → List Setting
of_item i [] = []
of_item i (x ∷ l) = pick (eqb (row_of x.1).item i) (x.1 ∷ of_item i l) (of_item i l)

-- each item has the same commands in the same order
abbrev pub Reordered : List Sent → List Sent → Type 0
Reordered l m = (i : ℕ) → of_item i l ≡ of_item i m

-- The claims

-- two inputs leave the same state, and neither writes a record
pub record Same (p : Printer) (one other : List ℕ) : Type 0 where
  pub state : state_after p one ≡ state_after p other
  pub silent : records_over p one ≡ []
  pub other_silent : records_over p other ≡ []

-- ESC \ by the 16 bits of a number
abbrev pub move_by : (escape n : ℕ) → List ℕ
move_by escape n = escape ∷ 0x5C ∷ low n ∷ high n ∷ []

-- the sum of two numbers of 16 bits, in 16 bits
abbrev pub sum16 : ℕ → ℕ → ℕ
sum16 n m = (n + m) % 65536
