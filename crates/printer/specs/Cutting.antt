-- Demand 2, cutting: an input read in pieces, each by a reading call; the calls with what came back.
use Rattle.std.specs.Prelude.{ℕ, ◌≡◌, List, [], ◌∷◌, ◌++◌, drop}
use Rattle.printer.specs.Tools.{Each}
use Rattle.printer.specs.Records.{encoded_all}
use Rattle.printer.specs.Steps.{state_after, records_over}
use Rattle.printer.specs.Calls.{ReadCall, bytes_of, written_of}
use Rattle.printer.specs.Promises.{ReadingPromise}
use Rattle.printer.specs.Types.{Answer, Printer}

-- each call met its promise, and got the state that the call before it returned or left
abbrev pub Readings : Printer → List ReadCall → Type 0
Readings held [] = Unit
Readings held (c ∷ l) = ((c.state ≡ held) × ReadingPromise c) × Readings c.left l

-- the state that the last call returned or left
unfoldable pub last_state : Printer → List ReadCall → Printer
last_state held [] = held
last_state held (c ∷ l) = last_state c.left l

-- the input that the calls were given, the bytes that they read of it, and the bytes that they wrote, joined
unfoldable pub joined_input : List ReadCall → List ℕ
joined_input [] = []
joined_input (c ∷ l) = c.input ++ joined_input l

unfoldable pub bytes_read : List ReadCall → List ℕ
bytes_read [] = []
bytes_read (c ∷ l) = bytes_of c ++ bytes_read l

unfoldable pub joined_output : List ReadCall → List ℕ
joined_output [] = []
joined_output (c ∷ l) = written_of c ++ joined_output l

-- each call read its piece to the end
abbrev pub ReadToEnd : List ReadCall → Type 0
ReadToEnd l = Each (λ (c : ReadCall). c.back.answer ≡ Answer.InputUsed) l

-- each call is given what the ones before left unread, until nothing is left
abbrev pub Resumed : (input : List ℕ) → List ReadCall → Type 0
Resumed input [] = input ≡ []
Resumed input (c ∷ l) = (c.input ≡ input) × Resumed (drop c.back.read input) l

-- what calls leave: the last state, and the output joined, are the rules' over these bytes
pub record Leaves (p : Printer) (l : List ReadCall) (bytes : List ℕ) : Type 0 where
  pub state : last_state p l ≡ state_after p bytes
  pub output : joined_output l ≡ encoded_all (records_over p bytes)
