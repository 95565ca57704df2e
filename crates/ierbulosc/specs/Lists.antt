-- Lists of the library's calls, over the caller's registers, and the reader's calls that they are.
use Rattle.std.specs.Prelude.{ℕ, ◌≡◌, List, [], ◌∷◌, ◌++◌, map, length, take, drop, get_or}
use Rattle.printer.specs.Tools.{Each, Bytes}
use Rattle.printer.specs.Records.{encoded_all}
use Rattle.printer.specs.Steps.{state_after, records_over}
use Rattle.printer.specs.Calls.{StartCall, ReadCall, start_of, call_of, report_of, number_of}
use Rattle.printer.specs.Decoding.{decoded_all}
use Rattle.printer.specs.Demand3.{Call, started, read, Chain, printed_over}
use Rattle.printer.specs.declared.state.Printer.{Printer}
use Rattle.printer.specs.declared.units.Resolution.{Resolution}
use Rattle.registers.specs.Register.{kind_at}
use Rattle.registers.specs.State.{registers_of, printer_in}
use Rattle.writer.specs.Card.{count_of}
use Rattle.writer.specs.Reading.{letters_of, texts_in, text_of, TextsAndFeeds, placed_as, placed_letter}
use Rattle.writer.specs.declared.Letter.{Letter}
use Rattle.ierbulosc.specs.Calls.{settings_in, EscpStartPromise, EscpReadPromise, EscpWritePromise}

-- Calls with what came back

-- the settings as numbers, the answer's number, the registers after
pub record LibraryStart : Type 0 where
  pub given : List ℕ
  pub number : ℕ
  pub left : List ℕ

-- the registers, input, allowance and output before; the answer's number, and the registers, counts and output after
pub record LibraryRead : Type 0 where
  pub state : List ℕ
  pub input : List ℕ
  pub allowance : ℕ
  pub out : List ℕ
  pub number : ℕ
  pub left : List ℕ
  pub counted : List ℕ
  pub after : List ℕ

pub data LibraryCall : Type 0 where
  starts : LibraryStart → LibraryCall
  reads : LibraryRead → LibraryCall

-- a reading call met its promise
abbrev pub KeptRead : LibraryRead → Type 0
KeptRead c = EscpReadPromise c.state c.input c.allowance c.out c.number c.left c.counted c.after

-- each call met its promise, and got the registers that the call before it left; input is bytes
abbrev pub Linked : (held : List ℕ) → List LibraryCall → Type 0
Linked held [] = Unit
Linked held (starts c ∷ l) = EscpStartPromise c.given c.number c.left × Linked c.left l
Linked held (reads c ∷ l) =
    ((c.state ≡ held) × Bytes c.input × KeptRead c) × Linked c.left l

-- The reader's calls

abbrev pub as_start : LibraryStart → StartCall
as_start c = record { settings = settings_in c.given; back = start_of (settings_in c.given) }

abbrev pub as_read : LibraryRead → ReadCall
as_read c =
    let v = call_of (printer_in c.state) c.input c.allowance (length c.out) in
    record {
      state = printer_in c.state;
      input = c.input;
      allowance = c.allowance;
      out = c.out;
      back = report_of v;
      left = v.printer;
      after = c.after;
    }

abbrev pub as_call : LibraryCall → Call
as_call (starts c) = started (as_start c)
as_call (reads c) = read (as_read c)

-- with the same answer, counts and registers
abbrev pub Same : LibraryCall → Type 0
Same (starts c) = (c.number ≡ number_of (as_start c).back.answer) × (c.left ≡ registers_of (as_start c).back.printer)
Same (reads c) =
    (c.number ≡ number_of (as_read c).back.answer)
    × (c.state ≡ registers_of (as_read c).state) × (c.left ≡ registers_of (as_read c).left)
    × (c.counted ≡ (as_read c).back.read ∷ (as_read c).back.written ∷ [])

-- they are the reader's calls from this printer on, with the same answers, counts and registers
pub record ReadersCalls (p : Printer) (l : List LibraryCall) : Type 0 where
  pub calls : Chain p (map as_call l)
  pub same : Each Same l

-- answer 4: the registers and the output as they were, counts 0
pub record Refused (c : LibraryRead) : Type 0 where
  pub number : c.number ≡ 4
  pub left : c.left ≡ c.state
  pub counted : c.counted ≡ 0 ∷ 0 ∷ []
  pub after : c.after ≡ c.out

-- reading calls are refused until a start; from there on they are the reader's calls, whatever printer it held before
abbrev pub RefusedUntilStart : List LibraryCall → Type 0
RefusedUntilStart [] = Unit
RefusedUntilStart (starts c ∷ l) = (before : Printer) → ReadersCalls before (starts c ∷ l)
RefusedUntilStart (reads c ∷ l) = Refused c × RefusedUntilStart l

-- the bytes read and written, by the counts
abbrev pub read_by : LibraryRead → List ℕ
read_by c = take (get_or c.counted 0 0) c.input

abbrev pub written_by : LibraryCall → List ℕ
written_by (starts c) = []
written_by (reads c) = take (get_or c.counted 1 0) c.after

-- written by all calls, joined
unfoldable pub joined_bytes : List LibraryCall → List ℕ
joined_bytes [] = []
joined_bytes (c ∷ l) = written_by c ++ joined_bytes l

-- Reading calls alone

unfoldable pub last_registers : (held : List ℕ) → List LibraryRead → List ℕ
last_registers held [] = held
last_registers held (c ∷ l) = last_registers c.left l

-- the input that they were given, and the bytes that they read of it, joined
unfoldable pub given_input : List LibraryRead → List ℕ
given_input [] = []
given_input (c ∷ l) = c.input ++ given_input l

unfoldable pub read_input : List LibraryRead → List ℕ
read_input [] = []
read_input (c ∷ l) = read_by c ++ read_input l

-- each read its piece to the end: answer 0
abbrev pub AllRead : List LibraryRead → Type 0
AllRead l = Each (λ (c : LibraryRead). c.number ≡ 0) l

-- each is given what the ones before left unread, until nothing is left
abbrev pub GivenRest : (input : List ℕ) → List LibraryRead → Type 0
GivenRest input [] = input ≡ []
GivenRest input (c ∷ l) = (c.input ≡ input) × GivenRest (drop (get_or c.counted 0 0) input) l

-- what they leave on registers: the last registers, and the output joined, are the rules' over these bytes
pub record LeavesRegisters (m : List ℕ) (l : List LibraryRead) (bytes : List ℕ) : Type 0 where
  pub registers : last_registers m l ≡ registers_of (state_after (printer_in m) bytes)
  pub output : joined_bytes (map reads l) ≡ encoded_all (records_over (printer_in m) bytes)

-- Writing a card, and reading it back

-- the letters and the output before; the answer's number, the count and the output after
pub record LibraryWrite : Type 0 where
  pub letters : List ℕ
  pub out : List ℕ
  pub number : ℕ
  pub written : ℕ
  pub after : List ℕ

abbrev pub KeptWrite : LibraryWrite → Type 0
KeptWrite w = EscpWritePromise w.letters w.out w.number w.written w.after

-- the letters given, and the bytes written
abbrev pub given_letters : LibraryWrite → List Letter
given_letters w = letters_of w.letters (count_of w.letters)

abbrev pub card_by : LibraryWrite → List ℕ
card_by w = take w.written w.after

-- a start, and reading calls: by demand 3's reckoning they print these letters at exactly these places, in this order, and no others; the bytes
-- that they wrote are TX of these letters, and LN without a page turned, after ESC @'s LN 255; and nothing is waited for, which is kind 0
pub record LibraryReadsBack (r : Resolution) (letters : List Letter) (before : Printer) (c : LibraryStart) (l : List LibraryRead) : Type 0 where
  pub places : map placed_as (printed_over before (map as_call (starts c ∷ map reads l))) ≡ map placed_letter letters
  pub texts : texts_in (decoded_all (joined_bytes (starts c ∷ map reads l))) ≡ map (text_of r) letters
  pub nothing_else : TextsAndFeeds (decoded_all (joined_bytes (starts c ∷ map reads l)))
  pub waiting : get_or (last_registers c.left l) kind_at 0 ≡ 0
