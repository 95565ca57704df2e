-- What a byte's step, a turn and the loop of a reading call promise: of every printer that the registers hold.
use Rattle.std.specs.Prelude.{ℕ, ◌+◌, ◌*◌, ◌-◌, ◌≤◌, ◌<◌, ◌≡◌, Bool, true, Option, List, [], ◌∷◌, length, take}
use Rattle.printer.specs.Tools.{Each}
use Rattle.printer.specs.Accepted.{Typed, Accepted}
use Rattle.printer.specs.Calls.{call_of, report_of, output_of}
use Rattle.printer.specs.Framing.{is_letter}
use Rattle.printer.specs.Records.{record_size, room_for_byte}
use Rattle.printer.specs.Steps.{step_of, step_records, state_after, records_over}
use Rattle.printer.specs.declared.commands.Waiting.{Waiting}
use Rattle.printer.specs.declared.records.Record.{Record}
use Rattle.printer.specs.declared.state.Printer.{Printer}
use Rattle.registers.specs.declared.pending.Pending.{Pending}
use Rattle.registers.specs.Layout.{words}
use Rattle.registers.specs.Held.{Held}
use Rattle.interpreter.specs.declared.steps.Stepping.{Stepping}
use Rattle.interpreter.specs.declared.turn.Turned.{Turned}
use Rattle.interpreter.specs.declared.reading.Ran.{Ran}
use Rattle.interpreter.specs.Output.{Written}
use Rattle.interpreter.specs.Series.{OnLine}

-- registers and what is waited for are those of a state of ours; the numbers for what is waited for are not yet stored
pub record Current (p : Printer) (v : Pending) (w : Waiting) (m : List ℕ) : Type 0 where
  pub held : Held p v m
  pub waits : w ≡ p.waiting
  pub typed : Typed p
  pub accepted : Accepted p

-- of some state: what makes the code safe
pub record Kept (w : Waiting) (m : List ℕ) : Type 0 where
  pub printer : Printer
  pub stale : Pending
  pub current : Current printer stale w m

-- Bytes that follow each other

-- so many from the k-th of a column on have input and room, and are of columns that are waited for and end within the right margin
pub record Fits (n bytes k columns input room across step right : ℕ) : Type 0 where
  pub line : OnLine n bytes k across step right
  pub some_columns : line.whole ≤ columns
  pub some-input : n ≤ input
  pub some-room : record_size * n + record_size ≤ room

abbrev pub Letters : Bool → List ℕ → Type 0
Letters upper l = Each (λ b. is_letter upper b ≡ true) l

-- Bytes read

-- before each of some bytes there is room for a byte's records
unfoldable pub RoomForEach : Printer → (bytes : List ℕ) → (room : ℕ) → Type 0
RoomForEach p [] room = Unit
RoomForEach p (b ∷ l) room = (room_for_byte ≤ room) × RoomForEach (step_of p b) l (room - record_size * length (step_records p b))

abbrev pub stepping : Waiting → Option Record → Stepping
stepping w r = record { waiting = w; wrote = r }

-- a byte's step: what is waited for, the records, and the registers after it
pub record StepPromise (p : Printer) (v : Pending) (b : ℕ) (next : Waiting) (k : List Record) (m : List ℕ) : Type 0 where
  pub same : m ≡ words v (step_of p b)
  pub waits : next ≡ (step_of p b).waiting
  pub wrote : step_records p b ≡ k

-- a turn of one byte
abbrev pub after_byte : Waiting → (written : ℕ) → Turned
after_byte w written = record { waiting = w; read = 1; written = written }

-- a turn: some bytes of the input
pub record TurnPromise (p : Printer) (v : Pending) (input out : List ℕ) (back : Turned) (m after : List ℕ) : Type 0 where
  pub within : back.read ≤ length input
  pub enough : RoomForEach p (take back.read input) (length out)
  pub same : m ≡ words v (state_after p (take back.read input))
  pub waits : back.waiting ≡ (state_after p (take back.read input)).waiting
  pub wrote : Written out 0 (records_over p (take back.read input)) back.written after

-- what a turn is given: registers of some state of ours, some input, and room for a byte's records
pub record Ready (w : Waiting) (m input out : List ℕ) : Type 0 where
  pub kept : Kept w m
  pub some-input : 0 < length input
  pub some-room : room_for_byte ≤ length out

-- and what it gives: some bytes are read, and the promise holds of every state that the registers are of
pub record Turns (w : Waiting) (m input out : List ℕ) (back : Turned) (m' after : List ℕ) : Type 0 where
  pub promise : (p : Printer) (v : Pending) → Current p v w m → TurnPromise p v input out back m' after
  pub some : 0 < back.read

-- the loop: what the rules come to, and the state after it
pub record RunPromise
    (p : Printer) (v : Pending) (input : List ℕ) (allowance : ℕ) (out : List ℕ) (back : Ran) (m after : List ℕ) : Type 0 where
  pub report : back.report ≡ report_of (call_of p input allowance (length out))
  pub current : Current (call_of p input allowance (length out)).printer v back.waiting m
  pub output : after ≡ output_of p input allowance out
