-- Document 01, 'Calls and their numbers': the start, the reading calls, and the table of their answers.
use Rattle.std.specs.Prelude.{ℕ, zero, suc, ◌+◌, ◌*◌, ◌-◌, ◌≤◌, ◌<◌, ◌≡◌, Bool, true, false, List, [], ◌∷◌, ◌++◌, ◌⊎◌, ltb, eqb, length, take, drop}
use Rattle.printer.specs.Tools.{pick, both, either, within}
use Rattle.printer.specs.Units.{units, narrowest_paper, widest_paper}
use Rattle.printer.specs.PowerOn.{power_on}
use Rattle.printer.specs.Records.{record_size, room_for_byte, encoded_all}
use Rattle.printer.specs.Steps.{step_of, step_records, state_after, records_over}
use Rattle.printer.specs.Bounds.{accepted}
use Rattle.printer.specs.Types.{Answer, Report, Reading, Started, Waiting, Record, Setup, StartSettings, Printer, Resolution}

-- The start

-- this resolution, and all else as received
abbrev pub setup : Resolution → StartSettings → Setup
setup d r = record { resolution = d; autofeed = r.autofeed; width = units r.width }

abbrev pub started_with : Answer → Setup → Started
started_with a t = record { answer = a; printer = power_on t }

-- resolution 300 or 203; then the width of the paper
abbrev pub usable : StartSettings → Bool
usable r = both (either (eqb r.resolution 300) (eqb r.resolution 203)) (within narrowest_paper widest_paper r.width)

abbrev pub resolution_of : (dots : ℕ) → Resolution
resolution_of dots = pick (eqb dots 203) Resolution.Dots203 Resolution.Dots300

abbrev pub setup_of : StartSettings → Setup
setup_of r = setup (resolution_of r.resolution) r

-- so many dots, and all else plain
abbrev pub start_at : (dots : ℕ) → StartSettings
start_at dots = record { resolution = dots; autofeed = false; width = widest_paper }

-- 300 dots, automatic line feed off, the widest paper: what a refused start gives
abbrev pub plain_start : StartSettings
plain_start = start_at 300

unfoldable pub start_of : StartSettings → Started
start_of r =
    pick (usable r) (started_with Answer.InputUsed (setup_of r)) (started_with Answer.SettingsRefused (setup_of plain_start))

-- Reading

-- what reading comes to: the answer, the state, the bytes read and the records
pub record Run : Type 0 where
  pub answer : Answer
  pub printer : Printer
  pub read : ℕ
  pub records : List Record

abbrev pub stopped : Answer → Printer → Run
stopped a p = record { answer = a; printer = p; read = 0; records = [] }

-- one byte read before a run, with its records
abbrev pub after_byte : List Record → Run → Run
after_byte l v =
    record { answer = v.answer; printer = v.printer; read = suc v.read; records = l ++ v.records }

-- under 32 output bytes left
abbrev pub is_full : (room : ℕ) → Bool
is_full room = ltb room room_for_byte

-- before each byte: input used up; allowance used; output full
unfoldable pub run_of : Printer → (input : List ℕ) → (allowance room : ℕ) → Run
run_of p [] allowance room = stopped Answer.InputUsed p
run_of p (b ∷ l) zero room = stopped Answer.AllowanceUsed p
run_of p (b ∷ l) (suc allowance) room =
    pick (is_full room)
    (stopped Answer.OutputFull p)
    (after_byte (step_records p b)
    (run_of (step_of p b) l allowance (room - record_size * length (step_records p b))))

-- 4 is tested before all else
unfoldable pub call_of : Printer → (input : List ℕ) → (allowance room : ℕ) → Run
call_of p input allowance room = pick (accepted p) (run_of p input allowance room) (stopped Answer.StateRefused p)

-- what a run reports
abbrev pub report_of : Run → Report
report_of v = record { answer = v.answer; read = v.read; written = record_size * length v.records }

-- what the call by value gives back
abbrev pub reading_of : Printer → List ℕ → ℕ → ℕ → Reading
reading_of p input allowance room =
    record {
      report = report_of (call_of p input allowance room);
      printer = (call_of p input allowance room).printer;
    }

-- what the output holds after the call: the records, and past them what it held
abbrev pub output_of : Printer → List ℕ → ℕ → List ℕ → List ℕ
output_of p input allowance out =
    encoded_all (call_of p input allowance (length out)).records
    ++ drop (record_size * length (call_of p input allowance (length out)).records) out

-- Calls with what came back

-- what a start was given and gave back
pub record StartCall : Type 0 where
  pub settings : StartSettings
  pub back : Started

-- a reading call: the state it got, input, allowance, the output before and after, what came back, and the state returned or left
pub record ReadCall : Type 0 where
  pub state : Printer
  pub input : List ℕ
  pub allowance : ℕ
  pub out : List ℕ
  pub back : Report
  pub left : Printer
  pub after : List ℕ

-- the bytes that it read, and those that it wrote
abbrev pub bytes_of : ReadCall → List ℕ
bytes_of c = take c.back.read c.input

abbrev pub written_of : ReadCall → List ℕ
written_of c = take c.back.written c.after

-- The table of answers

-- what stands there for a call: exactly when the answer comes; what comes back, is left
pub record Cell : Type 1 where
  pub when : Type 0
  pub back : Type 0

abbrev pub cell : (when back : Type 0) → Cell
cell when back = record { when = when; back = back }

abbrev pub never : Cell
never = cell ⊥ ⊥

-- a row: its number, and what stands there for a start and for a reading call
pub record Row : Type 1 where
  pub number : ℕ
  pub starting : StartCall → Cell
  pub reading : ReadCall → Cell

abbrev pub InBounds : ReadCall → Type 0
InBounds c = accepted c.state ≡ true

abbrev pub InputLeft : ReadCall → Type 0
InputLeft c = c.back.read < length c.input

abbrev pub AllowanceLeft : ReadCall → Type 0
AllowanceLeft c = c.back.read < c.allowance

-- new state, counts read and written; output past the written count is untouched
pub record NewState (c : ReadCall) : Type 0 where
  pub state : c.left ≡ state_after c.state (bytes_of c)
  pub written : c.back.written ≡ record_size * length (records_over c.state (bytes_of c))
  -- before each byte read, allowance and 32 output bytes were left
  pub allowed : c.back.read ≤ c.allowance
  pub room : (n : ℕ) → n < c.back.read → record_size * length (records_over c.state (take n c.input)) + room_for_byte ≤ length c.out
  pub output : c.after ≡ encoded_all (records_over c.state (bytes_of c)) ++ drop c.back.written c.out

-- that state, counts 0, output untouched
pub record ThatState (c : ReadCall) : Type 0 where
  pub state : c.left ≡ c.state
  pub read : c.back.read ≡ 0
  pub written : c.back.written ≡ 0
  pub output : c.after ≡ c.out

abbrev pub DotsTaken : StartCall → Type 0
DotsTaken c = (c.settings.resolution ≡ 300) ⊎ (c.settings.resolution ≡ 203)

abbrev pub WidthTaken : StartCall → Type 0
WidthTaken c = (narrowest_paper ≤ c.settings.width) × (c.settings.width ≤ widest_paper)

-- an accepted start: the power-on state, waiting for nothing
pub record PowerOnState (c : StartCall) : Type 0 where
  pub at300 : c.settings.resolution ≡ 300 → c.back.printer ≡ power_on (setup Resolution.Dots300 c.settings)
  pub at203 : c.settings.resolution ≡ 203 → c.back.printer ≡ power_on (setup Resolution.Dots203 c.settings)
  pub waiting : c.back.printer.waiting ≡ Waiting.Nothing

abbrev pub row : Answer → Row
-- input used up; or an accepted start
row Answer.InputUsed =
    record {
      number = 0;
      starting = λ c. cell (DotsTaken c × WidthTaken c) (PowerOnState c);
      reading = λ c. cell (InBounds c × (c.back.read ≡ length c.input)) (NewState c);
    }
-- allowance used, input left
row Answer.AllowanceUsed =
    record {
      number = 1;
      starting = λ c. never;
      reading = λ c. cell (InBounds c × (c.back.read ≡ c.allowance) × InputLeft c) (NewState c);
    }
-- under 32 output bytes left, input and allowance left
row Answer.OutputFull =
    record {
      number = 2;
      starting = λ c. never;
      reading = λ c.
          cell (InBounds c × (length c.out < c.back.written + room_for_byte) × InputLeft c × AllowanceLeft c) (NewState c);
    }
-- starting: resolution neither 300 nor 203, or a width outside its range; power-on state for 300 and 28,800, automatic line feed off
row Answer.SettingsRefused =
    record {
      number = 3;
      starting = λ c.
          cell ((DotsTaken c → ⊥) ⊎ (WidthTaken c → ⊥))
          (c.back.printer ≡ power_on (setup Resolution.Dots300 plain_start));
      reading = λ c. never;
    }
-- state outside the bounds
row Answer.StateRefused =
    record { number = 4; starting = λ c. never; reading = λ c. cell (accepted c.state ≡ false) (ThatState c) }

-- the number of an answer
abbrev pub number_of : Answer → ℕ
number_of a = (row a).number

-- an answer is by the table: it comes when its row says so and no other row does, with what its row says
pub record ByTable (cells : Answer → Cell) (a : Answer) : Type 0 where
  pub when : (cells a).when
  pub only : (b : Answer) → (cells b).when → a ≡ b
  pub back : (cells a).back
