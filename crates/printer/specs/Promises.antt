-- What the calls promise: they give what the rules give, and that is by the table of answers.
use Rattle.std.specs.Prelude.{ℕ, ◌≡◌, List, length}
use Rattle.printer.specs.Calls.{start_of, reading_of, output_of, ReadCall, row, ByTable}
use Rattle.printer.specs.Types.{Answer, Printer, Reading, Report, StartSettings, Started}

-- what a start promises of its settings and what it gives back
pub record StartPromise (settings : StartSettings) (back : Started) : Type 0 where
  pub gives : back ≡ start_of settings
  pub by_table : ByTable (λ (a : Answer). (row a).starting (record { settings = settings; back = back })) back.answer

-- a reading call by value
abbrev pub call_by : Printer → (input : List ℕ) → (allowance : ℕ) → (out : List ℕ) → Reading → (after : List ℕ) → ReadCall
call_by p input allowance out back after =
    record {
      state = p;
      input = input;
      allowance = allowance;
      out = out;
      back = back.report;
      left = back.printer;
      after = after;
    }

-- what a reading call promises of the state, the input, the allowance, the output before, what it gives back, and the output after
pub record ReadPromise
    (p : Printer) (input : List ℕ) (allowance : ℕ) (out : List ℕ) (back : Reading) (after : List ℕ) : Type 0 where
  pub gives : back ≡ reading_of p input allowance (length out)
  pub output : after ≡ output_of p input allowance out
  pub by_table : ByTable (λ (a : Answer). (row a).reading (call_by p input allowance out back after)) back.report.answer

-- the same of the call to which the state is lent, of what it reports and the state that it leaves
abbrev pub LentPromise : Printer → (input : List ℕ) → (allowance : ℕ) → (out : List ℕ) → Report → (left : Printer) → (after : List ℕ) → Type 0
LentPromise p input allowance out back left after =
    ReadPromise p input allowance out (record { report = back; printer = left }) after

-- it met its promise: `ReadPromise` of the call by value, `LentPromise` of the other, which are one and the same
abbrev pub ReadingPromise : ReadCall → Type 0
ReadingPromise c = LentPromise c.state c.input c.allowance c.out c.back c.left c.after
