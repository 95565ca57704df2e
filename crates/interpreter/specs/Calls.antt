-- What the calls on registers promise: those of document 01, of the printer that the registers are read as; registers that are
-- no accepted printer's are refused and left.
use Rattle.std.specs.Prelude.{ℕ, ◌*◌, ◌≡◌, List, ◌++◌, length, drop}
use Rattle.printer.specs.Tools.{pick}
use Rattle.printer.specs.Records.{record_size, encoded_all}
use Rattle.printer.specs.Calls.{Run, stopped, call_of, report_of, start_of}
use Rattle.printer.specs.declared.answers.Answer.{Answer}
use Rattle.printer.specs.declared.answers.Report.{Report}
use Rattle.printer.specs.declared.settings.StartSettings.{StartSettings}
use Rattle.registers.specs.State.{registers_of, printer_in, accepted_in}

-- 4 is tested before all else
unfoldable pub run_in : List ℕ → (input : List ℕ) → (allowance room : ℕ) → Run
run_in m input allowance room =
    pick (accepted_in m) (call_of (printer_in m) input allowance room) (stopped Answer.StateRefused (printer_in m))

-- the registers that the call leaves
unfoldable pub left_in : List ℕ → (input : List ℕ) → (allowance room : ℕ) → List ℕ
left_in m input allowance room = pick (accepted_in m) (registers_of (run_in m input allowance room).printer) m

-- what the output holds after the call: the records, and past them what it held
abbrev pub output_in : List ℕ → (input : List ℕ) → (allowance : ℕ) → (out : List ℕ) → List ℕ
output_in m input allowance out =
    encoded_all (run_in m input allowance (length out)).records
    ++ drop (record_size * length (run_in m input allowance (length out)).records) out

-- a reading call, of the registers, the input, the allowance and the output before, what it reports, and the registers and
-- the output after
pub record ReadsRegisters (m input : List ℕ) (allowance : ℕ) (out : List ℕ) (back : Report) (left after : List ℕ) : Type 0 where
  pub report : back ≡ report_of (run_in m input allowance (length out))
  pub state : left ≡ left_in m input allowance (length out)
  pub output : after ≡ output_in m input allowance out

-- a start, of its settings, its answer and the registers after
pub record StartsRegisters (settings : StartSettings) (back : Answer) (left : List ℕ) : Type 0 where
  pub answer : back ≡ (start_of settings).answer
  pub state : left ≡ registers_of (start_of settings).printer
