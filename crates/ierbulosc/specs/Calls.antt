-- What the exported calls promise.
use Rattle.std.specs.Prelude.{ℕ, ◌≡◌, not, List, [], ◌∷◌, eqb, length, get_or}
use Rattle.printer.specs.Calls.{Run, number_of, report_of, start_of}
use Rattle.printer.specs.declared.settings.StartSettings.{StartSettings}
use Rattle.registers.specs.State.{registers_of}
use Rattle.interpreter.specs.Calls.{run_in, left_in, output_in}
use Rattle.slot.specs.Slot as slot
use Rattle.slot.specs.declared.Part.{Part}
use Rattle.writer.specs.Card as card

-- the settings by their numbers: any but 0 switches automatic line feed on
abbrev pub settings_in : List ℕ → StartSettings
settings_in given =
    record { resolution = get_or given 0 0; autofeed = not (eqb (get_or given 1 0) 0); width = get_or given 2 0 }

-- escp_start, of the settings as numbers, its answer's number and the registers after
pub record EscpStartPromise (given : List ℕ) (number : ℕ) (left : List ℕ) : Type 0 where
  pub answer : number ≡ number_of (start_of (settings_in given)).answer
  pub state : left ≡ registers_of (start_of (settings_in given)).printer

-- the bytes read and written
abbrev pub counts_of : Run → List ℕ
counts_of v = (report_of v).read ∷ (report_of v).written ∷ []

-- escp_read, of the registers, the input, the allowance and the output before, its answer's number, and the registers, the
-- counts and the output after
pub record EscpReadPromise
    (m input : List ℕ) (allowance : ℕ) (out : List ℕ) (number : ℕ) (left counted after : List ℕ) : Type 0 where
  pub answer : number ≡ number_of (run_in m input allowance (length out)).answer
  pub state : left ≡ left_in m input allowance (length out)
  pub counts : counted ≡ counts_of (run_in m input allowance (length out))
  pub output : after ≡ output_in m input allowance out

-- where a part begins and how long it is
abbrev pub part_told : Part → List ℕ
part_told p = p.start ∷ p.length ∷ []

-- escp_slot, of the records, the columns asked for, its answer's number, and the part, empty where the list is refused
pub record EscpSlotPromise (records : List ℕ) (a b : ℕ) (number : ℕ) (told : List ℕ) : Type 0 where
  pub answer : number ≡ slot.number_of (slot.part_of a b records)
  pub part : told ≡ part_told (slot.part_given (slot.part_of a b records))

-- escp_write, of the letters and the output before, its answer's number, and the count of bytes written and the output after
pub record EscpWritePromise (letters out : List ℕ) (number written : ℕ) (after : List ℕ) : Type 0 where
  pub answer : number ≡ card.number_of (card.answer_of letters (length out))
  pub count : written ≡ length (card.written_of letters (length out))
  pub output : after ≡ card.output_of letters out
