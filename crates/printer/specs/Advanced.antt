-- Document 02, E1: what ESC i comes to where nothing is waited for, whatever its third byte and its argument are.
use Rattle.std.specs.Prelude.{ℕ, ◌≡◌, List, [], ◌∷◌}
use Rattle.printer.specs.Records.{passed_record}
use Rattle.printer.specs.Steps.{state_after, records_over}
use Rattle.printer.specs.Types.{Printer, Record}

-- bytes that change nothing, and write these records alone
pub record OnlyWrites (p : Printer) (bytes : List ℕ) (written : List Record) : Type 0 where
  pub state : state_after p bytes ≡ p
  pub records : records_over p bytes ≡ written

-- by the byte that its escape begins with
pub record AdvancedCommands (p : Printer) (escape : ℕ) : Type 0 where
  -- ESC i a 0, ESC i S
  pub keep_mode : OnlyWrites p (escape ∷ 0x69 ∷ 0x61 ∷ 0 ∷ []) []
  pub status_request : OnlyWrites p (escape ∷ 0x69 ∷ 0x53 ∷ []) []
  -- another argument is NO 2 with "i", another third byte NO 1 with that byte
  pub other_mode : (n : ℕ) → (n ≡ 0 → ⊥) → OnlyWrites p (escape ∷ 0x69 ∷ 0x61 ∷ n ∷ []) (passed_record 0x69 2 ∷ [])
  pub other_third : (b : ℕ) → (b ≡ 0x61 → ⊥) → (b ≡ 0x53 → ⊥) → OnlyWrites p (escape ∷ 0x69 ∷ b ∷ []) (passed_record b 1 ∷ [])
