-- Document 02, E4: an image column from its first byte on, in every mode.
use Rattle.std.specs.Prelude.{ℕ, suc, ◌+◌, ◌-◌, ◌≤◌, ◌<◌, ◌≡◌, List, [], ◌∷◌, map, eqb}
use Rattle.printer.specs.Tools.{pick}
use Rattle.printer.specs.Widths.{image_step, image_bytes}
use Rattle.printer.specs.Settings.{right_of, across_of, down_of, at}
use Rattle.printer.specs.Framing.{image_wait}
use Rattle.printer.specs.Records.{image_record, passed_record}
use Rattle.printer.specs.Steps.{wait_for, state_after, records_over}
use Rattle.printer.specs.Performing.{with_parts}
use Rattle.printer.specs.Types.{ImageMode, Printer, Record}

-- each byte an IM at one place, with the step as advance; its part is 1, 2 or 3 where there are three, else 0
unfoldable pub parts_from : Printer → ImageMode → (k : ℕ) → List ℕ → List Record
parts_from p m k [] = []
parts_from p m k (b ∷ l) =
    image_record p.settings p.place b (pick (eqb (image_bytes m) 1) 0 k) (image_step m) ∷ parts_from p m (suc k) l

-- the place moved by the step, and the columns left waited for, from the first byte of one
abbrev pub column_further : Printer → ImageMode → (columns : ℕ) → Printer
column_further p m n =
    wait_for (with_parts p p.settings (at (across_of p.place + image_step m) (down_of p.place)) p.stops) (image_wait m (n - 1))

-- the bytes of a column, where it fits and where it does not
pub record Column (p : Printer) (m : ImageMode) (columns : ℕ) (bytes : List ℕ) : Type 0 where
  pub placed : across_of p.place + image_step m ≤ right_of p.settings
      → (state_after p bytes ≡ column_further p m columns) × (records_over p bytes ≡ parts_from p m 1 bytes)
  -- NO 4 each, and the place is left
  pub passed : right_of p.settings < across_of p.place + image_step m
      → (state_after p bytes ≡ wait_for p (image_wait m (columns - 1))) × (records_over p bytes ≡ map (λ b. passed_record b 4) bytes)
