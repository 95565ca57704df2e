-- What events leave and write, as one value.
use Rattle.std.specs.Prelude.{◌≡◌, List}
use Rattle.printer.specs.Performing.{Event, perform_all, records_all}
use Rattle.printer.specs.declared.records.Record.{Record}
use Rattle.printer.specs.declared.state.Printer.{Printer}

pub record Stepped : Type 0 where
  pub printer : Printer
  pub records : List Record

abbrev pub stepped : Printer → List Record → Stepped
stepped p l = record { printer = p; records = l }

-- the state after events, and their records
pub record Outcome (p : Printer) (l : List Event) (r : Stepped) : Type 0 where
  pub printer : r.printer ≡ perform_all p l
  pub records : r.records ≡ records_all p l
