-- The bytes of a record, whose style and country come as one number.
use Rattle.std.specs.Prelude.{ℕ, ◌/◌, ◌%◌, List, [], ◌∷◌}
use Rattle.printer.specs.Records.{mark_low, mark_high, low, high}
use Rattle.printer.specs.declared.records.Record.{Record}

abbrev pub with_look : Record → (look : ℕ) → List ℕ
with_look r look =
    mark_low r.mark ∷ mark_high r.mark ∷ low r.column.0 ∷ high r.column.0 ∷ low r.row.0 ∷ high r.row.0 ∷ r.byte ∷ r.font ∷
    look % 256 ∷ look / 256 % 256 ∷ look / 65536 % 256 ∷ look / 16777216 % 256 ∷ low r.advance.0 ∷ high r.advance.0 ∷
    low r.rest.0 ∷ high r.rest.0 ∷ []
