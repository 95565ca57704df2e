-- The bytes that print between commands.
use Rattle.std.specs.Prelude.{ℕ, Bool, leb}
use Rattle.printer.specs.Tools.{either, within}

-- whether a byte prints, by the first above 7Eh that does
abbrev pub prints_from : (from b : ℕ) → Bool
prints_from from b = either (within 0x20 0x7E b) (leb from b)
