-- The words of `under`: two columns from 0 to 65535, or --help.
use Rattle.std.specs.Prelude.{ℕ, List, leb, Option, Some, None, Result, Ok, bytes_eq}
use Rattle.printer.specs.Tools.{pick}
use Rattle.command_line.specs.CommandLine.{decimal_of, help_word, bad}
use Rattle.command_line.specs.declared.BadUsage.{BadUsage}
use Rattle.command_line.specs.declared.columns.Words.{Words}
use Rattle.command_line.specs.declared.columns.Columns.{Columns}

-- the first column, then the last; a third number is bad
abbrev pub with_column : Words → ℕ → Result Words BadUsage
with_column Words.Nothing n = Ok (Words.From n)
with_column (Words.From a) n = Ok (Words.Between a n)
with_column (Words.Between a b) n = bad
with_column Words.Help n = Ok Words.Help

abbrev pub with_number : Words → Option ℕ → Result Words BadUsage
with_number v (Some n) = pick (leb n 65535) (with_column v n) bad
with_number v None = bad

unfoldable pub taken : Words → List ℕ → Result Words BadUsage
taken v w = pick (bytes_eq w help_word) (Ok Words.Help) (with_number v (decimal_of w))

abbrev pub after_word : Words → List ℕ → Result Words BadUsage
after_word Words.Nothing w = taken Words.Nothing w
after_word (Words.From a) w = taken (Words.From a) w
after_word (Words.Between a b) w = taken (Words.Between a b) w
after_word Words.Help w = Ok Words.Help

-- after the last word
abbrev pub columns_of : Words → Result Columns BadUsage
columns_of Words.Nothing = bad
columns_of (Words.From a) = bad
columns_of (Words.Between a b) = Ok (Columns.Between a b)
columns_of Words.Help = Ok Columns.Help
