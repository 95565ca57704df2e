-- What a reading tells of the input.
use Rattle.std.specs.Prelude.{ℕ, Result, Ok, Err}
use Rattle.standing.specs.Text.{Reading, no_lines, lines_of, FromInput}
use Rattle.standing.specs.declared.text.Text.{Text}
use Rattle.under.specs.declared.Failure.{Failure}

-- some input leads there from before any byte
pub record FromNoLines (a b : ℕ) (after : Reading) : Type 0 where
  pub read : ℕ
  pub from_input : FromInput a b no_lines after read

-- some input leads to the text that was read, or to what had been read when a line was found to be no record's
abbrev pub Told : (a b : ℕ) → Result Text Failure → Type 0
Told a b (Ok t) = FromNoLines a b (Ok (lines_of t))
Told a b (Err (Failure.Line e)) = FromNoLines a b (Err (lines_of e.text))
Told a b (Err (Failure.Input e)) = Unit
Told a b (Err (Failure.Output e)) = Unit
