-- What reading promises: as many bytes as came lead to the text that is left.
use Rattle.std.specs.Prelude.{ℕ, ◌+◌, ◌≤◌, ◌≡◌, Result, Ok, Err, IfOk}
use Rattle.standing.specs.Text.{Reading, lines_of, FromInput}
use Rattle.standing.specs.declared.text.Text.{Text}
use Rattle.under.specs.declared.Failure.{Failure}
use Rattle.under.specs.declared.Progress.{Progress}

-- the most bytes of a piece
abbrev pub piece_size : ℕ
piece_size = 32768

-- what is left: the text, or what had been read when a line was found to be no record's
abbrev pub left : {A : Type 0} → Text → Result A Failure → Reading
left t (Ok n) = Ok (lines_of t)
left t (Err (Failure.Input e)) = Ok (lines_of t)
left t (Err (Failure.Line b)) = Err (lines_of b.text)
left t (Err (Failure.Output e)) = Ok (lines_of t)

-- a piece, from outside: so many bytes, which are counted
pub record Taken (a b : ℕ) (before : Progress) (result : Result ℕ Failure) (after : Progress) : Type 0 where
  pub read : ℕ
  pub said : IfOk result (λ n. n ≡ read)
  pub total : after.read ≡ before.read + read
  pub from_input : FromInput a b (Ok (lines_of before.text)) (left after.text result) read
  pub read_le_piece_size : read ≤ piece_size
