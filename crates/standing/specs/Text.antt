-- Records as lines of text: what stands after them.
use Rattle.std.specs.Prelude.{◌≡◌, ℕ, ◌+◌, ◌%◌, List, [], ◌∷◌, ◌++◌, length, take, ◌==◌, nat_lt, Option, Some, None, Result, Ok, Err}
use Rattle.printer.specs.Tools.{pick}
use Rattle.hex_lines.specs.RecordLine.{digit_count, record_of}
use Rattle.slot.specs.Slot.{seen_of}
use Rattle.standing.specs.Standing.{nothing, next}
use Rattle.standing.specs.declared.Standing.{Standing}
use Rattle.standing.specs.declared.text.BadLine.{BadLine}
use Rattle.standing.specs.declared.text.Text.{Text}

-- what has been read of a text: the number of the line begun, from 1, its bytes so far, and what stands after the lines before it
pub record Lines : Type 0 where
  pub number : ℕ
  pub line : List ℕ
  pub standing : Standing

-- or what had been read when the line begun was found to be no record's
abbrev pub Reading : Type 0
Reading = Result Lines Lines

abbrev pub first_line : Lines
first_line = record { number = 1; line = []; standing = nothing }

abbrev pub no_lines : Reading
no_lines = Ok first_line

abbrev pub bad_line : Lines → Reading
bad_line v = Err v

-- the numbers begin again at 2 to the 64th
abbrev pub one_more : ℕ → ℕ
one_more n = (n + 1) % 18446744073709551616

-- a line ends, and is read so
abbrev pub line_read : (a b : ℕ) → Lines → Option (List ℕ) → Reading
line_read a b v (Some bytes) = Ok (record { number = one_more v.number; line = []; standing = next (seen_of a b bytes) bytes v.standing })
line_read a b v None = bad_line v

unfoldable pub line_ended : (a b : ℕ) → Lines → Reading
line_ended a b v = line_read a b v (record_of v.line)

-- a byte that is no newline, where there is room for a digit
unfoldable pub byte_read : Lines → ℕ → Reading
byte_read v x =
    pick (nat_lt (length v.line) digit_count)
    (Ok (record { number = v.number; line = v.line ++ (x ∷ []); standing = v.standing }))
    (bad_line v)

-- after a line that is no record's nothing counts
unfoldable pub after_byte : (a b : ℕ) → Reading → ℕ → Reading
after_byte a b (Ok v) x = pick (x == 10) (line_ended a b v) (byte_read v x)
after_byte a b (Err e) x = Err e

unfoldable pub after_text : (a b : ℕ) → Reading → List ℕ → Reading
after_text a b v [] = v
after_text a b v (x ∷ l) = after_text a b (after_byte a b v x) l

-- at the text's end: the last line may lack its newline
unfoldable pub text_ended : (a b : ℕ) → Reading → Reading
text_ended a b (Ok v) = pick (length v.line == 0) (Ok v) (line_ended a b v)
text_ended a b (Err e) = Err e

-- what the program's state says of the text
abbrev pub lines_of : Text → Lines
lines_of t = record { number = t.number; line = take t.count t.line; standing = t.standing }

abbrev pub reading_of : Result Text BadLine → Reading
reading_of (Ok t) = Ok (lines_of t)
reading_of (Err b) = Err (lines_of b.text)

-- so many bytes from outside lead from one to the other
pub record FromInput (a b : ℕ) (v after : Reading) (read : ℕ) : Type 0 where
  pub input : List ℕ
  pub size : length input ≡ read
  pub same : after ≡ after_text a b v input
