-- Records as text: for each a line of lower-case hex digits.
use Rattle.std.specs.Prelude.{ℕ, zero, suc, ◌+◌, ◌-◌, ◌*◌, ◌/◌, ◌%◌, min, List, [], ◌∷◌, ◌++◌, ltb, length, take, drop}
use Rattle.printer.specs.Tools.{pick}
use Rattle.printer.specs.Records.{record_size}

-- the digit of a number below 16: 0 to 9, then a to f
abbrev pub hex_digit : ℕ → ℕ
hex_digit n = pick (ltb n 10) (48 + n) (97 + (n - 10))

-- two digits a byte
unfoldable pub hex_digits : List ℕ → List ℕ
hex_digits [] = []
hex_digits (b ∷ l) = hex_digit (b / 16) ∷ hex_digit (b % 16) ∷ hex_digits l

-- a record's digits and a newline
unfoldable pub hex_line : List ℕ → List ℕ
hex_line l = hex_digits l ++ (10 ∷ [])

-- the bytes of a line
abbrev pub line_size : ℕ
line_size = 2 * record_size + 1

-- the lines of the first n records
unfoldable pub hex_lines : ℕ → List ℕ → List ℕ
hex_lines zero l = []
hex_lines (suc n) l = hex_line (take record_size l) ++ hex_lines n (drop record_size l)

-- as many whole records as there are, and as many lines as there is room for
abbrev pub count_of : (records : List ℕ) → (room : ℕ) → ℕ
count_of records room = min (length records / record_size) (room / line_size)

-- what the output holds after the call: the lines, and past them what it held
abbrev pub text_of : (records out : List ℕ) → List ℕ
text_of records out =
    hex_lines (count_of records (length out)) records ++ drop (line_size * count_of records (length out)) out
