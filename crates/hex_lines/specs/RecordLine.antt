-- A line of text read back as a record's bytes.
use Rattle.std.specs.Prelude.{ℕ, ◌+◌, ◌-◌, ◌*◌, Bool, true, List, [], ◌∷◌, eqb, ltb, length, Option, Some, None}
use Rattle.printer.specs.Tools.{pick, both, within}
use Rattle.printer.specs.Records.{record_size}

-- the value of a hex digit: 0 to 9, a to f or A to F; of any other byte 16
abbrev pub digit_value : ℕ → ℕ
digit_value b =
    pick (within 48 57 b) (b - 48)
    (pick (within 97 102 b) (b - 87)
    (pick (within 65 70 b) (b - 55) 16))

abbrev pub is_digit : ℕ → Bool
is_digit b = ltb (digit_value b) 16

abbrev pub digit_of : ℕ → Option ℕ
digit_of b = pick (is_digit b) (Some (digit_value b)) None

unfoldable pub all_digits : List ℕ → Bool
all_digits [] = true
all_digits (b ∷ l) = both (is_digit b) (all_digits l)

-- two digits a byte, the high one first
abbrev pub byte_of : ℕ → ℕ → ℕ
byte_of high low = 16 * digit_value high + digit_value low

unfoldable pub bytes_of : List ℕ → List ℕ
bytes_of [] = []
bytes_of (x ∷ []) = []
bytes_of (x ∷ y ∷ l) = byte_of x y ∷ bytes_of l

-- the digits of a line
abbrev pub digit_count : ℕ
digit_count = 2 * record_size

-- a line, without its newline, is a record's
abbrev pub is_record : List ℕ → Bool
is_record l = both (eqb (length l) digit_count) (all_digits l)

unfoldable pub record_of : List ℕ → Option (List ℕ)
record_of l = pick (is_record l) (Some (bytes_of l)) None
