-- Records and their bytes: decoding an encoding gives the record back.
use Prim.Native.Nat.{ℕ, ◌+◌, ◌*◌, ◌/◌, ◌≤◌}
use mathlib.Core.Path.{◌≡◌, refl}
use mathlib.Core.List.{List, [], ◌∷◌, ◌++◌, append_assoc}
use native.Mathlib.Omega.{arith}
use lib.ListN.{length, take, length-append}
use lib.Seq.{take_at, drop_at}
use Rattle.printer.specs.Tools.{Each}
use Rattle.printer.specs.Records.{record_size, low, high, mark_low, mark_high, encoded, encoded_all}
use Rattle.printer.specs.Decoding.{marks_of, decoded, decoded_first, decoded_all, FitsBytes}
use Rattle.printer.specs.Types.{Mark, Record}

-- a two-byte number from its bytes
word : (n : ℕ) → n ≤ 65535 → low n + 256 * high n ≡ n
word n h = omega arith

mark_back : (m : Mark) → marks_of (mark_low m) (mark_high m) ≡ m ∷ []
unfolding marks_of
mark_back Mark.Tx = refl
mark_back Mark.Im = refl
mark_back Mark.Ln = refl
mark_back Mark.Cl = refl
mark_back Mark.No = refl

pub decoded-encoded : (r : Record) → FitsBytes r → decoded (encoded r) ≡ r ∷ []
unfolding decoded encoded
decoded-encoded r h =
    rw (mark_back r.mark, word r.column.0 h.column, word r.row.0 h.row, word r.style h.style, word r.advance.0 h.advance, word r.rest.0 h.rest)

pub length-encoded : (r : Record) → length (encoded r) ≡ record_size
unfolding encoded
length-encoded r = refl

pub length-encoded_all : (l : List Record) → length (encoded_all l) ≡ record_size * length l
unfolding encoded_all
length-encoded_all [] = refl
length-encoded_all (r ∷ l) = omega (arith, length-append (encoded r) (encoded_all l), length-encoded r, length-encoded_all l)

decoded_first-encoded : (l : List Record) → Each FitsBytes l → decoded_first (length l) (encoded_all l) ≡ l
unfolding decoded_first encoded_all
decoded_first-encoded [] h = refl
decoded_first-encoded (r ∷ l) h =
    rw (take_at (encoded r) (encoded_all l) record_size (length-encoded r), drop_at (encoded r) (encoded_all l) record_size (length-encoded r), decoded-encoded r h.0, decoded_first-encoded l h.1)

pub decoded_all-encoded : (l : List Record) → Each FitsBytes l → decoded_all (encoded_all l) ≡ l
decoded_all-encoded l h =
    let e : length (encoded_all l) / record_size ≡ length l = rw (length-encoded_all l) (omega arith) in
    rw e (decoded_first-encoded l h)

pub encoded_all-append : (a b : List Record) → encoded_all (a ++ b) ≡ encoded_all a ++ encoded_all b
unfolding encoded_all
encoded_all-append [] b = refl
encoded_all-append (r ∷ a) b = rw (encoded_all-append a b, append_assoc)

-- the written part of an output is the records' bytes
pub written_part : (l : List Record) (rest : List ℕ) → take (record_size * length l) (encoded_all l ++ rest) ≡ encoded_all l
written_part l rest = take_at (encoded_all l) rest (record_size * length l) (length-encoded_all l)
