-- Text that grows at the beginning of an output: stored byte by byte, or lent and written; and the lines of one record more.
use Prim.Native.Nat.{ℕ, zero, suc, ◌+◌, ◌*◌, ◌/◌, ◌%◌, ◌≤◌, ◌<◌}
use mathlib.Core.Path.{◌≡◌, refl, ◌∙◌}
use mathlib.Core.List.{List, [], ◌∷◌, ◌++◌, append_assoc, append-nil}
use native.Mathlib.Numerals.{add-one}
use native.Mathlib.Omega.{arith}
use borrow.Rule.Slice.PartMut.{put_mid}
use lib.ListN.{length, take, drop, get_or, set, length-append, length-drop, drop_of_length-le}
use lib.Seq.{sets, sets-eq, take-suc, take_at, drop-drop, drop-append-add, length-take-le, take_all}
use Rattle.printer.specs.Records.{record_size}
use Rattle.hex_lines.specs.HexLines.{hex_digit, hex_digits, hex_line, line_size, hex_lines}

-- ys is written past p, of n bytes
module _ (p ys out : List ℕ) (n : ℕ) (e : length p ≡ n) where
  front : take n (p ++ drop n out) ≡ p
  front = take_at p (drop n out) n e

  rest : drop (n + length ys) (p ++ drop n out) ≡ drop (n + length ys) out
  rest = rw (← e, drop-append-add, drop-drop)

  stored : n + length ys ≤ length out → sets (p ++ drop n out) n ys ≡ (p ++ ys) ++ drop (n + length ys) out
  stored h =
      sets-eq ys (p ++ drop n out) n (simp (length-append, length-drop) (omega arith))
      ∙ simp (front, rest, append_assoc)

  lent : (k : ℕ) → length ys ≡ k → put_mid n k (p ++ drop n out) ys ≡ (p ++ ys) ++ drop (n + k) out
  lent k f = rw (← f) (simp (front, drop-drop, rest, append_assoc))

-- Digits

digits_append : (l m : List ℕ) → hex_digits (l ++ m) ≡ hex_digits l ++ hex_digits m
unfolding hex_digits
digits_append [] m = refl
digits_append (b ∷ l) m = rw (digits_append l m)

pub digits_length : (l : List ℕ) → length (hex_digits l) ≡ 2 * length l
unfolding hex_digits
digits_length [] = refl
digits_length (b ∷ l) = omega (arith, digits_length l)

abbrev pair : ℕ → List ℕ
pair b = hex_digit (b / 16) ∷ hex_digit (b % 16) ∷ []

digits_more : (l : List ℕ) (i : ℕ) → i < length l → hex_digits (take (i + 1) l) ≡ hex_digits (take i l) ++ pair (get_or l i 0)
unfolding hex_digits
digits_more l i h = rw (add-one, take-suc l i 0, digits_append)

-- a loop that has stored the digits of i bytes stores those of one more
pub digits_on : (l out₀ out : List ℕ) (i x y : ℕ) → i < length l → 2 * i + 2 ≤ length out₀
    → out ≡ hex_digits (take i l) ++ drop (2 * i) out₀
    → x ≡ hex_digit (get_or l i 0 / 16) → y ≡ hex_digit (get_or l i 0 % 16)
    → set (set out (2 * i) x) (2 * i + 1) y ≡ hex_digits (take (i + 1) l) ++ drop (2 * (i + 1)) out₀
digits_on l out₀ out i x y h room e a b =
    let k : length (take i l) ≡ i = length-take-le i l (omega arith) in
    let n : length (hex_digits (take i l)) ≡ 2 * i = omega (arith, digits_length (take i l)) in
    let f : 2 * (i + 1) ≡ 2 * i + 2 = omega arith in
    rw (e, a, b, digits_more l i h, f, add-one (2 * i))
    (stored (hex_digits (take i l)) (pair (get_or l i 0)) out₀ (2 * i) n room)

-- and after the last a newline
pub digits_end : (l out₀ out : List ℕ) → length l ≡ record_size → length out₀ ≡ line_size
    → out ≡ hex_digits (take record_size l) ++ drop (2 * record_size) out₀ → set out (2 * record_size) 10 ≡ hex_line l
unfolding hex_line
digits_end l out₀ out n m e =
    let k : length (hex_digits l) ≡ 2 * record_size = omega (arith, digits_length l) in
    let f : take record_size l ≡ l = take_all record_size l (omega arith) in
    let g : drop line_size out₀ ≡ [] = drop_of_length-le out₀ {i = line_size} (omega arith) in
    rw (e, f) (stored (hex_digits l) (10 ∷ []) out₀ (2 * record_size) k (omega arith) ∙ rw (g, append-nil))

-- Lines

line-length : (l : List ℕ) → length l ≡ record_size → length (hex_line l) ≡ line_size
unfolding hex_line
line-length l e = simp length-append (omega (arith, digits_length l))

lines-length : (n : ℕ) (l : List ℕ) → record_size * n ≤ length l → length (hex_lines n l) ≡ line_size * n
unfolding hex_lines
lines-length zero l h = refl
lines-length (suc n) l h =
    simp length-append (omega (arith, line-length (take record_size l) (length-take-le record_size l (omega arith)), lines-length n (drop record_size l) (simp length-drop (omega arith))))

pub lines_more : (n : ℕ) (l : List ℕ) → hex_lines (suc n) l ≡ hex_lines n l ++ hex_line (take record_size (drop (record_size * n) l))
unfolding hex_lines
lines_more zero l = append-nil _
lines_more (suc n) l =
    let e : record_size + record_size * n ≡ record_size * suc n = omega arith in
    rw (lines_more n (drop record_size l), drop-drop, e, append_assoc)

-- a loop that has written the lines of i records writes one more
pub lines-on : (l out₀ out ys : List ℕ) (i : ℕ) → record_size * i + record_size ≤ length l
    → out ≡ hex_lines i l ++ drop (line_size * i) out₀ → ys ≡ hex_line (take record_size (drop (record_size * i) l))
    → put_mid (line_size * i) line_size out ys ≡ hex_lines (i + 1) l ++ drop (line_size * (i + 1)) out₀
lines-on l out₀ out ys i h e f =
    let r : List ℕ = take record_size (drop (record_size * i) l) in
    let k : length r ≡ record_size = length-take-le record_size (drop (record_size * i) l) (simp length-drop (omega arith)) in
    let n : length (hex_lines i l) ≡ line_size * i = lines-length i l (omega arith) in
    let m : line_size * (i + 1) ≡ line_size * i + line_size = omega arith in
    rw (e, f, m, add-one i, lines_more i l) (lent (hex_lines i l) (hex_line r) out₀ (line_size * i) n line_size (line-length r k))
