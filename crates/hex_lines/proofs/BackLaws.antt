-- A line read back: the loop over its pairs of digits; and the line of a record gives the record.
use Prim.Native.Nat.{ℕ, suc, ◌+◌, ◌-◌, ◌*◌, ◌/◌, ◌%◌, ◌≤◌, ◌<◌}
use mathlib.Core.Path.{◌≡◌, refl, ap, ◌∙◌}
use mathlib.Core.Bool.{true, false}
use mathlib.Core.List.{List, [], ◌∷◌, ◌++◌, append_assoc, append-nil}
use native.Mathlib.Numerals.{add-one}
use native.Mathlib.Omega.{arith}
use borrow.Author.Tests.{ltb-true, ltb-false, lt-ltb, le-leb, lt-leb, eq-eqb, ne_eqb}
use lib.Dec.{ltb}
use Rattle.std.specs.Prelude.{Option, Some, None}
use lib.ListN.{length, take, drop, get_or, set, length-set, drop_of_length-le}
use lib.Seq.{drop-cons, take-suc-set, take_all}
use Rattle.printer.specs.Tools.{Bytes}
use Rattle.printer.specs.Records.{record_size}
use Rattle.printer.proofs.Choices.{pick_elim}
use Rattle.printer.proofs.Frames.{clash}
use Rattle.hex_lines.specs.HexLines.{hex_digit, hex_digits}
use Rattle.hex_lines.specs.RecordLine.{digit_value, is_digit, all_digits, byte_of, bytes_of, digit_count, digit_of, record_of}
use Rattle.hex_lines.proofs.LineLaws.{digits_length}

pub another_length : (line : List ℕ) → (length line ≡ digit_count → ⊥) → None ≡ record_of line
unfolding record_of
another_length line h = rw (ne_eqb (length line) digit_count h)

-- the pairs before the i-th are passed
pub record PairsLeft (line bytes : List ℕ) (i : ℕ) : Type 0 where
  pub size : length line ≡ digit_count
  pub room : length bytes ≡ record_size
  pub passed : i ≤ record_size
  pub digits : all_digits line ≡ all_digits (drop (2 * i) line)
  pub same : bytes_of line ≡ take i bytes ++ bytes_of (drop (2 * i) line)

pub begins : (line bytes : List ℕ) → length line ≡ digit_count → length bytes ≡ record_size → PairsLeft line bytes 0
begins line bytes h k = record { size = h; room = k; passed = omega arith; digits = refl; same = refl }

-- the digits of the i-th pair
abbrev pub high : List ℕ → ℕ → ℕ
high line i = get_or line (2 * i) 0

abbrev pub low : List ℕ → ℕ → ℕ
low line i = get_or line (2 * i + 1) 0

pair-at : (line : List ℕ) (i : ℕ) → 2 * i + 1 < length line → drop (2 * i) line ≡ high line i ∷ low line i ∷ drop (2 * (i + 1)) line
pair-at line i h =
    let e : 2 * (i + 1) ≡ suc (2 * i + 1) = omega arith in
    rw (drop-cons line (2 * i) 0 (omega arith), ← add-one (2 * i), drop-cons line (2 * i + 1) 0 h, e)

-- the value found of a digit, or that there is none
a_digit : (b v : ℕ) → Some v ≡ digit_of b → (v ≡ digit_value b) × (is_digit b ≡ true)
a_digit b v =
    pick_elim (λ (d : Option ℕ). Some v ≡ d → (v ≡ digit_value b) × (is_digit b ≡ true)) (is_digit b)
    (λ t e. (cc, t))
    (λ _ e. absurd (clash cc))

no_digit : (b : ℕ) → None ≡ digit_of b → is_digit b ≡ false
no_digit b =
    pick_elim (λ (d : Option ℕ). None ≡ d → is_digit b ≡ false) (is_digit b) (λ _ e. absurd (clash cc)) (λ t _. t)

module _ {line bytes : List ℕ} {i : ℕ} (v : PairsLeft line bytes i) where
  pub ends : record_size ≤ i → Some bytes ≡ record_of line
  unfolding record_of all_digits bytes_of
  ends h =
      let e : drop (2 * i) line ≡ [] = drop_of_length-le line {i = 2 * i} (omega (arith, v.size)) in
      let d : all_digits line ≡ true = v.digits ∙ ap all_digits e in
      let b : bytes_of line ≡ bytes = v.same ∙ rw (e, append-nil, take_all i bytes (omega (arith, v.room))) in
      rw (eq-eqb (length line) digit_count v.size, d, b)

  module _ (h : i < record_size) where
    pair : drop (2 * i) line ≡ high line i ∷ low line i ∷ drop (2 * (i + 1)) line
    pair = pair-at line i (omega (arith, v.size))

    refused : all_digits line ≡ false → None ≡ record_of line
    unfolding record_of
    refused d = rw (eq-eqb (length line) digit_count v.size, d)

    pub stops_high : None ≡ digit_of (high line i) → None ≡ record_of line
    unfolding all_digits
    stops_high e = refused (v.digits ∙ ap all_digits pair ∙ rw (no_digit (high line i) e))

    module _ {x : ℕ} (e : Some x ≡ digit_of (high line i)) where
      pub stops_low : None ≡ digit_of (low line i) → None ≡ record_of line
      unfolding all_digits
      stops_low f = refused (v.digits ∙ ap all_digits pair ∙ rw ((a_digit (high line i) x e).1, no_digit (low line i) f))

      pub goes_on : (y : ℕ) → Some y ≡ digit_of (low line i) → PairsLeft line (set bytes i (16 * x + y)) (i + 1)
      unfolding all_digits bytes_of
      goes_on y f =
          let p = a_digit (high line i) x e in
          let q = a_digit (low line i) y f in
          record {
            size = v.size;
            room = simp length-set v.room;
            passed = omega arith;
            digits = v.digits ∙ ap all_digits pair ∙ rw (p.1, q.1);
            same = v.same ∙ rw (pair, p.0, q.0, add-one i, take-suc-set bytes i (byte_of (high line i) (low line i)) (omega (arith, v.room)), append_assoc);
          }

-- The line of a record

digit_back : (n : ℕ) → n < 16 → digit_value (hex_digit n) ≡ n
digit_back n h =
    pick_elim (λ (d : ℕ). digit_value d ≡ n) (ltb n 10)
    (λ e. let k = ltb-true n 10 e in rw (le-leb 48 (48 + n) (omega arith), le-leb (48 + n) 57 (omega arith)) (omega arith))
    (λ e.
    let k = ltb-false n 10 e in
    let d : 97 + (n - 10) ≡ 87 + n = omega arith in
    rw (d, lt-leb (87 + n) 57 (omega arith), le-leb 48 (87 + n) (omega arith), le-leb 97 (87 + n) (omega arith), le-leb (87 + n) 102 (omega arith)) (omega arith))

digits_back : (l : List ℕ) → Bytes l → (all_digits (hex_digits l) ≡ true) × (bytes_of (hex_digits l) ≡ l)
unfolding hex_digits all_digits bytes_of
digits_back [] h = (refl, refl)
digits_back (b ∷ l) h =
    let x = digit_back (b / 16) (omega (arith, h.0)) in
    let y = digit_back (b % 16) (omega arith) in
    let e : 16 * (b / 16) + b % 16 ≡ b = omega arith in
    let r = digits_back l h.1 in
    (rw (x, y, lt-ltb (b / 16) 16 (omega (arith, h.0)), lt-ltb (b % 16) 16 (omega arith), r.0), rw (x, y, e, r.1))

pub read_back : (l : List ℕ) → length l ≡ record_size → Bytes l → record_of (hex_digits l) ≡ Some l
unfolding record_of
read_back l n h =
    let r = digits_back l h in
    rw (eq-eqb (length (hex_digits l)) digit_count (omega (arith, digits_length l)), r.0, r.1)
