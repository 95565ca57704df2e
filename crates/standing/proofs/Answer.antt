-- The lines of any list of whole records, with or without the last newline, are read to their end, and what stands after them is what crate
-- slot answers of the list.
use Rattle.std.proofs.Common.{◌≡◌, ℕ, zero, suc, ◌+◌, ◌*◌, ◌/◌, ◌%◌, ◌<◌, ◌≤◌, ltb, List, [], ◌∷◌, ◌++◌, length, drop, refl, ◌∙◌, append_assoc, append-nil, arith, length-append, length-drop, length-take-le, lt-ltb, eq-eqb, ne_eqb}
use Rattle.printer.specs.Tools.{Bytes}
use Rattle.printer.specs.Records.{record_size}
use Rattle.printer.proofs.Choices.{pick_elim, bytes_take}
use Rattle.hex_lines.specs.HexLines.{hex_digit, hex_digits, hex_line, hex_lines}
use Rattle.hex_lines.specs.RecordLine.{digit_count}
use Rattle.hex_lines.proofs.BackLaws.{read_back}
use Rattle.hex_lines.proofs.LineLaws.{digits_length, lines_more}
use Rattle.slot.specs.Slot.{record_at, seen_of, standing_in}
use Rattle.standing.specs.Standing.{bytes_held, standing_now, next, after_records}
use Rattle.standing.specs.Text.{Lines, Reading, no_lines, one_more, line_ended, byte_read, after_byte, after_text, text_ended}
use Rattle.std.specs.Prelude.{Ok, IsOkAnd}
use Rattle.standing.specs.declared.Standing.{Standing}
use Rattle.standing.proofs.Kept.{kept_answer}
use Rattle.standing.proofs.Lines.{text_append}

-- every line was a record's and has ended, and so much stands
pub record Reads (v : Reading) (s : Standing) : Type 0 where
  pub number : ℕ
  pub same : v ≡ Ok (record { number = number; line = []; standing = s })

-- Digits are gathered

abbrev NoNewline : List ℕ → Type 0
NoNewline [] = Unit
NoNewline (x ∷ l) = (x ≡ 10 → ⊥) × NoNewline l

no_newline : (n : ℕ) → hex_digit n ≡ 10 → ⊥
no_newline n = pick_elim (λ (d : ℕ). d ≡ 10 → ⊥) (ltb n 10) (λ _ e. omega (arith, e)) (λ _ e. omega (arith, e))

no_newlines : (l : List ℕ) → NoNewline (hex_digits l)
unfolding hex_digits
no_newlines [] = tt
no_newlines (b ∷ l) = (no_newline (b / 16), (no_newline (b % 16), no_newlines l))

abbrev with : Lines → List ℕ → Lines
with v l = record { number = v.number; line = v.line ++ l; standing = v.standing }

one-gathered : (a b : ℕ) (v : Lines) (x : ℕ) → (x ≡ 10 → ⊥) → length v.line < digit_count → after_byte a b (Ok v) x ≡ Ok (with v (x ∷ []))
unfolding after_byte byte_read
one-gathered a b v x n h = rw (ne_eqb x 10 n, lt-ltb (length v.line) digit_count h)

gathered : (a b : ℕ) (v : Lines) (l : List ℕ) → NoNewline l → length v.line + length l ≤ digit_count
    → after_text a b (Ok v) l ≡ Ok (with v l)
unfolding after_text
gathered a b v [] n h = rw append-nil
gathered a b v (x ∷ l) n h =
    rw (one-gathered a b v x n.0 (omega arith))
    (gathered a b (with v (x ∷ [])) l n.1 (simp length-append (omega arith)) ∙ rw append_assoc)

-- One line more

module _ (a b : ℕ) {v : Reading} {s : Standing} (g : Reads v s) (r : List ℕ) (k : length r ≡ record_size) (h : Bytes r) where
  abbrev digits_of : Lines
  digits_of = record { number = g.number; line = hex_digits r; standing = s }

  digits-read : after_text a b v (hex_digits r) ≡ Ok digits_of
  digits-read = rw g.same (gathered a b _ (hex_digits r) (no_newlines r) (omega (arith, digits_length r)))

  line-ends : line_ended a b digits_of ≡ Ok (record { number = one_more g.number; line = []; standing = next (seen_of a b r) r s })
  unfolding line_ended
  line-ends = rw (read_back r k h)

  line_read_lem : Reads (after_text a b v (hex_line r)) (next (seen_of a b r) r s)
  unfolding hex_line after_text after_byte
  line_read_lem =
      record { number = one_more g.number; same = rw (text_append a b v (hex_digits r) (10 ∷ []), digits-read) line-ends }

  last-read : Reads (text_ended a b (after_text a b v (hex_digits r))) (next (seen_of a b r) r s)
  unfolding text_ended
  last-read =
      let n : length (hex_digits r) ≡ 0 → ⊥ = λ z. omega (arith, digits_length r, z) in
      record { number = one_more g.number; same = rw (digits-read, ne_eqb (length (hex_digits r)) 0 n) line-ends }

-- All lines

bytes_drop : (n : ℕ) (l : List ℕ) → Bytes l → Bytes (drop n l)
bytes_drop zero l h = h
bytes_drop (suc n) [] h = tt
bytes_drop (suc n) (b ∷ l) h = bytes_drop n l h.1

record_bytes : (l : List ℕ) (n : ℕ) → record_size * suc n ≤ length l → Bytes l
    → (length (record_at l n) ≡ record_size) × Bytes (record_at l n)
record_bytes l n k h =
    (length-take-le record_size (drop (record_size * n) l) (simp length-drop (omega arith)), bytes_take record_size (drop (record_size * n) l) (bytes_drop (record_size * n) l h))

pub lines_read : (a b : ℕ) (l : List ℕ) (n : ℕ) → record_size * n ≤ length l → Bytes l
    → Reads (after_text a b no_lines (hex_lines n l)) (after_records a b l n)
unfolding hex_lines after_text after_records
lines_read a b l zero k h = record { number = 1; same = refl }
lines_read a b l (suc n) k h =
    let r = record_bytes l n k h in
    rw (lines_more n l, text_append a b no_lines (hex_lines n l) (hex_line (record_at l n)))
    (line_read_lem a b (lines_read a b l n (omega arith) h) (record_at l n) r.0 r.1)

-- The program's answer

-- no line was refused, and the record that stands is that of the list
abbrev pub Answers : (a b : ℕ) → List ℕ → Reading → Type 0
Answers a b l v = IsOkAnd v (λ w. bytes_held (standing_now w.standing) ≡ standing_in a b l)

reads_answer : (a b : ℕ) (l : List ℕ) (n : ℕ) → length l ≡ record_size * n → (v : Reading) → Reads v (after_records a b l n) → Answers a b l v
reads_answer a b l n k v g =
    let e : length l / record_size ≡ n = omega arith in
    rw (g.same, ← e) (kept_answer a b l (eq-eqb (length l % record_size) 0 (omega arith)))

ended_stays : (a b : ℕ) (v : Reading) (s : Standing) → Reads v s → text_ended a b v ≡ v
unfolding text_ended
ended_stays a b v s g = rw g.same

pub under-answers : (a b : ℕ) (l : List ℕ) (n : ℕ) → length l ≡ record_size * n → Bytes l
    → Answers a b l (text_ended a b (after_text a b no_lines (hex_lines n l)))
under-answers a b l n k h =
    let g = lines_read a b l n (omega arith) h in
    rw (ended_stays a b (after_text a b no_lines (hex_lines n l)) (after_records a b l n) g) (reads_answer a b l n k _ g)

pub under_answers_unended : (a b : ℕ) (l : List ℕ) (n : ℕ) → length l ≡ record_size * suc n → Bytes l
    → Answers a b l (text_ended a b (after_text a b no_lines (hex_lines n l ++ hex_digits (record_at l n))))
unfolding after_records
under_answers_unended a b l n k h =
    let r = record_bytes l n (omega arith) h in
    let g = lines_read a b l n (omega arith) h in
    rw (text_append a b no_lines (hex_lines n l) (hex_digits (record_at l n)))
    (reads_answer a b l (suc n) k _ (last-read a b g (record_at l n) r.0 r.1))
