-- The records held are those that the forward reading of crate slot numbers; so what stands is its answer, for every list of whole records.
use Rattle.std.proofs.Common.{◌≡◌, ℕ, zero, suc, ◌/◌, true, List, length, refl, ap, ◌∙◌}
use Rattle.printer.specs.Records.{record_size}
use Rattle.slot.specs.Slot.{Found, forward, record_at, seen_at, whole, found, found_part, part_of, bytes_in, standing_in}
use Rattle.slot.specs.Slot as S
use Rattle.slot.specs.declared.Seen.{Seen}
use Rattle.standing.specs.Standing.{bytes_held, or_else, standing_now, next, after_records}
use Rattle.std.specs.Prelude.{Option, Some, None}
use Rattle.standing.specs.declared.Standing.{Standing}

-- the record of a number
abbrev numbered : List ℕ → ℕ → Option (List ℕ)
numbered l zero = None
numbered l (suc i) = Some (record_at l i)

abbrev records : List ℕ → Found → Standing
records l v = record { kept = numbered l v.kept; line = numbered l v.line }

or_else_lem : (l : List ℕ) (j k : ℕ) → or_else (numbered l j) (numbered l k) ≡ numbered l (S.or_else j k)
or_else_lem l zero k = refl
or_else_lem l (suc j) k = refl

next-records : (l : List ℕ) (s : Seen) (n : ℕ) (v : Found) → next s (record_at l n) (records l v) ≡ records l (S.next s (suc n) v)
next-records l Seen.Letter n v = refl
next-records l Seen.Line n v = ap (λ (h : Option (List ℕ)). record { kept = h; line = None }) (or_else_lem l v.line v.kept)
next-records l Seen.Page n v = refl
next-records l Seen.Clear n v = refl
next-records l Seen.Other n v = refl

after-records : (a b : ℕ) (l : List ℕ) (n : ℕ) → after_records a b l n ≡ records l (forward (seen_at a b l) n)
unfolding after_records forward
after-records a b l zero = refl
after-records a b l (suc n) =
    ap (next (seen_at a b l n) (record_at l n)) (after-records a b l n) ∙ next-records l (seen_at a b l n) n (forward (seen_at a b l) n)

-- a number's bytes
found_bytes : (l : List ℕ) (k : ℕ) → bytes_held (numbered l k) ≡ bytes_in l (found_part k)
found_bytes l zero = refl
found_bytes l (suc i) = refl

pub kept_answer : (a b : ℕ) (l : List ℕ) → whole l ≡ true
    → bytes_held (standing_now (after_records a b l (length l / record_size))) ≡ standing_in a b l
unfolding part_of
kept_answer a b l w =
    let v : Found = forward (seen_at a b l) (length l / record_size) in
    rw (w, after-records a b l (length l / record_size)) (ap bytes_held (or_else_lem l v.line v.kept) ∙ found_bytes l (found a b l))
