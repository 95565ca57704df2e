-- The letters of a list, taken off its front one after the other.
use Prim.Native.Nat.{ℕ, ◌+◌, ◌*◌, ◌≤◌, ◌<◌}
use mathlib.Core.Path.{◌≡◌, sym, ap, ◌∙◌}
use mathlib.Core.List.{List, ◌++◌}
use native.Mathlib.Omega.{arith}
use denote.Ref.{Bor}
use lib.ListN.{length, drop, get_or, length-append, length-drop}
use Rattle.std.specs.Prelude.{Some}
use Rattle.std.proofs.Common.{add-zero}
use Rattle.std.specs.Slice.Iter.{chunks_exact_rest, chunks_exact_size, chunks_exact_steps}
use Rattle.std.specs.declared.slice.ChunksExact.{ChunksExact}
use Rattle.std.proofs.lemmas.List.{get_or_append_left, get_or-drop, drop_at, drop-drop}
use Rattle.writer.specs.Card.{letter_size, letter_at, count_of}

-- what is left after the first i
pub record Ahead (l : List ℕ) (i : ℕ) (s : ChunksExact ℕ) : Type 0 where
  pub size : chunks_exact_size s ≡ letter_size
  pub rest : chunks_exact_rest s ≡ drop (letter_size * i) l
  pub within : letter_size * i ≤ length l

pub all_ahead : (l : List ℕ) (s : ChunksExact ℕ) → chunks_exact_size s ≡ letter_size → chunks_exact_rest s ≡ l → Ahead l 0 s
all_ahead l s z e = record { size = z; rest = e; within = omega arith }

module _ {l : List ℕ} {i : ℕ} {s : ChunksExact ℕ} (v : Ahead l i s) where
  pub at_end : length (chunks_exact_rest s) < chunks_exact_size s → i ≡ count_of l
  at_end h =
      let e = ap length v.rest in
      let d = length-drop (letter_size * i) l in
      omega (arith, v.within, v.size)

  -- one more, x, and t after it
  module _ (x : Bor (List ℕ)) (t : ChunksExact ℕ) (h : chunks_exact_steps s (Some x) t) where
    parts : drop (letter_size * i) l ≡ x.now ++ chunks_exact_rest t
    parts = sym v.rest ∙ h.1.0

    five : length x.now ≡ letter_size
    five = h.1.1 ∙ v.size

    pub more_left : i < count_of l
    more_left =
        let e = ap length parts in
        let f = length-append x.now (chunks_exact_rest t) in
        let d = length-drop (letter_size * i) l in
        let w = v.within in
        omega (arith, five)

    byte_at : (j : ℕ) → j < letter_size → get_or x.now j 0 ≡ get_or l (letter_size * i + j) 0
    byte_at j k =
        sym (get_or_append_left x.now (chunks_exact_rest t) 0 j (rw five k)) ∙ ap (λ (m : List ℕ). get_or m j 0) (sym parts) ∙ get_or-drop (letter_size * i) l j 0

    pub same_letter : letter_at x.now 0 ≡ letter_at l i
    same_letter =
        rw (byte_at 0 (omega arith), byte_at 1 (omega arith), byte_at 2 (omega arith), byte_at 3 (omega arith), byte_at 4 (omega arith), add-zero)

    pub passed : Ahead l (i + 1) t
    passed =
        let e : letter_size * i + letter_size ≡ letter_size * (i + 1) = omega arith in
        record {
          size = h.0 ∙ v.size;
          rest = sym (drop_at x.now (chunks_exact_rest t) letter_size five) ∙ ap (drop letter_size) (sym parts) ∙ drop-drop letter_size (letter_size * i) l ∙ ap (λ (n : ℕ). drop n l) e;
          within = omega (arith, more_left);
        }
