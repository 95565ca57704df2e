-- The bytes of a text, one after the other, and a piece after another.
use Rattle.std.proofs.Common.{◌≡◌, ℕ, ◌+◌, ◌<◌, ◌≤◌, List, [], ◌∷◌, ◌++◌, length, get_or, drop, refl, add-one, length-append, drop_of_length-le, drop-cons, Err}
use Rattle.standing.specs.Text.{Lines, Reading, after_byte, after_text, FromInput}

-- a piece, byte by byte
pub byte_on : (a b : ℕ) (v : Reading) (l : List ℕ) (i : ℕ) → i < length l
    → after_text a b v (drop i l) ≡ after_text a b (after_byte a b v (get_or l i 0)) (drop (i + 1) l)
unfolding after_text
byte_on a b v l i h = rw (drop-cons l i 0 h, add-one i)

pub all_read : (a b : ℕ) (v : Reading) (l : List ℕ) (i : ℕ) → length l ≤ i → after_text a b v (drop i l) ≡ v
unfolding after_text
all_read a b v l i h = rw (drop_of_length-le l {i = i} h)

pub refused_stays : (a b : ℕ) (e : Lines) (l : List ℕ) → after_text a b (Err e) l ≡ Err e
unfolding after_byte after_text
refused_stays a b e [] = refl
refused_stays a b e (x ∷ l) = refused_stays a b e l

pub text_append : (a b : ℕ) (v : Reading) (l m : List ℕ) → after_text a b v (l ++ m) ≡ after_text a b (after_text a b v l) m
unfolding after_text
text_append a b v [] m = refl
text_append a b v (x ∷ l) m = text_append a b (after_byte a b v x) l m

-- bytes from outside

module _ (a b : ℕ) where
  pub from_none : (v : Reading) → FromInput a b v v 0
  unfolding after_text
  from_none v = record { input = []; size = refl; same = refl }

  pub from_more : {v w after : Reading} {n m : ℕ} → FromInput a b v w n → FromInput a b w after m → FromInput a b v after (n + m)
  from_more {v} g h =
      record {
        input = g.input ++ h.input;
        size = let k = length-append g.input h.input in cc (g.size, h.size);
        same = cc (g.same, h.same, text_append a b v g.input h.input);
      }
