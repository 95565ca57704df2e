-- The loop over the letters that writes them.
use Prim.Native.Nat.{ℕ, zero, suc, ◌+◌, ◌-◌, ◌≤◌, ◌<◌}
use mathlib.Core.Path.{◌≡◌, refl}
use mathlib.Core.List.{List, [], ◌∷◌}
use native.Mathlib.Numerals.{add-one}
use native.Mathlib.Omega.{arith}
use borrow.Rule.Slice.PartMut.{put_mid}
use lib.ListN.{length, length-append}
use Rattle.writer.specs.Card.{letter_at, down_before, most_bytes, room_for, letter_bytes, letters_bytes, card}
use Rattle.writer.specs.Laid.{Laid}
use Rattle.writer.specs.Refusals.{AllGood}
use Rattle.writer.specs.declared.Letter.{Letter}
use Rattle.writer.proofs.Laying.{from, room_from, more}
use Rattle.writer.proofs.Places.{letter-length}
use Rattle.writer.proofs.GoodLetters.{last-good, before-good}

-- how many bytes it has
pub card-length : (l : List ℕ) (n : ℕ) → AllGood l n → length (card l n) ≤ room_for n
unfolding letters_bytes
card-length l zero g = omega arith
card-length l (suc n) g =
    let k = card-length l n (before-good l n g) in
    let j = letter-length (down_before l n) (letter_at l n) (last-good l n g).down_most in
    omega (arith, k, j, length-append (letters_bytes l n) (letter_bytes (down_before l n) (letter_at l n)))

-- the first i letters are written
pub record Begun (l xs : List ℕ) (i at before : ℕ) (ys : List ℕ) : Type 0 where
  pub laid : Laid xs (card l i) at ys
  pub down : before ≡ down_before l i

pub begins : (l : List ℕ) {xs ys : List ℕ} {at : ℕ} → Laid xs (0x1B ∷ 0x40 ∷ []) at ys → Begun l xs 0 at 0 ys
unfolding letters_bytes
begins l v = record { laid = v; down = refl }

-- and one more, as it is read
module _ {l xs ys : List ℕ} {i at before : ℕ} {x : Letter} (v : Begun l xs i at before ys) (r : x ≡ letter_at l i) where
  pub room_left : (n : ℕ) → AllGood l n → i < n → room_for n ≤ length ys → most_bytes ≤ length (from at ys)
  room_left n g h room =
      let k = card-length l i (λ j e. g j (omega (arith, e, h))) in
      room_from at ys most_bytes (omega (arith, v.laid.count_is))

  pub goes_on : {end : ℕ} {zs : List ℕ} → Laid (from at ys) (letter_bytes before x) end zs
      → Begun l xs (i + 1) (at + end) x.down (put_mid at (length ys - at) ys zs)
  unfolding letters_bytes
  goes_on w = record { laid = rw (add-one i) (more v.laid (rw (v.down, r) at w)); down = rw (add-one i, r) }
