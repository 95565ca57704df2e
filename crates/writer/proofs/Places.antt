-- Moves across to a place, and the whole of a letter.
use Prim.Native.Nat.{ℕ, ◌+◌, ◌-◌, ◌/◌, ◌≤◌}
use mathlib.Core.List.{List, [], ◌∷◌, ◌++◌, append_assoc}
use native.Mathlib.Omega.{arith}
use borrow.Rule.Slice.PartMut.{put_mid}
use lib.ListN.{length, length-append}
use Rattle.printer.specs.Tools.{pick}
use mathlib.Core.Bool.{Bool, true, false}
use Rattle.writer.specs.Card.{feeds, move_bytes, place_bytes, letter_bytes, most_bytes}
use Rattle.writer.specs.declared.Letter.{Letter}
use Rattle.writer.specs.Laid.{Laid}
use Rattle.writer.proofs.Laying.{from, more}
use Rattle.writer.proofs.Feeds.{feeds-length}

moves-length : (t : Bool) (n m : ℕ) → length (move_bytes 0x24 n ++ pick t [] (move_bytes 0x5C m)) ≤ 8
moves-length true n m = omega arith
moves-length false n m = omega arith

pub place-length : (across : ℕ) → length (place_bytes across) ≤ 8
place-length across = moves-length _ (across / 60) _

-- a letter takes at most 33 bytes
pub letter-length : (before : ℕ) (x : Letter) → x.down ≤ 39580 → length (letter_bytes before x) ≤ most_bytes
unfolding letter_bytes
letter-length before x h =
    let k = feeds-length ((x.down - before) / 20) (omega arith) in
    let f = feeds ((x.down - before) / 20) in
    let a = place_bytes x.across in
    omega (arith, k, place-length x.across, length-append f (a ++ (x.byte ∷ [])), length-append a (x.byte ∷ []))

-- its parts one after the other
pub all_parts : (before : ℕ) (x : Letter) {xs ys zs ws : List ℕ} {fed placed end : ℕ}
    → Laid xs (feeds ((x.down - before) / 20)) fed ys → Laid (from fed ys) (place_bytes x.across) placed zs
    → (let both = put_mid fed (length ys - fed) ys zs in
    Laid (from (fed + placed) both) (x.byte ∷ []) end ws
    → Laid xs (letter_bytes before x) (fed + placed + end) (put_mid (fed + placed) (length both - (fed + placed)) both ws))
unfolding letter_bytes
all_parts before x u v w = rw append_assoc at (more (more u v) w)
