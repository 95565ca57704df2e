-- A place reckoned command by command is what the last setting command set, plus the sum of the moves since.
use Prim.Native.Nat.{ℕ, ◌+◌}
use mathlib.Core.Path.{◌≡◌, refl}
use mathlib.Core.List.{List, [], ◌∷◌, ◌++◌}
use native.Mathlib.Nat.{add_assoc, zero-add}
use native.Mathlib.Omega.{arith}
use Rattle.printer.specs.Tools.{Each}
use Rattle.printer.specs.Reckoning.{Reckoning, Occurrence, start, event, reckon_next, reckon_all, across_motion, down_motion, motions, Motion, stays, sets, moves, Axis, moved, moved_all, Moves, forth_of, back_of}

-- moves alone add to the sums
moves_add : (a : Axis) (l : List Motion) → Each Moves l
    → moved_all a l ≡ record { set = a.set; forth = a.forth + forth_of l; back = a.back + back_of l }
unfolding moved_all forth_of back_of
moves_add a [] h = sums a.set (omega arith) (omega arith)
  where
    sums : (n : ℕ) {x y u v : ℕ} → x ≡ u → y ≡ v → ◌≡◌ {A = Axis} (record { set = n; forth = x; back = y }) (record { set = n; forth = u; back = v })
    sums n e f = cc
moves_add a (stays ∷ l) h = moves_add a l h.1
moves_add a (sets n ∷ l) h = absurd h.0
moves_add a (moves n m ∷ l) h = rw (moves_add (moved a (moves n m)) l h.1, add_assoc, add_assoc)

pub last_set : (a : Axis) (before : List Motion) (n : ℕ) (since : List Motion) → Each Moves since
    → moved_all a (before ++ sets n ∷ since) ≡ record { set = n; forth = forth_of since; back = back_of since }
unfolding moved_all
last_set a [] n since h = rw (moves_add (record { set = n; forth = 0; back = 0 }) since h, zero-add, zero-add)
last_set a (m ∷ before) n since h = last_set (moved a m) before n since h

-- the reckoned places are the motions of what happened, one after the other
pub across_moved : (r : Reckoning) (l : List Occurrence) → (reckon_all r l).across ≡ moved_all r.across (motions across_motion r.force l)
unfolding reckon_all moved_all motions
across_moved r [] = refl
across_moved r (start settings ∷ l) = across_moved (reckon_next r (start settings)) l
across_moved r (event e ∷ l) = across_moved (reckon_next r (event e)) l

pub down_moved : (r : Reckoning) (l : List Occurrence) → (reckon_all r l).down ≡ moved_all r.down (motions down_motion r.force l)
unfolding reckon_all moved_all motions
down_moved r [] = refl
down_moved r (start settings ∷ l) = down_moved (reckon_next r (start settings)) l
down_moved r (event e ∷ l) = down_moved (reckon_next r (event e)) l
