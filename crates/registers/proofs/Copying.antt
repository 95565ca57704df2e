-- A part of the registers.
use Prim.Native.Nat.{ℕ, ◌+◌, ◌≤◌, ◌<◌}
use mathlib.Core.Path.{◌≡◌}
use mathlib.Core.List.{List}
use native.Mathlib.Omega.{arith}
use lib.ListN.{length, take, drop, get_or, length-take, length-drop}
use lib.Seq.{get_or-take, get_or-drop}

pub part_long : (from n : ℕ) (m : List ℕ) → from + n ≤ length m → length (take n (drop from m)) ≡ n
part_long from n m h = simp (length-take, length-drop) (omega arith)

pub part_at : (from n i : ℕ) (m : List ℕ) → i < n → get_or (take n (drop from m)) i 0 ≡ get_or m (from + i) 0
part_at from n i m h = rw (get_or-take, get_or-drop)
