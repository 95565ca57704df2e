-- Bytes written over the beginning of an output, and some after others.
use Prim.Native.Nat.{ℕ, ◌+◌, ◌-◌, ◌≤◌}
use mathlib.Core.Path.{◌≡◌, refl, sym}
use mathlib.Core.List.{List, [], ◌++◌, append_assoc, append-nil}
use native.Mathlib.Omega.{arith}
use borrow.Rule.Slice.PartMut.{mid_of, put_mid}
use lib.ListN.{length, take, drop, length-append, length-take, length-drop}
use lib.Seq.{drop-drop, take_at, drop_at}
use Rattle.std.proofs.lemmas.List.{take_all, drop_all}
use Rattle.writer.specs.Laid.{Laid}

pub none : (xs : List ℕ) → Laid xs [] 0 xs
none xs = record { count_is = refl; bytes = refl }

-- an output from a place on
abbrev pub from : ℕ → List ℕ → List ℕ
from at xs = mid_of at (length xs - at) xs

pub room_from : (at : ℕ) (xs : List ℕ) (n : ℕ) → at + n ≤ length xs → n ≤ length (from at xs)
room_from at xs n h = simp (length-take, length-drop) (omega arith)

from-is : (at : ℕ) (xs : List ℕ) → from at xs ≡ drop at xs
from-is at xs = take_all (length xs - at) (drop at xs) (simp length-drop (omega arith))

past-is : (at : ℕ) (xs : List ℕ) → drop (length xs - at) (drop at xs) ≡ []
past-is at xs = drop_all (length xs - at) (drop at xs) (simp length-drop (omega arith))

pub more : {xs ys zs l k : List ℕ} {n m : ℕ} → Laid xs l n ys → Laid (from n ys) k m zs → Laid xs (l ++ k) (n + m) (put_mid n (length ys - n) ys zs)
more {xs} {ys} {zs} {l} {k} {n} {m} w v =
    let front : take n ys ≡ l = rw w.bytes (take_at l (drop n xs) n (sym w.count_is)) in
    let rest : drop n ys ≡ drop n xs = rw w.bytes (drop_at l (drop n xs) n (sym w.count_is)) in
    let b : zs ≡ k ++ drop (n + m) xs = rw (from-is n ys, rest, drop-drop) at v.bytes in
    record {
      count_is = omega (arith, w.count_is, v.count_is, length-append l k);
      bytes = rw (front, past-is, append-nil, b) (sym (append_assoc l k _));
    }
