-- What stores leave: registers as the list of each.
use Prim.Native.Nat.{ℕ, zero, suc, ◌+◌, ◌≤◌, ◌<◌}
use mathlib.Core.Path.{◌≡◌, refl, sym}
use mathlib.Core.List.{List, ◌∷◌}
use native.Mathlib.Omega.{arith}
use lib.ListN.{length, drop, get_or}
use lib.Seq.{drop-cons}

-- the first n registers from the i-th on, each by its place, and what is left
unfoldable pub firsts : ℕ → ℕ → List ℕ → List ℕ
firsts zero i m = drop i m
firsts (suc n) i m = get_or m i 0 ∷ firsts n (suc i) m

firsts-from : (n i : ℕ) (m : List ℕ) → i + n ≤ length m → firsts n i m ≡ drop i m
unfolding firsts
firsts-from zero i m h = refl
firsts-from (suc n) i m h =
    let k : i < length m = omega arith in
    rw (firsts-from n (suc i) m (omega arith)) (sym (drop-cons m i 0 k))

-- over these, stores at numerals compute
pub listed : (n : ℕ) (m : List ℕ) → n ≤ length m → m ≡ firsts n 0 m
listed n m h = sym (firsts-from n 0 m (omega arith))
