-- Lists of stops: one more at the end keeps the bounds.
use Prim.Native.Nat.{ℕ, ◌+◌, ◌≤◌, ◌<◌}
use mathlib.Core.Path.{◌≡◌, refl}
use mathlib.Core.List.{List, [], ◌∷◌, ◌++◌}
use native.Mathlib.Numerals.{add-one}
use native.Mathlib.Omega.{arith}
use lib.ListN.{length, take}
use lib.ListN as ListN
use lib.Seq.{take-suc-set}
use Rattle.printer.specs.Tools.{Holds}
use Rattle.printer.specs.Settings.{held_in}
use Rattle.printer.specs.Performing.{one_more}
use Rattle.printer.specs.Bounds.{ascending, last_of, list_bounds}
use Rattle.printer.specs.Types.{TabStops}

ascending_snoc : (limit n : ℕ) (l : List ℕ) (m : ℕ) → Holds (ascending limit n l) → last_of n l < m → m ≤ limit
    → Holds (ascending limit n (l ++ (m ∷ [])))
unfolding ascending last_of
ascending_snoc limit n [] m h k u = (k, (u, tt))
ascending_snoc limit n (x ∷ l) m h k u = (h.0, (h.1.0, ascending_snoc limit x l m h.1.1 k u))

last_snoc : (n : ℕ) (l : List ℕ) (m : ℕ) → last_of n (l ++ (m ∷ [])) ≡ m
unfolding last_of
last_snoc n [] m = refl
last_snoc n (x ∷ l) m = last_snoc x l m

-- the stops held after one more is set at the end
pub one_more_lem : (count : ℕ) (l : List ℕ) (m : ℕ) → count < length l → take (count + 1) (ListN.set l count m) ≡ take count l ++ (m ∷ [])
one_more_lem count l m h = rw add-one (take-suc-set l count m h)

pub list-more : (most limit : ℕ) (l : TabStops) (m : ℕ) → l.count < length l.stops → l.count < most
    → last_of 0 (held_in l) < m → m ≤ limit → Holds (list_bounds most limit l) → Holds (list_bounds most limit (one_more l m))
list-more most limit l m e h k u f =
    rw (one_more_lem l.count l.stops m e) (omega arith, ascending_snoc limit 0 (held_in l) m f.1 k u)

pub last_more : (l : TabStops) (m : ℕ) → l.count < length l.stops → last_of 0 (held_in (one_more l m)) ≡ m
last_more l m e = rw (one_more_lem l.count l.stops m e) (last_snoc 0 (held_in l) m)
