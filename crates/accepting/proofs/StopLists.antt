-- Laws of tests, and of the stops that a loop has left.
use Prim.Native.Nat.{ℕ, suc, ◌+◌, ◌-◌, ◌≤◌, ◌<◌, min}
use mathlib.Core.Path.{◌≡◌, refl, sym, ◌∙◌}
use mathlib.Core.Bool.{Bool, true, false}
use mathlib.Core.List.{List, [], ◌∷◌}
use native.Mathlib.Numerals.{add-one}
use native.Mathlib.Omega.{arith}
use borrow.Author.Tests.{leb-true, le-leb, lt-leb}
use lib.Dec.{leb}
use lib.ListN.{length, take, drop, get_or, drop_of_length-le}
use lib.Seq.{drop-cons}
use Rattle.std.proofs.lemmas.List.{take_min}
use Rattle.printer.specs.Tools.{pick, both, holds}
use Rattle.printer.specs.Bounds.{ascending, list_bounds, last_of}

-- a test as an order is the test
pub passing : (t : Bool) → leb (pick t 0 1) 0 ≡ t
passing true = refl
passing false = refl

-- A loop over the stops that are held: the last one passed, and those left, are within the bounds just if all are

abbrev pub Left : (limit : ℕ) (held : List ℕ) (last i : ℕ) → Type 0
Left limit held last i = holds (ascending limit 0 held) ≡ both (leb last limit) (holds (ascending limit last (drop i held)))

pub too_many : (most limit : ℕ) (stops : List ℕ) (count : ℕ) → most < count
    → false ≡ holds (list_bounds most limit (record { stops = stops; count = count }))
too_many most limit stops count h = rw (lt-leb count most h)

pub few_enough : (most limit : ℕ) (stops : List ℕ) (count : ℕ) {end : ℕ} → count ≤ most → end ≡ min count (length stops)
    → holds (ascending limit 0 (take end stops)) ≡ holds (list_bounds most limit (record { stops = stops; count = count }))
few_enough most limit stops count h e = rw (e, take_min, le-leb count most h) refl

and_one : (t : Bool) → both t true ≡ t
and_one true = refl
and_one false = refl

refused : (t : Bool) → both t false ≡ false
refused true = refl
refused false = refl

-- a stop below one that is within the limit is within it
lower : (limit last stop : ℕ) (t rest : Bool) → last < stop → leb stop limit ≡ t → both (leb last limit) (both t rest) ≡ both t rest
lower limit last stop true rest h e = rw (le-leb last limit (omega (arith, leb-true stop limit e)))
lower limit last stop false rest h e = refused (leb last limit)

module _ (limit : ℕ) (held : List ℕ) where
  pub begins : Left limit held 0 0
  begins = rw (le-leb 0 limit (omega arith)) refl

  module _ (last i : ℕ) (v : Left limit held last i) where
    pub ends : length held ≤ i → leb last limit ≡ holds (ascending limit 0 held)
    unfolding ascending
    ends h = sym (v ∙ rw (drop_of_length-le held {i = i} h) (and_one (leb last limit)))

    module _ (h : i < length held) where
      one : drop i held ≡ get_or held i 0 ∷ drop (i + 1) held
      one = drop-cons held i 0 h ∙ rw add-one

      pub too-low : get_or held i 0 ≤ last → false ≡ holds (ascending limit 0 held)
      unfolding ascending
      too-low k = sym (v ∙ rw (one, lt-leb (suc last) (get_or held i 0) (omega arith)) (refused (leb last limit)))

      pub goes_on : last < get_or held i 0 → Left limit held (get_or held i 0) (i + 1)
      unfolding ascending
      goes_on k = v ∙ rw (one, le-leb (suc last) (get_or held i 0) k) (lower limit last (get_or held i 0) _ _ k refl)

-- The last stop that is held

last-at : (n m : ℕ) (l : List ℕ) → last_of n (m ∷ l) ≡ get_or (m ∷ l) (length l) 0
unfolding last_of
last-at n m [] = refl
last-at n m (k ∷ l) = last-at m k l

pub last_read : (l : List ℕ) → get_or l (length l - 1) 0 ≡ last_of 0 l
unfolding last_of
last_read [] = refl
last_read (m ∷ l) =
    let e : length (m ∷ l) - 1 ≡ length l = omega arith in
    rw e (sym (last-at 0 m l))
