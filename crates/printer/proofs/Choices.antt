-- Cases of a choice, with the test's answer as an equation; and lists of orders, as test and as fact.
use Prim.Native.Nat.{ℕ, ◌≤◌}
use mathlib.Core.Path.{◌≡◌, refl}
use mathlib.Core.Bool.{Bool, true, false}
use mathlib.Core.List.{List, [], ◌∷◌, ◌++◌}
use lib.Dec.{leb}
use lib.ListN.{take}
use borrow.Author.Tests.{leb-true, le-leb}
use Rattle.printer.specs.Tools.{pick, both, either, within, Order, holds, Holds, Each, Bytes}

pub pick_elim : {A : Type 0} (P : A → Type 0) (t : Bool) {x y : A} → (t ≡ true → P x) → (t ≡ false → P y) → P (pick t x y)
pick_elim P true f g = f refl
pick_elim P false f g = g refl

pub both_left : (t u : Bool) → both t u ≡ true → t ≡ true
both_left true u e = refl
both_left false u e = e

pub both_right : (t u : Bool) → both t u ≡ true → u ≡ true
both_right true u e = e
both_right false true e = refl
both_right false false e = e

pub both_true : (t u : Bool) → t ≡ true → u ≡ true → both t u ≡ true
both_true true u e f = f
both_true false u e f = e

-- either of two tests
pub either_elim : (P : Type 0) (t u : Bool) → either t u ≡ true → (t ≡ true → P) → (u ≡ true → P) → P
either_elim P true u e f g = f refl
either_elim P false u e f g = g e

pub either_left : (t u : Bool) → either t u ≡ false → t ≡ false
either_left true u e = e
either_left false u e = refl

pub either-right : (t u : Bool) → either t u ≡ false → u ≡ false
either-right true true e = e
either-right true false e = refl
either-right false u e = e

pub within_fact : (low high n : ℕ) → within low high n ≡ true → (low ≤ n) × (n ≤ high)
within_fact low high n e =
    (leb-true _ _ (both_left (leb low n) (leb n high) e), leb-true _ _ (both_right (leb low n) (leb n high) e))

-- what the test of a list of orders finds, and what passes it
pub holds_fact : (l : List Order) → holds l ≡ true → Holds l
holds_fact [] e = tt
holds_fact (o ∷ l) e =
    (leb-true _ _ (both_left (leb o.low o.high) (holds l) e), holds_fact l (both_right (leb o.low o.high) (holds l) e))

pub fact_holds : (l : List Order) → Holds l → holds l ≡ true
fact_holds [] h = refl
fact_holds (o ∷ l) h = both_true (leb o.low o.high) (holds l) (le-leb _ _ h.0) (fact_holds l h.1)

-- lists

pub each_append : {A : Type 0} (P : A → Type 0) (a b : List A) → Each P a → Each P b → Each P (a ++ b)
each_append P [] b h k = k
each_append P (x ∷ a) b h k = (h.0, each_append P a b h.1 k)

pub each_first : {A : Type 0} (P : A → Type 0) (a b : List A) → Each P (a ++ b) → Each P a
each_first P [] b h = tt
each_first P (x ∷ a) b h = (h.0, each_first P a b h.1)

pub each_rest : {A : Type 0} (P : A → Type 0) (a b : List A) → Each P (a ++ b) → Each P b
each_rest P [] b h = h
each_rest P (x ∷ a) b h = each_rest P a b h.1

pub each_map : {A : Type 0} {P Q : A → Type 0} → ((a : A) → P a → Q a) → (l : List A) → Each P l → Each Q l
each_map f [] h = tt
each_map f (a ∷ l) h = (f a h.0, each_map f l h.1)

pub bytes_take : (n : ℕ) (l : List ℕ) → Bytes l → Bytes (take n l)
bytes_take ℕ.zero [] h = tt
bytes_take ℕ.zero (b ∷ l) h = tt
bytes_take (ℕ.suc n) [] h = tt
bytes_take (ℕ.suc n) (b ∷ l) h = (h.0, bytes_take n l h.1)

pub bytes_append : (a b : List ℕ) → Bytes a → Bytes b → Bytes (a ++ b)
bytes_append [] b h k = k
bytes_append (x ∷ a) b h k = (h.0, bytes_append a b h.1 k)

pub bytes_rest : (a b : List ℕ) → Bytes (a ++ b) → Bytes b
bytes_rest [] b h = h
bytes_rest (x ∷ a) b h = bytes_rest a b h.1
