-- Feeds of 255 steps one after the other, and the rest.
use Prim.Native.Nat.{ℕ, zero, suc, ◌+◌, ◌-◌, ◌*◌, ◌/◌, ◌%◌, ◌≤◌}
use mathlib.Core.Path.{◌≡◌, refl}
use mathlib.Core.List.{List, ◌++◌}
use native.Mathlib.Numerals.{add-one}
use native.Mathlib.Omega.{arith}
use borrow.Rule.Slice.PartMut.{put_mid}
use lib.ListN.{length, length-append}
use lib.Dec.{eqb}
use Rattle.printer.proofs.Choices.{pick_elim}
use Rattle.writer.specs.Card.{feed, whole_feeds, feeds}
use Rattle.writer.specs.Laid.{Laid}
use Rattle.writer.proofs.Laying.{none, from, more}

pub whole_length : (n : ℕ) → length (whole_feeds n) ≡ 3 * n
unfolding whole_feeds
whole_length zero = refl
whole_length (suc n) = simp length-append (omega (arith, whole_length n))

-- the loop over them
pub begins : (xs : List ℕ) → Laid xs (whole_feeds 0) 0 xs
unfolding whole_feeds
begins xs = none xs

pub goes_on : {xs ys zs : List ℕ} (i : ℕ) {at end : ℕ} → Laid xs (whole_feeds i) at ys → Laid (from at ys) (feed 255) end zs
    → Laid xs (whole_feeds (i + 1)) (at + end) (put_mid at (length ys - at) ys zs)
unfolding whole_feeds
goes_on i v w = rw (add-one i) (more v w)

-- so many bytes at most
pub feeds-length : (steps : ℕ) → steps ≤ 1979 → length (feeds steps) ≤ 24
feeds-length steps h =
    pick_elim (λ (r : List ℕ). length (whole_feeds (steps / 255) ++ r) ≤ 24) (eqb (steps % 255) 0)
    (λ _. simp length-append (omega (arith, whole_length (steps / 255))))
    (λ _. simp length-append (omega (arith, whole_length (steps / 255))))
