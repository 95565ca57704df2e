-- What a good letter has, by name.
use Prim.Native.Nat.{ℕ, suc, ◌+◌, ◌%◌, ◌≤◌, ◌<◌}
use mathlib.Core.Path.{◌≡◌}
use mathlib.Core.List.{List}
use native.Mathlib.Omega.{arith}
use Rattle.writer.specs.Card.{letter_at, down_before}
use Rattle.writer.specs.Refusals.{AllGood}
use Rattle.writer.specs.declared.Letter.{Letter}

pub record Good (before : ℕ) (x : Letter) : Type 0 where
  pub least : 0x20 ≤ x.byte
  pub most : x.byte ≤ 0x7E
  pub across_step : x.across % 20 ≡ 0
  pub across_most : x.across + 360 ≤ 28800
  pub down_step : x.down % 20 ≡ 0
  pub down_most : x.down ≤ 39580
  pub further : before ≤ x.down

pub good_at : (l : List ℕ) (n i : ℕ) → AllGood l n → i < n → Good (down_before l i) (letter_at l i)
good_at l n i g h =
    let p = (g i h).0 in
    let q = (g i h).1 in
    record {
      least = p.0;
      most = p.1.0;
      across_step = omega (arith, q.0);
      across_most = q.1.0;
      down_step = omega (arith, q.1.1.0);
      down_most = q.1.1.1.0;
      further = q.1.1.1.1.0;
    }

-- of one more letter: that letter, and those before
module _ (l : List ℕ) (n : ℕ) (g : AllGood l (suc n)) where
  pub last-good : Good (down_before l n) (letter_at l n)
  last-good = good_at l (suc n) n g (omega arith)

  pub before-good : AllGood l n
  before-good i h = g i (omega (arith, h))
