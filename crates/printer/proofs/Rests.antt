-- The rest that rounding leaves: with the dots it gives the length back.
use Prim.Native.Nat.{ℕ, ◌+◌, ◌*◌, ◌-◌, ◌≤◌, ◌<◌}
use mathlib.Core.Path.{◌≡◌, refl}
use mathlib.Core.Bool.{Bool, true, false}
use native.Mathlib.Nat.{eq_of_mul-eq-mul_right}
use native.Mathlib.Omega.{arith}
use lib.Dec.{ltb}
use borrow.Author.Tests.{ltb-true, ltb-false}
use Rattle.printer.specs.Tools.{pick}
use Rattle.printer.specs.Units.{per_inch_across, rounded, rest_word, forth, back}
use Rattle.printer.specs.Reckoning.{Printed, exact}
use Rattle.printer.specs.Demand3.{GivesBack}
use Rattle.printer.specs.Types.{Resolution}

-- units × D − 3,600 × dot, which is from −1,800 to 1,799
pub record Signed (d n forth back : ℕ) : Type 0 where
  pub together : n * d + back ≡ 3600 * rounded d n + forth
  pub most : forth ≤ 1799
  pub least : back ≤ 1800

pub signed : (d n : ℕ) → Signed d n (forth (rest_word d n)) (back (rest_word d n))
signed d n = go (ltb (rest_word d n) 32768) refl
  where
    go : (t : Bool) → ltb (rest_word d n) 32768 ≡ t → Signed d n (pick t (rest_word d n) 0) (pick t 0 (65536 - rest_word d n))
    go true e =
        let h : rest_word d n < 32768 = ltb-true _ _ e in
        record { together = omega arith; most = omega arith; least = omega arith }
    go false e =
        let h : 32768 ≤ rest_word d n = ltb-false _ _ e in
        record { together = omega arith; most = omega arith; least = omega arith }

pub dots_across_lem : (r : Resolution) → 0 < per_inch_across r
dots_across_lem Resolution.Dots300 = omega arith
dots_across_lem Resolution.Dots203 = omega arith

pub place-back : (e : Printed) → 0 < e.here.force.kept.d_across → GivesBack e
place-back e h =
    let d = e.here.force.kept.d_across in
    let m = exact e.here.across in
    let s = signed d m in
    record {
      place = s.together;
      only = λ n q. eq_of_mul-eq-mul_right d h n m (omega (arith, q, s.together));
    }
