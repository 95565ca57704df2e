-- The least of what fits: each is a limit.
use Rattle.std.proofs.Common.{ℕ, List, ◌*◌, ◌-◌, ◌/◌, ◌≤◌, get_or, arith}
use Rattle.std.proofs.Math.Nat.{zero-mul, le-div_iff_mul-le}
use Rattle.registers.specs.Register.{across_at, right_at}
use Rattle.interpreter.specs.Series.{Formed, OnPaper}
use Rattle.interpreter.specs.declared.series.Series.{Series}
use Rattle.interpreter.proofs.series.Series.most.Goals as goal

-- columns that fit end within the margin
module _ (m : List ℕ) (s : Series) (f : Formed m s) (p : OnPaper m) (whole : ℕ) (w : whole ≤ (get_or m right_at 0 - get_or m across_at 0) / s.step.0) where
  whole_within : whole * s.step.0 ≤ get_or m right_at 0 - get_or m across_at 0
  whole_within = (le-div_iff_mul-le f.moves).0 w

pub returns-then-whole-eq0 : goal.returns-then-whole-eq0
returns-then-whole-eq0 c =
    record {
      line = record { whole = 0; enough = omega arith; in-margin = rw zero-mul (omega (arith, c.requires.paper.place)) };
      some_columns = omega arith;
      some-input = omega arith;
      some-room = omega (arith, c.requires.some_room);
    }

pub returns : goal.returns
returns c =
    let r = c.requires in
    let w = whole_within c.args.m.now c.args.self r.formed r.paper c.min-whole.result (omega (arith, c.min-whole.ensures)) in
    record {
      line =
          record {
            whole = c.min-whole.result;
            enough = omega (arith, c.min.ensures, c.min-2.ensures, c.requires.formed.begins);
            in-margin = omega (arith, w, c.requires.paper.place);
          };
      some_columns = omega (arith, c.min-whole.ensures);
      some-input = omega (arith, c.min-2.ensures);
      some-room = omega (arith, c.min.ensures, c.min-2.ensures, c.requires.some_room);
    }
