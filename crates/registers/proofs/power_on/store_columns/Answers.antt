-- Nine stores in turn are nine numbers laid over their part.
use mathlib.Core.Path.{refl}
use Prim.Native.Nat.{◌+◌}
use native.Mathlib.Omega.{arith}
use Rattle.registers.specs.Register.{column_stops_at}
use Rattle.registers.proofs.Laying.{firsts, listed}
use Rattle.registers.proofs.power_on.store_columns.Goals as goal

pub returns : goal.returns
unfolding firsts
returns c = rw (c.copy_from_slice.ensures.after, listed (column_stops_at + 9) c.args.m.now (omega arith)) refl
