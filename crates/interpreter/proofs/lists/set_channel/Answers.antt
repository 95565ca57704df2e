-- The places and the count of one channel.
use Prim.Native.Nat.{ℕ, ◌+◌, ◌%◌}
use mathlib.Core.Path.{◌≡◌, subst}
use native.Mathlib.Omega.{arith}
use lib.ListN.{set}
use Rattle.printer.specs.Performing.{with_parts, stops_of, with_channel}
use Rattle.registers.specs.Register.{channel_counts_at}
use Rattle.registers.specs.Held.{Held}
use Rattle.interpreter.proofs.StopWords.{count_held, channel-copied}
use Rattle.interpreter.proofs.lists.set_channel.Goals as goal

pub returns : goal.returns
returns c p v h i j =
    let a = c.args in
    let e : a.c % 8 ≡ a.c = omega arith in
    let n = c.min-held.result + 1 in
    let k : n ≡ p.stops.gathered.count + 1 = omega (arith, c.min-held.ensures, count_held h) in
    subst (λ (x : ℕ). Held (with_parts p p.settings p.place (stops_of p.stops.columns (with_channel p.stops.channels x p.stops.gathered) p.stops.gathered)) v (set c.copy_within.new.self (channel_counts_at + a.c % 8) n))
    e (channel-copied h (a.c % 8) n (omega arith) k c.copy_within.ensures.after)
