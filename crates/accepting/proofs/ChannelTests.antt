-- The channels where they stand, and the test of their bounds.
use Prim.Native.Nat.{ℕ, ◌+◌, ◌*◌, ◌-◌, ◌≤◌, ◌<◌}
use mathlib.Core.Path.{◌≡◌, refl, sym}
use mathlib.Core.Bool.{Bool, true, false}
use mathlib.Core.List.{List, [], ◌∷◌, ◌++◌}
use native.Mathlib.Omega.{arith}
use native.Mathlib.Numerals.{add-one}
use lib.Dec.{leb}
use lib.ListN.{length, take, drop, get_or, length-drop}
use lib.Seq.{drop-drop, take_all}
use Rattle.printer.specs.Tools.{both, Order, holds}
use Rattle.printer.specs.Settings.{channel_count, channel_stops}
use Rattle.printer.specs.Bounds.{ascending, target_bounds, channels_below}
use Rattle.printer.specs.declared.stops.Channels.{Channels}
use Rattle.printer.specs.declared.commands.Target.{Target}
use Rattle.registers.specs.Register.{channel_counts_at, channel_stops_at, register_count}
use Rattle.registers.specs.Groups.{channels_in}
use Rattle.registers.proofs.Copying.{part_at}

module _ (m : List ℕ) (long : length m ≡ register_count) (k : ℕ) (h : k < 8) where
  pub count_at : channel_count (channels_in m) k ≡ get_or m (channel_counts_at + k) 0
  count_at = part_at channel_counts_at 8 k m h

  pub places-at : take 16 (drop (16 * k) (take 128 (drop channel_stops_at m))) ≡ take 16 (drop (channel_stops_at + 16 * k) m)
  places-at =
      let e : take 128 (drop channel_stops_at m) ≡ drop channel_stops_at m = take_all 128 (drop channel_stops_at m) (simp length-drop (omega arith)) in
      rw (e, drop-drop (16 * k) channel_stops_at m)

  -- a channel without stops
  pub channel-few : get_or m (channel_counts_at + k) 0 ≤ 1 → true ≡ holds (target_bounds (Target.Channel k) (channel_stops (channels_in m) k))
  unfolding ascending
  channel-few l = let e : channel_count (channels_in m) k - 1 ≡ 0 = omega (arith, count_at) in rw e

holds-append : (a b : List Order) → holds (a ++ b) ≡ both (holds a) (holds b)
holds-append [] b = refl
holds-append (o ∷ a) b = go (leb o.low o.high) (holds-append a b)
  where
    go : (t : Bool) → holds (a ++ b) ≡ both (holds a) (holds b) → both t (holds (a ++ b)) ≡ both (both t (holds a)) (holds b)
    go true e = e
    go false e = refl

-- one channel more
pub channel_more : (c : Channels) (k : ℕ)
    → both (holds (target_bounds (Target.Channel k) (channel_stops c k))) (holds (channels_below c k)) ≡ holds (channels_below c (k + 1))
unfolding channels_below
channel_more c k = rw add-one (sym (holds-append (target_bounds (Target.Channel k) (channel_stops c k)) (channels_below c k)))
