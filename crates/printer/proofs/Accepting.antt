-- The bounds as a test and as facts are one, in both directions; the power-on states are within them.
use Prim.Native.Nat.{◌≤◌}
use mathlib.Core.Path.{◌≡◌, refl}
use mathlib.Core.Bool.{true}
use mathlib.Core.List.{List}
use native.Mathlib.Omega.{arith}
use lib.Dec.{eqb}
use Rattle.printer.specs.Tools.{both, either, Order, holds}
use Rattle.printer.specs.Units.{narrowest_paper, widest_paper}
use Rattle.printer.specs.PowerOn.{power_on}
use Rattle.printer.specs.Bounds.{settings_bounds, place_bounds, column_bounds, channel_bounds, waiting_bounds, ascending, channels_below, accepted}
use Rattle.printer.specs.Calls.{usable}
use Rattle.printer.specs.Accepted.{Accepted, Typed}
use Rattle.printer.specs.Types.{Setup, StartSettings, Printer}
use Rattle.printer.proofs.Choices.{both_left, both_right, both_true, within_fact, holds_fact, fact_holds}

pub fact_accepted : (p : Printer) → Accepted p → accepted p ≡ true
unfolding accepted
fact_accepted p h =
    both_true _ _ (fact_holds (settings_bounds p.settings) h.settings)
    (both_true _ _ (fact_holds (place_bounds p.settings p.place) h.place)
    (both_true _ _ (fact_holds (column_bounds p.stops) h.columns)
    (both_true _ _ (fact_holds (channel_bounds p.stops.channels) h.channels)
    (fact_holds (waiting_bounds p.settings p.stops p.waiting) h.waiting))))

pub accepted_fact : (p : Printer) → accepted p ≡ true → Accepted p
unfolding accepted
accepted_fact p e =
    let s : List Order = settings_bounds p.settings in
    let x : List Order = place_bounds p.settings p.place in
    let c : List Order = column_bounds p.stops in
    let l : List Order = channel_bounds p.stops.channels in
    let w : List Order = waiting_bounds p.settings p.stops p.waiting in
    let e₁ = both_right (holds s) (both (holds x) (both (holds c) (both (holds l) (holds w)))) e in
    let e₂ = both_right (holds x) (both (holds c) (both (holds l) (holds w))) e₁ in
    let e₃ = both_right (holds c) (both (holds l) (holds w)) e₂ in
    record {
      settings = holds_fact s (both_left (holds s) _ e);
      place = holds_fact x (both_left (holds x) _ e₁);
      columns = holds_fact c (both_left (holds c) _ e₂);
      channels = holds_fact l (both_left (holds l) _ e₃);
      waiting = holds_fact w (both_right (holds l) (holds w) e₃);
    }

-- a start takes paper of these widths
pub usable-width : (r : StartSettings) → usable r ≡ true → (narrowest_paper ≤ r.width) × (r.width ≤ widest_paper)
usable-width r u =
    omega (arith, within_fact _ _ r.width (both_right (either (eqb r.resolution 300) (eqb r.resolution 203)) _ u))

-- for every width of the paper
pub power_on_accepted : (t : Setup) → narrowest_paper ≤ t.width.0 → t.width.0 ≤ widest_paper → Accepted (power_on t)
unfolding ascending channels_below
power_on_accepted t h k =
    record { settings = omega arith; place = omega arith; columns = omega arith; channels = omega arith; waiting = tt }

pub power_on_typed : (t : Setup) → Typed (power_on t)
power_on_typed t =
    record {
      font = omega arith;
      stops = record { columns = refl; channels = refl; counts = refl; gathered = refl };
      waiting = tt;
    }
