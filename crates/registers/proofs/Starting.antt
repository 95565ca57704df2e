-- The stores of power-on leave the state at power-on.
use Prim.Native.Nat.{ℕ, ◌-◌, ◌≤◌}
use mathlib.Core.Path.{◌≡◌, sym, ap, ◌∙◌}
use mathlib.Core.List.{List, ◌++◌, append-nil}
use native.Mathlib.Omega.{arith}
use lib.ListN.{length, take, drop, replicate}
use Rattle.printer.specs.Records.{style_of}
use Rattle.printer.specs.declared.settings.Setup.{Setup}
use Rattle.registers.specs.Register.{across_at, channel_stops_at}
use Rattle.registers.specs.Layout.{Derived, laid, words}
use Rattle.registers.specs.Stores.{stores, setup_cells, power_on_cells, column_cells, stale_in, restarted}
use Rattle.registers.specs.Keeping.{measured}
use Rattle.registers.proofs.Laws.{measured-laid}
use Rattle.registers.proofs.Laying.{firsts, listed}

-- the stores over the registers before the channels' places
abbrev started : Setup → (first last : List ℕ) → List ℕ
started t l r = stores column_cells (stores (power_on_cells t.width) (stores (setup_cells t) (take across_at l ++ (replicate (channel_stops_at - across_at) 0 ++ r))))

pub power_on_words : (t : Setup) (m : List ℕ) → across_at ≤ length m → measured (started t m (drop channel_stops_at m)) ≡ words (stale_in m) (restarted t (drop channel_stops_at m))
unfolding firsts laid style_of
power_on_words t m h =
    let none : Derived = record { style = 0; advance = 0; column = 0; dots = 0 } in
    let e : started t m (drop channel_stops_at m) ≡ laid (stale_in m) none (restarted t (drop channel_stops_at m)) =
    ap (λ (l : List ℕ). started t l (drop channel_stops_at m)) (listed across_at m h) ∙ ap (started t (firsts across_at 0 m)) (sym (append-nil (drop channel_stops_at m))) in
    ap measured e ∙ measured-laid (stale_in m) none (restarted t (drop channel_stops_at m)) (omega arith)
