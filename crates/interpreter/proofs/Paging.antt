-- ESC C and ESC @ on registers.
use Prim.Native.Nat.{ℕ}
use mathlib.Core.Path.{◌≡◌, refl, ap, ◌∙◌}
use mathlib.Core.List.{List, [], ◌++◌}
use native.Mathlib.Omega.{arith}
use lib.ListN.{length, take, drop, replicate, drop_of_length-le}
use lib.Seq.{drop_at, length-take-le}
use Rattle.printer.specs.Codes.{shows}
use Rattle.printer.specs.Performing.{done, perform}
use Rattle.printer.specs.declared.commands.Command.{Command}
use Rattle.printer.specs.declared.commands.Page.{Page}
use Rattle.printer.specs.declared.settings.Setup.{Setup}
use Rattle.printer.specs.declared.state.Printer.{Printer}
use Rattle.registers.specs.declared.pending.Pending.{Pending}
use Rattle.registers.specs.Register.{channel_stops_at, register_count}
use Rattle.registers.specs.Layout.{laid, words}
use Rattle.registers.specs.Stores.{over, stale_in, restarted}
use Rattle.registers.specs.Held.{Held}
use Rattle.interpreter.proofs.StopWords.{places-held}

-- the byte of a NO, for lines and for inches
pub shows-page : (g : Page) → shows (Command.Page g) ≡ 0x43
shows-page (Page.Lines n) = refl
shows-page (Page.Inches n) = refl

-- the state at power-on, but for what is waited for
pub reset_held : {p : Printer} {v : Pending} {m after : List ℕ} {setup : Setup} → Held p v m → setup ≡ p.settings.setup
    → after ≡ words (stale_in m) (restarted setup (drop channel_stops_at m)) → Held (perform p (done Command.Reset 0)) v after
unfolding laid
reset_held {p} {v} {m} {after} {setup} h e stored =
    let stale : stale_in m ≡ v = rw h.same in
    record {
      same =
          stored ∙ ap (λ (x : Pending). words x (restarted setup (drop channel_stops_at m))) stale ∙ ap (λ (t : Setup). words v (restarted t (drop channel_stops_at m))) e
          ∙ ap (λ (l : List ℕ). words v (restarted p.settings.setup l)) (places-held h);
      small = (omega arith, (omega arith, (omega arith, omega arith)));
      long = record { columns = refl; channels = h.long.channels; counts = refl; gathered = refl };
    }

-- the places of the channels, cleared
pub cleared : (m : List ℕ) → length m ≡ register_count → drop channel_stops_at (over channel_stops_at (replicate 128 0) m) ≡ replicate 128 0
cleared m e =
    let z : drop register_count m ≡ [] = drop_of_length-le m {i = register_count} (omega arith) in
    rw (drop_at (take channel_stops_at m) (replicate 128 0 ++ drop register_count m) channel_stops_at (length-take-le channel_stops_at m (omega arith)), z)
