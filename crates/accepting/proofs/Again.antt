-- Registers held to those of the printer that they are read as: a group at a time.
use Prim.Native.Nat.{ℕ, suc, ◌+◌, ◌<◌}
use mathlib.Core.Path.{◌≡◌, sym, ap, ◌∙◌}
use mathlib.Core.Bool.{Bool, true, ◌&&◌, and_assoc, and-true}
use mathlib.Core.List.{List, [], append-nil}
use native.Mathlib.Omega.{arith}
use lib.ListN.{length, take, drop, take-append-drop, length-drop}
use lib.Seq.{drop-cons, drop-drop, take_all}
use Rattle.printer.specs.Bounds.{accepted}
use Rattle.registers.specs.Register.{column_count_at, gathered_count_at, channel_counts_at, channel_stops_at, register_count}
use Rattle.registers.specs.Layout.{list_words, channel_words, laid}
use Rattle.registers.specs.Groups.{list_in, channels_in, settings_in, stops_in}
use Rattle.accepting.specs.Same.{same_registers}
use Rattle.registers.specs.State.{pending_of, waiting_of, pending_in, registers_of, printer_in, same_list, accepted_in}
use Rattle.registers.proofs.Laying.{firsts, listed}
use Rattle.registers.proofs.State.{itself, same-itself}

module _ (m : List ℕ) (long : length m ≡ register_count) where
  -- a list of stops, and the registers after it
  list-again : (from : ℕ) → from < length m → list_words (list_in from m) (drop (from + 33) m) ≡ drop from m
  list-again from h =
      let e : suc from + 32 ≡ from + 33 = omega arith in
      let d : drop (from + 33) m ≡ drop 32 (drop (suc from) m) = rw (← e) (sym (drop-drop 32 (suc from) m)) in
      rw (d, take-append-drop 32 (drop (suc from) m)) (sym (drop-cons m from 0 h))

  channels-again : channel_words (channels_in m) [] ≡ drop channel_counts_at m
  channels-again =
      let d : drop channel_stops_at m ≡ drop 8 (drop channel_counts_at m) = sym (drop-drop 8 channel_counts_at m) in
      let k : take 128 (drop channel_stops_at m) ≡ drop channel_stops_at m = take_all 128 (drop channel_stops_at m) (simp length-drop (omega arith)) in
      rw (k, append-nil (drop channel_stops_at m), d) (take-append-drop 8 (drop channel_counts_at m))

  pub lists-again : list_words (list_in column_count_at m) (list_words (list_in gathered_count_at m) (channel_words (channels_in m) [])) ≡ drop column_count_at m
  lists-again = rw (channels-again, list-again gathered_count_at (omega arith)) (list-again column_count_at (omega arith))

  lists-same : same_list (drop column_count_at m) (list_words (list_in column_count_at m) (list_words (list_in gathered_count_at m) (channel_words (channels_in m) []))) ≡ true
  lists-same = rw lists-again (same-itself (drop column_count_at m))

  pub same-again : same_list m (registers_of (printer_in m)) ≡ same_registers m (pending_of (waiting_of (pending_in m)))
  unfolding same_list firsts printer_in laid settings_in stops_in same_registers
  same-again =
      ap (λ (l : List ℕ). same_list l (registers_of (printer_in m))) (listed column_count_at m (omega arith))
      ∙ simp (lists-same, itself, and_assoc, and-true)

  pub accepted-again : accepted_in m ≡ (same_registers m (pending_of (waiting_of (pending_in m))) && accepted (printer_in m))
  unfolding accepted_in
  accepted-again = ap (λ (t : Bool). t && accepted (printer_in m)) same-again
