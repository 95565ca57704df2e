-- The place and the margins that registers hold, and registers after stores to them.
use Prim.Native.Nat.{ℕ}
use mathlib.Core.Path.{◌≡◌, ap}
use mathlib.Core.Bool.{false}
use mathlib.Core.List.{List}
use lib.ListN.{set, get_or}
use Rattle.printer.specs.Records.{style_of}
use Rattle.printer.specs.Settings.{left_of, right_of, paper_width_of, line_of, across_of, down_of, at, with_wide_once}
use Rattle.printer.specs.Performing.{with_parts}
use Rattle.printer.specs.declared.state.Printer.{Printer}
use Rattle.registers.specs.declared.pending.Pending.{Pending}
use Rattle.registers.specs.Register.{across_at, down_at, left_at, right_at, line_at, paper_width_at}
use Rattle.registers.specs.Layout.{laid, words}
use Rattle.registers.specs.Held.{Held}
use Rattle.interpreter.specs.Leaving.{moved_to, margins_set, on_line_at}

module _ {p : Printer} {v : Pending} {m : List ℕ} (h : Held p v m) where
  pub across-held : get_or m across_at 0 ≡ across_of p.place
  unfolding laid
  across-held = rw h.same

  pub down-held : get_or m down_at 0 ≡ down_of p.place
  unfolding laid
  down-held = rw h.same

  pub left-held : get_or m left_at 0 ≡ left_of p.settings
  unfolding laid
  left-held = rw h.same

  pub right-held : get_or m right_at 0 ≡ right_of p.settings
  unfolding laid
  right-held = rw h.same

  pub paper-held : get_or m paper_width_at 0 ≡ paper_width_of p.settings
  unfolding laid
  paper-held = rw h.same

  pub line-held : get_or m line_at 0 ≡ line_of p.settings
  unfolding laid
  line-held = rw h.same

  pub across-stored : (n : ℕ) → set m across_at n ≡ words v (moved_to p n)
  unfolding laid style_of
  across-stored n = ap (λ (l : List ℕ). set l across_at n) h.same

  pub down-stored : (n : ℕ) → Held (with_parts p p.settings (at (across_of p.place) n) p.stops) v (set m down_at n)
  unfolding laid style_of
  down-stored n = record { same = ap (λ (l : List ℕ). set l down_at n) h.same; small = h.small; long = h.long }

  -- at the left margin
  pub returned : {after : List ℕ} → after ≡ words v (moved_to p (get_or m left_at 0)) → Held (moved_to p (left_of p.settings)) v after
  returned e = record { same = rw left-held at e; small = h.small; long = h.long }

  pub margins-stored : (left right : ℕ) → set (set (set m left_at left) right_at right) across_at left ≡ words v (margins_set p left right)
  unfolding laid style_of
  margins-stored left right = ap (λ (l : List ℕ). set (set (set l left_at left) right_at right) across_at left) h.same

  -- SO ended, and then the place at the left margin of another line
  pub line-stored : {after : List ℕ} (down : ℕ)
      → after ≡ words v (with_parts p (with_wide_once p.settings false) p.place p.stops)
      → Held (on_line_at p down) v (set (set after across_at (get_or after left_at 0)) down_at down)
  unfolding laid style_of
  line-stored down e =
      record { same = ap (λ (l : List ℕ). set (set l across_at (get_or l left_at 0)) down_at down) e; small = h.small; long = h.long }
