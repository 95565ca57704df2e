-- What registers that hold a printer are read as.
use Prim.Native.Nat.{ℕ}
use mathlib.Core.Path.{◌≡◌, ap, ◌∙◌}
use mathlib.Core.List.{List}
use lib.ListN.{get_or}
use Rattle.printer.specs.Settings.{advance_of, column_of}
use Rattle.printer.specs.Records.{style_of}
use Rattle.printer.specs.declared.state.Printer.{Printer}
use Rattle.registers.specs.declared.pending.Pending.{Pending}
use Rattle.registers.specs.Register.{auto_feed_at, draft_at, upper_prints_at, style_at, advance_at, column_width_at, advance_dots_at, chosen_at}
use Rattle.registers.specs.Layout.{advance_dots, laid}
use Rattle.registers.specs.Groups.{is_set, place_in, setup_in, margins_in, paper_in, settings_in}
use Rattle.registers.specs.Held.{Held}
use Rattle.registers.proofs.Laws.{set_flag, resolution_back, settings-back}

module _ {p : Printer} {v : Pending} {m : List ℕ} (h : Held p v m) where
  pub place-held : place_in m ≡ p.place
  unfolding laid
  place-held = rw h.same

  pub margins-held : margins_in m ≡ p.settings.margins
  unfolding laid
  margins-held = rw h.same

  pub paper-held : paper_in m ≡ p.settings.paper
  unfolding laid
  paper-held = rw h.same

  pub setup-held : setup_in m ≡ p.settings.setup
  unfolding laid
  setup-held = rw h.same (simp (set_flag, resolution_back))

  pub settings-held : settings_in m ≡ p.settings
  settings-held = ap settings_in h.same ∙ settings-back v _ p h.small

  pub style-held : get_or m style_at 0 ≡ style_of p.settings
  unfolding laid
  style-held = rw h.same

  pub advance-held : get_or m advance_at 0 ≡ advance_of p.settings
  unfolding laid
  advance-held = rw h.same

  pub column-held : get_or m column_width_at 0 ≡ column_of p.settings
  unfolding laid
  column-held = rw h.same

  pub advance-dots-held : get_or m advance_dots_at 0 ≡ advance_dots p.settings
  unfolding laid
  advance-dots-held = rw h.same

  pub autofeed-held : is_set (get_or m auto_feed_at 0) ≡ p.settings.setup.autofeed
  unfolding laid
  autofeed-held = rw h.same (set_flag _)

  pub draft-held : is_set (get_or m draft_at 0) ≡ p.settings.draft
  unfolding laid
  draft-held = rw h.same (set_flag _)

  pub upper-held : is_set (get_or m upper_prints_at 0) ≡ p.settings.upperprints
  unfolding laid
  upper-held = rw h.same (set_flag _)

  pub chosen-held : get_or m chosen_at 0 ≡ p.stops.channels.chosen
  unfolding laid
  chosen-held = rw h.same
