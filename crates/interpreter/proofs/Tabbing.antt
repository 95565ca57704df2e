-- How the outcomes of HT and VT follow from what the searches find.
use Prim.Native.Nat.{ℕ}
use mathlib.Core.Path.{◌≡◌, refl, sym, ap, ◌∙◌}
use mathlib.Core.Bool.{Bool, true, false}
use mathlib.Core.List.{List, [], ◌∷◌}
use lib.Dec.{ltb, eqb}
use Rattle.std.specs.Prelude.{Option, Some, None}
use Rattle.printer.specs.Tools.{pick}
use Rattle.printer.specs.Records.{feed_record, passed_record}
use Rattle.printer.specs.Settings.{edge_of, down_of, held_in, channel_count, chosen_stops, with_wide_once}
use Rattle.printer.specs.Performing.{Event, done, inside, with_parts, perform}
use Rattle.printer.specs.Deciding.{pages_of_line, feed_after_return, column_from, line_from, form_inside, vertical_events, vertical, control_events}
use Rattle.printer.specs.declared.commands.Command.{Command}
use Rattle.printer.specs.declared.commands.Control.{Control}
use Rattle.printer.specs.declared.records.Record.{Record}
use Rattle.printer.specs.declared.state.Printer.{Printer}
use Rattle.printer.specs.declared.stops.Stop.{Stop}
use Rattle.registers.specs.declared.pending.Pending.{Pending}
use Rattle.registers.specs.Layout.{words}
use Rattle.registers.specs.Held.{Held}
use Rattle.interpreter.specs.Outcome.{Stepped, stepped, Outcome}
use Rattle.interpreter.proofs.Outcomes.{whole, passed_over}
use Rattle.interpreter.specs.Doing.{Did}
use Rattle.interpreter.specs.Leaving.{moved_to, on_line_at}
use Rattle.interpreter.proofs.Events.{silently-did}
use Rattle.interpreter.proofs.Searches.{column_search, line_search, taken, counted}

-- HT
module _ (p : Printer) where
  abbrev sought : Option Stop
  sought = column_from p.settings p.place 1 (held_in p.stops.columns)

  module _ (b : ℕ) {r : Stepped} where
    pub tab-done : (s : Stop) → sought ≡ Some s → r ≡ stepped (moved_to p s.place.0) []
        → Outcome p (control_events p Control.HorizontalTab b) r
    tab-done s e o =
        let f = taken _ _ 1 _ s (sym (column_search p.settings p.place 1 _) ∙ e) in
        rw e (whole p (done (Command.Control Control.HorizontalTab b) s.number) [] (o ∙ rw (counted f, f.position)) refl)

    pub tab-passed : sought ≡ None → r ≡ stepped p (passed_record b 5 ∷ [])
        → Outcome p (control_events p Control.HorizontalTab b) r
    tab-passed e o = rw e (passed_over p (Command.Control Control.HorizontalTab b) 5 o)

-- VT
module _ (p : Printer) (b : ℕ) where
  abbrev vt : Command
  vt = Command.Control Control.VerticalTab b

  abbrev edge : ℕ
  edge = edge_of p.settings

  abbrev found : Option Stop
  found = line_from (down_of p.place) 1 (held_in (chosen_stops p.stops))

  -- SO ends, and another command is performed

  abbrev ended : Printer
  ended = perform p (done vt 0)

  pub once-ended : {v : Pending} {m after : List ℕ} → Held p v m
      → after ≡ words v (with_parts p (with_wide_once p.settings false) p.place p.stops) → Held ended v after
  once-ended h e = record { same = e; small = h.small; long = h.long }

  abbrev returned : List Event
  returned = inside Control.CarriageReturn 0 ∷ feed_after_return (perform ended (inside Control.CarriageReturn 0))

  abbrev fed : List Event
  fed = inside Control.LineFeed (pages_of_line ended) ∷ []

  abbrev count : ℕ
  count = channel_count p.stops.channels p.stops.channels.chosen

  chosen : {t u : Bool} → eqb count 0 ≡ t → eqb (chosen_stops p.stops).count 0 ≡ u
      → vertical p vt ≡ pick t (done vt 0 ∷ fed) (pick u (done vt 0 ∷ returned) (vertical_events p vt found))
  unfolding vertical
  chosen {t} e f =
      ap (λ (x : Bool). pick x (done vt 0 ∷ fed) (pick (eqb (chosen_stops p.stops).count 0) (done vt 0 ∷ returned) (vertical_events p vt found))) e
      ∙ ap (λ (x : Bool). pick t (done vt 0 ∷ fed) (pick x (done vt 0 ∷ returned) (vertical_events p vt found))) f

  module _ {r : Stepped} where
    pub stop-done : (s : Stop) → found ≡ Some s → ltb s.place.0 edge ≡ true
        → r ≡ stepped (on_line_at p s.place.0) (feed_record p.settings.setup.resolution s.place.0 0 ∷ [])
        → Outcome p (vertical_events p vt found) r
    stop-done s e t o =
        let f = taken _ _ 1 _ s (sym (line_search (down_of p.place) 1 _) ∙ e) in
        rw (e, t)
        (whole p (done vt s.number) (feed_record p.settings.setup.resolution s.place.0 0 ∷ [])
        (o ∙ rw (counted f, f.position)) (rw (counted f, f.position)))

  -- and what is done then
  module _ {v : Pending} {after : List ℕ} {l : List Record} where
    pub stop-below : (s : Stop) → found ≡ Some s → ltb s.place.0 edge ≡ false
        → Did p v (form_inside vt) after l → Did p v (vertical_events p vt found) after l
    stop-below s e t d = rw (e, t) d

    pub stop-missing : found ≡ None → Did p v (form_inside vt) after l
        → Did p v (vertical_events p vt found) after l
    stop-missing e d = rw e d

    pub as-form : Did ended v (inside Control.FormFeed 0 ∷ []) after l → Did p v (form_inside vt) after l
    as-form d = silently-did (done vt 0) _ refl d

    module _ (e : eqb count 0 ≡ false) where
      pub as-return : eqb (chosen_stops p.stops).count 0 ≡ true → Did ended v returned after l
          → Did p v (vertical p vt) after l
      as-return f d = rw (chosen e f) (silently-did (done vt 0) _ refl d)

      pub among-stops : eqb (chosen_stops p.stops).count 0 ≡ false → Did p v (vertical_events p vt found) after l
          → Did p v (vertical p vt) after l
      among-stops f d = rw (chosen e f) d

    pub as_line : eqb count 0 ≡ true → Did ended v fed after l → Did p v (vertical p vt) after l
    as_line e d = rw (chosen e refl) (silently-did (done vt 0) _ refl d)
