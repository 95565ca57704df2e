-- ESC /, ESC b and their lists, where nothing is waited for.
use Prim.Native.Nat.{ℕ, ◌≤◌, ◌<◌}
use mathlib.Core.Path.{◌≡◌, refl, sym, ap, ◌∙◌}
use lib.Dec.{leb}
use mathlib.Core.Bool.{Bool, true, false}
use mathlib.Core.List.{List, [], ◌∷◌, ◌++◌}
use borrow.Author.Tests.{le-leb, lt-leb}
use Rattle.printer.specs.Tools.{pick, holds, lookup, coded}
use Rattle.printer.specs.Escapes.{modes, looks, parameters, choices}
use Rattle.printer.specs.Codes.{seconds, plain_escapes, argument_escapes, other_escapes}
use Rattle.printer.specs.Framing.{escapes, frame}
use Rattle.printer.specs.Records.{passed_record}
use Rattle.printer.specs.PowerOn.{no_stops}
use Rattle.printer.specs.Performing.{stop_of, one_more, gathering, with_parts, perform_all, records_all}
use Rattle.printer.specs.Deciding.{stop_needs, attempt}
use Rattle.printer.specs.Steps.{wait_for, step_events, step_of, step_records, state_after, records_over}
use Rattle.printer.specs.Spelling.{StandsFor}
use Rattle.printer.specs.Advanced.{OnlyWrites}
use Rattle.printer.specs.Vertical.{ToItsEnd, with_chosen, with_lines, SameRules}
use Rattle.printer.specs.Types.{Begun, Listing, Printer, TabStops, Target, Waiting}
use Rattle.printer.proofs.Advanced.{escape-read, after-escape}

-- a list that is dropped

dropped-from : (p : Printer) (before : ℕ) (l : List ℕ) → ToItsEnd before l
    → (state_after (wait_for p (Waiting.StopList Listing.Dropped before)) l ≡ wait_for p Waiting.Nothing)
    × (records_over (wait_for p (Waiting.StopList Listing.Dropped before)) l ≡ [])
unfolding state_after records_over step_of step_records step_events perform_all records_all frame attempt
dropped-from p before [] h = absurd h
dropped-from p before (b ∷ []) h = let e = le-leb b before h in (rw e, rw e)
dropped-from p before (b ∷ c ∷ l) h =
    let e = lt-leb b before h.0 in
    let v = dropped-from p b (c ∷ l) h.1 in
    (rw e v.0, rw e v.1)

opens_dropped : (p : Printer) (m : ℕ) → 7 < m
    → (step_of (wait_for p (Waiting.Arguments Begun.ListChannel)) m ≡ wait_for p (Waiting.StopList Listing.Dropped 0))
    × (step_records (wait_for p (Waiting.Arguments Begun.ListChannel)) m ≡ passed_record 0x62 2 ∷ [])
unfolding step_of step_records step_events perform_all records_all frame attempt
opens_dropped p m h = let e = lt-leb m 7 h in (rw e, rw e)

-- a list of vertical stops: what it gathers and what it writes are the same for every channel

-- a list byte's stop is taken
abbrev taken : Printer → TabStops → ℕ → Bool
taken p g b = holds (stop_needs p.settings (gathering p.stops g) (Target.Channel 0) b)

abbrev more : Printer → TabStops → ℕ → TabStops
more p g b = pick (taken p g b) (one_more g (stop_of p.settings (Target.Channel 0) b)) g

gathered : Printer → TabStops → List ℕ → TabStops
gathered p g [] = g
gathered p g (b ∷ []) = g
gathered p g (b ∷ c ∷ l) = gathered p (more p g b) (c ∷ l)

-- this list is being gathered
abbrev gathering_lines : Printer → TabStops → (m before : ℕ) → Printer
gathering_lines p g m before =
    wait_for (with_parts p p.settings p.place (gathering p.stops g)) (Waiting.StopList (Listing.Sets (Target.Channel m)) before)

module _ (p : Printer) (g : TabStops) (m before b : ℕ) where
  line-byte : before < b
      → (step_of (gathering_lines p g m before) b ≡ gathering_lines p (more p g b) m b)
      × (step_records (gathering_lines p g m before) b ≡ pick (taken p g b) [] (passed_record b 3 ∷ []))
  unfolding step_of step_records step_events perform_all records_all frame attempt
  line-byte h = let i = lt-leb b before h in go i (taken p g b) refl
    where
      go : leb b before ≡ false → (t : Bool) → taken p g b ≡ t
          → (step_of (gathering_lines p g m before) b ≡ gathering_lines p (pick t (one_more g (stop_of p.settings (Target.Channel 0) b)) g) m b)
          × (step_records (gathering_lines p g m before) b ≡ pick t [] (passed_record b 3 ∷ []))
      go i true e = (rw (i, e), rw (i, e))
      go i false e = (rw (i, e), rw (i, e))

  line-end : b ≤ before
      → (step_of (gathering_lines p g m before) b ≡ wait_for (with_lines p m g) Waiting.Nothing) × (step_records (gathering_lines p g m before) b ≡ [])
  unfolding step_of step_records step_events perform_all records_all frame attempt
  line-end h = let i = le-leb b before h in (rw i, rw i)

lines_set : (p : Printer) (g : TabStops) (m before : ℕ) (l : List ℕ) → ToItsEnd before l
    → state_after (gathering_lines p g m before) l ≡ wait_for (with_lines p m (gathered p g l)) Waiting.Nothing
unfolding state_after gathered
lines_set p g m before [] h = absurd h
lines_set p g m before (b ∷ []) h = (line-end p g m before b h).0
lines_set p g m before (b ∷ c ∷ l) h =
    ap (λ (q : Printer). state_after q (c ∷ l)) (line-byte p g m before b h.0).0 ∙ lines_set p (more p g b) m b (c ∷ l) h.1

lines_alike : (p : Printer) (g : TabStops) (m before : ℕ) (l : List ℕ) → ToItsEnd before l
    → records_over (gathering_lines p g m before) l ≡ records_over (gathering_lines p g 0 before) l
unfolding records_over
lines_alike p g m before [] h = absurd h
lines_alike p g m before (b ∷ []) h = rw ((line-end p g m before b h).1, (line-end p g 0 before b h).1)
lines_alike p g m before (b ∷ c ∷ l) h =
    let v = line-byte p g m before b h.0 in
    let u = line-byte p g 0 before b h.0 in
    rw (v.0, v.1, u.0, u.1, lines_alike p (more p g b) m b (c ∷ l) h.1)

-- ESC b with a channel opens it, as ESC B channel 0
opens_channel : (p : Printer) (m : ℕ) → m ≤ 7
    → (step_of (wait_for p (Waiting.Arguments Begun.ListChannel)) m ≡ gathering_lines p no_stops m 0)
    × (step_records (wait_for p (Waiting.Arguments Begun.ListChannel)) m ≡ [])
unfolding step_of step_records step_events perform_all records_all frame attempt
opens_channel p m h = let e = le-leb m 7 h in (rw e, rw e)

module _ (p : Printer) (b m : ℕ) (w : p.waiting ≡ Waiting.Nothing) (s : StandsFor p.settings.upperprints b 0x1B) where
  pub dropped-list : (l : List ℕ) → 7 < m → ToItsEnd 0 l → OnlyWrites p (b ∷ 0x62 ∷ m ∷ l) (passed_record 0x62 2 ∷ [])
  unfolding state_after records_over step_of step_records step_events perform_all records_all frame attempt lookup coded escapes seconds plain_escapes argument_escapes other_escapes modes looks parameters choices
  dropped-list l h k =
      let o = opens_dropped p m h in
      let v = dropped-from p 0 l k in
      after-escape p b w s _ _ (ap (λ (q : Printer). state_after q l) o.0 ∙ v.0)
      (ap (λ (q : Printer). step_records (wait_for p (Waiting.Arguments Begun.ListChannel)) m ++ records_over q l) o.0 ∙ rw (o.1, v.1))

  pub other-channel : 7 < m → OnlyWrites p (b ∷ 0x2F ∷ m ∷ []) (passed_record 0x2F 2 ∷ [])
  unfolding state_after records_over step_of step_records step_events perform_all records_all frame attempt lookup coded escapes seconds plain_escapes argument_escapes other_escapes modes looks parameters choices
  other-channel h = let e = lt-leb m 7 h in after-escape p b w s _ _ (rw e) (rw e)

  pub this-channel : m ≤ 7 → (state_after p (b ∷ 0x2F ∷ m ∷ []) ≡ with_chosen p m) × (records_over p (b ∷ 0x2F ∷ m ∷ []) ≡ [])
  unfolding state_after records_over step_of step_records step_events perform_all records_all frame attempt lookup coded escapes seconds plain_escapes argument_escapes other_escapes modes looks parameters choices
  this-channel h =
      let e = le-leb m 7 h in
      let q = escape-read p b w s (0x2F ∷ m ∷ []) in
      (q.0 ∙ rw e (ap (wait_for (with_chosen p m)) (sym w)), q.1 ∙ rw e)

  pub same-rules : (l : List ℕ) → m ≤ 7 → ToItsEnd 0 l → SameRules p b m l
  unfolding state_after records_over step_of step_records step_events perform_all records_all frame attempt lookup coded escapes seconds plain_escapes argument_escapes other_escapes modes looks parameters choices
  same-rules l h k =
      let q = escape-read p b w s (0x62 ∷ m ∷ l) in
      let r = escape-read p b w s (0x42 ∷ l) in
      let o = opens_channel p m h in
      record {
        stops = gathered p no_stops l;
        numbered = q.0 ∙ ap (λ (x : Printer). state_after x l) o.0 ∙ lines_set p no_stops m 0 l k ∙ ap (wait_for (with_lines p m (gathered p no_stops l))) (sym w);
        plain = r.0 ∙ lines_set p no_stops 0 0 l k ∙ ap (wait_for (with_lines p 0 (gathered p no_stops l))) (sym w);
        records = q.1 ∙ ap (λ (x : Printer). step_records (wait_for p (Waiting.Arguments Begun.ListChannel)) m ++ records_over x l) o.0
            ∙ rw o.1 (lines_alike p no_stops m 0 l k ∙ sym r.1);
      }
