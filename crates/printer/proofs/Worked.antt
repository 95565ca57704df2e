-- Worked cases, computed.
use Prim.Native.Nat.{ℕ, ◌*◌}
use mathlib.Core.Path.{◌≡◌, refl, ap, ◌∙◌}
use mathlib.Core.List.{List, [], ◌∷◌, map, append_assoc}
use native.Mathlib.Omega.{arith}
use lib.ListN.{length, take, drop, take-append-drop}
use lib.Seq.{paste, take_all, drop-drop, set-get_or}
use Rattle.printer.specs.Tools.{lookup, coded}
use Rattle.printer.specs.Escapes.{modes, looks, parameters, choices}
use Rattle.printer.specs.Codes.{firsts, seconds, image_modes, plain_escapes, argument_escapes, other_escapes}
use Rattle.printer.specs.Framing.{is_letter, read_as, controls, escapes, selections, frame}
use Rattle.printer.specs.Settings.{left_of, right_of, page_of, skip_of, line_of, paper_width_of, across_of, down_of, channel_count}
use Rattle.printer.specs.Records.{style_of, encoded}
use Rattle.printer.specs.Performing.{perform_all, records_all}
use Rattle.printer.specs.Deciding.{attempt, ranged, letter_events, feed_after_return, column_from, line_from, vertical}
use Rattle.printer.specs.Steps.{step_events, step_of, step_records, state_after}
use Rattle.printer.specs.Bounds.{ascending, last_of, channels_below, accepted}
use Rattle.printer.specs.Calls.{start_of, run_of, call_of}
use Rattle.printer.specs.Worked.{Part, Change, InputRow, across, down, left, right, page, skip, line, paper_width, spacing, country, outline, chosen, sets, columns, channel, gathered, waits, held, layouts, lines_of_calls, with_change, changed, state_left, InputsWorked, StatesWorked}
use Rattle.printer.specs.WorkedInputs.{worked_inputs}
use Rattle.printer.specs.WorkedStates.{worked_states}
use Rattle.printer.specs.Types.{Printer, TabStops}

-- The parts named of a state, each by itself: two whole states with their stops take gigabytes to be compared.

abbrev part_of : Printer → Part → ℕ
part_of p across = across_of p.place
part_of p down = down_of p.place
part_of p left = left_of p.settings
part_of p right = right_of p.settings
part_of p page = page_of p.settings
part_of p skip = skip_of p.settings
part_of p line = line_of p.settings
part_of p paper_width = paper_width_of p.settings
part_of p spacing = p.settings.width.spacing
part_of p country = p.settings.face.country
part_of p outline = p.settings.face.outline
part_of p chosen = p.stops.channels.chosen

-- a change by what the state has there, and by what is named
abbrev found : Printer → Change → Change
found p (sets part n) = sets part (part_of p part)
found p (columns n l) = let t = p.stops.columns in columns t.count t.stops
found p (channel m n l) = let c = p.stops.channels in channel m (channel_count c m) (take (length l) (drop (16 * m) c.stops))
found p (gathered n l) = let t = p.stops.gathered in gathered t.count t.stops
found p (waits w) = waits p.waiting

abbrev named : Change → Change
named (sets part n) = sets part n
named (columns n l) = columns n (held n l).stops
named (channel m n l) = channel m n l
named (gathered n l) = gathered n (held n l).stops
named (waits w) = waits w

same_part : (p : Printer) (part : Part) → with_change p (sets part (part_of p part)) ≡ p
same_part p across = refl
same_part p down = refl
same_part p left = refl
same_part p right = refl
same_part p page = refl
same_part p skip = refl
same_part p line = refl
same_part p paper_width = refl
same_part p spacing = refl
same_part p country = refl
same_part p outline = refl
same_part p chosen = refl

same-list : (t : TabStops) (n : ℕ) (l : List ℕ) → t.count ≡ n → t.stops ≡ (held n l).stops → held n l ≡ t
same-list t n l e h = rw (← e, ← h)

-- a part of a list pasted where it stands
pasted_there : (s l : List ℕ) (a : ℕ) → take (length l) (drop a s) ≡ l → paste s a l (length l) ≡ s
pasted_there s l a e =
    let h : take (length l) l ≡ take (length l) (drop a s) = take_all (length l) l (omega arith) ∙ (cc) in
    rw (append_assoc, h, ← drop-drop (length l) a s, take-append-drop (length l) (drop a s)) (take-append-drop a s)

-- what is so already changes nothing
kept : (p : Printer) (c : Change) → found p c ≡ named c → with_change p c ≡ p
kept p (sets part n) e = let h : n ≡ part_of p part = cc in rw h (same_part p part)
kept p (columns n l) e = rw (same-list p.stops.columns n l (cc) (cc))
kept p (channel m n l) e =
    let c = p.stops.channels in
    let h : n ≡ channel_count c m = cc in
    rw (h, set-get_or c.counts m 0, pasted_there c.stops l (16 * m) (cc))
kept p (gathered n l) e = rw (same-list p.stops.gathered n l (cc) (cc))
kept p (waits w) e = let h : w ≡ p.waiting = cc in rw h

all_kept : (p : Printer) (l : List Change) → map (found p) l ≡ map named l → changed p l ≡ p
unfolding changed
all_kept p [] e = refl
all_kept p (c ∷ l) e = ap (λ (q : Printer). changed q l) (kept p c (cc)) ∙ all_kept p l (cc)

states_kept : (rows : List InputRow) → map (λ r. map (found (state_left r)) r.parts) rows ≡ map (λ r. map named r.parts) rows
    → map (λ r. changed (state_left r) r.parts) rows ≡ map state_left rows
states_kept [] e = refl
states_kept (r ∷ rows) e = rw (all_kept (state_left r) r.parts (cc), states_kept rows (cc))

pub inputs_worked : InputsWorked worked_inputs
unfolding lookup coded is_letter read_as image_modes selections firsts seconds plain_escapes argument_escapes other_escapes modes looks parameters choices controls escapes frame style_of encoded perform_all records_all attempt ranged letter_events feed_after_return column_from line_from vertical step_events step_of step_records state_after ascending last_of channels_below accepted start_of run_of call_of layouts lines_of_calls changed worked_inputs
inputs_worked = record { bytes = refl; lines = refl; states = states_kept worked_inputs refl }

pub states_worked : StatesWorked worked_states
unfolding ascending last_of channels_below accepted changed worked_states
states_worked = refl
