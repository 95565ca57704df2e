-- The theorems about the rules, each stated once.
use Prim.Native.Nat.{ℕ, ◌+◌, ◌*◌, ◌≤◌, ◌<◌}
use mathlib.Core.Path.{◌≡◌, ◌∙◌, ap, sym}
use mathlib.Core.Bool.{Bool, true, false}
use mathlib.Core.Logic.{◌↔◌}
use mathlib.Core.List.{List, [], ◌∷◌, ◌++◌}
use native.Mathlib.Omega.{arith}
use lib.ListN.{length}
use Rattle.printer.specs.Tools.{Each, Bytes}
use Rattle.printer.specs.Units.{rounded, rest_word, forth, back}
use Rattle.printer.specs.Widths.{image_bytes}
use Rattle.printer.specs.PowerOn.{power_on, stop_room}
use Rattle.printer.specs.Records.{record_size, room_for_byte, passed_record, encoded, encoded_all}
use Rattle.printer.specs.Decoding.{decoded, decoded_all, FitsBytes}
use Rattle.printer.specs.Bounds.{accepted}
use Rattle.printer.specs.Accepted.{Accepted, Typed}
use Rattle.printer.specs.Steps.{step_records, state_after, records_over, events_over}
use Rattle.printer.specs.Spelling.{pending, spelt_all, StandsFor, among, listed_image_modes, ClassifiedOver, EveryListed}
use Rattle.printer.specs.Advanced.{OnlyWrites, AdvancedCommands}
use Rattle.printer.specs.Columns.{Column}
use Rattle.printer.specs.Performing.{with_channel}
use Rattle.printer.specs.Vertical.{SameChannel, Spares, ToItsEnd, with_chosen, SameRules}
use Rattle.printer.specs.Calls.{usable, setup_of, start_of, reading_of, output_of, StartCall, ReadCall, row, number_of, ThatState, ByTable}
use Rattle.printer.specs.Promises.{call_by, ReadingPromise}
use Rattle.printer.specs.Cutting.{Readings, joined_input, last_state, joined_output, bytes_read, ReadToEnd, Resumed, Leaves}
use Rattle.printer.specs.Reckoning.{Motion, sets, Axis, moved_all, Moves, forth_of, back_of, Reckoning, Occurrence, reckon_all, across_motion, down_motion, motions}
use Rattle.printer.specs.Demand3.{Call, started, Chain, Demand3}
use Rattle.printer.specs.Cases.{CheckedByHand}
use Rattle.printer.specs.Worked.{InputsWorked, StatesWorked}
use Rattle.printer.specs.WorkedInputs.{worked_inputs}
use Rattle.printer.specs.WorkedStates.{worked_states}
use Rattle.printer.specs.PaperCodes.{PaperCodes, ArgumentsTaken}
use Rattle.printer.specs.Types.{Answer, Channels, ImageMode, Reading, Started, Record, StartSettings, Printer, TabStops, Waiting}
use Rattle.printer.proofs.Accepting.{fact_accepted, accepted_fact, power_on_accepted, usable-width}
use Rattle.printer.proofs.KeepingSteps.{steps_ours}
use Rattle.printer.proofs.Few.{two_records}
use Rattle.printer.proofs.Listed.{every_listed}
use Rattle.printer.proofs.Spelling.{steps_spell, steps_classified}
use Rattle.printer.proofs.Advanced.{advanced_commands}
use Rattle.printer.proofs.Columns.{column-from, other_mode_lem}
use Rattle.printer.proofs.Rests.{signed}
use Rattle.printer.proofs.Vertical.{dropped-list, other-channel, this-channel, same-rules}
use Rattle.printer.proofs.Untouched.{spared, bytes_spare}
use Rattle.printer.proofs.Bytes.{decoded-encoded, decoded_all-encoded}
use Rattle.printer.proofs.Writing.{steps_fit}
use Rattle.printer.proofs.Cuts.{gave, calls_state, calls_output, read_to_end, resumed-reads, enough-reads}
use Rattle.printer.proofs.LastSet.{last_set, across_moved, down_moved}
use Rattle.printer.proofs.Answering.{refused-row, read_promise_lem, start_promise}
use Rattle.printer.proofs.CallLists.{demand_3}
use Rattle.printer.proofs.ByHand.{checked_by_hand}
use Rattle.printer.proofs.Worked.{inputs_worked, states_worked}
use Rattle.printer.proofs.PaperCodes.{paper_codes, arguments-taken}

-- 1. Bounds

-- the test of the bounds and the bounds as facts are one
pub test_is_fact : (p : Printer) → (accepted p ≡ true) ↔ Accepted p
test_is_fact p = (accepted_fact p, fact_accepted p)

-- accepted states stay accepted, over every input
pub stays-accepted : (p : Printer) (input : List ℕ) → Typed p → accepted p ≡ true → Bytes input
    → accepted (state_after p input) ≡ true
stays-accepted p input t a b =
    let o = steps_ours p input b (record { typed = t; accepted = accepted_fact p a }) in
    fact_accepted (state_after p input) o.accepted

-- power-on is accepted, for all settings that a start takes
pub power_on_is_accepted : (settings : StartSettings) → usable settings ≡ true → accepted (power_on (setup_of settings)) ≡ true
power_on_is_accepted settings u =
    let w = usable-width settings u in
    fact_accepted (power_on (setup_of settings)) (power_on_accepted (setup_of settings) w.0 w.1)

-- 2. Records and dots

-- a byte writes at most two records
pub at_most_two : (p : Printer) (b : ℕ) → length (step_records p b) ≤ 2
at_most_two p b = two_records p b

-- so the room asked for before a byte is enough
pub room_is_enough : (p : Printer) (b : ℕ) → record_size * length (step_records p b) ≤ room_for_byte
room_is_enough p b = omega (arith, two_records p b)

-- the rounding rule is within half a dot
pub half_a_dot : (d n : ℕ) → (3600 * rounded d n ≤ n * d + 1800) × (n * d + 1800 < 3600 * rounded d n + 3600)
half_a_dot d n = omega arith

-- and its rest is units × D − 3,600 × dot ..
pub rest_together : (d n : ℕ) → n * d + back (rest_word d n) ≡ 3600 * rounded d n + forth (rest_word d n)
rest_together d n = (signed d n).together

-- .. from −1,800 to 1,799
pub rest_range : (d n : ℕ) → (forth (rest_word d n) ≤ 1799) × (back (rest_word d n) ≤ 1800)
rest_range d n = ((signed d n).most, (signed d n).least)

-- decoding an encoding gives the record back
pub decoding : (r : Record) → FitsBytes r → decoded (encoded r) ≡ r ∷ []
decoding r h = decoded-encoded r h

-- and the records that are written fit their bytes
pub records_decode : (p : Printer) (input : List ℕ) → Typed p → accepted p ≡ true → Bytes input
    → decoded_all (encoded_all (records_over p input)) ≡ records_over p input
records_decode p input t a b =
    decoded_all-encoded (records_over p input) (steps_fit p input b (record { typed = t; accepted = accepted_fact p a }))

-- 3. Spelling

-- the commands that the steps report, with what is still waited for, are the bytes that were read
pub spelling : (p : Printer) (input : List ℕ)
    → spelt_all (events_over p input) ++ pending (state_after p input).waiting ≡ pending p.waiting ++ input
spelling p input = steps_spell p input

-- and a single byte is taken for what it is
pub classified : (p : Printer) (input : List ℕ) → ClassifiedOver p input
classified p input = steps_classified p input

-- and every control and escape is listed
pub listed : EveryListed
listed = every_listed

-- ESC i, where nothing is waited for: "a" with 0 and "S" change nothing and write nothing, all else is one NO
pub advanced : (p : Printer) (b : ℕ) → p.waiting ≡ Waiting.Nothing → StandsFor p.settings.upperprints b 0x1B → AdvancedCommands p b
advanced p b w s = advanced_commands p b w s

-- image columns, in every mode: the bytes of one, from the first, are placed at one place, with their parts in order, and move it by the step; or
-- each is passed over and the place is left
pub column : (p : Printer) (m : ImageMode) (n : ℕ) (bytes : List ℕ) → p.waiting ≡ Waiting.ImageData m 1 n → length bytes ≡ image_bytes m
    → Column p m n bytes
column p m n bytes w e = column-from p m n bytes w e

-- and ESC * with another mode is one NO, after which reading starts afresh
pub other_image_mode_lem : (p : Printer) (b m : ℕ) → p.waiting ≡ Waiting.Nothing → StandsFor p.settings.upperprints b 0x1B
    → among listed_image_modes m ≡ false → OnlyWrites p (b ∷ 0x2A ∷ m ∷ []) (passed_record 0x2A 2 ∷ [])
other_image_mode_lem p b m w s k = other_mode_lem p b m w s k

-- vertical channels: one that is set leaves the others as they were
pub others : (c : Channels) (m k : ℕ) (l : TabStops) → length c.stops ≡ 128 → length l.stops ≡ stop_room → m ≤ 7 → (k ≡ m → ⊥)
    → SameChannel k c (with_channel c m l)
others c m k l d s h n = spared c m k l d s (omega arith) n

-- so over every input a channel of which no list ends is as it was, without ESC @
pub untouched : (p : Printer) (input : List ℕ) (k : ℕ) → Typed p → accepted p ≡ true → Bytes input → Each (Spares k) (events_over p input)
    → SameChannel k p.stops.channels (state_after p input).stops.channels
untouched p input k t a b s = bytes_spare k p input b (record { typed = t; accepted = accepted_fact p a }) s

-- ESC b m reads its list as ESC B does, and sets channel m alone, as that sets channel 0
pub same_list_rules : (p : Printer) (b m : ℕ) (l : List ℕ) → p.waiting ≡ Waiting.Nothing → StandsFor p.settings.upperprints b 0x1B
    → m ≤ 7 → ToItsEnd 0 l → SameRules p b m l
same_list_rules p b m l w s h k = same-rules p b m w s l h k

-- above 7 it is one NO, and the list is read to its end and changes nothing
pub dropped : (p : Printer) (b m : ℕ) (l : List ℕ) → p.waiting ≡ Waiting.Nothing → StandsFor p.settings.upperprints b 0x1B
    → 7 < m → ToItsEnd 0 l → OnlyWrites p (b ∷ 0x62 ∷ m ∷ l) (passed_record 0x62 2 ∷ [])
dropped p b m l w s h k = dropped-list p b m w s l h k

-- ESC / m chooses channel m alone; above 7 it is one NO
pub chooses : (p : Printer) (b m : ℕ) → p.waiting ≡ Waiting.Nothing → StandsFor p.settings.upperprints b 0x1B
    → m ≤ 7 → (state_after p (b ∷ 0x2F ∷ m ∷ []) ≡ with_chosen p m) × (records_over p (b ∷ 0x2F ∷ m ∷ []) ≡ [])
chooses p b m w s h = this-channel p b m w s h

pub no_such_channel : (p : Printer) (b m : ℕ) → p.waiting ≡ Waiting.Nothing → StandsFor p.settings.upperprints b 0x1B
    → 7 < m → OnlyWrites p (b ∷ 0x2F ∷ m ∷ []) (passed_record 0x2F 2 ∷ [])
no_such_channel p b m w s h = other-channel p b m w s h

-- 4. Demand 2, cutting: over calls that kept their promises, each with the state that the one before returned or left

-- calls leave what the rules leave over the bytes that they read, wherever each of them stops
pub stopped_anywhere : (p : Printer) (l : List ReadCall) → Readings p l → Leaves p l (bytes_read l)
stopped_anywhere p l h = record { state = calls_state p l h; output = calls_output p l h }

-- calls resumed after answers 1 and 2, each with the unread rest, leave what the rules leave over the whole input
pub resumed : (p : Printer) (input : List ℕ) (l : List ReadCall) → Readings p l → Resumed input l → Leaves p l input
resumed p input l h r = rw (resumed-reads input l r) at (stopped_anywhere p l h)

-- pieces each read to their end leave what the rules leave over the whole input
pub pieces : (p : Printer) (l : List ReadCall) → Readings p l → ReadToEnd l → Leaves p l (joined_input l)
pieces p l h r = rw (read_to_end p l h r) at (stopped_anywhere p l h)

-- so two ways to cut an input agree
pub cutting : (p : Printer) (l m : List ReadCall) → Readings p l → Readings p m → joined_input l ≡ joined_input m
    → ReadToEnd l → ReadToEnd m → (last_state p l ≡ last_state p m) × (joined_output l ≡ joined_output m)
cutting p l m h k e r s =
    let a = pieces p l h r in
    let b = pieces p m k s in
    (a.state ∙ ap (state_after p) e ∙ sym b.state, cc (a.output, b.output, e))

-- and a call with allowance and room enough does read to its end
pub reads_to_end : (c : ReadCall) → ReadingPromise c → accepted c.state ≡ true
    → length c.input ≤ c.allowance → room_for_byte * length c.input ≤ length c.out
    → c.back.answer ≡ Answer.InputUsed
reads_to_end c v e h k = enough-reads c v e h k

-- 5. The answers: what the rules give is by the table, so that a promise can say both

-- a reading call's answer comes exactly when its row says, with what its row says
pub answers : (p : Printer) (input : List ℕ) (allowance : ℕ) (out : List ℕ) (back : Reading) (after : List ℕ)
    → back ≡ reading_of p input allowance (length out) → after ≡ output_of p input allowance out
    → ByTable (λ (a : Answer). (row a).reading (call_by p input allowance out back after)) back.report.answer
answers p input allowance out back after h o = (read_promise_lem p input allowance out back after h o).by_table

-- so a state outside the bounds is refused: 4, with that state, counts 0, output untouched
pub refuses : (c : ReadCall) → ReadingPromise c → accepted c.state ≡ false → (number_of c.back.answer ≡ 4) × ThatState c
refuses c h e = let r = refused-row c (gave c h) e in (ap number_of r.0, r.1)

-- and a start's answer is by the table: 0 with the power-on state, or 3
pub starts : (settings : StartSettings) (back : Started) → back ≡ start_of settings
    → ByTable (λ (a : Answer). (row a).starting (record { settings = settings; back = back })) back.answer
starts settings back h = (start_promise settings back h).by_table

-- 6. Demand 3

-- a reckoned place is the motions of what happened, one after the other ..
pub place_across : (r : Reckoning) (l : List Occurrence) → (reckon_all r l).across ≡ moved_all r.across (motions across_motion r.force l)
place_across r l = across_moved r l

pub place_down : (r : Reckoning) (l : List Occurrence) → (reckon_all r l).down ≡ moved_all r.down (motions down_motion r.force l)
place_down r l = down_moved r l

-- .. and that is what the last setting command set, plus the sum of the moves since
pub exact-place : (a : Axis) (before : List Motion) (n : ℕ) (since : List Motion) → Each Moves since
    → moved_all a (before ++ sets n ∷ since) ≡ record { set = n; forth = forth_of since; back = back_of since }
exact-place a before n since h = last_set a before n since h

-- over any list of calls, each of which met its promise and got the state last returned or left, that begins with a start
pub demand3 : (before : Printer) (c : StartCall) (l : List Call) → Chain before (started c ∷ l) → Demand3 before (started c ∷ l)
demand3 before c l h = demand_3 before c l h

-- 7. 'Checked by hand'

pub by_hand : CheckedByHand
by_hand = checked_by_hand

-- 8. The rules by the papers' own numbers, written once more

-- what each of the 256 bytes is between commands, after ESC, ESC i, ESC i a and ESC *, where 80h to 9Fh print and where they do not
pub codes : (upper : Bool) → PaperCodes upper
codes upper = paper_codes upper

-- which of the 256 arguments each escape takes, that takes one
pub arguments : ArgumentsTaken
arguments = arguments-taken

-- short inputs, from a start, with their records and answers, and parts of the state left
pub worked_inputs_lem : InputsWorked worked_inputs
worked_inputs_lem = inputs_worked

-- states just inside and just outside of each bound
pub worked_states_lem : StatesWorked worked_states
worked_states_lem = states_worked
