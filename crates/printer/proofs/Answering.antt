-- Which answer comes exactly when, by the table.
use Prim.Native.Nat.{ℕ, zero, suc, ◌+◌, ◌*◌, ◌-◌, ◌≤◌, ◌<◌}
use mathlib.Core.Path.{◌≡◌, refl, sym, ap, subst, ◌∙◌}
use mathlib.Core.Bool.{Bool, true, false}
use mathlib.Core.List.{List, [], ◌∷◌}
use mathlib.Core.Logic.{◌⊎◌, inl, inr, ⊎_elim}
use native.Mathlib.Omega.{arith}
use lib.Dec.{eqb}
use lib.ListN.{length, length-append}
use borrow.Author.Tests.{ltb-true, ltb-false, le-leb, eqb-true, eq-eqb, ne_eqb}
use Rattle.printer.specs.Tools.{pick, either, within}
use Rattle.printer.specs.Units.{narrowest_paper, widest_paper}
use Rattle.printer.specs.Records.{record_size, room_for_byte, encoded_all}
use Rattle.printer.specs.Bounds.{accepted}
use Rattle.printer.specs.Steps.{step_of, step_records}
use Rattle.printer.specs.Calls.{usable, is_full, start_of, Run, stopped, run_of, call_of, reading_of, output_of, StartCall, ReadCall, Cell, row, DotsTaken, WidthTaken, ThatState, ByTable}
use Rattle.printer.specs.Promises.{StartPromise, ReadPromise, call_by}
use Rattle.printer.specs.Types.{Answer, Reading, Started, StartSettings, Printer}
use Rattle.printer.proofs.Choices.{pick_elim, both_left, both_true, either_elim, within_fact}
use Rattle.printer.proofs.Frames.{true_false}
use Rattle.printer.proofs.Accepting.{usable-width}
use Rattle.printer.proofs.Few.{two_records}
use Rattle.printer.proofs.Cuts.{Gave, kept_promise}

-- Reading calls

-- when a run stops with an answer
When : Answer → (bytes allowance room read written : ℕ) → Type 0
When Answer.InputUsed bytes allowance room read written = read ≡ bytes
When Answer.AllowanceUsed bytes allowance room read written = (read ≡ allowance) × (read < bytes)
When Answer.OutputFull bytes allowance room read written = (read < allowance) × (read < bytes) × (room < written + room_for_byte)
When Answer.SettingsRefused bytes allowance room read written = ⊥
When Answer.StateRefused bytes allowance room read written = ⊥

-- a byte more before it
byte_more : (a : Answer) (bytes allowance room read written : ℕ) (w m : ℕ) → w ≤ room_for_byte → room_for_byte ≤ room → m ≡ w + written
    → When a bytes allowance (room - w) read written → When a (suc bytes) (suc allowance) room (suc read) m
unfolding When
byte_more Answer.InputUsed bytes allowance room read written w m h k e v = omega arith
byte_more Answer.AllowanceUsed bytes allowance room read written w m h k e v = (omega arith, omega arith)
byte_more Answer.OutputFull bytes allowance room read written w m h k e v = (omega arith, omega arith, omega arith)
byte_more Answer.SettingsRefused bytes allowance room read written w m h k e v = v
byte_more Answer.StateRefused bytes allowance room read written w m h k e v = v

RunWhen : (bytes allowance room : ℕ) → Run → Type 0
RunWhen bytes allowance room v = When v.answer bytes allowance room v.read (record_size * length v.records)

run_when : (p : Printer) (input : List ℕ) (allowance room : ℕ) → RunWhen (length input) allowance room (run_of p input allowance room)
unfolding run_of RunWhen When
run_when p [] allowance room = refl
run_when p (b ∷ l) zero room = (refl, omega arith)
run_when p (b ∷ l) (suc allowance) room =
    pick_elim (RunWhen (suc (length l)) (suc allowance) room) (is_full room)
    (λ e. let h : room < room_for_byte = ltb-true _ _ e in (omega arith, omega arith, omega arith))
    (λ e. let h : room_for_byte ≤ room = ltb-false _ _ e in
    let left : ℕ = room - record_size * length (step_records p b) in
    let v = run_of (step_of p b) l allowance left in
    byte_more v.answer (length l) allowance room v.read (record_size * length v.records)
    (record_size * length (step_records p b)) _ (omega (arith, two_records p b)) h
    (omega (arith, length-append (step_records p b) v.records)) (run_when (step_of p b) l allowance left))

abbrev cell_of : ReadCall → Answer → Cell
cell_of c a = (row a).reading c

-- a run's answer is in the table, and so is a refused state's
run_row : (c : ReadCall) (a : Answer) → Gave c → accepted c.state ≡ true
    → When a (length c.input) c.allowance (length c.out) c.back.read c.back.written
    → (cell_of c a).when × (cell_of c a).back
unfolding When
run_row c Answer.InputUsed h e w = ((e, w), (kept_promise c h).new)
run_row c Answer.AllowanceUsed h e w = ((e, w.0, w.1), (kept_promise c h).new)
run_row c Answer.OutputFull h e w = ((e, w.2, w.1, w.0), (kept_promise c h).new)
run_row c Answer.SettingsRefused h e w = absurd w
run_row c Answer.StateRefused h e w = absurd w

-- the table's answer to a reading call
read_answer : ReadCall → Answer
read_answer c =
    pick (accepted c.state)
    (pick (eqb c.back.read (length c.input)) Answer.InputUsed
    (pick (eqb c.back.read c.allowance) Answer.AllowanceUsed Answer.OutputFull))
    Answer.StateRefused

read_only : (c : ReadCall) (a : Answer) → (cell_of c a).when → a ≡ read_answer c
unfolding read_answer
read_only c Answer.InputUsed w = rw (w.0, eq-eqb _ _ w.1) refl
read_only c Answer.AllowanceUsed w =
    rw (w.0, ne_eqb c.back.read (length c.input) (omega arith), eq-eqb _ _ w.1) refl
read_only c Answer.OutputFull w =
    rw (w.0, ne_eqb c.back.read (length c.input) (omega arith), ne_eqb c.back.read c.allowance (omega arith)) refl
read_only c Answer.SettingsRefused w = absurd w
read_only c Answer.StateRefused w = rw w refl

call_when : (p : Printer) (input : List ℕ) (allowance room : ℕ) → accepted p ≡ true
    → RunWhen (length input) allowance room (call_of p input allowance room)
unfolding call_of
call_when p input allowance room e = rw e (run_when p input allowance room)

call_refused : (p : Printer) (input : List ℕ) (allowance room : ℕ) → accepted p ≡ false
    → call_of p input allowance room ≡ stopped Answer.StateRefused p
unfolding call_of
call_refused p input allowance room e = rw e refl

pub refused-row : (c : ReadCall) → Gave c → accepted c.state ≡ false
    → (c.back.answer ≡ Answer.StateRefused) × ThatState c
unfolding encoded_all
refused-row c h e =
    let r = call_refused c.state c.input c.allowance (length c.out) e in
    let g = rw r at h.gives in (
      ap (λ (v : Reading). v.report.answer) g,
      record {
        state = ap (λ (v : Reading). v.printer) g;
        read = ap (λ (v : Reading). v.report.read) g;
        written = ap (λ (v : Reading). v.report.written) g;
        output = rw r at h.output;
      },
    )

read_row : (c : ReadCall) → Gave c → (cell_of c c.back.answer).when × (cell_of c c.back.answer).back
unfolding RunWhen
read_row c h = go (accepted c.state) refl
  where
    go : (t : Bool) → accepted c.state ≡ t → (cell_of c c.back.answer).when × (cell_of c c.back.answer).back
    go true e =
        run_row c c.back.answer h e
        (rw (kept_promise c h).back (call_when c.state c.input c.allowance (length c.out) e))
    go false e = let r = refused-row c h e in subst (λ (a : Answer). (cell_of c a).when × (cell_of c a).back) (sym r.0) (e, r.1)

pub read_by_table : (c : ReadCall) → Gave c → ByTable (cell_of c) c.back.answer
read_by_table c h =
    let r = read_row c h in
    record { when = r.0; only = λ b w. read_only c _ r.0 ∙ sym (read_only c b w); back = r.1 }

-- Starts

abbrev start_cell : StartCall → Answer → Cell
start_cell c a = (row a).starting c

-- the test of a start's settings, as facts

taken-usable : (c : StartCall) → DotsTaken c → WidthTaken c → usable c.settings ≡ true
taken-usable c d w = both_true _ _ dots (both_true _ _ (le-leb _ _ w.0) (le-leb _ _ w.1))
  where
    dots : either (eqb c.settings.resolution 300) (eqb c.settings.resolution 203) ≡ true
    dots =
        ⊎_elim (λ (e : c.settings.resolution ≡ 300). rw (eq-eqb _ _ e) refl)
        (λ (e : c.settings.resolution ≡ 203). rw (ne_eqb c.settings.resolution 300 (omega arith), eq-eqb _ _ e) refl) d

usable-taken : (c : StartCall) → usable c.settings ≡ true → DotsTaken c × WidthTaken c
usable-taken c u = (
  either_elim _ _ _ (both_left _ _ u) (λ e. inl (eqb-true _ _ e)) (λ e. inr (eqb-true _ _ e)),
  usable-width c.settings u,
)

unusable_refused : (c : StartCall) → usable c.settings ≡ false → (DotsTaken c → ⊥) ⊎ (WidthTaken c → ⊥)
unusable_refused c u = go (within narrowest_paper widest_paper c.settings.width) refl
  where
    go : (t : Bool) → within narrowest_paper widest_paper c.settings.width ≡ t → (DotsTaken c → ⊥) ⊎ (WidthTaken c → ⊥)
    go true e = inl (λ d. let k = taken-usable c d (within_fact _ _ _ e) in true_false cc)
    go false e = inr (λ w. let k = both_true _ _ (le-leb _ _ w.0) (le-leb _ _ w.1) in true_false cc)

start_answer : StartCall → Answer
start_answer c = pick (usable c.settings) Answer.InputUsed Answer.SettingsRefused

start_only : (c : StartCall) (a : Answer) → (start_cell c a).when → a ≡ start_answer c
unfolding start_answer
start_only c Answer.InputUsed w = rw (taken-usable c w.0 w.1) refl
start_only c Answer.AllowanceUsed w = absurd w
start_only c Answer.OutputFull w = absurd w
start_only c Answer.SettingsRefused w = go (usable c.settings) refl
  where
    go : (t : Bool) → usable c.settings ≡ t → Answer.SettingsRefused ≡ start_answer c
    go true e = let k = usable-taken c e in ⊎_elim (λ f. absurd (f k.0)) (λ f. absurd (f k.1)) w
    go false e = rw e refl
start_only c Answer.StateRefused w = absurd w

start_row : (c : StartCall) → c.back ≡ start_of c.settings
    → (start_cell c c.back.answer).when × (start_cell c c.back.answer).back
unfolding start_of
start_row c h = go (usable c.settings) refl
  where
    go : (t : Bool) → usable c.settings ≡ t → (start_cell c c.back.answer).when × (start_cell c c.back.answer).back
    go true e =
        let g = rw e at h in
        rw g (
          usable-taken c e,
          record {
            at300 = λ z. rw (ne_eqb c.settings.resolution 203 (omega arith)) refl;
            at203 = λ z. rw (eq-eqb _ _ z) refl;
            waiting = refl;
          },
        )
    go false e = let g = rw e at h in rw g (unusable_refused c e, refl)

pub start_by_table : (c : StartCall) → c.back ≡ start_of c.settings → ByTable (start_cell c) c.back.answer
start_by_table c h =
    let r = start_row c h in
    record { when = r.0; only = λ b w. start_only c _ r.0 ∙ sym (start_only c b w); back = r.1 }

-- What the rules give keeps the promises

pub start_promise : (settings : StartSettings) (back : Started) → back ≡ start_of settings → StartPromise settings back
start_promise settings back h = record { gives = h; by_table = start_by_table (record { settings = settings; back = back }) h }

pub read_promise_lem : (p : Printer) (input : List ℕ) (allowance : ℕ) (out : List ℕ) (back : Reading) (after : List ℕ)
    → back ≡ reading_of p input allowance (length out) → after ≡ output_of p input allowance out
    → ReadPromise p input allowance out back after
read_promise_lem p input allowance out back after h o =
    record {
      gives = h;
      output = o;
      by_table = read_by_table (call_by p input allowance out back after) (record { gives = h; output = o });
    }
