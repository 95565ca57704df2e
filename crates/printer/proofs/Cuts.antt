-- Demand 2, cutting: calls leave the state and the records of the rules' steps over the bytes that they read.
use Prim.Native.Nat.{ℕ, zero, suc, ◌+◌, ◌*◌, ◌-◌, ◌≤◌, ◌<◌}
use mathlib.Core.Path.{sym, ◌≡◌, refl, ap, ◌∙◌}
use mathlib.Core.Bool.{true}
use mathlib.Core.List.{List, [], ◌∷◌, ◌++◌, append_assoc}
use native.Mathlib.Omega.{arith}
use lib.ListN.{length, length-append, take, drop, take-append-drop}
use borrow.Author.Tests.{le-ltb, ltb-false}
use Rattle.printer.specs.Records.{record_size, room_for_byte, encoded_all}
use Rattle.printer.specs.Bounds.{accepted}
use Rattle.printer.specs.Steps.{step_of, step_records, state_after, records_over}
use Rattle.printer.specs.Calls.{is_full, Run, stopped, after_byte, run_of, call_of, reading_of, output_of, ReadCall, bytes_of, written_of, NewState}
use Rattle.printer.specs.Promises.{ReadingPromise}
use Rattle.printer.specs.Cutting.{Readings, joined_input, last_state, joined_output, bytes_read, ReadToEnd, Resumed}
use Rattle.printer.specs.Types.{Answer, Reading, Record, Printer}
use Rattle.printer.proofs.Choices.{pick_elim}
use Rattle.printer.proofs.Bytes.{encoded_all-append, written_part}
use Rattle.printer.proofs.Few.{two_records}

-- a run's state and records are the rules' steps over the bytes that it read
pub record Steps (p : Printer) (input : List ℕ) (v : Run) : Type 0 where
  pub state : v.printer ≡ state_after p (take v.read input)
  pub records : v.records ≡ records_over p (take v.read input)

no_steps : (p : Printer) (input : List ℕ) (a : Answer) → Steps p input (stopped a p)
unfolding state_after records_over
no_steps p [] a = record { state = refl; records = refl }
no_steps p (b ∷ l) a = record { state = refl; records = refl }

one_step : (p : Printer) (b : ℕ) (l : List ℕ) (v : Run) → Steps (step_of p b) l v → Steps p (b ∷ l) (after_byte (step_records p b) v)
unfolding state_after records_over
one_step p b l v h =
    record { state = h.state; records = ap (λ (r : List Record). step_records p b ++ r) h.records }

run_steps : (p : Printer) (input : List ℕ) (allowance room : ℕ) → Steps p input (run_of p input allowance room)
unfolding run_of
run_steps p [] allowance room = no_steps p [] _
run_steps p (b ∷ l) zero room = no_steps p (b ∷ l) _
run_steps p (b ∷ l) (suc allowance) room =
    pick_elim (Steps p (b ∷ l)) (is_full room)
    {x = stopped Answer.OutputFull p}
    {y = after_byte (step_records p b) (run_of (step_of p b) l allowance (room - record_size * length (step_records p b)))}
    (λ _. no_steps p (b ∷ l) Answer.OutputFull)
    (λ _. one_step p b l _ (run_steps (step_of p b) l allowance (room - record_size * length (step_records p b))))

pub call_steps : (p : Printer) (input : List ℕ) (allowance room : ℕ) → Steps p input (call_of p input allowance room)
unfolding call_of
call_steps p input allowance room =
    pick_elim (Steps p input) (accepted p) {x = run_of p input allowance room} {y = stopped Answer.StateRefused p}
    (λ _. run_steps p input allowance room)
    (λ _. no_steps p input Answer.StateRefused)

-- the bytes that a call writes
pub call_writes : (p : Printer) (input : List ℕ) (allowance : ℕ) (out : List ℕ)
    → take (reading_of p input allowance (length out)).report.written (output_of p input allowance out)
    ≡ encoded_all (records_over p (take (reading_of p input allowance (length out)).report.read input))
call_writes p input allowance out =
    written_part (call_of p input allowance (length out)).records _
    ∙ ap encoded_all (call_steps p input allowance (length out)).records

-- before each byte read, there was room for its records
run_room : (p : Printer) (input : List ℕ) (allowance room n : ℕ) → n < (run_of p input allowance room).read
    → record_size * length (records_over p (take n input)) + room_for_byte ≤ room
unfolding run_of records_over
run_room p [] allowance room n = λ h. absurd (omega arith)
run_room p (b ∷ l) zero room n = λ h. absurd (omega arith)
run_room p (b ∷ l) (suc allowance) room zero =
    pick_elim (λ (v : Run). 0 < v.read → room_for_byte ≤ room) (is_full room)
    (λ _ h. absurd (omega arith))
    (λ e h. ltb-false room room_for_byte e)
run_room p (b ∷ l) (suc allowance) room (suc n) =
    pick_elim (λ (v : Run). suc n < v.read → record_size * length (step_records p b ++ records_over (step_of p b) (take n l)) + room_for_byte ≤ room) (is_full room)
    (λ _ h. absurd (omega arith))
    (λ e h.
    let left : ℕ = room - record_size * length (step_records p b) in
    let k = run_room (step_of p b) l allowance left n (omega arith) in
    omega (arith, k, two_records p b, ltb-false room room_for_byte e, length-append (step_records p b) (records_over (step_of p b) (take n l))))

call_room : (p : Printer) (input : List ℕ) (allowance room n : ℕ) → n < (call_of p input allowance room).read
    → record_size * length (records_over p (take n input)) + room_for_byte ≤ room
unfolding call_of
call_room p input allowance room n =
    pick_elim (λ (v : Run). n < v.read → record_size * length (records_over p (take n input)) + room_for_byte ≤ room) (accepted p)
    (λ _. run_room p input allowance room n)
    (λ _ h. absurd (omega arith))

run_allowed : (p : Printer) (input : List ℕ) (allowance room : ℕ) → (run_of p input allowance room).read ≤ allowance
unfolding run_of
run_allowed p [] allowance room = omega arith
run_allowed p (b ∷ l) zero room = omega arith
run_allowed p (b ∷ l) (suc allowance) room =
    pick_elim (λ (v : Run). v.read ≤ suc allowance) (is_full room) (λ _. omega arith)
    (λ _. let k = run_allowed (step_of p b) l allowance (room - record_size * length (step_records p b)) in omega arith)

call_allowed : (p : Printer) (input : List ℕ) (allowance room : ℕ) → (call_of p input allowance room).read ≤ allowance
unfolding call_of
call_allowed p input allowance room =
    pick_elim (λ (v : Run). v.read ≤ allowance) (accepted p) (λ _. run_allowed p input allowance room) (λ _. omega arith)

-- what a call that kept its promise returned, left and wrote is the rules' steps over the bytes that it read
pub record Kept (c : ReadCall) : Type 0 where
  pub back : c.back ≡ (reading_of c.state c.input c.allowance (length c.out)).report
  pub new : NewState c
  pub written : written_of c ≡ encoded_all (records_over c.state (bytes_of c))

-- what a call gave is the rules' own
pub record Gave (c : ReadCall) : Type 0 where
  pub gives : record { report = c.back; printer = c.left } ≡ reading_of c.state c.input c.allowance (length c.out)
  pub output : c.after ≡ output_of c.state c.input c.allowance c.out

pub gave : (c : ReadCall) → ReadingPromise c → Gave c
gave c h = record { gives = h.gives; output = h.output }

pub kept_promise : (c : ReadCall) → Gave c → Kept c
kept_promise c h =
    let v : Reading = reading_of c.state c.input c.allowance (length c.out) in
    let back : c.back ≡ v.report = ap (λ (r : Reading). r.report) h.gives in
    let left : c.left ≡ v.printer = ap (λ (r : Reading). r.printer) h.gives in
    let steps = call_steps c.state c.input c.allowance (length c.out) in
    record {
      back = back;
      new = record {
        state = rw back (left ∙ steps.state);
        written = rw back (ap (λ (l : List Record). record_size * length l) steps.records);
        allowed = rw back (call_allowed c.state c.input c.allowance (length c.out));
        room = λ n k. call_room c.state c.input c.allowance (length c.out) n (rw back at k);
        output = rw (back, h.output, ← steps.records);
      };
      written = rw (back, h.output) (call_writes c.state c.input c.allowance c.out);
    }

-- Over an input in two parts

pub state-append : (p : Printer) (x y : List ℕ) → state_after p (x ++ y) ≡ state_after (state_after p x) y
unfolding state_after
state-append p [] y = refl
state-append p (b ∷ x) y = state-append (step_of p b) x y

pub records-append : (p : Printer) (x y : List ℕ) → records_over p (x ++ y) ≡ records_over p x ++ records_over (state_after p x) y
unfolding state_after records_over
records-append p [] y = refl
records-append p (b ∷ x) y = rw (records-append (step_of p b) x y, append_assoc)

-- Lists of calls, wherever each stops

pub calls_state : (p : Printer) (l : List ReadCall) → Readings p l → last_state p l ≡ state_after p (bytes_read l)
unfolding last_state bytes_read state_after
calls_state p [] h = refl
calls_state p (c ∷ l) h =
    let k = kept_promise c (gave c h.0.1) in
    cc (h.0.0, k.new.state, calls_state c.left l h.1, state-append p (bytes_of c) (bytes_read l))

pub calls_output : (p : Printer) (l : List ReadCall) → Readings p l → joined_output l ≡ encoded_all (records_over p (bytes_read l))
unfolding joined_output bytes_read records_over encoded_all
calls_output p [] h = refl
calls_output p (c ∷ l) h =
    let k = kept_promise c (gave c h.0.1) in
    let x : List ℕ = bytes_of c in
    let y : List ℕ = bytes_read l in
    cc (h.0.0, k.new.state, k.written, calls_output c.left l h.1, records-append p x y, encoded_all-append (records_over p x) (records_over (state_after p x) y))

-- Calls that read to their ends

run_end : (p : Printer) (input : List ℕ) (allowance room : ℕ) → (run_of p input allowance room).answer ≡ Answer.InputUsed
    → take (run_of p input allowance room).read input ≡ input
unfolding run_of
run_end p [] allowance room = λ e. refl
run_end p (b ∷ l) zero room = λ e. let z : ◌≡◌ {A = ℕ} 0 1 = cc in absurd (omega arith)
run_end p (b ∷ l) (suc allowance) room =
    pick_elim (λ (v : Run). v.answer ≡ Answer.InputUsed → take v.read (b ∷ l) ≡ b ∷ l) (is_full room)
    (λ _. λ e. let z : ◌≡◌ {A = ℕ} 0 1 = cc in absurd (omega arith))
    (λ _. λ e. ap (λ (r : List ℕ). b ∷ r) (run_end (step_of p b) l allowance (room - record_size * length (step_records p b)) e))

call_end : (p : Printer) (input : List ℕ) (allowance room : ℕ) → (call_of p input allowance room).answer ≡ Answer.InputUsed
    → take (call_of p input allowance room).read input ≡ input
unfolding call_of
call_end p input allowance room =
    pick_elim (λ (v : Run). v.answer ≡ Answer.InputUsed → take v.read input ≡ input) (accepted p)
    (λ _. run_end p input allowance room)
    (λ _. λ e. let z : ◌≡◌ {A = ℕ} 0 1 = cc in absurd (omega arith))

pub read_to_end : (p : Printer) (l : List ReadCall) → Readings p l → ReadToEnd l → bytes_read l ≡ joined_input l
unfolding bytes_read joined_input
read_to_end p [] h e = refl
read_to_end p (c ∷ l) h e =
    let k = (kept_promise c (gave c h.0.1)).back in
    let i : bytes_of c ≡ c.input = rw k (call_end c.state c.input c.allowance (length c.out) (rw k at e.0)) in
    cc (i, read_to_end c.left l h.1 e.1)

-- with allowance and room enough, a call on an accepted state reads to its end
run_reads : (p : Printer) (input : List ℕ) (allowance room : ℕ) → length input ≤ allowance → room_for_byte * length input ≤ room
    → (run_of p input allowance room).answer ≡ Answer.InputUsed
unfolding run_of
run_reads p [] allowance room h k = refl
run_reads p (b ∷ l) zero room h k = absurd (omega arith)
run_reads p (b ∷ l) (suc allowance) room h k =
    rw (le-ltb room room_for_byte (omega arith))
    (run_reads (step_of p b) l allowance (room - record_size * length (step_records p b)) (omega arith) (omega (arith, two_records p b)))

call_reads : (p : Printer) (input : List ℕ) (allowance room : ℕ) → accepted p ≡ true
    → length input ≤ allowance → room_for_byte * length input ≤ room → (call_of p input allowance room).answer ≡ Answer.InputUsed
unfolding call_of
call_reads p input allowance room e h k = rw e (run_reads p input allowance room h k)

pub enough-reads : (c : ReadCall) → ReadingPromise c → accepted c.state ≡ true
    → length c.input ≤ c.allowance → room_for_byte * length c.input ≤ length c.out → c.back.answer ≡ Answer.InputUsed
enough-reads c v e h k = rw (kept_promise c (gave c v)).back (call_reads c.state c.input c.allowance (length c.out) e h k)

-- calls that are each given the unread rest read the whole input
pub resumed-reads : (input : List ℕ) (l : List ReadCall) → Resumed input l → bytes_read l ≡ input
unfolding bytes_read
resumed-reads input [] h = sym h
resumed-reads input (c ∷ l) h =
    let n : ℕ = c.back.read in
    let e : bytes_of c ≡ take n input = ap (take n) h.0 in
    cc (e, resumed-reads (drop n input) l h.1, take-append-drop n input)
