-- A run, after a part of its input: some bytes before each of which there is room for a byte's records.
use Prim.Native.Nat.{ℕ, zero, suc, ◌+◌, ◌*◌, ◌-◌, ◌≤◌}
use mathlib.Core.Path.{◌≡◌, refl, ◌∙◌}
use mathlib.Core.List.{List, [], ◌∷◌, ◌++◌, append_assoc}
use native.Mathlib.Nat.{zero-add, suc-add, sub-zero}
use native.Mathlib.Omega.{arith}
use lib.Dec.{ltb}
use lib.ListN.{length, length-append}
use borrow.Author.Tests.{le-ltb}
use Rattle.printer.specs.Tools.{pick}
use Rattle.printer.specs.Records.{record_size, room_for_byte}
use Rattle.printer.specs.Steps.{step_of, step_records, state_after, records_over}
use Rattle.printer.specs.Calls.{Run, stopped, after_byte, run_of}
use Rattle.printer.specs.declared.answers.Answer.{Answer}
use Rattle.printer.specs.declared.records.Record.{Record}
use Rattle.printer.specs.declared.state.Printer.{Printer}
use Rattle.printer.proofs.Few.{two_records}
use Rattle.interpreter.specs.Taking.{RoomForEach}

-- so many bytes read, with their records, before a run
abbrev pub after : ℕ → List Record → Run → Run
after n l v =
    record { answer = v.answer; printer = v.printer; read = n + v.read; records = l ++ v.records }

-- with some allowance, a byte is read or there is no room for its records
pub reads : (p : Printer) (b : ℕ) (l : List ℕ) (allowance room : ℕ) → (allowance ≡ 0 → ⊥)
    → run_of p (b ∷ l) allowance room
    ≡ pick (ltb room room_for_byte) (stopped Answer.OutputFull p)
    (after_byte (step_records p b)
    (run_of (step_of p b) l (allowance - 1) (room - record_size * length (step_records p b))))
unfolding run_of
reads p b l zero room h = absurd (h refl)
reads p b l (suc n) room h = let e : suc n - 1 ≡ n = omega arith in rw e

-- A byte before others
module _ (p : Printer) (b : ℕ) (l : List ℕ) where
  pub state-cons : state_after p (b ∷ l) ≡ state_after (step_of p b) l
  unfolding state_after
  state-cons = refl

  pub records-cons : records_over p (b ∷ l) ≡ step_records p b ++ records_over (step_of p b) l
  unfolding records_over
  records-cons = refl

  pub room_cons : (room : ℕ) → room_for_byte ≤ room → RoomForEach (step_of p b) l (room - record_size * length (step_records p b))
      → RoomForEach p (b ∷ l) room
  unfolding RoomForEach
  room_cons room h k = (h, k)

pub taken-fits : (p : Printer) (l : List ℕ) (room : ℕ) → RoomForEach p l room → record_size * length (records_over p l) ≤ room
unfolding RoomForEach records_over
taken-fits p [] room h = omega arith
taken-fits p (b ∷ l) room h =
    omega (arith, h.0, two_records p b, taken-fits (step_of p b) l _ h.1, length-append (step_records p b) (records_over (step_of p b) l))

-- a part's bytes, before the rest of a run
abbrev Parted : Printer → (l rest : List ℕ) → (allowance room : ℕ) → Type 0
Parted p l rest allowance room =
    run_of p (l ++ rest) allowance room
    ≡ after (length l) (records_over p l)
    (run_of (state_after p l) rest (allowance - length l) (room - record_size * length (records_over p l)))

no_part : (p : Printer) (rest : List ℕ) (allowance room : ℕ) → Parted p [] rest allowance room
unfolding state_after records_over
no_part p rest allowance room = simp (zero-add, sub-zero)

byte_part : (p : Printer) (b : ℕ) (l rest : List ℕ) (allowance room : ℕ) → suc (length l) ≤ allowance → room_for_byte ≤ room
    → Parted (step_of p b) l rest (allowance - 1) (room - record_size * length (step_records p b))
    → Parted p (b ∷ l) rest allowance room
byte_part p b l rest allowance room h k e =
    let c = step_records p b in
    let r = records_over (step_of p b) l in
    let a : allowance - suc (length l) ≡ allowance - 1 - length l = omega arith in
    let m : room - record_size * length (c ++ r) ≡ room - record_size * length c - record_size * length r = omega (arith, length-append c r) in
    reads p b (l ++ rest) allowance room (λ z. omega arith)
    ∙ rw (le-ltb room room_for_byte k, e) (rw (state-cons p b l, records-cons p b l, a, m, append_assoc, suc-add))

pub run_taken : (p : Printer) (l rest : List ℕ) (allowance room : ℕ) → length l ≤ allowance → RoomForEach p l room
    → Parted p l rest allowance room
unfolding RoomForEach
run_taken p [] rest allowance room h k = no_part p rest allowance room
run_taken p (b ∷ l) rest allowance room h k =
    byte_part p b l rest allowance room h k.0 (run_taken (step_of p b) l rest (allowance - 1) _ (omega arith) k.1)
