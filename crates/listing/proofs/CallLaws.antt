-- A reading call reads no more than its input has, writes no more than its output holds, and leaves the state after the bytes read.
use Prim.Native.Nat.{ℕ, zero, suc, ◌*◌, ◌-◌, ◌≤◌, ◌<◌}
use mathlib.Core.Path.{◌≡◌}
use mathlib.Core.Bool.{true}
use mathlib.Core.List.{List, [], ◌∷◌}
use native.Mathlib.Omega.{arith}
use borrow.Author.Tests.{ltb-false, le-ltb}
use lib.Dec.{ltb}
use lib.ListN.{length, length-append}
use Rattle.printer.specs.Records.{record_size, room_for_byte}
use Rattle.printer.specs.Bounds.{accepted}
use Rattle.printer.specs.Steps.{step_of, step_records}
use Rattle.printer.specs.Calls.{Run, run_of, call_of}
use Rattle.printer.specs.Promises.{ReadPromise}
use Rattle.printer.specs.declared.answers.Reading.{Reading}
use Rattle.printer.specs.declared.state.Printer.{Printer}
use Rattle.printer.proofs.Choices.{pick_elim}
use Rattle.printer.proofs.Cuts.{call_steps}
use Rattle.printer.proofs.Few.{two_records}
use Rattle.listing.specs.Showing.{Shown}

abbrev Within : List ℕ → ℕ → Run → Type 0
Within input room v = (v.read ≤ length input) × (record_size * length v.records ≤ room)

run_within : (p : Printer) (input : List ℕ) (allowance room : ℕ) → Within input room (run_of p input allowance room)
unfolding run_of
run_within p [] allowance room = (omega arith, omega arith)
run_within p (b ∷ l) zero room = (omega arith, omega arith)
run_within p (b ∷ l) (suc n) room =
    let left : ℕ = room - record_size * length (step_records p b) in
    let h = run_within (step_of p b) l n left in
    pick_elim (Within (b ∷ l) room) (ltb room room_for_byte) (λ e. (omega arith, omega arith))
    (λ e. (omega arith, simp length-append (omega (arith, two_records p b, ltb-false room room_for_byte e))))

pub call_within : {p : Printer} {input : List ℕ} {allowance : ℕ} {out : List ℕ} {back : Reading} {after : List ℕ}
    → ReadPromise p input allowance out back after
    → (back.report.read ≤ length input) × (back.report.written ≤ length out)
unfolding call_of
call_within {p} {input} {allowance} {out} h =
    rw h.gives
    (pick_elim (Within input (length out)) (accepted p) (λ e. run_within p input allowance (length out)) (λ e. (omega arith, omega arith)))

pub call_shown : {p : Printer} {input : List ℕ} {allowance : ℕ} {out : List ℕ} {back : Reading} {after : List ℕ}
    → ReadPromise p input allowance out back after → Shown p input back.printer back.report.read
unfolding call_of
call_shown {p} {input} {allowance} {out} h =
    let k = call_within h in
    let v = call_steps p input allowance (length out) in
    rw h.gives (record { state = v.state; within = rw h.gives at k.0; refused = λ e. rw e })

run_some : (p : Printer) (input : List ℕ) (allowance room : ℕ) → 0 < length input → 0 < allowance → room_for_byte ≤ room
    → 0 < (run_of p input allowance room).read
unfolding run_of
run_some p [] allowance room m n r = absurd (omega arith)
run_some p (b ∷ l) zero room m n r = absurd (omega arith)
run_some p (b ∷ l) (suc allowance) room m n r = rw (le-ltb room room_for_byte r) (omega arith)

-- a call with room for a byte reads one, if there is one
pub call_some : {p : Printer} {input out : List ℕ} {back : Reading} {after : List ℕ}
    → ReadPromise p input (length input) out back after → room_for_byte ≤ length out → accepted p ≡ true → 0 < length input
    → 0 < back.report.read
unfolding call_of
call_some {p} {input} {out} h r e n = rw (h.gives, e) (run_some p input (length input) (length out) n n r)
