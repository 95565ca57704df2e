-- A reading call by way of registers is the call of the rules.
use Prim.Native.Nat.{ℕ}
use mathlib.Core.Path.{◌≡◌, refl, sym, ap, subst, ◌∙◌}
use mathlib.Core.Bool.{Bool, true, false}
use mathlib.Core.List.{List}
use lib.ListN.{length, take}
use Rattle.printer.specs.Tools.{Bytes}
use Rattle.printer.specs.Bounds.{accepted}
use Rattle.printer.specs.Accepted.{Ours}
use Rattle.printer.specs.Calls.{Run, call_of, report_of}
use Rattle.printer.specs.Promises.{ReadPromise}
use Rattle.printer.specs.declared.answers.Report.{Report}
use Rattle.printer.specs.declared.state.Printer.{Printer}
use Rattle.printer.proofs.Accepting.{accepted_fact}
use Rattle.printer.proofs.Answering.{read_promise_lem}
use Rattle.printer.proofs.Choices.{bytes_take}
use Rattle.printer.proofs.Cuts.{call_steps}
use Rattle.printer.proofs.KeepingSteps.{steps_ours}
use Rattle.registers.specs.State.{Plain, registers_of, printer_in, accepted_in}
use Rattle.registers.proofs.State.{registers-read, registers-accepted, plain}
use Rattle.interpreter.specs.Calls.{run_in, left_in, ReadsRegisters}

module _ (p : Printer) (h : Plain p) (input : List ℕ) (b : Bytes input) (allowance room : ℕ) where
  abbrev called : Run
  called = call_of p input allowance room

  -- the run, and the state that it leaves
  record By : Type 0 where
    run : run_in (registers_of p) input allowance room ≡ called
    left : printer_in (left_in (registers_of p) input allowance room) ≡ called.printer

  when-accepted : accepted p ≡ true → By
  unfolding run_in left_in
  when-accepted e =
      let a : accepted_in (registers_of p) ≡ true = registers-accepted h ∙ e in
      let s = (call_steps p input allowance room).state in
      let o = steps_ours p (take called.read input) (bytes_take called.read input b) (record { typed = h.typed; accepted = accepted_fact p e }) in
      let q : Ours called.printer = subst Ours (sym s) o in
      record {
        run = rw (a, registers-read h);
        left = rw (a, registers-read h) (registers-read (plain q.typed q.accepted));
      }

  when-refused : accepted p ≡ false → By
  unfolding run_in left_in call_of
  when-refused e =
      let a : accepted_in (registers_of p) ≡ false = registers-accepted h ∙ e in
      record { run = rw (a, e, registers-read h); left = rw (a, e) (registers-read h) }

  by : By
  by = go (accepted p) refl
    where
      go : (t : Bool) → accepted p ≡ t → By
      go true e = when-accepted e
      go false e = when-refused e

pub read_packed : (p : Printer) → Plain p → {input : List ℕ} → Bytes input → {allowance : ℕ} {out : List ℕ}
    {m left after : List ℕ} {back : Report} {q : Printer} → m ≡ registers_of p
    → ReadsRegisters m input allowance out back left after → q ≡ printer_in left
    → ReadPromise p input allowance out (record { report = back; printer = q }) after
read_packed p h {input} b {allowance} {out} {m} {left} {after} {back} {q} e r f =
    let v = by p h input b allowance (length out) in
    let s = rw e at r in
    read_promise_lem p input allowance out _ after
    (cc (s.report ∙ ap report_of v.run, f ∙ ap printer_in s.state ∙ v.left)) (s.output ∙ rw v.run)
