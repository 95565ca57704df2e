-- The calls on registers: those that are accepted, and those that are refused.
use Prim.Native.Nat.{ℕ}
use mathlib.Core.Path.{◌≡◌, refl, ◌∙◌}
use mathlib.Core.Bool.{Bool, true, false}
use mathlib.Core.List.{List}
use lib.ListN.{length}
use Rattle.std.specs.Prelude.{Ok}
use Rattle.printer.specs.Calls.{start_of, started_with}
use Rattle.printer.specs.PowerOn.{power_on}
use Rattle.printer.specs.Records.{encoded_all}
use Rattle.printer.specs.declared.answers.Answer.{Answer}
use Rattle.printer.specs.declared.commands.Waiting.{Waiting}
use Rattle.printer.specs.declared.settings.Setup.{Setup}
use Rattle.printer.specs.declared.settings.StartSettings.{StartSettings}
use Rattle.registers.specs.declared.pending.Pending.{Pending}
use Rattle.registers.specs.Register.{register_count}
use Rattle.registers.specs.State.{pending_of, waiting_of, pending_in, registers_of, printer_in, accepted_in}
use Rattle.registers.specs.Stores.{pended}
use Rattle.registers.proofs.State.{pended-words, printer-typed, accepted-printer, accepted-held}
use Rattle.accepting.specs.Same.{examined}
use Rattle.interpreter.specs.declared.reading.Ran.{Ran}
use Rattle.interpreter.specs.Calls.{run_in, left_in, ReadsRegisters, StartsRegisters}
use Rattle.interpreter.specs.Taking.{Current, RunPromise}

-- what is waited for is there of accepted registers, and of no others
pub accepted_waits : (t : Bool) {w x : Waiting} → examined t w ≡ Ok x → (t ≡ true) × (x ≡ w)
accepted_waits true e = (refl, cc)
accepted_waits false e = cc

pub refused_waits : (t : Bool) (w : Waiting) → ((x : Waiting) → examined t w ≡ Ok x → ⊥) → t ≡ false
refused_waits true w h = absurd (h w refl)
refused_waits false w h = refl

-- what the loop is called with
pub begun : {m : List ℕ} {w : Waiting} → length m ≡ register_count → accepted_in m ≡ true → w ≡ waiting_of (pending_in m)
    → Current (printer_in m) (pending_of (printer_in m).waiting) w m
unfolding printer_in
begun {m} l e f =
    record { held = accepted-held m e l; waits = f; typed = printer-typed m l; accepted = accepted-printer m e }

-- what is waited for is stored after it
pub read_accepted : {m m' input out after left : List ℕ} {allowance : ℕ} {v : Pending} {back : Ran} → accepted_in m ≡ true
    → RunPromise (printer_in m) v input allowance out back m' after → left ≡ pended (pending_of back.waiting) m'
    → ReadsRegisters m input allowance out back.report left after
unfolding run_in left_in
read_accepted {v = v} e r f =
    let q = r.current in
    record {
      report = rw e r.report;
      state = rw e (f ∙ rw (q.held.same, q.waits) (pended-words _ v _));
      output = rw e r.output;
    }

pub read_refused : (m input : List ℕ) (allowance : ℕ) (out : List ℕ) → accepted_in m ≡ false
    → ReadsRegisters m input allowance out (record { answer = Answer.StateRefused; read = 0; written = 0 }) m out
unfolding run_in left_in encoded_all
read_refused m input allowance out e = record { report = rw e; state = rw e; output = rw e }

-- a start by what it comes to
pub start_gives : {settings : StartSettings} {answer : Answer} {t : Setup} {back : Answer} {left : List ℕ}
    → start_of settings ≡ started_with answer t → (back ≡ answer) × (left ≡ registers_of (power_on t)) → StartsRegisters settings back left
start_gives e h = record { answer = rw e h.0; state = rw e h.1 }
