-- The theorems about the exported calls, each stated once.
use Prim.Native.Nat.{ℕ, ◌*◌, ◌≤◌}
use mathlib.Core.Path.{◌≡◌, refl, sym, ap, subst, ◌∙◌}
use mathlib.Core.Bool.{true, false}
use mathlib.Core.List.{List, [], ◌∷◌, map}
use mathlib.Core.Logic.{◌↔◌}
use native.Mathlib.Omega.{arith}
use lib.ListN.{length, take, drop, get_or}
use lib.Seq.{take-append_seam}
use Rattle.std.specs.Prelude.{Ok}
use Rattle.printer.specs.Tools.{Each, Bytes}
use Rattle.printer.specs.Accepted.{Ours}
use Rattle.printer.specs.Records.{room_for_byte, encoded_all}
use Rattle.printer.specs.Calls.{call_of, start_of, number_of}
use Rattle.printer.specs.Promises.{ReadingPromise}
use Rattle.printer.specs.Cutting.{Readings, joined_input, last_state, joined_output, bytes_read, ReadToEnd, Resumed, Leaves}
use Rattle.printer.specs.Demand3.{Call, read, joined, Demand3}
use Rattle.printer.specs.declared.answers.Answer.{Answer}
use Rattle.printer.specs.declared.commands.Waiting.{Waiting}
use Rattle.printer.specs.declared.state.Printer.{Printer}
use Rattle.printer.specs.declared.units.Resolution.{Resolution}
use Rattle.printer.proofs.Accepting.{fact_accepted}
use Rattle.printer.proofs.Answering.{start_promise, read_promise_lem}
use Rattle.printer.proofs.CallLists.{start_ours}
use Rattle.printer.proofs.Choices.{bytes_take}
use Rattle.printer.proofs.Cuts.{call_steps}
use Rattle.printer.proofs.KeepingSteps.{steps_ours}
use Rattle.printer.proofs.Theorems.{demand3, stopped_anywhere, resumed, pieces, reads_to_end}
use Rattle.registers.specs.Register.{kind_at, register_count}
use Rattle.registers.specs.Layout.{laid}
use Rattle.registers.specs.State.{registers_of, printer_in, accepted_in, pending_of}
use Rattle.registers.proofs.State.{registers-read, registers-accepted, plain, accepted-registers, accepted-printer, printer-typed}
use Rattle.interpreter.specs.Calls.{run_in, left_in}
use Rattle.writer.specs.Card.{answer_of, written_of}
use Rattle.writer.specs.Reading.{start_on}
use Rattle.writer.proofs.Answers.{written-zero}
use Rattle.writer.proofs.Theorems.{calls_read_back}
use Rattle.ierbulosc.specs.Calls.{settings_in}
use Rattle.ierbulosc.specs.Lists.{LibraryStart, LibraryRead, LibraryCall, starts, reads, KeptRead, Linked, as_start, as_read, as_call, Same, ReadersCalls, Refused, RefusedUntilStart, joined_bytes, last_registers, given_input, read_input, AllRead, GivenRest, LeavesRegisters, LibraryWrite, KeptWrite, given_letters, card_by, LibraryReadsBack}

-- 1. Registers: accepted just if they are those of a printer within its bounds

ours_read : (p : Printer) → Ours p → printer_in (registers_of p) ≡ p
ours_read p o = registers-read (plain o.typed o.accepted)

ours_accepted : (p : Printer) → Ours p → accepted_in (registers_of p) ≡ true
ours_accepted p o = registers-accepted (plain o.typed o.accepted) ∙ fact_accepted p o.accepted

pub library_accepts : (m : List ℕ) → length m ≡ register_count
    → (accepted_in m ≡ true) ↔ (Ours (printer_in m) × (m ≡ registers_of (printer_in m)))
library_accepts m long = (
  λ a. (record { typed = printer-typed m long; accepted = accepted-printer m a }, accepted-registers m a),
  λ h. ap accepted_in h.1 ∙ ours_accepted (printer_in m) h.0,
)

-- 2. Calls

-- a reading call on accepted registers
module _ (c : LibraryRead) (a : accepted_in c.state ≡ true) (h : KeptRead c) where
  same-run : run_in c.state c.input c.allowance (length c.out)
      ≡ call_of (printer_in c.state) c.input c.allowance (length c.out)
  unfolding run_in
  same-run = rw a

  same : Same (reads c)
  unfolding left_in
  same = (h.answer ∙ rw same-run, accepted-registers c.state a, h.state ∙ simp (a, same-run), h.counts ∙ rw same-run)

  keeps-promise : ReadingPromise (as_read c)
  keeps-promise =
      read_promise_lem (printer_in c.state) c.input c.allowance c.out _ c.after refl (h.output ∙ rw same-run)

  left-ours : Bytes c.input → Ours (printer_in c.state) → Ours (as_read c).left
  left-ours b o =
      let q = printer_in c.state in
      let v = call_of q c.input c.allowance (length c.out) in
      subst Ours (sym (call_steps q c.input c.allowance (length c.out)).state)
      (steps_ours q (take v.read c.input) (bytes_take v.read c.input b) o)

on_registers : (p : Printer) (m : List ℕ) → Ours p → m ≡ registers_of p → (l : List LibraryCall) → Linked m l → ReadersCalls p l
on_registers p m o e [] h = record { calls = tt; same = tt }
on_registers p m o e (starts c ∷ l) h =
    let r = on_registers (start_of (settings_in c.given)).printer c.left (start_ours (settings_in c.given)) h.0.state l h.1 in
    record { calls = (start_promise _ _ refl, r.calls); same = ((h.0.answer, h.0.state), r.same) }
on_registers p m o e (reads c ∷ l) h =
    let f : c.state ≡ registers_of p = h.0.0 ∙ e in
    let a : accepted_in c.state ≡ true = ap accepted_in f ∙ ours_accepted p o in
    let i : printer_in c.state ≡ p = ap printer_in f ∙ ours_read p o in
    let k = h.0.2 in
    let s = same c a k in
    let r = on_registers (as_read c).left c.left (left-ours c a k h.0.1 (subst Ours (sym i) o)) s.2 l h.1 in
    record { calls = ((i, h.0.1, keeps-promise c a k), r.calls); same = (s, r.same) }

-- from a start on, whatever the registers and the printer before
from_start : (before : Printer) (m : List ℕ) (c : LibraryStart) (l : List LibraryCall) → Linked m (starts c ∷ l)
    → ReadersCalls before (starts c ∷ l)
from_start before m c l h =
    let q = (start_of (settings_in c.given)).printer in
    let r = on_registers q (registers_of q) (start_ours (settings_in c.given)) refl (starts c ∷ l) h in
    record { calls = r.calls; same = r.same }

-- a reading call on registers that are not accepted is refused
pub library_refuses : (c : LibraryRead) → KeptRead c → accepted_in c.state ≡ false → Refused c
unfolding run_in left_in encoded_all
library_refuses c h a =
    record { number = h.answer ∙ rw a; left = h.state ∙ rw a; counted = h.counts ∙ rw a; after = h.output ∙ rw a }

refused_until : (m : List ℕ) → accepted_in m ≡ false → (l : List LibraryCall) → Linked m l → RefusedUntilStart l
refused_until m a [] h = tt
refused_until m a (starts c ∷ l) h = λ before. from_start before m c l h
refused_until m a (reads c ∷ l) h =
    let b : accepted_in c.state ≡ false = ap accepted_in h.0.0 ∙ a in
    let r = library_refuses c h.0.2 b in
    (r, refused_until c.left (ap accepted_in r.left ∙ b) l h.1)

-- any list of the library's calls, on any registers, is a list of the reader's calls on the printer that they are read as, with
-- the same answers, counts and registers; on registers that are not accepted it is so from the first start on
pub library_calls : (m : List ℕ) → length m ≡ register_count → (l : List LibraryCall) → Linked m l
    → (accepted_in m ≡ true → ReadersCalls (printer_in m) l) × (accepted_in m ≡ false → RefusedUntilStart l)
library_calls m long l h = (
  λ a. let k = (library_accepts m long).0 a in on_registers (printer_in m) m k.0 k.1 l h,
  λ a. refused_until m a l h,
)

-- 3. Demand 3

same_bytes : (l : List LibraryCall) → Each Same l → joined_bytes l ≡ joined (map as_call l)
unfolding joined_bytes joined
same_bytes [] h = refl
same_bytes (starts c ∷ l) h = same_bytes l h.1
same_bytes (reads c ∷ l) h = rw (h.0.3, same_bytes l h.1)

-- of any list that begins with a start; the bytes that it wrote are those that demand 3 speaks of
pub library_demand3 : (before : Printer) (m : List ℕ) (c : LibraryStart) (l : List LibraryCall) → Linked m (starts c ∷ l)
    → Demand3 before (map as_call (starts c ∷ l)) × (joined_bytes (starts c ∷ l) ≡ joined (map as_call (starts c ∷ l)))
library_demand3 before m c l h =
    let r = from_start before m c l h in
    (demand3 before (as_start c) (map as_call l) r.calls, same_bytes (starts c ∷ l) r.same)

-- 4. Demand 2, cutting: reading calls on accepted registers, each on those that the one before left

-- answer 0 is that the input is used up
of_0 : (a : Answer) → number_of a ≡ 0 → a ≡ Answer.InputUsed
of_0 Answer.InputUsed e = refl
of_0 Answer.AllowanceUsed e = absurd (omega arith)
of_0 Answer.OutputFull e = absurd (omega arith)
of_0 Answer.SettingsRefused e = absurd (omega arith)
of_0 Answer.StateRefused e = absurd (omega arith)

-- they are the reader's
record AsReadings (p : Printer) (m : List ℕ) (l : List LibraryRead) : Type 0 where
  readings : Readings p (map as_read l)
  last : last_registers m l ≡ registers_of (last_state p (map as_read l))
  output : joined_bytes (map reads l) ≡ joined_output (map as_read l)
  read : read_input l ≡ bytes_read (map as_read l)
  given : given_input l ≡ joined_input (map as_read l)
  ended : AllRead l → ReadToEnd (map as_read l)
  rest : (input : List ℕ) → GivenRest input l → Resumed input (map as_read l)

as_readings : (p : Printer) (m : List ℕ) (l : List LibraryRead) → m ≡ registers_of p → ReadersCalls p (map reads l) → AsReadings p m l
unfolding last_registers last_state joined_bytes joined_output read_input bytes_read given_input joined_input
as_readings p m [] e h =
    record {
      readings = tt;
      last = e;
      output = refl;
      read = refl;
      given = refl;
      ended = λ k. k;
      rest = λ input k. k;
    }
as_readings p m (c ∷ l) e h =
    let s = h.same.0 in
    let r = as_readings (as_read c).left c.left l s.2 (record { calls = h.calls.1; same = h.same.1 }) in
    record {
      readings = ((h.calls.0.0, h.calls.0.2), r.readings);
      last = r.last;
      output = rw (s.3, r.output);
      read = rw (s.3, r.read);
      given = rw r.given;
      ended = λ k. (of_0 _ (sym s.0 ∙ k.0), r.ended k.1);
      rest = λ input k. (k.0, r.rest _ (rw s.3 at k.1));
    }

module _ (m : List ℕ) (long : length m ≡ register_count) (a : accepted_in m ≡ true) (l : List LibraryRead)
    (h : Linked m (map reads l)) where
  as-readers : AsReadings (printer_in m) m l
  as-readers = as_readings (printer_in m) m l (accepted-registers m a) ((library_calls m long (map reads l) h).0 a)

  leaves : (bytes : List ℕ) → Leaves (printer_in m) (map as_read l) bytes → LeavesRegisters m l bytes
  leaves bytes k =
      record { registers = as-readers.last ∙ ap registers_of k.state; output = as-readers.output ∙ k.output }

  -- they leave what the rules leave over the bytes that they read, wherever each of them stops
  pub library-stopped-anywhere : LeavesRegisters m l (read_input l)
  library-stopped-anywhere =
      leaves _ (rw as-readers.read (stopped_anywhere (printer_in m) (map as_read l) as-readers.readings))

  -- resumed after answers 1 and 2, each with the unread rest, they leave what the rules leave over the whole input
  pub library-resumed : (input : List ℕ) → GivenRest input l → LeavesRegisters m l input
  library-resumed input k =
      leaves _ (resumed (printer_in m) input (map as_read l) as-readers.readings (as-readers.rest input k))

  -- pieces each read to their end leave what the rules leave over the whole input
  pub library-pieces : AllRead l → LeavesRegisters m l (given_input l)
  library-pieces k =
      leaves _ (rw as-readers.given (pieces (printer_in m) (map as_read l) as-readers.readings (as-readers.ended k)))

-- so two ways to cut an input agree: calls that read the same bytes leave the same registers and the same records
pub library_cutting : (m : List ℕ) → length m ≡ register_count → accepted_in m ≡ true → (l k : List LibraryRead)
    → Linked m (map reads l) → Linked m (map reads k) → read_input l ≡ read_input k
    → (last_registers m l ≡ last_registers m k) × (joined_bytes (map reads l) ≡ joined_bytes (map reads k))
library_cutting m long a l k g h e =
    let x = library-stopped-anywhere m long a l g in
    let y = library-stopped-anywhere m long a k h in
    (cc (x.registers, y.registers, e), cc (x.output, y.output, e))

-- and a call with allowance and room enough does read to its end
pub library_reads_to_end : (c : LibraryRead) → KeptRead c → accepted_in c.state ≡ true
    → length c.input ≤ c.allowance → room_for_byte * length c.input ≤ length c.out → c.number ≡ 0
library_reads_to_end c h a b r =
    (same c a h).0
    ∙ ap number_of (reads_to_end (as_read c) (keeps-promise c a h) (fact_accepted _ (accepted-printer c.state a)) b r)

-- 5. What the library writes, it reads back

-- the bytes counted are those written
card-written : (w : LibraryWrite) → KeptWrite w → card_by w ≡ written_of w.letters (length w.out)
card-written w h = rw (h.count, h.output) (take-append_seam (written_of w.letters (length w.out)) (drop (length (written_of w.letters (length w.out))) w.out))

same_calls : (l : List LibraryRead) → map as_call (map reads l) ≡ map read (map as_read l)
same_calls [] = refl
same_calls (c ∷ l) = ap (λ (k : List Call). read (as_read c) ∷ k) (same_calls l)

-- a card that the library wrote, read by the library's calls from a start at full width, automatic line feed off, at 300 or 203 dots, wherever
-- each of them stops, prints exactly its letters at exactly their places
pub library_reads_back : (r : Resolution) (w : LibraryWrite) → KeptWrite w → w.number ≡ 0
    → (before : Printer) (m : List ℕ) (c : LibraryStart) (l : List LibraryRead)
    → settings_in c.given ≡ start_on r → Linked m (starts c ∷ map reads l) → read_input l ≡ card_by w
    → LibraryReadsBack r (given_letters w) before c l
unfolding joined_bytes laid
library_reads_back r w k z before m c l s h q =
    let p = (start_of (settings_in c.given)).printer in
    let o = start_ours (settings_in c.given) in
    let a = as_readings p c.left l h.0.state (on_registers p c.left o h.0.state (map reads l) h.1) in
    let f : answer_of w.letters (length w.out) ≡ Ok tt = written-zero _ (sym k.answer ∙ z) in
    let b =
    calls_read_back r w.letters (length w.out) before (as_start c) (map as_read l) f s (start_promise _ _ refl) a.readings
    (sym a.read ∙ q ∙ card-written w k) in
    record {
      places = rw (same_calls l) b.places;
      texts = rw a.output b.texts;
      nothing_else = rw a.output b.nothing_else;
      waiting = ap (λ (x : List ℕ). get_or x kind_at 0) a.last ∙ ap (λ (x : Waiting). (pending_of x).kind) b.waiting;
    }
