-- The loop of a reading call: what is left to do, after what is done, is the whole.
use Prim.Native.Nat.{ℕ, ◌+◌, ◌*◌, ◌-◌, ◌≤◌, ◌<◌, min}
use mathlib.Core.Path.{◌≡◌, sym, ap, ◌∙◌}
use mathlib.Core.List.{List, [], ◌∷◌, ◌++◌, append_assoc, append-nil}
use native.Mathlib.Nat.{zero-add, add-zero, add_assoc, sub-zero}
use native.Mathlib.Numerals.{add-one}
use native.Mathlib.Omega.{arith}
use lib.ListN.{length, take, drop, get_or, length-take, length-drop, drop_of_length-le, take-append-drop}
use lib.Seq.{drop-cons, drop-drop, take-take, length-take-le}
use borrow.Author.Tests.{lt-ltb}
use borrow.Rule.Slice.PartMut.{mid_of, put_mid}
use Rattle.printer.specs.Tools.{Bytes}
use Rattle.printer.specs.Records.{record_size, room_for_byte}
use Rattle.printer.specs.Steps.{state_after, records_over}
use Rattle.printer.specs.Calls.{Run, stopped, run_of, call_of}
use Rattle.printer.specs.declared.answers.Answer.{Answer}
use Rattle.printer.specs.declared.commands.Waiting.{Waiting}
use Rattle.printer.specs.declared.records.Record.{Record}
use Rattle.printer.specs.declared.state.Printer.{Printer}
use Rattle.printer.proofs.Choices.{bytes_take, bytes_rest}
use Rattle.printer.proofs.Accepting.{fact_accepted}
use Rattle.printer.proofs.KeepingSteps.{steps_ours}
use Rattle.registers.specs.declared.pending.Pending.{Pending}
use Rattle.interpreter.specs.declared.turn.Turned.{Turned}
use Rattle.interpreter.specs.Output.{Written}
use Rattle.interpreter.specs.Taking.{Current, RoomForEach, TurnPromise, RunPromise}
use Rattle.interpreter.proofs.Writes.{none, more, lent, same_length}
use Rattle.interpreter.proofs.Turns.{ours_current}
use Rattle.interpreter.proofs.Runs.{after, reads, taken-fits, run_taken}

-- the invariant: of a call's input, allowance, output and state, and of the registers, the output and what is waited for now,
-- the bytes read, the allowance left and the bytes written
pub record Going (input : List ℕ) (allowance : ℕ) (out₀ : List ℕ) (p₀ : Printer) (v : Pending)
    (m out : List ℕ) (w : Waiting) (at left written : ℕ) : Type 0 where
  pub printer : Printer
  pub current : Current printer v w m
  pub records : List Record
  pub within : at ≤ length input
  pub fits : written ≤ length out₀
  pub wrote : Written out₀ 0 records written out
  pub whole :
      call_of p₀ input allowance (length out₀)
      ≡ after at records (run_of printer (drop at input) left (length out₀ - written))

pub begins : (input : List ℕ) (allowance : ℕ) (out : List ℕ) {p : Printer} {v : Pending} {w : Waiting} {m : List ℕ}
    → Current p v w m → Going input allowance out p v m out w 0 allowance 0
unfolding call_of
begins input allowance out {p} c =
    record {
      printer = p;
      current = c;
      records = [];
      within = omega arith;
      fits = omega arith;
      wrote = none out 0;
      whole = rw (fact_accepted p c.accepted) (simp (zero-add, sub-zero));
    }

no_allowance : (p : Printer) (b : ℕ) (l : List ℕ) (left room : ℕ) → left ≡ 0 → run_of p (b ∷ l) left room ≡ stopped Answer.AllowanceUsed p
unfolding run_of
no_allowance p b l left room e = rw e

after_part : (n m : ℕ) (l k : List Record) (v : Run) → after n l (after m k v) ≡ after (n + m) (l ++ k) v
after_part n m l k v = rw (add_assoc, append_assoc)

module _
    {input : List ℕ} {allowance : ℕ} {out₀ : List ℕ} {p₀ : Printer} {v : Pending} {m out : List ℕ} {w : Waiting} {at left written : ℕ}
    (g : Going input allowance out₀ p₀ v m out w at left written) where
  abbrev P : Printer
  P = g.printer

  abbrev Keeps : Answer → Type 0
  Keeps a = RunPromise p₀ v input allowance out₀ (record { waiting = w; report = record { answer = a; read = at; written = written } }) m out

  abbrev Room : ℕ
  Room = length out₀ - written

  -- the call ends here
  ends : (a : Answer) → run_of P (drop at input) left Room ≡ stopped a P → Keeps a
  ends a e =
      let n : written ≡ record_size * length g.records = omega (arith, g.wrote.place) in
      let z : call_of p₀ input allowance (length out₀) ≡ record { answer = a; printer = P; read = at; records = g.records } =
      g.whole ∙ rw e (simp (add-zero, append-nil)) in
      record { report = rw (z, n); current = rw z g.current; output = rw (z, ← n) g.wrote.bytes }

  pub input-used : at ≡ length input → Keeps Answer.InputUsed
  unfolding run_of
  input-used e = ends Answer.InputUsed (rw (drop_of_length-le input {i = at} (omega arith)))

  pub long : length out ≡ length out₀
  long = same_length g.wrote g.fits

  module _ (some-input : at ≡ length input → ⊥) where
    abbrev Byte : ℕ
    Byte = get_or input at 0

    next : drop at input ≡ Byte ∷ drop (at + 1) input
    next = let h : at < length input = omega arith in rw (drop-cons input at 0, add-one)

    pub allowance-used : left ≡ 0 → Keeps Answer.AllowanceUsed
    allowance-used e = ends Answer.AllowanceUsed (rw next (no_allowance P Byte _ left Room e))

    module _ (some-allowance : left ≡ 0 → ⊥) where
      pub output-full : length out - written < room_for_byte → Keeps Answer.OutputFull
      output-full h =
          let k : Room < room_for_byte = omega (arith, long) in
          ends Answer.OutputFull (rw (next, reads P Byte _ left Room some-allowance, lt-ltb Room room_for_byte k))

  -- what a turn is called with: some input, and some room
  pub part-some : {k : ℕ} → k ≡ min left (length input - at) → (at ≡ length input → ⊥) → (left ≡ 0 → ⊥)
      → 0 < length (take (at + k - at) (drop at input))
  part-some e i a = simp (length-take, length-drop) (omega (arith, g.within))

  pub room-some : room_for_byte ≤ length out - written → room_for_byte ≤ length (mid_of written (length out - written) out)
  room-some h = simp (length-take, length-drop) (omega (arith, long))

  -- a turn more, after a part of so much input as the allowance covers
  module _ {k : ℕ} (e : k ≡ min left (length input - at)) {back : Turned} {m' zs : List ℕ}
      (t : TurnPromise P v (take (at + k - at) (drop at input)) (mid_of written (length out - written) out) back m' zs) where
    abbrev Read : List ℕ
    Read = take back.read (drop at input)

    limits : back.read ≤ min (at + k - at) (length input - at)
    limits = simp (length-take, length-drop) at t.within

    pub within-allowance : back.read ≤ left
    within-allowance = omega (arith, limits)

    pub within-input : at + back.read ≤ length input
    within-input = omega (arith, limits, g.within)

    same_part : take back.read (take (at + k - at) (drop at input)) ≡ Read
    same_part = take-take back.read (at + k - at) (drop at input) (omega (arith, limits))

    room-of-part : length (mid_of written (length out - written) out) ≡ Room
    room-of-part = simp (length-take, length-drop) (omega (arith, long))

    enough : RoomForEach P Read Room
    enough = rw (← same_part, ← room-of-part) t.enough

    -- the run, after the part
    rest : run_of P (drop at input) left Room
        ≡ after back.read (records_over P Read)
        (run_of (state_after P Read) (drop (at + back.read) input) (left - back.read) (Room - record_size * length (records_over P Read)))
    rest =
        let n : length Read ≡ back.read = length-take-le back.read (drop at input) (simp length-drop (omega (arith, limits))) in
        ap (λ (l : List ℕ). run_of P l left Room) (sym (rw drop-drop at (take-append-drop back.read (drop at input))))
        ∙ rw n at (run_taken P Read (drop (at + back.read) input) left Room (omega (arith, n, within-allowance)) enough)

    wrote-part : Written out written (records_over P Read) (written + back.written) (put_mid written (length out - written) out zs)
    wrote-part = lent (omega (arith, g.fits, long)) (rw same_part at t.wrote)

    pub within-output : written + back.written ≤ length out₀
    within-output = omega (arith, wrote-part.place, g.fits, taken-fits P Read Room enough)

    pub goes_on : Bytes input
        → Going input allowance out₀ p₀ v m' (put_mid written (length out - written) out zs) back.waiting
        (at + back.read) (left - back.read) (written + back.written)
    goes_on b =
        let bytes : Bytes Read = bytes_take back.read _ (bytes_rest (take at input) (drop at input) (rw take-append-drop b)) in
        let o = steps_ours P Read bytes (record { typed = g.current.typed; accepted = g.current.accepted }) in
        let r : Room - record_size * length (records_over P Read) ≡ length out₀ - (written + back.written) = omega (arith, wrote-part.place) in
        record {
          printer = state_after P Read;
          current = ours_current o (rw same_part at t.same) (rw same_part at t.waits);
          records = g.records ++ records_over P Read;
          within = within-input;
          fits = within-output;
          wrote = more g.wrote g.fits wrote-part;
          whole = g.whole ∙ rw (rest, r) (after_part at back.read g.records (records_over P Read) _);
        }
