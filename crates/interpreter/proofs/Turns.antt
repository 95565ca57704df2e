-- Turns that follow each other are one turn.
use Prim.Native.Nat.{ℕ, ◌+◌, ◌*◌, ◌-◌, ◌≤◌}
use mathlib.Core.Path.{◌≡◌}
use mathlib.Core.List.{List, [], ◌∷◌, ◌++◌}
use native.Mathlib.Nat.{sub-zero}
use native.Mathlib.Omega.{arith}
use lib.ListN.{length, take, drop, length-append, length-take, length-drop}
use lib.Seq.{take_all, take-add}
use borrow.Rule.Slice.PartMut.{mid_of, put_mid}
use Rattle.printer.specs.Tools.{Bytes}
use Rattle.printer.specs.Records.{record_size}
use Rattle.printer.specs.Steps.{step_of, step_records, state_after, records_over}
use Rattle.printer.specs.declared.commands.Waiting.{Waiting}
use Rattle.printer.specs.declared.state.Printer.{Printer}
use Rattle.printer.proofs.Choices.{bytes_take}
use Rattle.printer.proofs.Cuts.{state-append, records-append}
use Rattle.printer.proofs.KeepingSteps.{Ours, steps_ours}
use Rattle.registers.specs.declared.pending.Pending.{Pending}
use Rattle.registers.specs.Layout.{words}
use Rattle.registers.proofs.State.{small}
use Rattle.interpreter.specs.declared.turn.Turned.{Turned}
use Rattle.interpreter.specs.Taking.{Current, RoomForEach, TurnPromise}
use Rattle.interpreter.proofs.Runs.{taken-fits}
use Rattle.interpreter.proofs.Writes.{none, more, lent, same_length}

-- a state of ours, in registers
pub ours_current : {p : Printer} {v : Pending} {w : Waiting} {m : List ℕ} → Ours p → m ≡ words v p → w ≡ p.waiting → Current p v w m
ours_current o e f =
    record {
      held = record { same = e; small = small o.typed o.accepted; long = o.typed.stops };
      waits = f;
      typed = o.typed;
      accepted = o.accepted;
    }

pub no-turn : {p : Printer} {v : Pending} {w : Waiting} {m : List ℕ} (input out : List ℕ) → Current p v w m
    → TurnPromise p v input out (record { waiting = w; read = 0; written = 0 }) m out
unfolding RoomForEach state_after records_over
no-turn input out h =
    record { within = omega arith; enough = tt; same = h.held.same; waits = h.waits; wrote = none out 0 }

room-more : (p : Printer) (l k : List ℕ) (room : ℕ) → RoomForEach p l room
    → RoomForEach (state_after p l) k (room - record_size * length (records_over p l)) → RoomForEach p (l ++ k) room
unfolding RoomForEach state_after records_over
room-more p [] k room h e = rw sub-zero at e
room-more p (b ∷ l) k room h e =
    let c = step_records p b in
    let r = records_over (step_of p b) l in
    let s : room - record_size * length (c ++ r) ≡ room - record_size * length c - record_size * length r = omega (arith, length-append c r) in
    (h.0, room-more (step_of p b) l k _ h.1 (rw s at e))

module _ {p : Printer} {v : Pending} {input out m out₁ : List ℕ} {a : Turned} (t : TurnPromise p v input out a m out₁) where
  abbrev L : List ℕ
  L = take a.read input

  abbrev Q : Printer
  Q = state_after p L

  pub fits : a.written ≤ length out
  fits = omega (arith, t.wrote.place, taken-fits p L (length out) t.enough)

  pub long : length out₁ ≡ length out
  long = same_length t.wrote fits

  pub current-after : {w : Waiting} {m₀ : List ℕ} → Bytes input → Current p v w m₀ → Current Q v a.waiting m
  current-after b h =
      ours_current (steps_ours p L (bytes_take a.read input b) (record { typed = h.typed; accepted = h.accepted })) t.same t.waits

  module _ {b : Turned} {m₁ zs : List ℕ}
      (u : TurnPromise Q v (take (length input - a.read) (drop a.read input)) (mid_of a.written (length out₁ - a.written) out₁) b m₁ zs) where
    rest : take (length input - a.read) (drop a.read input) ≡ drop a.read input
    rest = take_all (length input - a.read) (drop a.read input) (simp length-drop (omega arith))

    abbrev K : List ℕ
    K = take b.read (drop a.read input)

    whole : take (a.read + b.read) input ≡ L ++ K
    whole = take-add a.read b.read input

    pub within-input : a.read + b.read ≤ length input
    within-input = let n = rw (rest, length-drop) at u.within in omega (arith, n, t.within)

    room : length (mid_of a.written (length out₁ - a.written) out₁) ≡ length out - record_size * length (records_over p L)
    room = simp (length-take, length-drop) (omega (arith, long, fits, t.wrote.place))

    enough : RoomForEach p (L ++ K) (length out)
    enough = room-more p L K (length out) t.enough (rw (rest, room) at u.enough)

    pub joined :
        TurnPromise p v input out
        (record { waiting = b.waiting; read = a.read + b.read; written = a.written + b.written }) m₁
        (put_mid a.written (length out₁ - a.written) out₁ zs)
    joined =
        record {
          within = within-input;
          enough = rw whole enough;
          same = rw (whole, state-append) (rw rest at u.same);
          waits = rw (whole, state-append) (rw rest at u.waits);
          wrote = rw (whole, records-append) (more t.wrote fits (lent (omega (arith, fits, long)) (rw rest at u.wrote)));
        }
