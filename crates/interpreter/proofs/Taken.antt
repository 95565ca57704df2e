-- What a turn takes: one byte, or bytes that follow each other.
use Prim.Native.Nat.{ℕ, ◌+◌, ◌*◌, ◌-◌, ◌≤◌, ◌<◌}
use mathlib.Core.Path.{◌≡◌, refl, sym, ap, ◌∙◌}
use mathlib.Core.Bool.{Bool, true, false}
use mathlib.Core.List.{List, [], ◌∷◌, append-nil}
use native.Mathlib.Omega.{arith}
use lib.Dec.{eqb}
use lib.ListN.{length, take, get_or, set}
use lib.Seq.{length-take-le}
use Rattle.printer.specs.Units.{per_inch_across, units}
use Rattle.printer.specs.Records.{record_size, room_for_byte, letter_record, image_record}
use Rattle.printer.specs.Settings.{advance_of}
use Rattle.printer.specs.Performing.{column_part}
use Rattle.printer.specs.Steps.{state_after, records_over}
use Rattle.printer.specs.Widths.{base, double_width, advance, image_step, image_bytes}
use Rattle.printer.specs.declared.commands.ImageMode.{ImageMode}
use Rattle.printer.specs.declared.commands.Waiting.{Waiting}
use Rattle.printer.specs.declared.records.Record.{Record}
use Rattle.printer.specs.declared.settings.Pitch.{Pitch}
use Rattle.printer.specs.declared.settings.Width.{Width}
use Rattle.printer.specs.declared.state.Printer.{Printer}
use Rattle.printer.specs.declared.units.Resolution.{Resolution}
use Rattle.printer.specs.declared.units.Units.{Units}
use Rattle.printer.proofs.Choices.{pick_elim}
use Rattle.printer.proofs.Modes.{bytes_within, step_within}
use Rattle.measures.specs.Exact.{packed}
use Rattle.measures.specs.declared.rounding.Exact.{Exact}
use Rattle.registers.specs.declared.pending.Pending.{Pending}
use Rattle.registers.specs.Register.{across_at, right_at, dots_across_at, upper_prints_at, advance_at, advance_dots_at}
use Rattle.registers.specs.Groups.{is_set, resolution_of}
use Rattle.registers.specs.Layout.{laid, words}
use Rattle.registers.proofs.Laws.{resolution_back}
use Rattle.registers.proofs.Reading.{advance-held, advance-dots-held, upper-held}
use Rattle.interpreter.specs.Output.{Written}
use Rattle.interpreter.specs.Series.{Formed, OnPaper, placed_all, Reached, columns_wait}
use Rattle.interpreter.specs.Taking.{Current, Fits, Letters, RoomForEach, StepPromise, after_byte, TurnPromise, Ready, Turns}
use Rattle.interpreter.proofs.Places.{across-held, right-held, across-stored}
use Rattle.interpreter.proofs.SeriesLoop.{one_each, done-within, step_known}
use Rattle.interpreter.proofs.Following.{AreRead, placed_like, some_columns, letters_read, columns_read}

pub byte-taken : {p : Printer} {v : Pending} {input out m after : List ℕ} {w : Waiting} {k : List Record} {written : ℕ}
    → 0 < length input → room_for_byte ≤ length out → StepPromise p v (get_or input 0 0) w k m → Written out 0 k written after
    → TurnPromise p v input out (after_byte w written) m after
unfolding RoomForEach state_after records_over
byte-taken {input = []} h k s o = absurd (omega arith)
byte-taken {input = b ∷ l} h k s o =
    record { within = omega arith; enough = (k, tt); same = s.same; waits = s.waits; wrote = rw (append-nil, s.wrote) o }

-- so a turn of one byte, whatever is waited for
pub byte-turned : {w next : Waiting} {m input out m' after : List ℕ} {k : List Record} {written : ℕ} → Ready w m input out
    → ((p : Printer) (v : Pending) → Current p v w m → StepPromise p v (get_or input 0 0) next k m') → Written out 0 k written after
    → Turns w m input out (after_byte next written) m' after
byte-turned r f o = record { promise = λ p v h. byte-taken r.some-input r.some-room (f p v h) o; some = omega arith }

-- Bytes that follow each other

-- bytes that the rules read so
bytes_taken : {p q : Printer} {v : Pending} {input out m after : List ℕ} {n : ℕ} {w : Waiting} {k : List Record}
    → n ≤ length input → AreRead p (take n input) (length out) q k → m ≡ words v q → w ≡ q.waiting
    → Written out 0 k (record_size * n) after
    → TurnPromise p v input out (record { waiting = w; read = n; written = record_size * n }) m after
bytes_taken h r e f g =
    record { within = h; enough = r.enough; same = rw r.state e; waits = rw r.state f; wrote = rw r.records g }

base-positive : (p : Pitch) (reduced proportional : Bool) → 0 < base p reduced proportional
base-positive Pitch.Cpi10 false false = omega arith
base-positive Pitch.Cpi12 false false = omega arith
base-positive Pitch.Cpi15 false false = omega arith
base-positive Pitch.Cpi10 true false = omega arith
base-positive Pitch.Cpi12 true false = omega arith
base-positive Pitch.Cpi15 true false = omega arith
base-positive p false true = omega arith
base-positive p true true = omega arith

advance-positive : (w : Width) → 0 < advance w
advance-positive w =
    pick_elim (λ (n : ℕ). 0 < n * (base w.pitch w.reduced w.proportional + 20 * w.spacing)) (double_width w)
    (λ _. omega (arith, base-positive w.pitch w.reduced w.proportional))
    (λ _. omega (arith, base-positive w.pitch w.reduced w.proportional))

-- the numbers that the bytes of a column bear are bytes
pub image_fonts : (m : ImageMode) → column_part m 1 + image_bytes m ≤ 256
image_fonts m =
    pick_elim (λ (n : ℕ). n + image_bytes m ≤ 256) (eqb (image_bytes m) 1)
    (λ _. omega (arith, bytes_within m)) (λ _. omega (arith, bytes_within m))

dots_few : (r : Resolution) → per_inch_across r ≤ 300
dots_few Resolution.Dots300 = omega arith
dots_few Resolution.Dots203 = omega arith

module _ {p : Printer} {v : Pending} {w : Waiting} {m : List ℕ} (h : Current p v w m) where
  dots-held : get_or m dots_across_at 0 ≡ per_inch_across p.settings.setup.resolution
  unfolding laid
  dots-held = rw h.held.same

  -- what makes the code safe; the dots of an inch across are those of the resolution that they are read as
  pub on-paper : OnPaper m
  on-paper =
      let s = h.accepted.settings in
      let e = right-held h.held in
      record {
        place = rw (across-held h.held, e) h.accepted.place.1.0;
        margin = omega arith;
        few-dots = rw dots-held (dots_few p.settings.setup.resolution);
        inch = rw dots-held (ap per_inch_across (resolution_back p.settings.setup.resolution));
      }

  -- the advance in dots is the exact step of the advance
  pub advance-walks : get_or m advance_dots_at 0 ≡ packed (get_or m advance_at 0 * get_or m dots_across_at 0)
  advance-walks = rw (advance-dots-held h.held, advance-held h.held, dots-held)

  pub advances : 0 < get_or m advance_at 0
  advances = rw (advance-held h.held) (advance-positive p.settings.width)

  -- image data is of some columns, and from a byte that a column has
  pub image-bounds : {mode : ImageMode} {k columns : ℕ} → w ≡ Waiting.ImageData mode k columns
      → (1 ≤ columns) × ((1 ≤ k) × (k ≤ image_bytes mode))
  image-bounds {mode} {k} {columns} e =
      let z : p.waiting ≡ Waiting.ImageData mode k columns = sym h.waits ∙ e in
      let b = rw z at h.accepted.waiting in
      (b.0, (b.1.1.0, b.1.1.1.0))

  -- the series of letters and of image bytes

  pub letters-formed : {r : Record} → r ≡ letter_record p.settings p.place 0 (advance_of p.settings)
      → Formed m (record { first = r; step = record { 0 = get_or m advance_at 0 }; by = record { 0 = get_or m advance_dots_at 0 }; bytes = 1; part = 1 })
  letters-formed e =
      record {
        moves = advances;
        begins = (omega arith, omega arith);
        fonts = rw e (omega (arith, h.typed.font));
        exact = advance-walks;
      }

  pub image-formed : {mode : ImageMode} {k columns bytes : ℕ} {r : Record} {step : Units} {by : Exact} → w ≡ Waiting.ImageData mode k columns
      → r ≡ image_record p.settings p.place 0 (column_part mode 1) (image_step mode) → step ≡ units (image_step mode) → bytes ≡ image_bytes mode
      → by ≡ record { 0 = packed (step.0 * per_inch_across (resolution_of (get_or m dots_across_at 0))) }
      → Formed m (record { first = r; step = step; by = by; bytes = bytes; part = k })
  image-formed {mode} {step = step} e i f b s =
      record {
        moves = rw f (step_within mode).0;
        begins = rw b (image-bounds e).1;
        fonts = rw (i, b) (image_fonts mode);
        exact = step_known step.0 s on-paper.inch;
      }

  module _ {input out after : List ℕ} {n : ℕ} {r : Record} where
    pub letters-taken : {columns done part : ℕ} → w ≡ Waiting.Nothing
        → Fits n 1 1 columns (length input) (length out) (get_or m across_at 0) (get_or m advance_at 0) (get_or m right_at 0)
        → Letters (is_set (get_or m upper_prints_at 0)) (take n input) → Reached done part n 1 1
        → r ≡ letter_record p.settings p.place 0 (advance_of p.settings)
        → Written out 0 (placed_all r (get_or m dots_across_at 0) (get_or m across_at 0) (get_or m advance_at 0) 1 1 (take n input)) (record_size * n) after
        → TurnPromise p v input out (record { waiting = Waiting.Nothing; read = n; written = record_size * n })
        (set m across_at (get_or m across_at 0 + done * get_or m advance_at 0)) after
    letters-taken e f l s k g =
        let c : length (take n input) ≡ n = length-take-le n input f.some-input in
        let d = (one_each s refl refl).0 in
        let on = rw d at (done-within s f.line (omega arith, omega arith)) in
        let a = letters_read (take n input) p (length out) (sym h.waits ∙ e) (rw (upper-held h.held) at l)
        (rw c (rw (across-held h.held, advance-held h.held, right-held h.held) at on)) (rw c f.some-room) in
        rw (d, across-held h.held, advance-held h.held)
        (bytes_taken f.some-input (rw c at a) (across-stored h.held _) (sym e ∙ h.waits)
        (rw (k, dots-held, across-held h.held, advance-held h.held, placed_like) at g))

    pub columns-taken : {mode : ImageMode} {k columns done part : ℕ} → w ≡ Waiting.ImageData mode k columns
        → Fits n (image_bytes mode) k columns (length input) (length out) (get_or m across_at 0) (image_step mode) (get_or m right_at 0)
        → Reached done part n (image_bytes mode) k → r ≡ image_record p.settings p.place 0 (column_part mode 1) (image_step mode)
        → Written out 0 (placed_all r (get_or m dots_across_at 0) (get_or m across_at 0) (image_step mode) (image_bytes mode) k (take n input)) (record_size * n) after
        → TurnPromise p v input out (record { waiting = columns_wait mode part (columns - done); read = n; written = record_size * n })
        (set m across_at (get_or m across_at 0 + done * image_step mode)) after
    unfolding laid
    columns-taken {mode} {k} {columns} {done} {part} e f s i g =
        let c : length (take n input) ≡ n = length-take-le n input f.some-input in
        let z : p.waiting ≡ Waiting.ImageData mode k columns = sym h.waits ∙ e in
        let b = image-bounds e in
        let a = columns_read (take n input) p mode k columns done part (length out) (z ∙ sym (some_columns mode k columns b.0))
        (record {
          from = b.1;
          line =
              record {
                whole = f.line.whole;
                enough = rw c f.line.enough;
                in-margin = rw (across-held h.held, right-held h.held) at f.line.in-margin;
              };
          few = f.some_columns;
        })
        (rw c s) (rw c f.some-room) in
        rw (across-held h.held)
        (bytes_taken f.some-input a (across-stored h.held _) refl
        (rw (i, dots-held, across-held h.held, placed_like) at g))
