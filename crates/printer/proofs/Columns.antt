-- Image columns: a byte of one, and then all of them, by the bytes that are left.
use Prim.Native.Nat.{ℕ, suc, ◌+◌, ◌-◌, ◌≤◌, ◌<◌}
use native.Mathlib.Nat.{add-zero}
use native.Mathlib.Omega.{arith}
use mathlib.Core.Path.{◌≡◌, refl, ap, ◌∙◌}
use mathlib.Core.Bool.{false}
use mathlib.Core.List.{List, [], ◌∷◌, map}
use lib.ListN.{length}
use borrow.Author.Tests.{le-leb, lt-leb, eq-eqb, ne_eqb}
use Rattle.printer.specs.Tools.{lookup, coded}
use Rattle.printer.specs.Widths.{image_step, image_bytes}
use Rattle.printer.specs.Settings.{right_of, across_of, down_of, at}
use Rattle.printer.specs.Escapes.{modes, looks, parameters, choices}
use Rattle.printer.specs.Codes.{seconds, plain_escapes, argument_escapes, other_escapes}
use Rattle.printer.specs.Framing.{image_wait, after_image_byte, escapes, frame}
use Rattle.printer.specs.Records.{image_record, passed_record}
use Rattle.printer.specs.Performing.{column_move, column_part, perform_all, records_all, with_parts}
use Rattle.printer.specs.Deciding.{attempt}
use Rattle.printer.specs.Steps.{wait_for, step_events, step_of, step_records, state_after, records_over}
use Rattle.printer.specs.Spelling.{StandsFor, among, listed_image_modes}
use Rattle.printer.specs.Advanced.{OnlyWrites}
use Rattle.printer.specs.Columns.{parts_from, column_further, Column}
use Rattle.printer.specs.Types.{ImageMode, Printer, Waiting}
use Rattle.printer.proofs.Modes.{bytes_within}
use Rattle.printer.proofs.Listed.{every_listed}
use Rattle.printer.proofs.Advanced.{after-escape}

-- at the k-th byte of a column
abbrev in_column : Printer → ImageMode → (k n : ℕ) → Printer
in_column p m k n = wait_for p (Waiting.ImageData m k n)

abbrev Fits : Printer → ImageMode → Type 0
Fits p m = across_of p.place + image_step m ≤ right_of p.settings

abbrev Overflows : Printer → ImageMode → Type 0
Overflows p m = right_of p.settings < across_of p.place + image_step m

abbrev moved : Printer → (across : ℕ) → Waiting → Printer
moved p n w = wait_for (with_parts p p.settings (at (across_of p.place + n) (down_of p.place)) p.stops) w

module _ (p : Printer) (m : ImageMode) (k n b : ℕ) where
  byte-placed : Fits p m
      → (step_of (in_column p m k n) b ≡ moved p (column_move m k) (after_image_byte m k n))
      × (step_records (in_column p m k n) b ≡ image_record p.settings p.place b (column_part m k) (image_step m) ∷ [])
  unfolding step_of step_records step_events frame attempt perform_all records_all
  byte-placed h = let e = le-leb _ _ h in (rw e, rw e)

  byte-passed : Overflows p m
      → (step_of (in_column p m k n) b ≡ wait_for p (after_image_byte m k n)) × (step_records (in_column p m k n) b ≡ passed_record b 4 ∷ [])
  unfolding step_of step_records step_events frame attempt perform_all records_all
  byte-passed h = let e = lt-leb _ _ h in (rw e, rw e)

-- the bytes of a column from its k-th on: where more follow, the place stays

last_byte_lem : (m : ImageMode) (k : ℕ) → 1 + k ≡ suc (image_bytes m) → k ≡ image_bytes m
last_byte_lem m k e = omega arith

not_last : (m : ImageMode) (k r : ℕ) → suc (suc r) + k ≡ suc (image_bytes m) → k ≡ image_bytes m → ⊥
not_last m k r e h = omega arith

-- a move by nothing
stays : (p : Printer) (w : Waiting) → moved p 0 w ≡ wait_for p w
stays p w = rw (add-zero (across_of p.place))

-- a byte with others of its column to come
byte-stays : (p : Printer) (m : ImageMode) (k n b : ℕ) → Fits p m → (k ≡ image_bytes m → ⊥) → step_of (in_column p m k n) b ≡ in_column p m (suc k) n
byte-stays p m k n b h d =
    let f = ne_eqb k (image_bytes m) d in
    (byte-placed p m k n b h).0 ∙ rw f (stays p (Waiting.ImageData m (suc k) n))

module _ (m : ImageMode) (n : ℕ) where
  placed-from : (p : Printer) (k : ℕ) (l : List ℕ) → Fits p m → 0 < length l → length l + k ≡ suc (image_bytes m)
      → (state_after (in_column p m k n) l ≡ column_further p m n) × (records_over (in_column p m k n) l ≡ parts_from p m k l)
  unfolding state_after records_over parts_from
  placed-from p k [] h q e = absurd (omega arith)
  placed-from p k (b ∷ []) h q e =
      let v = byte-placed p m k n b h in
      let f = eq-eqb k (image_bytes m) (last_byte_lem m k e) in
      (v.0 ∙ rw f refl, rw v.1)
  placed-from p k (b ∷ c ∷ l) h q e =
      let v = byte-stays p m k n b h (not_last m k (length l) e) in
      let w = placed-from p (suc k) (c ∷ l) h (omega arith) (omega (arith, e)) in
      (rw v w.0, rw (v, (byte-placed p m k n b h).1, w.1))

  passed-from : (p : Printer) (k : ℕ) (l : List ℕ) → Overflows p m → 0 < length l → length l + k ≡ suc (image_bytes m)
      → (state_after (in_column p m k n) l ≡ wait_for p (image_wait m (n - 1))) × (records_over (in_column p m k n) l ≡ map (λ b. passed_record b 4) l)
  unfolding state_after records_over
  passed-from p k [] h q e = absurd (omega arith)
  passed-from p k (b ∷ []) h q e =
      let v = byte-passed p m k n b h in
      let f = eq-eqb k (image_bytes m) (last_byte_lem m k e) in
      (v.0 ∙ rw f refl, rw v.1)
  passed-from p k (b ∷ c ∷ l) h q e =
      let v = byte-passed p m k n b h in
      let f = ne_eqb k (image_bytes m) (not_last m k (length l) e) in
      let w = passed-from p (suc k) (c ∷ l) h (omega arith) (omega (arith, e)) in
      (rw (v.0, f) w.0, rw (v.0, v.1, f, w.1))

-- a printer that waits for the first byte of a column is that printer, so waiting
pub column-from : (p : Printer) (m : ImageMode) (n : ℕ) (l : List ℕ) → p.waiting ≡ Waiting.ImageData m 1 n → length l ≡ image_bytes m → Column p m n l
column-from p m n l w e =
    let q : p ≡ in_column p m 1 n = ap (wait_for p) w in
    let some = (bytes_within m).0 in
    record {
      placed = λ h. let v = placed-from m n p 1 l h (omega (arith, e, some)) (omega (arith, e)) in
          (ap (λ (s : Printer). state_after s l) q ∙ v.0, ap (λ (s : Printer). records_over s l) q ∙ v.1);
      passed = λ h. let v = passed-from m n p 1 l h (omega (arith, e, some)) (omega (arith, e)) in
          (ap (λ (s : Printer). state_after s l) q ∙ v.0, ap (λ (s : Printer). records_over s l) q ∙ v.1);
    }

-- ESC * with a mode that is not listed, where nothing is waited for
pub other_mode_lem : (p : Printer) (b n : ℕ) → p.waiting ≡ Waiting.Nothing → StandsFor p.settings.upperprints b 0x1B → among listed_image_modes n ≡ false
    → OnlyWrites p (b ∷ 0x2A ∷ n ∷ []) (passed_record 0x2A 2 ∷ [])
unfolding state_after records_over step_of step_records step_events perform_all records_all frame lookup coded escapes seconds plain_escapes argument_escapes other_escapes modes looks parameters choices
other_mode_lem p b n w s k = let e = every_listed.no_image_mode n k in after-escape p b w s _ _ (rw e) (rw e)
