-- Letters, and image bytes, that follow each other on a line: what the rules do with them.
use Prim.Native.Nat.{ℕ, suc, ◌+◌, ◌*◌, ◌-◌, ◌≤◌, ◌<◌}
use mathlib.Core.Path.{◌≡◌, refl, sym, ap, ◌∙◌}
use mathlib.Core.Bool.{Bool, true, false}
use mathlib.Core.List.{List, [], ◌∷◌}
use native.Mathlib.Nat.{zero-mul, suc-mul, add-zero, sub-zero}
use native.Mathlib.Omega.{arith}
use lib.Dec.{leb, eqb}
use lib.ListN.{length}
use borrow.Author.Tests.{leb-true, leb-false, le-leb, ne_eqb, eqb-true, eqb-false}
use Rattle.printer.specs.Tools.{pick, either, within}
use Rattle.printer.specs.Framing.{is_letter, frame, image_wait, after_image_byte}
use Rattle.printer.specs.Records.{record_size, room_for_byte, letter_record, image_record}
use Rattle.printer.specs.Settings.{right_of, across_of, advance_of}
use Rattle.printer.specs.Performing.{column_move, column_part, perform_all, records_all}
use Rattle.printer.specs.Deciding.{attempt, letter_events}
use Rattle.printer.specs.Steps.{wait_for, step_events, step_of, step_records, state_after, records_over}
use Rattle.printer.specs.Units.{per_inch_across, rounded, rest_word}
use Rattle.printer.specs.Widths.{image_step, image_bytes}
use Rattle.printer.specs.declared.commands.ImageMode.{ImageMode}
use Rattle.printer.specs.declared.commands.Waiting.{Waiting}
use Rattle.printer.specs.declared.records.Record.{Record}
use Rattle.printer.specs.declared.state.Printer.{Printer}
use Rattle.printer.proofs.CodeLaws.{both_true}
use Rattle.interpreter.specs.Leaving.{moved_to}
use Rattle.framing.specs.Letters.{prints_from}
use Rattle.interpreter.specs.Series.{of_part, like_at, placed_all, AllPrint, Reached, OnLine, columns_wait}
use Rattle.interpreter.specs.Taking.{Letters, RoomForEach}
use Rattle.interpreter.proofs.SeriesLoop.{by_test, some_times, one_less, none_done, after-column}
use Rattle.interpreter.proofs.Runs.{state-cons, records-cons, room_cons}

-- what the rules do with some bytes: room before each, the state after them and their records
pub record AreRead (p : Printer) (l : List ℕ) (room : ℕ) (q : Printer) (k : List Record) : Type 0 where
  pub enough : RoomForEach p l room
  pub state : state_after p l ≡ q
  pub records : records_over p l ≡ k

pub none_read : (p : Printer) (room : ℕ) → AreRead p [] room p []
unfolding RoomForEach state_after records_over
none_read p room = record { enough = tt; state = refl; records = refl }

-- a byte that writes one record, before others
pub more_read : {p q : Printer} {b room : ℕ} {l : List ℕ} {r : Record} {k : List Record} (next : Printer)
    → room_for_byte ≤ room → step_of p b ≡ next → step_records p b ≡ r ∷ [] → AreRead next l (room - record_size) q k
    → AreRead p (b ∷ l) room q (r ∷ k)
more_read {p} {q} {b} {room} {l} next h e f v =
    record {
      enough = room_cons p b l room h (rw (e, f) v.enough);
      state = rw (state-cons p b l, e) v.state;
      records = rw (records-cons p b l, e, f, v.records);
    }

-- a record's column and byte make no difference to the records placed like it
pub placed_like : (v : Record) (d x step bytes k : ℕ) (l : List ℕ) → placed_all v d x step bytes k l ≡ placed_all (like_at v 0 0 0) d x step bytes k l
unfolding placed_all
placed_like v d x step bytes k [] = refl
placed_like v d x step bytes k (b ∷ l) =
    ap (λ (r : List Record). like_at (of_part v k) (rounded d x) (rest_word d x) b ∷ r)
    (placed_like v d (pick (eqb k bytes) (x + step) x) step bytes (pick (eqb k bytes) 1 (suc k)) l)

-- Letters

module _ (p : Printer) (b : ℕ) (e : p.waiting ≡ Waiting.Nothing) (h : is_letter p.settings.upperprints b ≡ true)
    (f : across_of p.place + advance_of p.settings ≤ right_of p.settings) where
  letter-state : step_of p b ≡ moved_to p (across_of p.place + advance_of p.settings)
  unfolding step_of step_events frame letter_events perform_all
  letter-state = rw (e, h, le-leb _ _ f)

  letter-records : step_records p b ≡ letter_record p.settings p.place b (advance_of p.settings) ∷ []
  unfolding step_records step_events frame letter_events records_all
  letter-records = rw (e, h, le-leb _ _ f)

-- TX but for its column and its byte
abbrev pub letter_like : Printer → Record
letter_like p = like_at (letter_record p.settings p.place 0 (advance_of p.settings)) 0 0 0

pub letters_read : (l : List ℕ) (p : Printer) (room : ℕ) → p.waiting ≡ Waiting.Nothing → Letters p.settings.upperprints l
    → across_of p.place + length l * advance_of p.settings ≤ right_of p.settings → record_size * length l + record_size ≤ room
    → AreRead p l room (moved_to p (across_of p.place + length l * advance_of p.settings))
    (placed_all (letter_like p) (per_inch_across p.settings.setup.resolution) (across_of p.place) (advance_of p.settings) 1 1 l)
unfolding placed_all
letters_read [] p room e h f g = rw (zero-mul, add-zero) (none_read p room)
letters_read (b ∷ l) p room e h f g =
    let w = advance_of p.settings in
    let x = across_of p.place in
    let n : x + suc (length l) * w ≡ x + w + length l * w = omega (arith, suc-mul (length l) w) in
    let k : x + w ≤ right_of p.settings = omega (arith, n) in
    rw (n, add-zero)
    (more_read (moved_to p (x + w)) (omega arith) (letter-state p b e h.0 k) (letter-records p b e h.0 k)
    (letters_read l (moved_to p (x + w)) (room - record_size) e h.1 (omega (arith, n)) (omega arith)))

-- Image bytes

module _ (p : Printer) (m : ImageMode) (k n b : ℕ) (e : p.waiting ≡ Waiting.ImageData m k n)
    (f : across_of p.place + image_step m ≤ right_of p.settings) where
  image-state : step_of p b ≡ wait_for (moved_to p (across_of p.place + column_move m k)) (after_image_byte m k n)
  unfolding step_of step_events frame attempt perform_all
  image-state = rw (e, le-leb _ _ f)

  image-records : step_records p b ≡ image_record p.settings p.place b (column_part m k) (image_step m) ∷ []
  unfolding step_records step_events frame attempt records_all
  image-records = rw (e, le-leb _ _ f)

-- IM of a column's first byte, but for its column and its byte
abbrev pub image_like : Printer → ImageMode → Record
image_like p m = like_at (image_record p.settings p.place 0 (column_part m 1) (image_step m)) 0 0 0

pub some_columns : (m : ImageMode) (k n : ℕ) → 1 ≤ n → columns_wait m k n ≡ Waiting.ImageData m k n
some_columns m k n h = rw (ne_eqb n 0 (λ e. omega arith))

-- the numbers that a column's bytes bear go on by one from the first
part_number : (m : ImageMode) (k : ℕ) → (1 ≤ k) × (k ≤ image_bytes m) → column_part m k ≡ column_part m 1 + (k - 1)
part_number m k h =
    by_test (λ (t : Bool). pick t 0 k ≡ pick t 0 1 + (k - 1)) (eqb (image_bytes m) 1)
    (λ e. omega (arith, eqb-true (image_bytes m) 1 e)) (λ _. omega arith)

-- the state after some bytes, and their records
abbrev columns_done : Printer → ImageMode → (n done part : ℕ) → Printer
columns_done p m n done part = wait_for (moved_to p (across_of p.place + done * image_step m)) (columns_wait m part (n - done))

abbrev columns_placed : Printer → ImageMode → (k : ℕ) → List ℕ → List Record
columns_placed p m k l =
    placed_all (image_like p m) (per_inch_across p.settings.setup.resolution) (across_of p.place) (image_step m) (image_bytes m) k l

-- bytes from the k-th of a column on that are of columns waited for and within the margin
pub record Within (p : Printer) (m : ImageMode) (k n : ℕ) (l : List ℕ) : Type 0 where
  pub from : (1 ≤ k) × (k ≤ image_bytes m)
  pub line : OnLine (length l) (image_bytes m) k (across_of p.place) (image_step m) (right_of p.settings)
  pub few : line.whole ≤ n

pub columns_read : (l : List ℕ) (p : Printer) (m : ImageMode) (k n done part room : ℕ) → p.waiting ≡ columns_wait m k n → Within p m k n l
    → Reached done part (length l) (image_bytes m) k → record_size * length l + record_size ≤ room
    → AreRead p l room (columns_done p m n done part) (columns_placed p m k l)
unfolding placed_all
columns_read [] p m k n done part room e h s g =
    let d : done ≡ 0 = none_done s refl h.from.1 in
    let q : part ≡ k = omega (arith, rw (d, zero-mul) at s.counted) in
    rw (d, q, zero-mul, add-zero, sub-zero, ← e) (none_read p room)
columns_read (b ∷ l) p m k n done part room e h s g =
    let w = image_step m in
    let x = across_of p.place in
    let c = image_bytes m in
    let whole = h.line.whole in
    let some : 0 < whole = some_times whole c (omega (arith, h.line.enough)) in
    let i : whole * w ≡ (whole - 1) * w + w = one_less whole w some in
    let z : p.waiting ≡ Waiting.ImageData m k n = e ∙ some_columns m k n (omega (arith, some, h.few)) in
    let f : x + w ≤ right_of p.settings = omega (arith, h.line.in-margin, i) in
    let r = rw (part_number m k h.from) at (image-records p m k n b z f) in
    by_test
    (λ (t : Bool). eqb k c ≡ t
    → AreRead p (b ∷ l) room (columns_done p m n done part)
    (like_at (of_part (image_like p m) k) (rounded (per_inch_across p.settings.setup.resolution) x) (rest_word (per_inch_across p.settings.setup.resolution) x) b
    ∷ placed_all (image_like p m) (per_inch_across p.settings.setup.resolution) (pick t (x + w) x) w c (pick t 1 (suc k)) l))
    (eqb k c)
    (λ u v.
    let q = after-column s (eqb-true k c u) in
    let a : x + done * w ≡ x + w + (done - 1) * w = omega (arith, one_less done w q.1) in
    let o : n - done ≡ n - 1 - (done - 1) = omega (arith, q.1) in
    let next = wait_for (moved_to p (x + w)) (image_wait m (n - 1)) in
    rw (a, o)
    (more_read next (omega (arith, g)) (rw v at (image-state p m k n b z f)) r
    (columns_read l next m 1 (n - 1) (done - 1) part (room - record_size) refl
    (record {
      from = (omega arith, omega (arith, h.from));
      line = record { whole = whole - 1; enough = omega (arith, h.line.enough, one_less whole c some, eqb-true k c u); in-margin = omega (arith, h.line.in-margin, i) };
      few = omega (arith, h.few);
    })
    q.0 (omega (arith, g)))))
    (λ u v.
    let y = eqb-false k c u in
    let next = wait_for p (Waiting.ImageData m (suc k) n) in
    let stays : step_of p b ≡ next =
    rw v at (image-state p m k n b z f) ∙ ap (λ (j : ℕ). wait_for (moved_to p j) (Waiting.ImageData m (suc k) n)) (add-zero x) in
    more_read next (omega (arith, g)) stays r
    (columns_read l next m (suc k) n done part (room - record_size) (sym (some_columns m (suc k) n (omega (arith, some, h.few))))
    (record {
      from = (omega arith, omega (arith, h.from.1, y));
      line = record { whole = whole; enough = omega (arith, h.line.enough); in-margin = h.line.in-margin };
      few = h.few;
    })
    (record { counted = omega (arith, s.counted); low = s.low; high = s.high }) (omega (arith, g))))
    refl

-- Letters by the first byte above 7Fh that is one

-- a letter by the first byte above 7Fh that is one
upper_test : (b : ℕ) → leb 0x80 b ≡ either (leb 0xA0 b) (within 0x80 0x9F b)
upper_test b = go (leb 0xA0 b) refl
  where
    go : (t : Bool) → leb 0xA0 b ≡ t → leb 0x80 b ≡ either (leb 0xA0 b) (within 0x80 0x9F b)
    go true e = let h : 0x80 ≤ b = omega (arith, leb-true 0xA0 b e) in rw (e, le-leb 0x80 b h)
    go false e = let h : b ≤ 0x9F = omega (arith, leb-false 0xA0 b e) in rw (e, le-leb b 0x9F h) (sym (both_true (leb 0x80 b)))

either_false : (t : Bool) → either t false ≡ t
either_false true = refl
either_false false = refl

pub letter-from : (upper : Bool) (b : ℕ) {from : ℕ} → from ≡ pick upper 0x80 0xA0 → prints_from from b ≡ true → is_letter upper b ≡ true
unfolding is_letter
letter-from true b e h = rw (← upper_test b) (rw e at h)
letter-from false b e h = rw (either_false (leb 0xA0 b)) (rw e at h)

pub letters-from : (upper : Bool) (l : List ℕ) {from : ℕ} → from ≡ pick upper 0x80 0xA0 → AllPrint from l → Letters upper l
letters-from upper [] e h = tt
letters-from upper (b ∷ l) e h = (letter-from upper b e h.0, letters-from upper l e h.1)

-- and one that does not print is no letter
pub no-letter-from : (upper : Bool) (b : ℕ) {from : ℕ} → from ≡ pick upper 0x80 0xA0 → prints_from from b ≡ false
    → is_letter upper b ≡ false
unfolding is_letter
no-letter-from true b e h = rw (← upper_test b) (rw e at h)
no-letter-from false b e h = rw (either_false (leb 0xA0 b)) (rw e at h)
