-- Two moves by ESC \ and one by their sum.
use Prim.Native.Nat.{ℕ, ◌+◌, ◌-◌, ◌*◌, ◌≤◌, ◌<◌}
use mathlib.Core.Path.{◌≡◌, refl, sym, ap, ◌∙◌}
use mathlib.Core.Bool.{Bool, true, false}
use mathlib.Core.List.{List, [], ◌∷◌, ◌++◌}
use native.Mathlib.Omega.{arith}
use lib.Dec.{ltb}
use borrow.Author.Tests.{ltb-true, ltb-false, lt-ltb, le-ltb, leb-true, le-leb}
use Rattle.printer.specs.Tools.{pick, ◌up_to◌, holds}
use Rattle.printer.specs.Settings.{left_of, right_of, relative_step, across_of, down_of, at}
use Rattle.printer.specs.Records.{low, high}
use Rattle.printer.specs.Performing.{done, passed, relative_move, with_parts, perform_all, records_all}
use Rattle.printer.specs.Deciding.{attempt, decide}
use Rattle.printer.specs.Steps.{wait_for, state_after, records_over}
use Rattle.printer.specs.Bounds.{accepted}
use Rattle.printer.specs.Spelling.{StandsFor}
use Rattle.printer.specs.declared.commands.Command.{Command}
use Rattle.printer.specs.declared.commands.Move.{Move}
use Rattle.printer.specs.declared.commands.Two.{Two}
use Rattle.printer.specs.declared.commands.Waiting.{Waiting}
use Rattle.printer.specs.declared.records.Record.{Record}
use Rattle.printer.specs.declared.state.Printer.{Printer}
use Rattle.printer.proofs.Choices.{both_left}
use Rattle.printer.proofs.Accepting.{accepted_fact}
use Rattle.printer.proofs.Cuts.{state-append, records-append}
use Rattle.whole.specs.Whole.{Does, beginning, two}
use Rattle.whole.proofs.Whole.{escape}
use Rattle.orders.specs.Orders.{Same, move_by, sum16}

-- Numbers: a place x between left and right, and moves by n steps of 16 bits, signed

abbrev pub step_units : (draft : Bool) → ℕ
step_units draft = pick draft 30 20

-- the move stays between left and right
abbrev pub stays_in : (left right x n step : ℕ) → Bool
stays_in left right x n step = holds (pick (ltb n 0x8000) ((x + n * step up_to right) ∷ []) ((left + (0x10000 - n) * step up_to x) ∷ []))

-- forth or back
data Goes (left right x n step y : ℕ) : Type 0 where
  forth : n < 0x8000 → x + n * step ≤ right → y ≡ x + n * step → Goes left right x n step y
  back : 0x8000 ≤ n → left + (0x10000 - n) * step ≤ x → y + (0x10000 - n) * step ≡ x → Goes left right x n step y

goes : (left right x n step : ℕ) → stays_in left right x n step ≡ true → Goes left right x n step (relative_move x n step)
goes left right x n step h = go (ltb n 0x8000) refl h
  where
    go : (t : Bool) → ltb n 0x8000 ≡ t
        → holds (pick t ((x + n * step up_to right) ∷ []) ((left + (0x10000 - n) * step up_to x) ∷ [])) ≡ true
        → Goes left right x n step (pick t (x + n * step) (x - (0x10000 - n) * step))
    go true e k = forth (ltb-true n 0x8000 e) (leb-true _ _ (both_left _ _ k)) refl
    go false e k = let f = leb-true _ _ (both_left _ _ k) in back (ltb-false n 0x8000 e) f (omega (arith, f))

came : (left right x n step y : ℕ) → Goes left right x n step y → (stays_in left right x n step ≡ true) × (relative_move x n step ≡ y)
came left right x n step y (forth h k e) = (rw (lt-ltb n 0x8000 h, le-leb _ _ k), rw (lt-ltb n 0x8000 h) (sym e))
came left right x n step y (back h k e) = (rw (le-ltb n 0x8000 h, le-leb _ _ k), rw (le-ltb n 0x8000 h) (omega (arith, e)))

-- where left and right are no further apart than on the widest paper, two moves are one by their sum
module _ (left right x y z n m : ℕ) (h : left ≤ x) (k : x ≤ right) (w : right ≤ 28800) (a : n < 65536) (b : m < 65536) where
  both-forth : (draft : Bool) → n < 0x8000 → m < 0x8000 → y ≡ x + n * step_units draft → z ≡ y + m * step_units draft
      → z ≤ right → Goes left right x (sum16 n m) (step_units draft) z
  both-forth true c d e f g = forth (omega arith) (omega arith) (omega arith)
  both-forth false c d e f g = forth (omega arith) (omega arith) (omega arith)

  both-back : (draft : Bool) → 0x8000 ≤ n → 0x8000 ≤ m → y + (0x10000 - n) * step_units draft ≡ x → z + (0x10000 - m) * step_units draft ≡ y
      → left ≤ z → Goes left right x (sum16 n m) (step_units draft) z
  both-back true c d e f g = back (omega arith) (omega arith) (omega arith)
  both-back false c d e f g = back (omega arith) (omega arith) (omega arith)

  forth-back : (draft : Bool) (t : Bool) → ltb (n + m) 65536 ≡ t → n < 0x8000 → 0x8000 ≤ m → y ≡ x + n * step_units draft
      → z + (0x10000 - m) * step_units draft ≡ y → y ≤ right → left ≤ z → Goes left right x (sum16 n m) (step_units draft) z
  forth-back true true t c d e f g i = let q = ltb-true (n + m) 65536 t in back (omega arith) (omega arith) (omega arith)
  forth-back true false t c d e f g i = let q = ltb-false (n + m) 65536 t in forth (omega arith) (omega arith) (omega arith)
  forth-back false true t c d e f g i = let q = ltb-true (n + m) 65536 t in back (omega arith) (omega arith) (omega arith)
  forth-back false false t c d e f g i = let q = ltb-false (n + m) 65536 t in forth (omega arith) (omega arith) (omega arith)

  back-forth : (draft : Bool) (t : Bool) → ltb (n + m) 65536 ≡ t → 0x8000 ≤ n → m < 0x8000 → y + (0x10000 - n) * step_units draft ≡ x
      → z ≡ y + m * step_units draft → left ≤ y → z ≤ right → Goes left right x (sum16 n m) (step_units draft) z
  back-forth true true t c d e f g i = let q = ltb-true (n + m) 65536 t in back (omega arith) (omega arith) (omega arith)
  back-forth true false t c d e f g i = let q = ltb-false (n + m) 65536 t in forth (omega arith) (omega arith) (omega arith)
  back-forth false true t c d e f g i = let q = ltb-true (n + m) 65536 t in back (omega arith) (omega arith) (omega arith)
  back-forth false false t c d e f g i = let q = ltb-false (n + m) 65536 t in forth (omega arith) (omega arith) (omega arith)

  sums : (draft : Bool) → Goes left right x n (step_units draft) y → Goes left right y m (step_units draft) z
      → Goes left right x (sum16 n m) (step_units draft) z
  sums draft (forth c d e) (forth f g i) = both-forth draft c f e i (rw i g)
  sums draft (back c d e) (back f g i) = both-back draft c f e i (omega (arith, g, i))
  sums draft (forth c d e) (back f g i) = forth-back draft _ refl c f e i (rw e d) (omega (arith, g, i))
  sums draft (back c d e) (forth f g i) = back-forth draft _ refl c f e i (omega (arith, d, e)) (rw i g)

-- Moves as sent

-- one that stays between the margins, and the printer moved
abbrev stays : Printer → ℕ → Bool
stays p n = stays_in (left_of p.settings) (right_of p.settings) (across_of p.place) n (relative_step p.settings)

abbrev moved : Printer → ℕ → Printer
moved p n =
    with_parts p p.settings (at (relative_move (across_of p.place) n (relative_step p.settings)) (down_of p.place)) p.stops

abbrev relative : ℕ → Command
relative n = Command.Move Move.Relative (low n) (high n)

two_bytes : (n : ℕ) → n < 65536 → low n + 256 * high n ≡ n
two_bytes n h = omega arith

-- it is done just if it stays
decided : (p : Printer) (n : ℕ) → n < 65536 → decide p (relative n) ≡ pick (stays p n) (done (relative n) 0) (passed (relative n) 3) ∷ []
unfolding attempt
decided p n h = rw (two_bytes n h)

performed : (p : Printer) (n : ℕ) → n < 65536
    → (perform_all p (done (relative n) 0 ∷ []) ≡ moved p n) × (records_all p (done (relative n) 0 ∷ []) ≡ [])
unfolding perform_all records_all
performed p n h = (rw (two_bytes n h), refl)

was_done : (p : Printer) (n : ℕ) (t : Bool) → records_all p (pick t (done (relative n) 0) (passed (relative n) 3) ∷ []) ≡ [] → t ≡ true
unfolding records_all
was_done p n true z = refl
was_done p n false z = cc

-- lists that are empty together
nothing-before : (x y : List Record) → x ++ y ≡ [] → x ≡ []
nothing-before [] y e = refl
nothing-before (r ∷ x) y e = cc

nothing-after : (x y : List Record) → x ++ y ≡ [] → y ≡ []
nothing-after [] y e = e
nothing-after (r ∷ x) y e = cc

module _ (p : Printer) (a n : ℕ) (w : p.waiting ≡ Waiting.Nothing) (e : StandsFor p.settings.upperprints a 0x1B) (h : n < 65536) where
  does : Does p (move_by a n) (beginning a) (relative n) Waiting.Nothing
  does = escape p a (relative n) Waiting.Nothing w e (two (Two.Move Move.Relative) (low n) (high n))

  leaves : stays p n ≡ true → (state_after p (move_by a n) ≡ moved p n) × (records_over p (move_by a n) ≡ [])
  leaves k = (
    does.state ∙ rw (decided p n h, k, (performed p n h).0) (ap (wait_for (moved p n)) (sym w)),
    does.records ∙ rw (decided p n h, k) (performed p n h).1,
  )

  -- and where it writes nothing it was done
  stayed : records_over p (move_by a n) ≡ [] → stays p n ≡ true
  stayed k = was_done p n (stays p n) (sym (does.records ∙ ap (records_all p) (decided p n h)) ∙ k)

-- two of them

pub one_move : (p : Printer) (a b n m : ℕ) → p.waiting ≡ Waiting.Nothing → StandsFor p.settings.upperprints a 0x1B
    → StandsFor p.settings.upperprints b 0x1B → accepted p ≡ true → n < 65536 → m < 65536
    → records_over p (move_by a n ++ move_by b m) ≡ [] → Same p (move_by a n ++ move_by b m) (move_by a (sum16 n m))
one_move p a b n m w e f v h k r =
    let s = p.settings in
    let o = accepted_fact p v in
    let q = records-append p (move_by a n) (move_by b m) in
    let first = stayed p a n w e h (nothing-before _ _ (sym q ∙ r)) in
    let one = leaves p a n w e h first in
    let later : records_over (state_after p (move_by a n)) (move_by b m) ≡ [] = nothing-after (records_over p (move_by a n)) _ (sym q ∙ r) in
    let second = stayed (moved p n) b m w f k (rw one.0 at later) in
    let then = leaves (moved p n) b m w f k second in
    let g = sums (left_of s) (right_of s) (across_of p.place) (across_of (moved p n).place) (across_of (moved (moved p n) m).place) n m
    o.place.0 o.place.1.0 (omega arith) h k s.draft
    (goes (left_of s) (right_of s) (across_of p.place) n (relative_step s) first)
    (goes (left_of s) (right_of s) (across_of (moved p n).place) m (relative_step s) second) in
    let c = came (left_of s) (right_of s) (across_of p.place) (sum16 n m) (relative_step s) _ g in
    let sum = leaves p a (sum16 n m) w e (omega arith) c.0 in
    record {
      state =
          state-append p (move_by a n) (move_by b m) ∙ ap (λ (q : Printer). state_after q (move_by b m)) one.0 ∙ then.0
          ∙ ap (λ (x : ℕ). with_parts p s (at x (down_of p.place)) p.stops) (sym c.1) ∙ sym sum.0;
      silent = r;
      other_silent = sum.1;
    }
