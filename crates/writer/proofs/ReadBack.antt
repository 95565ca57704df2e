-- A card read back: feeds, moves across, a letter, and all letters.
use Prim.Native.Nat.{ℕ, zero, suc, ◌+◌, ◌-◌, ◌*◌, ◌/◌, ◌%◌, ◌≤◌, ◌<◌}
use mathlib.Core.Path.{◌≡◌, refl, ap, ◌∙◌}
use mathlib.Core.Bool.{Bool, true, false}
use mathlib.Core.List.{List, [], ◌∷◌, ◌++◌, map, map-append}
use native.Mathlib.Omega.{arith}
use Rattle.std.specs.Prelude.{Ok}
use lib.Dec.{eqb}
use borrow.Author.Tests.{eqb-true}
use Rattle.printer.specs.Tools.{pick}
use Rattle.printer.specs.Records.{feed_record, new_top}
use Rattle.printer.specs.Performing.{done, perform_all, records_all}
use Rattle.printer.specs.Steps.{state_after, records_over}
use Rattle.printer.specs.Calls.{start_of}
use Rattle.printer.specs.InForce.{Kept, kept_by}
use Rattle.printer.specs.Reckoning.{event, printed}
use Rattle.printer.specs.declared.commands.Command.{Command}
use Rattle.printer.specs.declared.commands.Silent.{Silent}
use Rattle.printer.specs.declared.commands.Waiting.{Waiting}
use Rattle.printer.specs.declared.state.Printer.{Printer}
use Rattle.printer.specs.declared.units.Resolution.{Resolution}
use Rattle.printer.proofs.Cuts.{state-append, records-append}
use Rattle.whole.specs.Whole.{Does, beginning, reset}
use Rattle.writer.specs.Card.{letter_at, count_of, down_before, answer_of, written_of, feed, whole_feeds, feeds, move_bytes, place_bytes, letter_bytes, letters_bytes, card}
use Rattle.writer.specs.Reading.{letters_of, start_on, at_power_on, texts_in, text_of, placed_letter, ReadsBack}
use Rattle.writer.specs.Refusals.{AllGood}
use Rattle.writer.specs.declared.Letter.{Letter}
use Rattle.writer.proofs.GoodLetters.{Good, last-good, before-good}
use Rattle.writer.proofs.Refusals.{good-when}
use Rattle.writer.proofs.Runs.{happens, Run, events_append, nothing, then}
use Rattle.writer.proofs.Steps.{standing, reckoning, by-escape, feeds_down, sets_across, moves_across, places_letter}

module _ (r : Resolution) (k : Kept) where
  -- from a place to a place, with nothing printed
  abbrev Goes : (x y a m : ℕ) → List ℕ → (x' y' a' m' : ℕ) → Type 0
  Goes x y a m bytes x' y' a' m' = Run (standing r x y) (reckoning k a m y) bytes (standing r x' y') (reckoning k a' m' y') [] []

  -- Feeds

  one-more : (x y a m n s : ℕ) → Goes x y a m (whole_feeds n) x (y + 5100 * n) a m → y + 5100 * suc n ≡ y + 5100 * n + 20 * s → y + 5100 * n + 20 * s < 39600
      → Goes x y a m (whole_feeds n ++ feed s) x (y + 5100 * suc n) a m
  one-more x y a m n s v e h = rw e (then (whole_feeds n) (feed s) v (feeds_down r k x (y + 5100 * n) a m s h))

  whole-feeds : (x y a m n : ℕ) → y + 5100 * n < 39600 → Goes x y a m (whole_feeds n) x (y + 5100 * n) a m
  unfolding whole_feeds
  whole-feeds x y a m zero h = let e : y + 5100 * 0 ≡ y = omega arith in rw e (nothing (standing r x y) (reckoning k a m y))
  whole-feeds x y a m (suc n) h = one-more x y a m n _ (whole-feeds x y a m n (omega arith)) (omega arith) (omega arith)

  rest-feed : (x y a m n : ℕ) → y + 20 * n < 39600 → Goes x y a m (pick (eqb n 0) [] (feed n)) x (y + 20 * n) a m
  rest-feed x y a m n h = go (eqb n 0) refl
    where
      go : (t : Bool) → eqb n 0 ≡ t → Goes x y a m (pick t [] (feed n)) x (y + 20 * n) a m
      go true e =
          let z = eqb-true n 0 e in
          let f : y + 20 * n ≡ y = omega arith in
          rw f (nothing (standing r x y) (reckoning k a m y))
      go false e = feeds_down r k x y a m n h

  all-feeds : (x y a m n : ℕ) → y + 20 * n < 39600 → Goes x y a m (feeds n) x (y + 20 * n) a m
  all-feeds x y a m n h =
      let e : y + 20 * n ≡ y + 5100 * (n / 255) + 20 * (n % 255) = omega arith in
      rw e
      (then (whole_feeds (n / 255)) _ (whole-feeds x y a m (n / 255) (omega arith)) (rest-feed x (y + 5100 * (n / 255)) a m (n % 255) (omega arith)))

  -- Across

  rest-move : (x y a n : ℕ) → n < 0x8000 → x + 20 * n ≤ 28800 → Goes x y a 0 (pick (eqb n 0) [] (move_bytes 0x5C n)) (x + 20 * n) y a (0 + 20 * n)
  rest-move x y a n b h = go (eqb n 0) refl
    where
      go : (t : Bool) → eqb n 0 ≡ t → Goes x y a 0 (pick t [] (move_bytes 0x5C n)) (x + 20 * n) y a (0 + 20 * n)
      go true e =
          let z = eqb-true n 0 e in
          let f : x + 20 * n ≡ x = omega arith in
          let g : 0 + 20 * n ≡ 0 = omega arith in
          rw (f, g) (nothing (standing r x y) (reckoning k a 0 y))
      go false e = moves_across r k x y a 0 n b h

  sixtieths-and-rest : (x y a m z n : ℕ) → z ≤ 28800 → n < 0x8000 → 60 * (z / 60) + 20 * n ≡ z → 0 + 20 * n ≡ z % 60
      → Goes x y a m (move_bytes 0x24 (z / 60) ++ pick (eqb n 0) [] (move_bytes 0x5C n)) z y (60 * (z / 60)) (z % 60)
  sixtieths-and-rest x y a m z n h b f g =
      let v = then (move_bytes 0x24 (z / 60)) (pick (eqb n 0) [] (move_bytes 0x5C n)) (sets_across r k x y a m (z / 60) (omega arith))
      (rest-move (60 * (z / 60)) y (60 * (z / 60)) n b (omega (arith, f))) in
      rw (f, g) at v

  to-place : (x y a m z : ℕ) → z % 20 ≡ 0 → z ≤ 28800 → Goes x y a m (place_bytes z) z y (60 * (z / 60)) (z % 60)
  to-place x y a m z e h = sixtieths-and-rest x y a m z _ h (omega arith) (omega arith) (omega arith)

  -- A letter

  a_letter : (x before a m : ℕ) (z : Letter) → before % 20 ≡ 0 → Good before z
      → Run (standing r x before) (reckoning k a m before) (letter_bytes before z) (standing r (z.across + 360) z.down)
      (reckoning k (60 * (z.across / 60)) (z.across % 60 + 360) z.down) (text_of r z ∷ []) (placed_letter z ∷ [])
  unfolding letter_bytes
  a_letter x before a m z e g =
      let n = (z.down - before) / 20 in
      let d : before + 20 * n ≡ z.down = omega (arith, g.down_step, g.further) in
      let fed = rw d at (all-feeds x before a m n (omega (arith, g.down_most))) in
      let placed = to-place x z.down a m z.across g.across_step (omega (arith, g.across_most)) in
      let printed = places_letter r k z (60 * (z.across / 60)) (z.across % 60) g.least g.most (omega (arith, g.across_most)) (omega arith) in
      then (feeds n) (place_bytes z.across ++ (z.byte ∷ [])) fed (then (place_bytes z.across) (z.byte ∷ []) placed printed)

-- All letters

-- the place across after the first n, as what set it last and the moves since
abbrev across_after : List ℕ → ℕ → ℕ
across_after l zero = 0
across_after l (suc i) = (letter_at l i).across + 360

abbrev set_after : List ℕ → ℕ → ℕ
set_after l zero = 0
set_after l (suc i) = 60 * ((letter_at l i).across / 60)

abbrev moved_after : List ℕ → ℕ → ℕ
moved_after l zero = 0
moved_after l (suc i) = (letter_at l i).across % 60 + 360

down_step_lem : (l : List ℕ) (n : ℕ) → AllGood l n → down_before l n % 20 ≡ 0
down_step_lem l zero g = refl
down_step_lem l (suc n) g = (last-good l n g).down_step

all_letters : (r : Resolution) (k : Kept) (l : List ℕ) (n : ℕ) → AllGood l n
    → Run (standing r 0 0) (reckoning k 0 0 0) (letters_bytes l n) (standing r (across_after l n) (down_before l n))
    (reckoning k (set_after l n) (moved_after l n) (down_before l n)) (map (text_of r) (letters_of l n)) (map placed_letter (letters_of l n))
unfolding letters_bytes letters_of
all_letters r k l zero g = nothing (standing r 0 0) (reckoning k 0 0 0)
all_letters r k l (suc n) g =
    let h = before-good l n g in
    rw (map-append (text_of r) (letters_of l n) (letter_at l n ∷ []), map-append placed_letter (letters_of l n) (letter_at l n ∷ []))
    (then (letters_bytes l n) (letter_bytes (down_before l n) (letter_at l n)) (all_letters r k l n h)
    (a_letter r k (across_after l n) (down_before l n) (set_after l n) (moved_after l n) (letter_at l n) (down_step_lem l n h) (last-good l n g)))

-- ESC @ before them

resets : List ℕ
resets = 0x1B ∷ 0x40 ∷ []

module _ (r : Resolution) where
  reset-does : Does (standing r 0 0) resets (beginning 0x1B) Command.Reset Waiting.Nothing
  unfolding resets
  reset-does = by-escape r 0 0 Command.Reset reset

  reset-state : state_after (standing r 0 0) resets ≡ standing r 0 0
  unfolding perform_all
  reset-state = reset-does.state

  reset-records : records_over (standing r 0 0) resets ≡ feed_record r 0 new_top ∷ []
  unfolding records_all
  reset-records = reset-does.records

  -- the card's records, and what happens, after ESC @'s
  card-records : (l : List ℕ) (n : ℕ) → records_over (standing r 0 0) (card l n) ≡ feed_record r 0 new_top ∷ records_over (standing r 0 0) (letters_bytes l n)
  unfolding resets
  card-records l n =
      records-append (standing r 0 0) resets (letters_bytes l n)
      ∙ rw (reset-records, reset-state)

  card-happens : (l : List ℕ) (n : ℕ)
      → happens (standing r 0 0) (card l n)
      ≡ event (done (Command.Silent (Silent.Escape 0x1B)) 0) ∷ event (done Command.Reset 0) ∷ happens (standing r 0 0) (letters_bytes l n)
  unfolding resets
  card-happens l n =
      ap (map event) (events_append (standing r 0 0) resets (letters_bytes l n)) ∙ rw (reset-does.events, reset-state)

powered : (r : Resolution) → at_power_on r ≡ standing r 0 0
unfolding start_of
powered Resolution.Dots300 = refl
powered Resolution.Dots203 = refl

first_letters : (r : Resolution) (l : List ℕ) (n : ℕ) → AllGood l n → ReadsBack r (letters_of l n) (card l n)
unfolding resets texts_in printed
first_letters r l n g =
    let v = all_letters r (kept_by (start_on r)) l n g in
    record {
      places = rw (powered r, card-happens r l n) v.places;
      texts = rw (powered r, card-records r l n) v.texts;
      nothing_else = rw (powered r, card-records r l n) ((refl, refl), v.nothing_else);
      waiting =
          rw (powered r)
          (ap (λ (p : Printer). p.waiting)
          (state-append (standing r 0 0) resets (letters_bytes l n) ∙ ap (λ (p : Printer). state_after p (letters_bytes l n)) (reset-state r) ∙ v.state));
    }

pub card_read : (r : Resolution) (l : List ℕ) (room : ℕ) → answer_of l room ≡ Ok tt
    → ReadsBack r (letters_of l (count_of l)) (written_of l room)
card_read r l room h = rw h (first_letters r l (count_of l) (good-when l room h))
