-- A card is bytes; so calls that read it, wherever each of them stops, write what the rules write.
use Prim.Native.Nat.{ℕ, zero, suc, ◌-◌, ◌/◌, ◌%◌, ◌≤◌}
use mathlib.Core.Path.{◌≡◌, refl, ap, ◌∙◌}
use mathlib.Core.List.{List, [], ◌∷◌, ◌++◌, map, map-append}
use native.Mathlib.Omega.{arith}
use Rattle.std.specs.Prelude.{Ok}
use lib.Dec.{eqb}
use Rattle.printer.specs.Tools.{Bytes}
use Rattle.printer.specs.Decoding.{decoded_all}
use Rattle.printer.specs.Steps.{state_after, records_over, events_over}
use Rattle.printer.specs.Calls.{start_of, StartCall, ReadCall, bytes_of}
use Rattle.printer.specs.Promises.{StartPromise}
use Rattle.printer.specs.Cutting.{Readings, bytes_read, joined_output}
use Rattle.printer.specs.Reckoning.{Occurrence, event, printed}
use Rattle.printer.specs.Demand3.{read, occurrences}
use Rattle.printer.specs.declared.answers.Started.{Started}
use Rattle.printer.specs.declared.settings.StartSettings.{StartSettings}
use Rattle.printer.specs.declared.state.Printer.{Printer}
use Rattle.printer.specs.declared.units.Resolution.{Resolution}
use Rattle.printer.proofs.Choices.{pick_elim, bytes_append}
use Rattle.printer.proofs.Accepting.{fact_accepted}
use Rattle.printer.proofs.CallLists.{start_ours}
use Rattle.printer.proofs.Theorems.{records_decode, stopped_anywhere}
use Rattle.writer.specs.Card.{letter_at, count_of, down_before, answer_of, feed, whole_feeds, feeds, move_bytes, place_bytes, letter_bytes, letters_bytes, written_of}
use Rattle.writer.specs.Reading.{letters_of, start_on, at_power_on, ReadByCalls}
use Rattle.writer.specs.Refusals.{AllGood}
use Rattle.writer.specs.declared.Letter.{Letter}
use Rattle.writer.proofs.GoodLetters.{last-good, before-good}
use Rattle.writer.proofs.Refusals.{good-when}
use Rattle.writer.proofs.Runs.{events_append}
use Rattle.writer.proofs.ReadBack.{card_read}

feed_bytes : (n : ℕ) → n ≤ 255 → Bytes (feed n)
feed_bytes n h = (omega arith, (omega arith, (h, tt)))

whole_bytes : (n : ℕ) → Bytes (whole_feeds n)
unfolding whole_feeds
whole_bytes zero = tt
whole_bytes (suc n) = bytes_append (whole_feeds n) (feed 255) (whole_bytes n) (feed_bytes 255 (omega arith))

feeds_bytes : (n : ℕ) → Bytes (feeds n)
feeds_bytes n =
    pick_elim (λ (l : List ℕ). Bytes (whole_feeds (n / 255) ++ l)) (eqb (n % 255) 0)
    (λ _. bytes_append (whole_feeds (n / 255)) [] (whole_bytes (n / 255)) tt)
    (λ _. bytes_append (whole_feeds (n / 255)) (feed (n % 255)) (whole_bytes (n / 255)) (feed_bytes (n % 255) (omega arith)))

move_bytes_lem : (code n : ℕ) → code ≤ 255 → Bytes (move_bytes code n)
move_bytes_lem code n h = (omega arith, (h, (omega arith, (omega arith, tt))))

place_bytes_lem : (n : ℕ) → Bytes (place_bytes n)
place_bytes_lem n =
    pick_elim (λ (l : List ℕ). Bytes (move_bytes 0x24 (n / 60) ++ l)) (eqb (n % 60 / 20) 0)
    (λ _. bytes_append (move_bytes 0x24 (n / 60)) [] (move_bytes_lem 0x24 (n / 60) (omega arith)) tt)
    (λ _. bytes_append (move_bytes 0x24 (n / 60)) (move_bytes 0x5C (n % 60 / 20)) (move_bytes_lem 0x24 (n / 60) (omega arith)) (move_bytes_lem 0x5C (n % 60 / 20) (omega arith)))

letter_bytes_lem : (before : ℕ) (x : Letter) → x.byte ≤ 0x7E → Bytes (letter_bytes before x)
unfolding letter_bytes
letter_bytes_lem before x h =
    bytes_append (feeds ((x.down - before) / 20)) (place_bytes x.across ++ (x.byte ∷ [])) (feeds_bytes ((x.down - before) / 20))
    (bytes_append (place_bytes x.across) (x.byte ∷ []) (place_bytes_lem x.across) (omega arith, tt))

letters_bytes_lem : (l : List ℕ) (n : ℕ) → AllGood l n → Bytes (letters_bytes l n)
unfolding letters_bytes
letters_bytes_lem l zero g = tt
letters_bytes_lem l (suc n) g =
    bytes_append (letters_bytes l n) (letter_bytes (down_before l n) (letter_at l n)) (letters_bytes_lem l n (before-good l n g))
    (letter_bytes_lem (down_before l n) (letter_at l n) (last-good l n g).most)

written_bytes : (l : List ℕ) (room : ℕ) → answer_of l room ≡ Ok tt → Bytes (written_of l room)
written_bytes l room h = rw h (omega arith, (omega arith, letters_bytes_lem l (count_of l) (good-when l room h)))

-- what happens over reading calls is what happens over the bytes that they read

calls_happen : (p : Printer) (calls : List ReadCall) → occurrences p (map read calls) ≡ map event (events_over p (bytes_read calls))
unfolding occurrences events_over bytes_read
calls_happen p [] = refl
calls_happen p (c ∷ l) =
    rw (events_append p (bytes_of c) (bytes_read l), map-append event (events_over p (bytes_of c)) (events_over (state_after p (bytes_of c)) (bytes_read l)))
    (ap (λ (o : List Occurrence). map event (events_over p (bytes_of c)) ++ o) (calls_happen (state_after p (bytes_of c)) l))

module _ (r : Resolution) (l : List ℕ) (room : ℕ) (h : answer_of l room ≡ Ok tt) (calls : List ReadCall)
    (k : Readings (at_power_on r) calls) (q : bytes_read calls ≡ written_of l room) where
  decodes : decoded_all (joined_output calls) ≡ records_over (at_power_on r) (written_of l room)
  decodes =
      let o = start_ours (start_on r) in
      ap decoded_all (stopped_anywhere (at_power_on r) calls k).output
      ∙ rw q (records_decode (at_power_on r) (written_of l room) o.typed (fact_accepted (at_power_on r) o.accepted) (written_bytes l room h))

  happens : occurrences (at_power_on r) (map read calls) ≡ map event (events_over (at_power_on r) (written_of l room))
  happens = calls_happen (at_power_on r) calls ∙ ap (λ (b : List ℕ). map event (events_over (at_power_on r) b)) q

  -- after that start
  read-from : (before : Printer) (c : StartCall) → c.settings ≡ start_on r → c.back.printer ≡ at_power_on r → ReadByCalls r (letters_of l (count_of l)) before c calls
  unfolding occurrences printed
  read-from before c s b =
      let v = card_read r l room h in
      record {
        places = rw (s, happens) v.places;
        texts = rw decodes v.texts;
        nothing_else = rw decodes v.nothing_else;
        waiting = rw b (ap (λ (p : Printer). p.waiting) (stopped_anywhere (at_power_on r) calls k).state ∙ rw q v.waiting);
      }

pub calls_read : (r : Resolution) (l : List ℕ) (room : ℕ) (before : Printer) (c : StartCall) (calls : List ReadCall)
    → answer_of l room ≡ Ok tt → c.settings ≡ start_on r → StartPromise c.settings c.back → Readings c.back.printer calls
    → bytes_read calls ≡ written_of l room → ReadByCalls r (letters_of l (count_of l)) before c calls
calls_read r l room before c calls h s v k q =
    let b : c.back.printer ≡ at_power_on r = ap (λ (x : Started). x.printer) v.gives ∙ ap (λ (x : StartSettings). (start_of x).printer) s in
    read-from r l room h calls (rw b at k) q before c s b
