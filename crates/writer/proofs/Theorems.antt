-- Document 02, E10: the theorems about cards, each stated once.
use Prim.Native.Nat.{ℕ, ◌+◌, ◌*◌, ◌≤◌}
use mathlib.Core.Path.{◌≡◌, refl}
use mathlib.Core.List.{List, ◌∷◌}
use lib.ListN.{length}
use Rattle.std.specs.Prelude.{Result, Ok, ⊤}
use Rattle.printer.specs.Calls.{StartCall, ReadCall}
use Rattle.printer.specs.Promises.{StartPromise}
use Rattle.printer.specs.Cutting.{Readings, bytes_read}
use Rattle.printer.specs.declared.state.Printer.{Printer}
use Rattle.printer.specs.declared.units.Resolution.{Resolution}
use Rattle.writer.specs.Card.{count_of, fault_in, answer_of, whole_feeds, letter_bytes, letters_bytes, written_of}
use Rattle.writer.specs.Refusals.{When}
use Rattle.writer.specs.Cases.{table, ByHand}
use Rattle.writer.specs.Reading.{letters_of, start_on, ReadsBack, ReadByCalls}
use Rattle.writer.specs.declared.Refusal.{Refusal}
use Rattle.writer.proofs.Refusals.{comes-when, good-when, only-when}
use Rattle.writer.proofs.ReadBack.{card_read}
use Rattle.writer.proofs.ByCalls.{calls_read}
use Rattle.writer.proofs.Cards.{card-length}

-- a card that is written, read from power-on at 300 or 203 dots, prints exactly its letters at exactly their places, in order; nothing is passed
-- over, no page is turned, and nothing is waited for
pub reads-back : (r : Resolution) (l : List ℕ) (room : ℕ) → answer_of l room ≡ Ok tt → ReadsBack r (letters_of l (count_of l)) (written_of l room)
reads-back r l room h = card_read r l room h

-- so calls that keep the reader's promises, a start and then calls that read the card, wherever each of them stops, print and write these letters
-- and no others
pub calls_read_back : (r : Resolution) (l : List ℕ) (room : ℕ) (before : Printer) (c : StartCall) (calls : List ReadCall)
    → answer_of l room ≡ Ok tt → c.settings ≡ start_on r → StartPromise c.settings c.back → Readings c.back.printer calls
    → bytes_read calls ≡ written_of l room → ReadByCalls r (letters_of l (count_of l)) before c calls
calls_read_back r l room before c calls h s v k q = calls_read r l room before c calls h s v k q

-- each answer comes exactly when its facts hold
pub answers : (l : List ℕ) (room : ℕ) → When l room (answer_of l room)
answers l room = comes-when l room

pub only_then : (l : List ℕ) (room : ℕ) (a : Result ⊤ Refusal) → When l room a → answer_of l room ≡ a
only_then l room a h = only-when l room a h

-- it begins with ESC @
pub begins : (l : List ℕ) (room : ℕ) → answer_of l room ≡ Ok tt → (rest : List ℕ) × (written_of l room ≡ 0x1B ∷ 0x40 ∷ rest)
begins l room h = rw h (letters_bytes l (count_of l), refl)

-- and takes at most 33 bytes a letter
pub room_is_enough : (l : List ℕ) (room : ℕ) → answer_of l room ≡ Ok tt → length (written_of l room) ≤ 2 + 33 * count_of l
room_is_enough l room h = rw h (card-length l (count_of l) (good-when l room h))

-- cases by hand
pub by_hand : ByHand
unfolding table fault_in whole_feeds letter_bytes letters_bytes
by_hand = refl
