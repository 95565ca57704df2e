-- Document 02, E10: what a card is written by, and when it is refused.
use Rattle.std.specs.Prelude.{ℕ, zero, suc, ◌+◌, ◌-◌, ◌*◌, ◌/◌, ◌%◌, Bool, List, [], ◌∷◌, ◌++◌, leb, eqb, length, drop, get_or, Result, Ok, Err, ⊤}
use Rattle.std.specs.Result.{result_and}
use Rattle.printer.specs.Tools.{pick, Order, ◌up_to◌, holds}
use Rattle.printer.specs.Records.{low, high}
use Rattle.writer.specs.declared.Letter.{Letter}
use Rattle.writer.specs.declared.Refusal.{Refusal}

-- The letters of a list

-- five bytes each: the byte, across (2), down (2), low byte first
abbrev pub letter_size : ℕ
letter_size = 5

abbrev pub word : (low high : ℕ) → ℕ
word low high = low + 256 * high

abbrev pub letter_at : List ℕ → ℕ → Letter
letter_at l i =
    record {
      byte = get_or l (letter_size * i) 0;
      across = word (get_or l (letter_size * i + 1) 0) (get_or l (letter_size * i + 2) 0);
      down = word (get_or l (letter_size * i + 3) 0) (get_or l (letter_size * i + 4) 0);
    }

-- how many there are
abbrev pub count_of : List ℕ → ℕ
count_of l = length l / letter_size

-- the place down before a letter: that of the one before it, or the top
abbrev pub down_before : List ℕ → ℕ → ℕ
down_before l zero = 0
down_before l (suc i) = (letter_at l i).down

-- Refusals

-- a byte from 20h to 7Eh
abbrev pub byte_needs : ℕ → List Order
byte_needs b = (0x20 up_to b) ∷ (b up_to 0x7E) ∷ []

-- multiples of 20; across + 360 ≤ 28,800; down at most 39,580; never above the one before
abbrev pub place_needs : (before : ℕ) → Letter → List Order
place_needs before x =
    (x.across % 20 up_to 0) ∷
    (x.across + 360 up_to 28800) ∷
    (x.down % 20 up_to 0) ∷
    (x.down up_to 39580) ∷
    (before up_to x.down) ∷
    []

-- refused where a test fails
abbrev pub needs : Bool → Refusal → Result ⊤ Refusal
needs test refusal = pick test (Ok tt) (Err refusal)

-- byte before place
abbrev pub fault_of : (before : ℕ) → Letter → Result ⊤ Refusal
fault_of before x =
    result_and (needs (holds (byte_needs x.byte)) Refusal.Byte) (needs (holds (place_needs before x)) Refusal.Place)

-- of the first n letters, the first bad one decides
unfoldable pub fault_in : List ℕ → (n : ℕ) → Result ⊤ Refusal
fault_in l zero = Ok tt
fault_in l (suc n) = result_and (fault_in l n) (fault_of (down_before l n) (letter_at l n))

-- the most bytes that a letter is written by, and the room asked for
abbrev pub most_bytes : ℕ
most_bytes = 33

abbrev pub room_for : ℕ → ℕ
room_for n = 2 + most_bytes * n

-- the length before all else; then the letters; then the room
abbrev pub answer_of : List ℕ → (room : ℕ) → Result ⊤ Refusal
answer_of l room =
    result_and (needs (eqb (length l % letter_size) 0) Refusal.Length)
    (result_and (fault_in l (count_of l)) (needs (leb (room_for (count_of l)) room) Refusal.Room))

-- The bytes

-- ESC J n
abbrev pub feed : ℕ → List ℕ
feed n = 0x1B ∷ 0x4A ∷ n ∷ []

-- so many ESC J 255
unfoldable pub whole_feeds : ℕ → List ℕ
whole_feeds zero = []
whole_feeds (suc n) = whole_feeds n ++ feed 255

-- down by so many steps of 20 units
abbrev pub feeds : ℕ → List ℕ
feeds steps = whole_feeds (steps / 255) ++ pick (eqb (steps % 255) 0) [] (feed (steps % 255))

-- ESC $ or ESC \, with a number of two bytes
abbrev pub move_bytes : (code n : ℕ) → List ℕ
move_bytes code n = 0x1B ∷ code ∷ low n ∷ high n ∷ []

-- across to a place: ESC $ by 60 units, and ESC \ by 20 for what is left
abbrev pub place_bytes : ℕ → List ℕ
place_bytes across =
    move_bytes 0x24 (across / 60) ++ pick (eqb (across % 60 / 20) 0) [] (move_bytes 0x5C (across % 60 / 20))

-- a letter, from the place down of the one before
unfoldable pub letter_bytes : (before : ℕ) → Letter → List ℕ
letter_bytes before x = feeds ((x.down - before) / 20) ++ (place_bytes x.across ++ (x.byte ∷ []))

-- the first n letters
unfoldable pub letters_bytes : List ℕ → (n : ℕ) → List ℕ
letters_bytes l zero = []
letters_bytes l (suc n) = letters_bytes l n ++ letter_bytes (down_before l n) (letter_at l n)

-- ESC @, and they
abbrev pub card : List ℕ → (n : ℕ) → List ℕ
card l n = 0x1B ∷ 0x40 ∷ letters_bytes l n

-- What comes back

-- nothing is written where it is refused
abbrev pub bytes_for : Result ⊤ Refusal → List ℕ → List ℕ
bytes_for (Ok _) l = card l (count_of l)
bytes_for (Err _) l = []

abbrev pub written_of : List ℕ → (room : ℕ) → List ℕ
written_of l room = bytes_for (answer_of l room) l

-- the count of bytes written, or the refusal
abbrev pub report_of : List ℕ → (room : ℕ) → Result ℕ Refusal
report_of l room = result_and (answer_of l room) (Ok (length (written_of l room)))

-- what the output holds after the call: the bytes, and past them what it held
abbrev pub output_of : List ℕ → (out : List ℕ) → List ℕ
output_of l out = written_of l (length out) ++ drop (length (written_of l (length out))) out

-- the number of an answer
abbrev pub number_of : Result ⊤ Refusal → ℕ
number_of (Ok _) = 0
number_of (Err Refusal.Length) = 5
number_of (Err Refusal.Byte) = 8
number_of (Err Refusal.Place) = 9
number_of (Err Refusal.Room) = 10
