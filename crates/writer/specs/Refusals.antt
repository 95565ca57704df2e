-- Document 02, E10: when each answer comes, as facts.
use Rattle.std.specs.Prelude.{ℕ, ◌%◌, ◌≤◌, ◌<◌, ◌≡◌, List, length, Result, Ok, Err, ⊤}
use Rattle.printer.specs.Tools.{Holds}
use Rattle.writer.specs.Card.{letter_size, letter_at, count_of, down_before, byte_needs, place_needs, room_for}
use Rattle.writer.specs.declared.Refusal.{Refusal}

-- the i-th letter prints; it has a place
abbrev pub Prints : List ℕ → ℕ → Type 0
Prints l i = Holds (byte_needs (letter_at l i).byte)

abbrev pub Stands : List ℕ → ℕ → Type 0
Stands l i = Holds (place_needs (down_before l i) (letter_at l i))

-- the letters before the n-th are good
abbrev pub AllGood : List ℕ → ℕ → Type 0
AllGood l n = (i : ℕ) → i < n → Prints l i × Stands l i

-- the first that is not good, among the first n, is bad in this way
pub record FirstBad (l : List ℕ) (n : ℕ) (Bad : ℕ → Type 0) : Type 0 where
  pub place : ℕ
  pub within : place < n
  pub before : AllGood l place
  pub bad : Bad place

-- of the letters
abbrev pub Fault : List ℕ → ℕ → Result ⊤ Refusal → Type 0
Fault l n (Ok _) = AllGood l n
Fault l n (Err Refusal.Byte) = FirstBad l n (λ i. Prints l i → ⊥)
Fault l n (Err Refusal.Place) = FirstBad l n (λ i. Prints l i × (Stands l i → ⊥))
Fault l n (Err Refusal.Length) = ⊥
Fault l n (Err Refusal.Room) = ⊥

-- the length is a multiple of five
abbrev pub WholeLetters : List ℕ → Type 0
WholeLetters l = length l % letter_size ≡ 0

abbrev pub When : List ℕ → (room : ℕ) → Result ⊤ Refusal → Type 0
When l room (Ok _) = WholeLetters l × AllGood l (count_of l) × (room_for (count_of l) ≤ room)
When l room (Err Refusal.Length) = WholeLetters l → ⊥
When l room (Err Refusal.Byte) = WholeLetters l × Fault l (count_of l) (Err Refusal.Byte)
When l room (Err Refusal.Place) = WholeLetters l × Fault l (count_of l) (Err Refusal.Place)
When l room (Err Refusal.Room) = WholeLetters l × AllGood l (count_of l) × (room < room_for (count_of l))
