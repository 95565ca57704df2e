-- Document 02, E10: lists of letters with the room lent, and what comes back.
use Rattle.std.specs.Prelude.{ℕ, ◌≡◌, List, [], ◌∷◌, ◌++◌, map}
use Rattle.writer.specs.Card.{answer_of, written_of, number_of}

pub record Case : Type 0 where
  pub letters : List ℕ
  pub room : ℕ
  pub number : ℕ
  pub bytes : List ℕ

abbrev case : List ℕ → (room number : ℕ) → List ℕ → Case
case l room number bytes = record { letters = l; room = room; number = number; bytes = bytes }

abbrev refused : List ℕ → (room number : ℕ) → Case
refused l room number = case l room number []

-- what a case comes to
abbrev pub got : Case → Case
got c = case c.letters c.room (number_of (answer_of c.letters c.room)) (written_of c.letters c.room)

-- ESC J 255
abbrev full : List ℕ
full = 0x1B ∷ 0x4A ∷ 255 ∷ []

unfoldable pub table : List Case
table =
    -- no letters: ESC @
    case [] 2 0 (0x1B ∷ 0x40 ∷ []) ∷
    refused [] 1 10 ∷
    -- A at 20 across: ESC $ 0, ESC \ 1
    case (0x41 ∷ 20 ∷ 0 ∷ 0 ∷ 0 ∷ []) 35 0 (0x1B ∷ 0x40 ∷ 0x1B ∷ 0x24 ∷ 0 ∷ 0 ∷ 0x1B ∷ 0x5C ∷ 1 ∷ 0 ∷ 0x41 ∷ []) ∷
    refused (0x41 ∷ 20 ∷ 0 ∷ 0 ∷ 0 ∷ []) 34 10 ∷
    -- the first byte that is a letter, and the one below it
    case (0x20 ∷ 0 ∷ 0 ∷ 0 ∷ 0 ∷ []) 35 0 (0x1B ∷ 0x40 ∷ 0x1B ∷ 0x24 ∷ 0 ∷ 0 ∷ 0x20 ∷ []) ∷
    refused (0x1F ∷ 0 ∷ 0 ∷ 0 ∷ 0 ∷ []) 35 8 ∷
    -- two letters of one row, the second to the left of the first
    case (0x41 ∷ 60 ∷ 0 ∷ 20 ∷ 0 ∷ 0x42 ∷ 0 ∷ 0 ∷ 20 ∷ 0 ∷ []) 68 0
    (0x1B ∷ 0x40 ∷ 0x1B ∷ 0x4A ∷ 1 ∷ 0x1B ∷ 0x24 ∷ 1 ∷ 0 ∷ 0x41 ∷ 0x1B ∷ 0x24 ∷ 0 ∷ 0 ∷ 0x42 ∷ []) ∷
    -- the last place, 28,440 and 39,580: 1,979 steps down are seven times 255 and 194; 33 bytes would be had at 28,420
    case (0x7E ∷ 0x18 ∷ 0x6F ∷ 0x9C ∷ 0x9A ∷ []) 35 0
    ((0x1B ∷ 0x40 ∷ []) ++ full ++ full ++ full ++ full ++ full ++ full ++ full
    ++ (0x1B ∷ 0x4A ∷ 194 ∷ 0x1B ∷ 0x24 ∷ 0xDA ∷ 0x01 ∷ 0x7E ∷ [])) ∷
    -- across past it, down past it, no multiple of 20, down above the one before
    refused (0x7E ∷ 0x2C ∷ 0x6F ∷ 0 ∷ 0 ∷ []) 35 9 ∷
    refused (0x7E ∷ 0 ∷ 0 ∷ 0xB0 ∷ 0x9A ∷ []) 35 9 ∷
    refused (0x41 ∷ 0 ∷ 0 ∷ 10 ∷ 0 ∷ []) 35 9 ∷
    refused (0x41 ∷ 0 ∷ 0 ∷ 20 ∷ 0 ∷ 0x42 ∷ 0 ∷ 0 ∷ 0 ∷ 0 ∷ []) 68 9 ∷
    -- 8 before 9; the first bad letter decides; 5 before all else, and 10 last
    refused (0x7F ∷ 1 ∷ 0 ∷ 0 ∷ 0 ∷ []) 0 8 ∷
    refused (0x41 ∷ 1 ∷ 0 ∷ 0 ∷ 0 ∷ 0x7F ∷ 0 ∷ 0 ∷ 0 ∷ 0 ∷ []) 0 9 ∷
    refused (0x7F ∷ 1 ∷ 0 ∷ 0 ∷ []) 0 5 ∷
    refused (0x41 ∷ 0 ∷ 0 ∷ 0 ∷ 0 ∷ 0x42 ∷ []) 68 5 ∷
    []

abbrev pub ByHand : Type 0
ByHand = map got table ≡ table
