-- What showing input promises: the state left is that of the rules' steps over the bytes read. Whether a stream failed is std's own answer,
-- and free.
use Rattle.std.specs.Prelude.{ℕ, ◌+◌, ◌≤◌, ◌<◌, ◌≡◌, true, false, List, length, take, Result, IfOk, IsOk}
use Rattle.printer.specs.Tools.{Bytes}
use Rattle.printer.specs.Bounds.{accepted}
use Rattle.printer.specs.Steps.{state_after}
use Rattle.printer.specs.declared.state.Printer.{Printer}
use Rattle.listing.specs.declared.Progress.{Progress}

-- so many bytes of the input are read, none on a refused state
pub record Shown (p : Printer) (input : List ℕ) (after : Printer) (read : ℕ) : Type 0 where
  pub state : after ≡ state_after p (take read input)
  pub within : read ≤ length input
  pub refused : accepted p ≡ false → read ≡ 0

-- so many bytes are counted: those that the result says, and no others where a stream failed
pub record Counted {E : Type 0} (before : Progress) (result : Result ℕ E) (after : Progress) (read : ℕ) : Type 0 where
  pub said : IfOk result (λ n. n ≡ read)
  pub total : after.read ≡ before.read + read

-- by one call: a byte at least, if there is one, and a state that is taken stays so
pub record SomeShown {E : Type 0} (before : Progress) (input : List ℕ) (result : Result ℕ E) (after : Progress) : Type 0 where
  pub read : ℕ
  pub counted : Counted before result after read
  pub shown : Shown before.printer input after.printer read
  pub some : accepted before.printer ≡ true → 0 < length input → 0 < read
  pub kept : accepted before.printer ≡ true → accepted after.printer ≡ true

-- a piece of bytes: all of it, if writing did not fail
pub record AllShown {E : Type 0} (before : Progress) (input : List ℕ) (result : Result ℕ E) (after : Progress) : Type 0 where
  pub read : ℕ
  pub counted : Counted before result after read
  pub shown : Shown before.printer input after.printer read
  pub bytes : Bytes input
  pub all : accepted before.printer ≡ true → IsOk result → read ≡ length input

-- so many bytes from outside lead from a state to another. Which they are, and how many come, is free: no contract of std says what a
-- descriptor has.
pub record FromInput (p after : Printer) (read : ℕ) : Type 0 where
  pub input : List ℕ
  pub bytes : Bytes input
  pub size : length input ≡ read
  pub state : after ≡ state_after p input

-- the most bytes of a piece
abbrev pub piece_size : ℕ
piece_size = 32768

-- a piece, from outside
pub record Taken {E : Type 0} (before : Progress) (result : Result ℕ E) (after : Progress) : Type 0 where
  pub read : ℕ
  pub counted : Counted before result after read
  pub from_input : FromInput before.printer after.printer read
  pub read_le_piece_size : read ≤ piece_size
