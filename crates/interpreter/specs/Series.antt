-- The records of a series of bytes on a line. They stand in columns, of one byte or more, each a step further across than the one before: a letter
-- is a column of one byte.
use Rattle.std.specs.Prelude.{ℕ, suc, ◌+◌, ◌*◌, ◌-◌, ◌%◌, ◌≤◌, ◌<◌, ◌≡◌, true, List, [], ◌∷◌, eqb, length, take, get_or, set}
use Rattle.printer.specs.Tools.{pick, Each}
use Rattle.printer.specs.Units.{rounded, rest_word, per_inch_across}
use Rattle.printer.specs.Records.{record_size}
use Rattle.printer.specs.declared.commands.ImageMode.{ImageMode}
use Rattle.printer.specs.declared.commands.Waiting.{Waiting}
use Rattle.printer.specs.declared.records.Record.{Record}
use Rattle.measures.specs.Exact.{packed, carried}
use Rattle.registers.specs.Register.{across_at, right_at, dots_across_at}
use Rattle.registers.specs.Groups.{resolution_of}
use Rattle.framing.specs.Letters.{prints_from}
use Rattle.interpreter.specs.declared.series.Placed.{Placed}
use Rattle.interpreter.specs.declared.series.Series.{Series}
use Rattle.interpreter.specs.declared.series.Spot.{Spot}
use Rattle.interpreter.specs.Output.{Written}

-- Records

-- the record of a column's k-th byte, like that of its first: fonts go on by one
abbrev pub of_part : Record → (k : ℕ) → Record
of_part v k =
    record {
      mark = v.mark;
      column = v.column;
      row = v.row;
      byte = v.byte;
      font = v.font + (k - 1);
      style = v.style;
      country = v.country;
      advance = v.advance;
      rest = v.rest;
    }

-- a record like another, at another column with its rest, and of another byte
abbrev pub like_at : Record → (column rest byte : ℕ) → Record
like_at v column rest byte =
    record {
      mark = v.mark;
      column = record { 0 = column };
      row = v.row;
      byte = byte;
      font = v.font;
      style = v.style;
      country = v.country;
      advance = v.advance;
      rest = record { 0 = rest };
    }

-- such records for all of some bytes, from the k-th of a column on
unfoldable pub placed_all : Record → (d across step bytes k : ℕ) → List ℕ → List Record
placed_all v d x step bytes k [] = []
placed_all v d x step bytes k (b ∷ l) =
    like_at (of_part v k) (rounded d x) (rest_word d x) b
    ∷ placed_all v d (pick (eqb k bytes) (x + step) x) step bytes (pick (eqb k bytes) 1 (suc k)) l

-- all of some bytes print
abbrev pub AllPrint : (from : ℕ) → List ℕ → Type 0
AllPrint from l = Each (λ b. prints_from from b ≡ true) l

-- Columns

-- after so many bytes from the k-th of a column on, so many columns are done, and this part of one comes next
pub record Reached (done part n bytes k : ℕ) : Type 0 where
  pub counted : done * bytes + part ≡ n + k
  pub low : 1 ≤ part
  pub high : part ≤ bytes

-- so many bytes from the k-th of a column on are of columns that end within the right margin
pub record OnLine (n bytes k across step right : ℕ) : Type 0 where
  pub whole : ℕ
  pub enough : n ≤ whole * bytes - (k - 1)
  pub in-margin : across + whole * step ≤ right

-- the spot after a byte, by an exact step
abbrev pub spot_after : Spot → (by bytes : ℕ) → Spot
spot_after s by bytes =
    let last = eqb s.part bytes in
    record {
      exact = record { 0 = pick last (carried ((s.exact.0 + by) % 4294967296)) s.exact.0 };
      part = pick last 1 (s.part + 1);
      done = pick last (s.done + 1) s.done;
    }

-- so many columns are waited for, from the k-th byte of one; none is nothing
abbrev pub columns_wait : ImageMode → (k columns : ℕ) → Waiting
columns_wait m k n = pick (eqb n 0) Waiting.Nothing (Waiting.ImageData m k n)

-- A run of the loop

-- a series on registers: its columns lie apart, each has the byte that comes first, fonts are bytes, and the exact step is that of the one in units
pub record Formed (m : List ℕ) (s : Series) : Type 0 where
  pub moves : 0 < s.step.0
  pub begins : (1 ≤ s.part) × (s.part ≤ s.bytes)
  pub fonts : s.first.font + s.bytes ≤ 256
  pub exact : s.by.0 ≡ packed (s.step.0 * get_or m dots_across_at 0)

-- registers whose place is within the right margin, which is on the paper, and whose dots of an inch are those of a resolution
pub record OnPaper (m : List ℕ) : Type 0 where
  pub place : get_or m across_at 0 ≤ get_or m right_at 0
  pub margin : get_or m right_at 0 ≤ 28800
  pub few-dots : get_or m dots_across_at 0 ≤ 300
  pub inch : per_inch_across (resolution_of (get_or m dots_across_at 0)) ≡ get_or m dots_across_at 0

-- what the loop needs: of so many bytes at most, and of the room
pub record Placeable (m : List ℕ) (s : Series) (most room : ℕ) : Type 0 where
  pub formed : Formed m s
  pub paper : OnPaper m
  pub line : OnLine most s.bytes s.part (get_or m across_at 0) s.step.0 (get_or m right_at 0)
  pub fits : record_size * most ≤ room

-- what it leaves: some bytes are placed, all of which print
pub record Placing (m : List ℕ) (s : Series) (from : ℕ) (input out : List ℕ) (r : Placed) (after wrote : List ℕ) : Type 0 where
  pub few : r.count ≤ length input
  pub printed : AllPrint from (take r.count input)
  pub reached : Reached r.done r.part r.count s.bytes s.part
  pub moved : after ≡ set m across_at (get_or m across_at 0 + r.done * s.step.0)
  pub records :
      Written out 0
      (placed_all s.first (get_or m dots_across_at 0) (get_or m across_at 0) s.step.0 s.bytes s.part (take r.count input))
      (record_size * r.count) wrote
