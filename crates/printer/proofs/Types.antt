-- What the declared types give: bytes are below 256, and arrays have their lengths.
use Prim.Native.Nat.{ℕ, suc, ◌≤◌}
use mathlib.Core.Path.{◌≡◌}
use mathlib.Core.List.{List, [], ◌∷◌}
use native.Mathlib.Omega.{arith}
use lib.ListN.{length, get_or}
use mir.Val.{Val}
use denote.Builtin.{u8}
use denote.Laws.{Is}
use Rattle.printer.specs.Tools.{Bytes}
use Rattle.printer.specs.Codes.{begun_by}
use Rattle.printer.specs.Accepted.{WaitingTyped, StopsTyped, Typed}
use Rattle.printer.specs.Types.{Begun, Channels, Printer, Stops, TabStops, Waiting}
use Rattle.printer.proofs.Listed.{one_byte, two_byte}
use Rattle.printer.proofs.Modes.{number-byte}
use Rattle.printer.specs.contracts.commands.Begun as B
use Rattle.printer.specs.contracts.commands.Waiting as W
use Rattle.printer.specs.contracts.stops.Channels as C
use Rattle.printer.specs.contracts.stops.Stops as S
use Rattle.printer.specs.contracts.stops.TabStops as T
use Rattle.printer.specs.contracts.state.Printer as P

pub byte : {n : ℕ} {vs : List Val} → Is u8 n vs → n ≤ 255
byte h = omega (arith, h.1)

-- a slice of bytes
pub known_bytes : (l : List ℕ) → ((i : ℕ) → get_or l i 0 ≤ 255) → Bytes l
known_bytes [] h = tt
known_bytes (b ∷ l) h = (h 0, known_bytes l (λ i. h (suc i)))

list : (l : TabStops) {vs : List Val} → Is T.the_row l vs → length l.stops ≡ 32
list l h = h.1.1.0.1.0.1

-- those of the channels
arrays : (c : Channels) {vs : List Val} → Is C.the_row c vs → (length c.stops ≡ 128) × (length c.counts ≡ 8)
arrays c h = (h.1.1.0.1.0.1, h.1.1.1.0.1.0.1)

stops_typed : (t : Stops) {vs : List Val} → Is S.the_row t vs → StopsTyped t
stops_typed t h =
    let f = h.1.1 in
    record {
      columns = list t.columns f.0;
      channels = (arrays t.channels f.1.0).0;
      counts = (arrays t.channels f.1.0).1;
      gathered = list t.gathered f.1.1.0;
    }

begun : (w : Begun) {vs : List Val} → Is B.the_row w vs → Bytes (begun_by w)
begun (Begun.One c) h = (one_byte c, tt)
begun Begun.PageLength h = (omega arith, tt)
begun Begun.PageInches h = (omega arith, (omega arith, tt))
begun Begun.Advanced h = (omega arith, tt)
begun Begun.CommandMode h = (omega arith, (omega arith, tt))
begun (Begun.FirstOf c) h = (two_byte c, tt)
begun (Begun.SecondOf c a) h = (two_byte c, (byte h.1.1.1.1.1.0, tt))
begun Begun.SelectMode h = (omega arith, tt)
begun (Begun.ColumnsLow m) h = (omega arith, (number-byte m, tt))
begun (Begun.ColumnsHigh m a) h = (omega arith, (number-byte m, (byte h.1.1.1.1.1.0, tt)))
begun Begun.ListChannel h = (omega arith, tt)

waiting : (w : Waiting) {vs : List Val} → Is W.the_row w vs → WaitingTyped w
waiting Waiting.Nothing h = tt
waiting Waiting.SecondByte h = tt
waiting (Waiting.Arguments w) h = begun w h.1.1.1.1.0
waiting (Waiting.StopList k b) h = byte h.1.1.1.1.1.0
waiting (Waiting.ImageData m k n) h = tt

pub typed : (p : Printer) {vs : List Val} → Is P.the_row p vs → Typed p
typed p h =
    let f = h.1.1 in
    let face = f.0.1.1.1.1.1.1.0.1.1 in
    record { font = byte face.0; stops = stops_typed p.stops f.1.1.0; waiting = waiting p.waiting f.1.1.1.0 }
