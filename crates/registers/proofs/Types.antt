-- What the types of a state give of its registers: bytes are below 256, and image columns below 65,536.
use Prim.Native.Nat.{ℕ, ◌≤◌}
use mathlib.Core.List.{List}
use native.Mathlib.Omega.{arith}
use mir.Val.{Val}
use denote.Builtin.{u16}
use denote.Laws.{Is}
use Rattle.printer.specs.declared.commands.Listing.{Listing}
use Rattle.printer.specs.declared.commands.Target.{Target}
use Rattle.printer.specs.declared.commands.Waiting.{Waiting}
use Rattle.printer.specs.declared.state.Printer.{Printer}
use Rattle.printer.proofs.Types.{byte, typed}
use Rattle.printer.specs.contracts.commands.Listing as L
use Rattle.printer.specs.contracts.commands.Target as T
use Rattle.printer.specs.contracts.commands.Waiting as W
use Rattle.printer.specs.contracts.state.Printer as P
use Rattle.registers.specs.State.{ListTyped, ImageTyped, Plain}

short : {n : ℕ} {vs : List Val} → Is u16 n vs → n ≤ 65535
short h = omega (arith, h.1)

target : (t : Target) {vs : List Val} → Is T.the_row t vs → ListTyped (Listing.Sets t)
target Target.Columns h = tt
target (Target.Channel m) h = byte h.1.1.1.1.0

listing : (k : Listing) {vs : List Val} → Is L.the_row k vs → ListTyped k
listing (Listing.Sets t) h = target t h.1.1.1.1.0
listing Listing.Dropped h = tt

image : (w : Waiting) {vs : List Val} → Is W.the_row w vs → ImageTyped w
image Waiting.Nothing h = tt
image Waiting.SecondByte h = tt
image (Waiting.Arguments w) h = tt
image (Waiting.StopList k b) h = listing k h.1.1.1.1.0
image (Waiting.ImageData m k n) h = (byte h.1.1.1.1.1.0, short h.1.1.1.1.1.1.0)

pub plain_value : (p : Printer) {vs : List Val} → Is P.the_row p vs → Plain p
plain_value p h =
    let f = h.1.1 in
    let width = f.0.1.1.1.0.1.1 in
    let face = f.0.1.1.1.1.1.1.0.1.1 in
    record {
      typed = typed p h;
      small = (byte width.1.0, (byte face.0, (byte face.1.0, byte face.1.1.0)));
      image = image p.waiting f.1.1.1.0;
    }
