-- The byte that a NO bears, by the rules and by the bytes received alone.
use Prim.Native.Nat.{ℕ}
use mathlib.Core.Path.{◌≡◌, refl, sym, ◌∙◌, ap}
use mathlib.Core.List.{[], ◌∷◌}
use borrow.Author.Tests.{ne_eqb}
use Rattle.printer.specs.Codes.{one_code, shows}
use Rattle.printer.specs.Framing.{second_of}
use Rattle.printer.specs.Shown.{no_byte_of, no_byte}
use Rattle.printer.specs.Types.{Begun, Command, Listing, ListOpening, ListPart, Look, One, Opening, Page, Refused, Second, Silent}
use Rattle.printer.proofs.Frames.{clash}
use Rattle.printer.proofs.Listed.{every_listed}

-- no escape with one argument has the code of ESC i
one_apart : (c : One) → one_code c ≡ 0x69 → ⊥
one_apart c e =
    let z : Second.Begins (Begun.One c) ≡ Second.Begins Begun.Advanced = sym (every_listed.one c) ∙ ap second_of e ∙ every_listed.advanced in
    clash cc

one-shown : (c : One) (n : ℕ) → one_code c ≡ no_byte_of (one_code c ∷ n ∷ [])
one-shown c n = rw (ne_eqb (one_code c) 0x69 (one_apart c))

refused-shown : (r : Refused) → shows (Command.Refused r) ≡ no_byte (Command.Refused r)
refused-shown (Refused.Byte b) = refl
refused-shown (Refused.Escape b) = refl
refused-shown (Refused.Advanced b) = refl
refused-shown (Refused.CommandMode n) = refl
refused-shown (Refused.ImageMode n) = refl

silent_shown : (k : Silent) → shows (Command.Silent k) ≡ no_byte (Command.Silent k)
silent_shown (Silent.Escape b) = refl
silent_shown Silent.KeepMode = refl
silent_shown Silent.StatusRequest = refl

look_shown : (k : Look) → shows (Command.Look k) ≡ no_byte (Command.Look k)
look_shown (Look.Switch w) = refl
look_shown (Look.Choice c n) = one-shown (One.Choice c) n

page-shown : (g : Page) → shows (Command.Page g) ≡ no_byte (Command.Page g)
page-shown (Page.Lines n) = refl
page-shown (Page.Inches n) = refl

open_shown : (o : ListOpening) → shows (Command.OpenList o) ≡ no_byte (Command.OpenList o)
open_shown (ListOpening.Named t) = refl
open_shown (ListOpening.Channel m) = refl

list-shown : (k : Listing) (part : ListPart) → shows (Command.List k part) ≡ no_byte (Command.List k part)
list-shown k (ListPart.Byte b) = refl
list-shown k (ListPart.End b) = refl

pub no_byte_lem : (c : Command) → shows c ≡ no_byte c
no_byte_lem (Command.Letter b) = refl
no_byte_lem (Command.Control c b) = refl
no_byte_lem (Command.Refused r) = refused-shown r
no_byte_lem (Command.Silent k) = silent_shown k
no_byte_lem Command.Reset = refl
no_byte_lem (Command.Mode c) = refl
no_byte_lem (Command.Parameter c n) = one-shown (One.Parameter c) n
no_byte_lem (Command.Look k) = look_shown k
no_byte_lem (Command.Skip n) = refl
no_byte_lem (Command.Feed n) = refl
no_byte_lem (Command.Margin side n) = one-shown (One.Margin side) n
no_byte_lem (Command.Page g) = page-shown g
no_byte_lem (Command.Move m a b) = refl
no_byte_lem (Command.OpenImage (Opening.Named d) a b) = refl
no_byte_lem (Command.OpenImage (Opening.Selected m) a b) = refl
no_byte_lem (Command.ImageByte m k b) = refl
no_byte_lem (Command.Channel n) = refl
no_byte_lem (Command.OpenList o) = open_shown o
no_byte_lem (Command.List k part) = list-shown k part
