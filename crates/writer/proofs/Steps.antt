-- The commands of a card, each from a printer at power-on settings, anywhere on the page.
use Prim.Native.Nat.{ℕ, ◌+◌, ◌-◌, ◌*◌, ◌/◌, ◌%◌, ◌≤◌, ◌<◌}
use mathlib.Core.Path.{◌≡◌, refl, ap}
use mathlib.Core.Bool.{false}
use mathlib.Core.List.{[], ◌∷◌}
use mathlib.Core.Logic.{inl, inr}
use native.Mathlib.Omega.{arith}
use lib.Dec.{leb}
use borrow.Author.Tests.{le-leb, lt-leb, lt-ltb}
use Rattle.printer.specs.Units.{units}
use Rattle.printer.specs.Settings.{at}
use Rattle.printer.specs.PowerOn.{power_on_settings, power_on_stops}
use Rattle.printer.specs.Codes.{spelt}
use Rattle.printer.specs.Framing.{is_letter, frame}
use Rattle.printer.specs.Records.{style_of, low, high}
use Rattle.printer.specs.Performing.{done, perform_all, records_all}
use Rattle.printer.specs.Deciding.{attempt, letter_events}
use Rattle.printer.specs.InForce.{Kept, at_start}
use Rattle.printer.specs.Reckoning.{Reckoning, reckon_all, printed}
use Rattle.printer.specs.declared.commands.Command.{Command}
use Rattle.printer.specs.declared.commands.Move.{Move}
use Rattle.printer.specs.declared.commands.One.{One}
use Rattle.printer.specs.declared.commands.Two.{Two}
use Rattle.printer.specs.declared.commands.Waiting.{Waiting}
use Rattle.printer.specs.declared.settings.Setup.{Setup}
use Rattle.printer.specs.declared.state.Printer.{Printer}
use Rattle.printer.specs.declared.units.Resolution.{Resolution}
use Rattle.whole.specs.Whole.{Does, beginning, Frames, Escape, one, two}
use Rattle.whole.proofs.Whole.{whole, escape}
use Rattle.writer.specs.Card.{feed, move_bytes}
use Rattle.writer.specs.Reading.{texts_in, text_of, placed_letter}
use Rattle.writer.specs.declared.Letter.{Letter}
use Rattle.writer.proofs.Runs.{Run, run_of}

-- at power-on settings, full width, automatic line feed off, at a place
abbrev pub full_width : Resolution → Setup
full_width r = record { resolution = r; autofeed = false; width = units 28800 }

abbrev pub standing : Resolution → (across down : ℕ) → Printer
standing r x y =
    record { settings = power_on_settings (full_width r); place = at x y; stops = power_on_stops; waiting = Waiting.Nothing }

-- its reckoning: across by what set it last and the moves since, down by feeds alone
abbrev pub reckoning : Kept → (set forth down : ℕ) → Reckoning
reckoning k a m y =
    record { force = at_start k; across = record { set = a; forth = m; back = 0 }; down = record { set = 0; forth = y; back = 0 } }

-- an escape, by 1Bh
pub by-escape : (r : Resolution) (x y : ℕ) (c : Command) → Escape c Waiting.Nothing
    → Does (standing r x y) (0x1B ∷ spelt c) (beginning 0x1B) c Waiting.Nothing
by-escape r x y c h = escape (standing r x y) 0x1B c Waiting.Nothing refl (inl refl) h

-- ESC J n, with no page turned
pub feeds_down : (r : Resolution) (k : Kept) (x y a m n : ℕ) → y + 20 * n < 39600
    → Run (standing r x y) (reckoning k a m y) (feed n) (standing r x (y + 20 * n)) (reckoning k a m (y + 20 * n)) [] []
unfolding perform_all records_all texts_in reckon_all printed
feeds_down r k x y a m n h =
    let e : (y + 20 * n) / 39600 ≡ 0 = omega arith in
    let f : (y + 20 * n) % 39600 ≡ y + 20 * n = omega arith in
    let g : y + (20 * n + 0) ≡ y + 20 * n = omega arith in
    run_of (standing r x y) (reckoning k a m y) (feed n) (beginning 0x1B) (Command.Feed n) Waiting.Nothing (done (Command.Feed n) 0 ∷ [])
    (by-escape r x y (Command.Feed n) (one One.Feed n)) (rw e) (rw f) refl (inr (refl, refl), tt) (ap (reckoning k a m) g) refl

two_bytes : (n : ℕ) → n < 65536 → low n + 256 * high n ≡ n
two_bytes n h = omega arith

-- ESC $
pub sets_across : (r : Resolution) (k : Kept) (x y a m n : ℕ) → 60 * n ≤ 28800
    → Run (standing r x y) (reckoning k a m y) (move_bytes 0x24 n) (standing r (60 * n) y) (reckoning k (60 * n) 0 y) [] []
unfolding attempt perform_all records_all texts_in reckon_all printed
sets_across r k x y a m n h =
    let c = Command.Move Move.Absolute (low n) (high n) in
    let e : 0 + 60 * (low n + 256 * high n) ≡ 60 * n = omega arith in
    run_of (standing r x y) (reckoning k a m y) (move_bytes 0x24 n) (beginning 0x1B) c Waiting.Nothing (done c 0 ∷ [])
    (by-escape r x y c (two (Two.Move Move.Absolute) (low n) (high n))) (rw (e, le-leb (60 * n) 28800 h)) (rw e) refl tt (rw e) refl

-- ESC \ to the right
pub moves_across : (r : Resolution) (k : Kept) (x y a m n : ℕ) → n < 0x8000 → x + 20 * n ≤ 28800
    → Run (standing r x y) (reckoning k a m y) (move_bytes 0x5C n) (standing r (x + 20 * n) y) (reckoning k a (m + 20 * n) y) [] []
unfolding attempt perform_all records_all texts_in reckon_all printed
moves_across r k x y a m n b h =
    let c = Command.Move Move.Relative (low n) (high n) in
    let e : low n + 256 * high n ≡ n = two_bytes n (omega arith) in
    let f : x + n * 20 ≡ x + 20 * n = omega arith in
    let g : m + n * 20 ≡ m + 20 * n = omega arith in
    let d : leb 128 (high n) ≡ false = lt-leb 128 (high n) (omega arith) in
    run_of (standing r x y) (reckoning k a m y) (move_bytes 0x5C n) (beginning 0x1B) c Waiting.Nothing (done c 0 ∷ [])
    (by-escape r x y c (two (Two.Move Move.Relative) (low n) (high n))) (rw (e, lt-ltb n 0x8000 b, f, le-leb (x + 20 * n) 28800 h))
    (rw (e, lt-ltb n 0x8000 b, f)) refl tt (rw (e, d, g)) refl

-- a letter
pub places_letter : (r : Resolution) (k : Kept) (z : Letter) (a m : ℕ) → 0x20 ≤ z.byte → z.byte ≤ 0x7E → z.across + 360 ≤ 28800
    → a + m ≡ z.across
    → Run (standing r z.across z.down) (reckoning k a m z.down) (z.byte ∷ []) (standing r (z.across + 360) z.down)
    (reckoning k a (m + 360) z.down) (text_of r z ∷ []) (placed_letter z ∷ [])
unfolding Frames frame is_letter letter_events style_of perform_all records_all texts_in reckon_all printed
places_letter r k z a m b d h e =
    let x = z.across in
    let y = z.down in
    let c = Command.Letter z.byte in
    let f : a + m - 0 ≡ x = omega arith in
    let g : 0 + y - 0 ≡ y = omega arith in
    run_of (standing r x y) (reckoning k a m y) (z.byte ∷ []) [] c Waiting.Nothing (done c 0 ∷ [])
    (whole (standing r x y) (z.byte ∷ []) c Waiting.Nothing (rw (le-leb 0x20 z.byte b, le-leb z.byte 0x7E d)))
    (rw (le-leb (x + 360) 28800 h)) refl refl (inl refl, tt) refl (rw (f, g))
