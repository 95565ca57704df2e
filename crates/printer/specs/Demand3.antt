-- Demand 3 in its terms: a list of calls with what came back, and the one claim about it.
use Rattle.std.specs.Prelude.{ℕ, zero, suc, ◌+◌, ◌*◌, ◌≤◌, ◌<◌, ◌≡◌, List, [], ◌∷◌, ◌++◌, map, length, get_or}
use Rattle.printer.specs.Tools.{Each, Bytes}
use Rattle.printer.specs.Units.{forth, back}
use Rattle.printer.specs.Decoding.{decoded_all}
use Rattle.printer.specs.Steps.{state_after, events_over}
use Rattle.printer.specs.Calls.{number_of, plain_start, start_of, reading_of, output_of, StartCall, ReadCall, bytes_of, written_of}
use Rattle.printer.specs.Promises.{StartPromise, ReadingPromise}
use Rattle.printer.specs.InForce.{advance_in, column_in}
use Rattle.printer.specs.Performing.{Event, done, passed, inside, automatic, Writing, silent, letter, image_byte, feed, clear}
use Rattle.printer.specs.Reckoning.{Axis, exact, Reckoning, change_of, reckon, reckon_next, Occurrence, start, event, begun, Printed, printed}
use Rattle.printer.specs.Spelling.{ClassifiedEvent}
use Rattle.printer.specs.Shown.{Shown, placed, plain, shown, dotted, written}
use Rattle.printer.specs.Types.{Command, Control, Printer}

-- Calls with what came back

pub data Call : Type 0 where
  started : StartCall → Call
  read : ReadCall → Call

-- each call met its promise, and got the state that the call before it returned or left; input is bytes
abbrev pub Chain : Printer → List Call → Type 0
Chain held [] = Unit
Chain held (started c ∷ l) = StartPromise c.settings c.back × Chain c.back.printer l
Chain held (read c ∷ l) = ((c.state ≡ held) × Bytes c.input × ReadingPromise c) × Chain c.left l

-- The reckoning fed: a start's settings; a reading call's input and how many of its first bytes were read. The rules' steps over
-- these bytes, from its own power-on, tell the events; no state that a call gave back is read.

-- the rules' own state after a call
abbrev pub rules_after : Printer → Call → Printer
rules_after p (started c) = (start_of c.settings).printer
rules_after p (read c) = state_after p (bytes_of c)

abbrev pub occurrences_at : Printer → Call → List Occurrence
occurrences_at p (started c) = start c.settings ∷ []
occurrences_at p (read c) = map event (events_over p (bytes_of c))

unfoldable pub occurrences : Printer → List Call → List Occurrence
occurrences p [] = []
occurrences p (c ∷ l) = occurrences_at p c ++ occurrences (rules_after p c) l

-- The claim

-- answer numbers, counts, states and written records are the rules' own
abbrev pub OwnCall : Printer → Call → Type 0
OwnCall p (started c) = c.back ≡ start_of c.settings
OwnCall p (read c) =
    (c.state ≡ p)
    × (c.back ≡ (reading_of p c.input c.allowance (length c.out)).report)
    × (c.left ≡ state_after p (bytes_of c))
    × (c.after ≡ output_of p c.input c.allowance c.out)

abbrev pub Own : Printer → List Call → Type 0
Own p [] = Unit
Own p (c ∷ l) = OwnCall p c × Own (rules_after p c) l

-- answer 4 does not come
abbrev pub NotFour : Call → Type 0
NotFour (started c) = number_of c.back.answer ≤ 3
NotFour (read c) = number_of c.back.answer ≤ 3

-- the bytes written, joined over all calls
abbrev pub written_by : Call → List ℕ
written_by (started c) = []
written_by (read c) = written_of c

unfoldable pub joined : List Call → List ℕ
joined [] = []
joined (c ∷ l) = written_by c ++ joined l

-- left ≤ exact across, and exact across + advance ≤ right. The sums of moves back stand on the other side, so that no difference is cut off at 0.
pub record Between (e : Printed) : Type 0 where
  pub from_left :
      e.here.force.measures.left + e.here.across.back ≤ e.here.across.set + e.here.across.forth
  pub to_right :
      e.here.across.set + e.here.across.forth + e.advance
      ≤ e.here.force.measures.right + e.here.across.back

-- document 02, E7: at D dots an inch dot column and rest are those of the place n: n × D = 3,600 × column + rest
abbrev pub IsAt : (d n : ℕ) → Shown → Type 0
IsAt d n (placed s) = n * d + back s.rest ≡ 3600 * s.column + forth s.rest
IsAt d n (plain s) = ⊥

-- together they give the exact place across back: they are those of it, and of no other
pub record GivesBack (e : Printed) : Type 0 where
  pub place : IsAt e.here.force.kept.d_across (exact e.here.across) (dotted e)
  pub only : (n : ℕ) → IsAt e.here.force.kept.d_across n (dotted e) → n ≡ exact e.here.across

-- an advance from here would pass the right margin
abbrev pub Overflows : Reckoning → (advance : ℕ) → Type 0
Overflows r n = r.force.measures.right + r.across.back < r.across.set + r.across.forth + n

-- a letter is passed over only at the left margin, where it does not fit; an image byte only where its column does not fit; both by reason 4
abbrev pub DoesNotFit : Reckoning → (reason : ℕ) → Writing → Type 0
DoesNotFit r reason silent = Unit
DoesNotFit r reason (letter b n) =
    (r.force.measures.left + r.across.back ≡ r.across.set + r.across.forth) × Overflows r n × (reason ≡ 4)
DoesNotFit r reason (image_byte b part n) = Overflows r n × (reason ≡ 4)
DoesNotFit r reason (feed pages) = Unit
DoesNotFit r reason clear = Unit

-- and an automatic line comes only away from the left margin, where its letter does not fit
abbrev pub ForWantOfRoom : Reckoning → Event → Type 0
ForWantOfRoom r (done c n) = Unit
ForWantOfRoom r (passed c reason) = DoesNotFit r reason (change_of r.force c 0).writing
ForWantOfRoom r (inside c n) = Unit
ForWantOfRoom r (automatic n) =
    (r.force.measures.left + r.across.back < r.across.set + r.across.forth)
    × Overflows r (advance_in r.force)

-- by the reckoning's own numbers: an LF turns the page just if place and line amount reach the edge, and a tab goes to the right
abbrev pub LeadsOn : Reckoning → Control → (number : ℕ) → Type 0
LeadsOn r Control.CarriageReturn n = Unit
LeadsOn r Control.LineFeed zero =
    r.down.set + r.down.forth + r.force.measures.line + r.force.measures.skip < r.force.measures.page + r.down.back
LeadsOn r Control.LineFeed (suc n) =
    r.force.measures.page + r.down.back ≤ r.down.set + r.down.forth + r.force.measures.line + r.force.measures.skip
LeadsOn r Control.FormFeed n = Unit
LeadsOn r Control.HorizontalTab zero = Unit
LeadsOn r Control.HorizontalTab (suc n) =
    r.across.set + r.across.forth
    < r.force.measures.left + get_or r.force.lists.columns n 0 * column_in r.force + r.across.back
LeadsOn r Control.VerticalTab n = Unit
LeadsOn r Control.Backspace n = Unit
LeadsOn r Control.ShiftOut n = Unit
LeadsOn r Control.ShiftIn n = Unit
LeadsOn r Control.Dc2 n = Unit
LeadsOn r Control.Dc4 n = Unit

-- of the other commands nothing is asked
abbrev pub LeadsAs : Reckoning → Command → (number : ℕ) → Type 0
LeadsAs r (Command.Letter b) n = Unit
LeadsAs r (Command.Control c b) n = LeadsOn r c n
LeadsAs r (Command.Refused e) n = Unit
LeadsAs r (Command.Silent k) n = Unit
LeadsAs r Command.Reset n = Unit
LeadsAs r (Command.Mode c) n = Unit
LeadsAs r (Command.Parameter c a) n = Unit
LeadsAs r (Command.Look k) n = Unit
LeadsAs r (Command.Skip a) n = Unit
LeadsAs r (Command.Feed a) n = Unit
LeadsAs r (Command.Margin side a) n = Unit
LeadsAs r (Command.Page g) n = Unit
LeadsAs r (Command.Move m a b) n = Unit
LeadsAs r (Command.OpenImage o a b) n = Unit
LeadsAs r (Command.ImageByte m k b) n = Unit
LeadsAs r (Command.Channel m) n = Unit
LeadsAs r (Command.OpenList o) n = Unit
LeadsAs r (Command.List k part) n = Unit

abbrev pub Leads : Reckoning → Event → Type 0
Leads r (done c n) = LeadsAs r c n
Leads r (passed c reason) = Unit
Leads r (inside c n) = LeadsOn r c n
Leads r (automatic n) = LeadsOn r Control.LineFeed n

-- a reckoned place is no less than 0: the sum of its moves back is not more than what was set and the moves forth
abbrev pub NotBelowZero : Axis → Type 0
NotBelowZero a = a.back ≤ a.set + a.forth

-- where something happens; and what is a letter is one by ESC 6 and 7 as they are in force
pub record Happens (r : Reckoning) (e : Event) : Type 0 where
  pub across : NotBelowZero (reckon r e).across
  pub down : NotBelowZero (reckon r e).down
  pub room : ForWantOfRoom r e
  pub leads : Leads r e
  pub classified : ClassifiedEvent r.force.upper e

abbrev pub Reckoned : Reckoning → Occurrence → Type 0
Reckoned r (start settings) = Unit
Reckoned r (event e) = Happens r e

abbrev pub ReckonedAll : Reckoning → List Occurrence → Type 0
ReckonedAll r [] = Unit
ReckonedAll r (o ∷ l) = Reckoned r o × ReckonedAll (reckon_next r o) l

-- what the reckoning says was printed over a list of calls that begins with a start, which begins it anew (so what it is before does not count)
abbrev pub printed_over : Printer → List Call → List Printed
printed_over p l = printed (begun plain_start) (occurrences p l)

-- and all that it says was written: TX and IM of what was printed, LN of feeds, CL of margins, NO of what was passed over, in order
abbrev pub written_over : Printer → List Call → List Shown
written_over p l = written (begun plain_start) (occurrences p l)

pub record Demand3 (p : Printer) (l : List Call) : Type 0 where
  pub own : Own p l
  pub no_four : Each NotFour l
  pub same : shown (decoded_all (joined l)) ≡ written_over p l
  pub between : Each Between (printed_over p l)
  pub gives_back : Each GivesBack (printed_over p l)
  pub reckoned : ReckonedAll (begun plain_start) (occurrences p l)
