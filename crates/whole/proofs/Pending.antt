-- What is waited for is not looked at by what is decided and performed, and is left as it is.
use Prim.Native.Nat.{ℕ}
use mathlib.Core.Path.{◌≡◌, refl}
use mathlib.Core.List.{List, [], ◌∷◌}
use Rattle.std.specs.Prelude.{Option, Some, None}
use Rattle.printer.specs.Settings.{down_of, held_in, chosen_stops}
use Rattle.printer.specs.Performing.{Event, done, passed, inside, automatic, perform, perform_all, records_of, records_all}
use Rattle.printer.specs.Deciding.{attempt, ranged, letter_events, feed_after_return, line_from, vertical_events, vertical, control_events, decide}
use Rattle.printer.specs.Steps.{wait_for}
use Rattle.printer.specs.declared.commands.Command.{Command}
use Rattle.printer.specs.declared.commands.Control.{Control}
use Rattle.printer.specs.declared.commands.Waiting.{Waiting}
use Rattle.printer.specs.declared.state.Printer.{Printer}
use Rattle.printer.specs.declared.stops.Stop.{Stop}

module _ (p : Printer) (w : Waiting) where
  -- Deciding

  stop-alike : (c : Command) (x : Option Stop) → vertical_events (wait_for p w) c x ≡ vertical_events p c x
  stop-alike c (Some s) = refl
  stop-alike c None = refl

  control-alike : (c : Control) (b : ℕ) → control_events (wait_for p w) c b ≡ control_events p c b
  unfolding attempt feed_after_return vertical
  control-alike Control.CarriageReturn b = refl
  control-alike Control.LineFeed b = refl
  control-alike Control.FormFeed b = refl
  control-alike Control.HorizontalTab b = refl
  control-alike Control.VerticalTab b =
      rw (stop-alike (Command.Control Control.VerticalTab b) (line_from (down_of p.place) 1 (held_in (chosen_stops p.stops))))
  control-alike Control.Backspace b = refl
  control-alike Control.ShiftOut b = refl
  control-alike Control.ShiftIn b = refl
  control-alike Control.Dc2 b = refl
  control-alike Control.Dc4 b = refl

  pub decides-alike : (c : Command) → decide (wait_for p w) c ≡ decide p c
  unfolding attempt ranged letter_events
  decides-alike (Command.Letter b) = refl
  decides-alike (Command.Control c b) = control-alike c b
  decides-alike (Command.Refused r) = refl
  decides-alike (Command.Silent k) = refl
  decides-alike Command.Reset = refl
  decides-alike (Command.Mode c) = refl
  decides-alike (Command.Parameter c n) = refl
  decides-alike (Command.Look k) = refl
  decides-alike (Command.Skip n) = refl
  decides-alike (Command.Feed n) = refl
  decides-alike (Command.Margin side n) = refl
  decides-alike (Command.Page g) = refl
  decides-alike (Command.Move m a b) = refl
  decides-alike (Command.OpenImage o a b) = refl
  decides-alike (Command.ImageByte m k b) = refl
  decides-alike (Command.Channel n) = refl
  decides-alike (Command.OpenList o) = refl
  decides-alike (Command.List k part) = refl

  -- Performing

  event-leaves-alike : (e : Event) → perform (wait_for p w) e ≡ wait_for (perform p e) w
  event-leaves-alike (done c n) = refl
  event-leaves-alike (passed c reason) = refl
  event-leaves-alike (inside c n) = refl
  event-leaves-alike (automatic n) = refl

  event-writes-alike : (e : Event) → records_of (wait_for p w) e ≡ records_of p e
  event-writes-alike (done c n) = refl
  event-writes-alike (passed c reason) = refl
  event-writes-alike (inside c n) = refl
  event-writes-alike (automatic n) = refl

pub leaves_alike : (p : Printer) (w : Waiting) (l : List Event) → perform_all (wait_for p w) l ≡ wait_for (perform_all p l) w
unfolding perform_all
leaves_alike p w [] = refl
leaves_alike p w (e ∷ l) = rw (event-leaves-alike p w e) (leaves_alike (perform p e) w l)

pub writes_alike : (p : Printer) (w : Waiting) (l : List Event) → records_all (wait_for p w) l ≡ records_all p l
unfolding records_all
writes_alike p w [] = refl
writes_alike p w (e ∷ l) = rw (event-leaves-alike p w e, event-writes-alike p w e, writes_alike (perform p e) w l)
