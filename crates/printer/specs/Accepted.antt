-- A state of ours, as facts: the bounds that answer 4 tests, and what every value of the declared types has.
use Rattle.std.specs.Prelude.{◌≤◌, ◌≡◌, length}
use Rattle.printer.specs.Tools.{Holds, Bytes}
use Rattle.printer.specs.PowerOn.{stop_room}
use Rattle.printer.specs.Codes.{begun_by}
use Rattle.printer.specs.Bounds.{settings_bounds, place_bounds, column_bounds, channel_bounds, waiting_bounds}
use Rattle.printer.specs.Types.{Printer, Stops, Waiting}

-- a state within the bounds
pub record Accepted (p : Printer) : Type 0 where
  pub settings : Holds (settings_bounds p.settings)
  pub place : Holds (place_bounds p.settings p.place)
  pub columns : Holds (column_bounds p.stops)
  pub channels : Holds (channel_bounds p.stops.channels)
  pub waiting : Holds (waiting_bounds p.settings p.stops p.waiting)

-- What every value of the declared types has: bytes are below 256, and arrays have their lengths.

abbrev pub WaitingTyped : Waiting → Type 0
WaitingTyped Waiting.Nothing = Unit
WaitingTyped Waiting.SecondByte = Unit
WaitingTyped (Waiting.Arguments w) = Bytes (begun_by w)
WaitingTyped (Waiting.StopList k b) = b ≤ 255
WaitingTyped (Waiting.ImageData m k n) = Unit

pub record StopsTyped (t : Stops) : Type 0 where
  pub columns : length t.columns.stops ≡ stop_room
  pub channels : length t.channels.stops ≡ 128
  pub counts : length t.channels.counts ≡ 8
  pub gathered : length t.gathered.stops ≡ stop_room

pub record Typed (p : Printer) : Type 0 where
  pub font : p.settings.face.font ≤ 255
  pub stops : StopsTyped p.stops
  pub waiting : WaitingTyped p.waiting

-- a state of ours: both
pub record Ours (p : Printer) : Type 0 where
  pub typed : Typed p
  pub accepted : Accepted p
