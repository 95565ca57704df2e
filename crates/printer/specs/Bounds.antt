-- Document 01, 'At every moment': what a state of ours is, as orders between numbers. Resolution, pitch and the command waited for are so by type.
use Rattle.std.specs.Prelude.{ℕ, zero, suc, ◌+◌, Bool, List, [], ◌∷◌, ◌++◌}
use Rattle.printer.specs.Tools.{both, Order, ◌up_to◌, passes, holds}
use Rattle.printer.specs.Units.{narrowest_paper, widest_paper, shortest_page, longest_page}
use Rattle.printer.specs.Widths.{image_bytes}
use Rattle.printer.specs.Settings.{left_of, right_of, paper_width_of, page_of, skip_of, line_of, edge_of, across_of, down_of, held_in, channel_stops}
use Rattle.printer.specs.Escapes.{countries}
use Rattle.printer.specs.Performing.{stop_of}
use Rattle.printer.specs.Deciding.{most_stops}
use Rattle.printer.specs.Types.{Channels, Listing, Place, Printer, Settings, Stops, TabStops, Target, Waiting}

abbrev pub settings_bounds : Settings → List Order
settings_bounds s =
    (suc (left_of s) up_to right_of s) ∷
    (right_of s up_to paper_width_of s) ∷
    (narrowest_paper up_to paper_width_of s) ∷
    (paper_width_of s up_to widest_paper) ∷
    (shortest_page up_to page_of s) ∷
    (page_of s up_to longest_page) ∷
    (shortest_page + skip_of s up_to page_of s) ∷
    (line_of s up_to 5100) ∷
    (s.width.spacing up_to 127) ∷
    passes (countries s.face.country) ∷
    (s.face.outline up_to 3) ∷
    []

abbrev pub place_bounds : Settings → Place → List Order
place_bounds s x =
    (left_of s up_to across_of x) ∷
    (across_of x up_to right_of s) ∷
    (suc (down_of x) up_to edge_of s) ∷
    []

-- strictly ascending, from above n up to a limit
unfoldable pub ascending : ℕ → ℕ → List ℕ → List Order
ascending limit n [] = []
ascending limit n (m ∷ l) = (suc n up_to m) ∷ (m up_to limit) ∷ ascending limit m l

-- the last of a list, or n
unfoldable pub last_of : ℕ → List ℕ → ℕ
last_of n [] = n
last_of n (m ∷ l) = last_of m l

-- columns from 1 to 255, vertical stops from 1 to 79,199
abbrev pub last_stop : Target → ℕ
last_stop Target.Columns = 255
last_stop (Target.Channel m) = 79199

-- at most so many stops, strictly ascending, from 1 to a limit
abbrev pub list_bounds : (most limit : ℕ) → TabStops → List Order
list_bounds most limit l = (l.count up_to most) ∷ ascending limit 0 (held_in l)

abbrev pub target_bounds : Target → TabStops → List Order
target_bounds k l = list_bounds (most_stops k) (last_stop k) l

abbrev pub column_bounds : Stops → List Order
column_bounds t = target_bounds Target.Columns t.columns

-- document 02, E6: each channel obeys the vertical bounds (one that was never set has no stops), and the chosen one is 0 to 7
unfoldable pub channels_below : Channels → ℕ → List Order
channels_below c zero = []
channels_below c (suc m) = target_bounds (Target.Channel m) (channel_stops c m) ++ channels_below c m

abbrev pub channel_bounds : Channels → List Order
channel_bounds c = (c.chosen up_to 7) ∷ channels_below c 8

-- the channel that a list sets, if it sets one
abbrev pub channel_of : Target → ℕ
channel_of Target.Columns = 0
channel_of (Target.Channel m) = m

-- a list being gathered obeys the same, and its last byte, made a stop, is not below its last stop
abbrev pub gathering_bounds : Settings → Stops → Target → ℕ → List Order
gathering_bounds s t k b =
    (last_of 0 (held_in t.gathered) up_to stop_of s k b) ∷ (channel_of k up_to 7) ∷ target_bounds k t.gathered

-- one that is dropped gathers nothing, so nothing is asked of it
abbrev pub listing_bounds : Settings → Stops → Listing → ℕ → List Order
listing_bounds s t (Listing.Sets k) b = gathering_bounds s t k b
listing_bounds s t Listing.Dropped b = []

-- what is waited for: image data is 1 to 65,535 columns; document 02, E4: the first byte of a column, or the second or third of three
abbrev pub waiting_bounds : Settings → Stops → Waiting → List Order
waiting_bounds s t Waiting.Nothing = []
waiting_bounds s t Waiting.SecondByte = []
waiting_bounds s t (Waiting.Arguments w) = []
waiting_bounds s t (Waiting.StopList k b) = listing_bounds s t k b
waiting_bounds s t (Waiting.ImageData m k n) = (1 up_to n) ∷ (n up_to 65535) ∷ (1 up_to k) ∷ (k up_to image_bytes m) ∷ []

-- a state within the bounds: the test that answer 4 goes by
unfoldable pub accepted : Printer → Bool
accepted p =
    both (holds (settings_bounds p.settings))
    (both (holds (place_bounds p.settings p.place))
    (both (holds (column_bounds p.stops))
    (both (holds (channel_bounds p.stops.channels))
    (holds (waiting_bounds p.settings p.stops p.waiting)))))
