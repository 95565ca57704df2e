-- Document 02, E6: the vertical channels, in every state.
use Rattle.std.specs.Prelude.{ℕ, ◌≤◌, ◌<◌, ◌≡◌, List, [], ◌∷◌}
use Rattle.printer.specs.Settings.{channel_count, channel_stops}
use Rattle.printer.specs.Performing.{Event, done, stops_of, choosing, gathering, list_ended, with_parts}
use Rattle.printer.specs.Steps.{state_after, records_over}
use Rattle.printer.specs.Types.{Channels, Command, Listing, ListPart, Printer, TabStops, Target}

-- channel k is as it was: its count, and so whether it was ever set, and its sixteen places
pub record SameChannel (k : ℕ) (before after : Channels) : Type 0 where
  pub count : channel_count after k ≡ channel_count before k
  pub stops : channel_stops after k ≡ channel_stops before k

-- an event that does not set channel k: it neither ends a list of it nor is ESC @
pub record Spares (k : ℕ) (e : Event) : Type 0 where
  pub no_end : (b n : ℕ) → e ≡ done (Command.List (Listing.Sets (Target.Channel k)) (ListPart.End b)) n → ⊥
  pub no_reset : (n : ℕ) → e ≡ done Command.Reset n → ⊥

-- the bytes of a stop list: each is above the byte before, but the last, which ends it
abbrev pub ToItsEnd : (before : ℕ) → List ℕ → Type 0
ToItsEnd before [] = ⊥
ToItsEnd before (b ∷ []) = b ≤ before
ToItsEnd before (b ∷ c ∷ l) = (before < b) × ToItsEnd b (c ∷ l)

-- a channel chosen, and nothing else
abbrev pub with_chosen : Printer → ℕ → Printer
with_chosen p m =
    with_parts p p.settings p.place (stops_of p.stops.columns (choosing p.stops.channels m) p.stops.gathered)

-- a channel set to these stops, and none being gathered
abbrev pub with_lines : Printer → (m : ℕ) → TabStops → Printer
with_lines p m l = with_parts p p.settings p.place (list_ended (gathering p.stops l) (Target.Channel m))

-- ESC b m and ESC B with the same list, by the byte that the escape begins with: the same stops, for channel m and for channel 0, and the same records
pub record SameRules (p : Printer) (escape m : ℕ) (list : List ℕ) : Type 0 where
  pub stops : TabStops
  pub numbered : state_after p (escape ∷ 0x62 ∷ m ∷ list) ≡ with_lines p m stops
  pub plain : state_after p (escape ∷ 0x42 ∷ list) ≡ with_lines p 0 stops
  pub records : records_over p (escape ∷ 0x62 ∷ m ∷ list) ≡ records_over p (escape ∷ 0x42 ∷ list)
