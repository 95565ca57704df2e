-- The state as registers. Each group stands before a tail, so that the registers after it are none of its concern.
use Rattle.std.specs.Prelude.{ℕ, ◌*◌, Bool, List, [], ◌∷◌, ◌++◌}
use Rattle.printer.specs.Tools.{pick}
use Rattle.printer.specs.Units.{per_inch_across, per_inch_down}
use Rattle.printer.specs.Records.{style_of}
use Rattle.printer.specs.Settings.{left_of, right_of, paper_width_of, page_of, skip_of, line_of, advance_of, column_of, across_of, down_of}
use Rattle.printer.specs.declared.settings.Pitch.{Pitch}
use Rattle.printer.specs.declared.settings.Settings.{Settings}
use Rattle.printer.specs.declared.state.Place.{Place}
use Rattle.printer.specs.declared.state.Printer.{Printer}
use Rattle.printer.specs.declared.stops.Channels.{Channels}
use Rattle.printer.specs.declared.stops.Stops.{Stops}
use Rattle.printer.specs.declared.stops.TabStops.{TabStops}
use Rattle.measures.specs.Exact.{packed}
use Rattle.registers.specs.declared.pending.Pending.{Pending}

abbrev pub flag : Bool → ℕ
flag on = pick on 1 0

abbrev pub pitch_number : Pitch → ℕ
pitch_number Pitch.Cpi10 = 10
pitch_number Pitch.Cpi12 = 12
pitch_number Pitch.Cpi15 = 15

-- what follows from the settings
pub record Derived : Type 0 where
  pub style : ℕ
  pub advance : ℕ
  pub column : ℕ
  pub dots : ℕ

-- the advance in dots across, as an exact step
abbrev pub advance_dots : Settings → ℕ
advance_dots s = packed (advance_of s * per_inch_across s.setup.resolution)

abbrev pub derived_of : Settings → Derived
derived_of s = record { style = style_of s; advance = advance_of s; column = column_of s; dots = advance_dots s }

-- from kindAt on
abbrev pub pending_words : Pending → List ℕ → List ℕ
pending_words v l = v.kind ∷ v.command ∷ v.argument ∷ v.mode ∷ v.part ∷ v.columns ∷ l

-- from across_at on
abbrev pub place_words : Place → List ℕ → List ℕ
place_words x l = across_of x ∷ down_of x ∷ l

-- from leftAt on
abbrev pub settings_words : Settings → List ℕ → List ℕ
settings_words s l =
    left_of s ∷ right_of s ∷ page_of s ∷ skip_of s ∷ line_of s ∷
    per_inch_across s.setup.resolution ∷ per_inch_down s.setup.resolution ∷ flag s.setup.autofeed ∷ paper_width_of s ∷
    pitch_number s.width.pitch ∷ s.width.spacing ∷ flag s.width.wide ∷ flag s.width.wideonce ∷
    flag s.width.reduced ∷ flag s.width.proportional ∷
    flag s.emphasis.bold ∷ flag s.emphasis.doublestrike ∷ flag s.emphasis.italic ∷ flag s.emphasis.underline ∷
    flag s.script.superscript ∷ flag s.script.subscript ∷
    s.face.font ∷ s.face.country ∷ s.face.outline ∷
    flag s.face.doubleheight ∷ flag s.face.italictable ∷ flag s.face.download ∷
    flag s.draft ∷ flag s.upperprints ∷
    l

-- from style_at on
abbrev pub derived_words : Derived → List ℕ → List ℕ
derived_words d l = d.style ∷ d.advance ∷ d.column ∷ d.dots ∷ l

-- a count, and its stops
abbrev pub list_words : TabStops → List ℕ → List ℕ
list_words t l = t.count ∷ (t.stops ++ l)

-- from channel_counts_at on: the channels' counts, and their places
abbrev pub channel_words : Channels → List ℕ → List ℕ
channel_words c l = c.counts ++ (c.stops ++ l)

-- from chosen_at on: the chosen channel, the columns, what is gathered, and the channels
abbrev pub stops_words : Stops → List ℕ → List ℕ
stops_words t l = t.channels.chosen ∷ list_words t.columns (list_words t.gathered (channel_words t.channels l))

-- the state with any numbers for what is waited for, which a call holds as a value and stores at its end, and for what
-- follows from the settings
unfoldable pub laid : Pending → Derived → Printer → List ℕ
laid v d p =
    pending_words v (place_words p.place (settings_words p.settings (derived_words d (stops_words p.stops []))))

-- the same, with what follows from the settings
abbrev pub words : Pending → Printer → List ℕ
words v p = laid v (derived_of p.settings) p
