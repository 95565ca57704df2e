-- Groups of the state stored in their registers, whatever stood there.
use Rattle.std.specs.Prelude.{ℕ, ◌+◌, Bool, List, [], ◌∷◌, ◌++◌, length, take, drop, set, get_or}
use Rattle.printer.specs.Units.{per_inch_across, per_inch_down}
use Rattle.printer.specs.Records.{style_of}
use Rattle.printer.specs.Settings.{across_of, down_of, advance_of, column_of, at}
use Rattle.printer.specs.PowerOn.{power_on_settings, never_set, start_stops}
use Rattle.printer.specs.declared.commands.Waiting.{Waiting}
use Rattle.printer.specs.declared.settings.Emphasis.{Emphasis}
use Rattle.printer.specs.declared.settings.Face.{Face}
use Rattle.printer.specs.declared.settings.Margins.{Margins}
use Rattle.printer.specs.declared.settings.Paper.{Paper}
use Rattle.printer.specs.declared.settings.Script.{Script}
use Rattle.printer.specs.declared.settings.Settings.{Settings}
use Rattle.printer.specs.declared.settings.Setup.{Setup}
use Rattle.printer.specs.declared.settings.Width.{Width}
use Rattle.printer.specs.declared.state.Place.{Place}
use Rattle.printer.specs.declared.state.Printer.{Printer}
use Rattle.printer.specs.declared.stops.Channels.{Channels}
use Rattle.printer.specs.declared.stops.Stops.{Stops}
use Rattle.printer.specs.declared.stops.TabStops.{TabStops}
use Rattle.printer.specs.declared.units.Units.{Units}
use Rattle.registers.specs.declared.pending.Pending.{Pending}
use Rattle.registers.specs.Register.{kind_at, command_at, argument_at, image_mode_at, image_byte_at, image_columns_at, across_at, down_at, left_at, right_at, page_at, skip_at, line_at, dots_across_at, dots_down_at, auto_feed_at, paper_width_at, pitch_at, spacing_at, wide_at, wide_once_at, reduced_at, proportional_at, bold_at, double_strike_at, italic_at, underline_at, superscript_at, subscript_at, font_at, country_at, outline_at, double_height_at, italic_table_at, download_at, draft_at, upper_prints_at, style_at, advance_at, column_width_at, advance_dots_at, chosen_at, column_count_at, column_stops_at, gathered_count_at, channel_counts_at, channel_stops_at}
use Rattle.registers.specs.Layout.{flag, pitch_number, advance_dots}

-- numbers stored at their places, in turn
abbrev pub stores : List (ℕ × ℕ) → List ℕ → List ℕ
stores [] m = m
stores (e ∷ l) m = stores l (set m e.0 e.1)

abbrev pub place_cells : Place → List (ℕ × ℕ)
place_cells x = (across_at, across_of x) ∷ (down_at, down_of x) ∷ []

abbrev pub length_cells : Margins → Paper → List (ℕ × ℕ)
length_cells x y =
    (left_at, x.left.0) ∷ (right_at, x.right.0) ∷ (page_at, y.page.0) ∷ (skip_at, y.skip.0) ∷ (line_at, y.line.0) ∷ []

abbrev pub setup_cells : Setup → List (ℕ × ℕ)
setup_cells s = (dots_across_at, per_inch_across s.resolution) ∷ (dots_down_at, per_inch_down s.resolution) ∷ (auto_feed_at, flag s.autofeed) ∷ (paper_width_at, s.width.0) ∷ []

abbrev pub width_cells : Width → List (ℕ × ℕ)
width_cells w =
    (pitch_at, pitch_number w.pitch) ∷ (spacing_at, w.spacing) ∷ (wide_at, flag w.wide) ∷ (wide_once_at, flag w.wideonce) ∷
    (reduced_at, flag w.reduced) ∷ (proportional_at, flag w.proportional) ∷ []

abbrev pub emphasis_cells : Emphasis → Script → List (ℕ × ℕ)
emphasis_cells e s =
    (bold_at, flag e.bold) ∷ (double_strike_at, flag e.doublestrike) ∷ (italic_at, flag e.italic) ∷ (underline_at, flag e.underline) ∷
    (superscript_at, flag s.superscript) ∷ (subscript_at, flag s.subscript) ∷ []

abbrev pub face_cells : Face → List (ℕ × ℕ)
face_cells f =
    (font_at, f.font) ∷ (country_at, f.country) ∷ (outline_at, f.outline) ∷ (double_height_at, flag f.doubleheight) ∷ (italic_table_at, flag f.italictable) ∷
    (download_at, flag f.download) ∷ []

abbrev pub printing_cells : (draft upperprints : Bool) → List (ℕ × ℕ)
printing_cells draft upperprints = (draft_at, flag draft) ∷ (upper_prints_at, flag upperprints) ∷ []

abbrev pub derived_cells : Settings → List (ℕ × ℕ)
derived_cells s = (style_at, style_of s) ∷ (advance_at, advance_of s) ∷ (column_width_at, column_of s) ∷ (advance_dots_at, advance_dots s) ∷ []

-- all of the settings
unfoldable pub settings_stored : Settings → List ℕ → List ℕ
settings_stored s m =
    stores (derived_cells s) (stores (printing_cells s.draft s.upperprints) (stores (face_cells s.face)
    (stores (emphasis_cells s.emphasis s.script) (stores (width_cells s.width) (stores (setup_cells s.setup)
    (stores (length_cells s.margins s.paper) m))))))

-- what is waited for
abbrev pub pended : Pending → List ℕ → List ℕ
pended v m =
    stores ((kind_at, v.kind) ∷ (command_at, v.command) ∷ (argument_at, v.argument) ∷ (image_mode_at, v.mode) ∷ (image_byte_at, v.part) ∷ (image_columns_at, v.columns) ∷ []) m

-- numbers over the registers from a place on
abbrev pub over : ℕ → List ℕ → List ℕ → List ℕ
over from l m = take from m ++ (l ++ drop (from + length l) m)

-- a list of stops from its count on
abbrev pub list_stored : ℕ → TabStops → List ℕ → List ℕ
list_stored from t m = over (from + 1) t.stops (set m from t.count)

-- the channels' counts, and their places
abbrev pub channels_stored : Channels → List ℕ → List ℕ
channels_stored c m = over channel_stops_at c.stops (over channel_counts_at c.counts m)

unfoldable pub stops_stored : Stops → List ℕ → List ℕ
stops_stored t m =
    channels_stored t.channels (list_stored gathered_count_at t.gathered (list_stored column_count_at t.columns (set m chosen_at t.channels.chosen)))

-- what registers say is waited for, as it stands
abbrev pub stale_in : List ℕ → Pending
stale_in m =
    record {
      kind = get_or m kind_at 0;
      command = get_or m command_at 0;
      argument = get_or m argument_at 0;
      mode = get_or m image_mode_at 0;
      part = get_or m image_byte_at 0;
      columns = get_or m image_columns_at 0;
    }

-- the settings at power-on that are not 0, but for those of the start: right margin, page, line, pitch, upper codes print
abbrev pub power_on_cells : Units → List (ℕ × ℕ)
power_on_cells width = (right_at, width.0) ∷ (page_at, 39600) ∷ (line_at, 600) ∷ (pitch_at, 10) ∷ (upper_prints_at, 1) ∷ []

-- the horizontal stops at power-on: nine, at columns 8, 16 .. 72
abbrev pub column_cells : List (ℕ × ℕ)
column_cells =
    (column_count_at, 9) ∷ (column_stops_at, 8) ∷ (column_stops_at + 1, 16) ∷ (column_stops_at + 2, 24) ∷ (column_stops_at + 3, 32) ∷ (column_stops_at + 4, 40) ∷ (column_stops_at + 5, 48) ∷ (column_stops_at + 6, 56) ∷ (column_stops_at + 7, 64) ∷ (column_stops_at + 8, 72) ∷ []

-- the state at power-on, whatever the places of the channels, which were never set, hold
abbrev pub restarted : Setup → (places : List ℕ) → Printer
restarted t l =
    record { settings = power_on_settings t; place = at 0 0; stops = start_stops (never_set l); waiting = Waiting.Nothing }
