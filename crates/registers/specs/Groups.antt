-- The state that registers are read as, whatever they are.
use Rattle.std.specs.Prelude.{ℕ, suc, ◌%◌, Bool, List, eqb, get_or, take, drop}
use Rattle.printer.specs.Tools.{pick}
use Rattle.printer.specs.Units.{units}
use Rattle.printer.specs.Settings.{at}
use Rattle.printer.specs.PowerOn.{stop_room}
use Rattle.printer.specs.declared.settings.Emphasis.{Emphasis}
use Rattle.printer.specs.declared.settings.Face.{Face}
use Rattle.printer.specs.declared.settings.Margins.{Margins}
use Rattle.printer.specs.declared.settings.Paper.{Paper}
use Rattle.printer.specs.declared.settings.Pitch.{Pitch}
use Rattle.printer.specs.declared.settings.Script.{Script}
use Rattle.printer.specs.declared.settings.Settings.{Settings}
use Rattle.printer.specs.declared.settings.Setup.{Setup}
use Rattle.printer.specs.declared.settings.Width.{Width}
use Rattle.printer.specs.declared.state.Place.{Place}
use Rattle.printer.specs.declared.stops.Channels.{Channels}
use Rattle.printer.specs.declared.stops.Stops.{Stops}
use Rattle.printer.specs.declared.stops.TabStops.{TabStops}
use Rattle.printer.specs.declared.units.Resolution.{Resolution}
use Rattle.registers.specs.Register.{across_at, down_at, left_at, right_at, page_at, skip_at, line_at, dots_across_at, auto_feed_at, paper_width_at, pitch_at, spacing_at, wide_at, wide_once_at, reduced_at, proportional_at, bold_at, double_strike_at, italic_at, underline_at, superscript_at, subscript_at, font_at, country_at, outline_at, double_height_at, italic_table_at, download_at, draft_at, upper_prints_at, chosen_at, column_count_at, gathered_count_at, channel_counts_at, channel_stops_at}

abbrev pub is_set : ℕ → Bool
is_set n = eqb n 1

abbrev pub resolution_of : ℕ → Resolution
resolution_of n = pick (eqb n 300) Resolution.Dots300 Resolution.Dots203

abbrev pub pitch_of : ℕ → Pitch
pitch_of n = pick (eqb n 10) Pitch.Cpi10 (pick (eqb n 12) Pitch.Cpi12 Pitch.Cpi15)

abbrev pub place_in : List ℕ → Place
place_in m = at (get_or m across_at 0) (get_or m down_at 0)

abbrev pub setup_in : List ℕ → Setup
setup_in m = record { resolution = resolution_of (get_or m dots_across_at 0); autofeed = is_set (get_or m auto_feed_at 0); width = units (get_or m paper_width_at 0) }

abbrev pub width_in : List ℕ → Width
width_in m =
    record {
      pitch = pitch_of (get_or m pitch_at 0);
      spacing = get_or m spacing_at 0 % 256;
      wide = is_set (get_or m wide_at 0);
      wideonce = is_set (get_or m wide_once_at 0);
      reduced = is_set (get_or m reduced_at 0);
      proportional = is_set (get_or m proportional_at 0);
    }

abbrev pub emphasis_in : List ℕ → Emphasis
emphasis_in m =
    record {
      bold = is_set (get_or m bold_at 0);
      doublestrike = is_set (get_or m double_strike_at 0);
      italic = is_set (get_or m italic_at 0);
      underline = is_set (get_or m underline_at 0);
    }

abbrev pub script_in : List ℕ → Script
script_in m = record { superscript = is_set (get_or m superscript_at 0); subscript = is_set (get_or m subscript_at 0) }

abbrev pub face_in : List ℕ → Face
face_in m =
    record {
      font = get_or m font_at 0 % 256;
      country = get_or m country_at 0 % 256;
      outline = get_or m outline_at 0 % 256;
      doubleheight = is_set (get_or m double_height_at 0);
      italictable = is_set (get_or m italic_table_at 0);
      download = is_set (get_or m download_at 0);
    }

abbrev pub margins_in : List ℕ → Margins
margins_in m = record { left = units (get_or m left_at 0); right = units (get_or m right_at 0) }

abbrev pub paper_in : List ℕ → Paper
paper_in m = record { page = units (get_or m page_at 0); skip = units (get_or m skip_at 0); line = units (get_or m line_at 0) }

unfoldable pub settings_in : List ℕ → Settings
settings_in m =
    record {
      setup = setup_in m;
      width = width_in m;
      emphasis = emphasis_in m;
      script = script_in m;
      face = face_in m;
      margins = margins_in m;
      paper = paper_in m;
      draft = is_set (get_or m draft_at 0);
      upperprints = is_set (get_or m upper_prints_at 0);
    }

-- a list of stops from its count on
abbrev pub list_in : ℕ → List ℕ → TabStops
list_in from m = record { stops = take stop_room (drop (suc from) m); count = get_or m from 0 }

abbrev pub channels_in : List ℕ → Channels
channels_in m = record { stops = take 128 (drop channel_stops_at m); counts = take 8 (drop channel_counts_at m); chosen = get_or m chosen_at 0 }

unfoldable pub stops_in : List ℕ → Stops
stops_in m = record { columns = list_in column_count_at m; channels = channels_in m; gathered = list_in gathered_count_at m }
