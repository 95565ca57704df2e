-- Document 01, 'Power-on and ESC @'.
use Rattle.std.specs.Prelude.{ℕ, ◌-◌, true, false, List, [], ◌∷◌, ◌++◌, replicate}
use Rattle.printer.specs.Settings.{at, width_of, emphasis_of, script_of, face_of, margins_of, paper_of, settings_of}
use Rattle.printer.specs.Types.{Channels, Pitch, Printer, Settings, Setup, Stops, TabStops, Waiting}

-- 10 cpi; font, country, spacing and style 0; left 0, right the paper's width; page 39,600, skip 0, line 600; letter quality; upper codes print
abbrev pub power_on_settings : Setup → Settings
power_on_settings t =
    settings_of t (width_of Pitch.Cpi10 0 false false false false) (emphasis_of false false false false) (script_of false false)
    (face_of 0 0 0 false false false) (margins_of 0 t.width.0) (paper_of 39600 0 600) false true

-- the room of a list of stops
abbrev pub stop_room : ℕ
stop_room = 32

abbrev pub no_stops : TabStops
no_stops = record { stops = replicate stop_room 0; count = 0 }

-- document 02, E6: all eight channels never set, whatever their places hold, and channel 0 chosen
abbrev pub never_set : (places : List ℕ) → Channels
never_set l = record { stops = l; counts = replicate 8 0; chosen = 0 }

abbrev pub no_channels : Channels
no_channels = never_set (replicate 128 0)

-- horizontal stops at columns 8, 16 .. 72; vertical stops never set
abbrev pub start_stops : Channels → Stops
start_stops c =
    record {
      columns =
          record { stops = (8 ∷ 16 ∷ 24 ∷ 32 ∷ 40 ∷ 48 ∷ 56 ∷ 64 ∷ 72 ∷ []) ++ replicate (stop_room - 9) 0; count = 9 };
      channels = c;
      gathered = no_stops;
    }

abbrev pub power_on_stops : Stops
power_on_stops = start_stops no_channels

-- across and down 0; waiting for nothing
abbrev pub power_on : Setup → Printer
power_on t =
    record { settings = power_on_settings t; place = at 0 0; stops = power_on_stops; waiting = Waiting.Nothing }
