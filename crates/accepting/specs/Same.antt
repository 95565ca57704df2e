-- Whether registers are those of the printer that they are read as: register by register, a group at a time. The place, the
-- lengths and the stops are so whatever they are.
use Rattle.std.specs.Prelude.{ℕ, ◌*◌, ◌%◌, Bool, true, false, ◌&&◌, List, Result, Ok, Err, eqb, get_or}
use Rattle.printer.specs.Units.{per_inch_across, per_inch_down}
use Rattle.printer.specs.Bounds.{settings_bounds, place_bounds, column_bounds, channel_bounds, waiting_bounds}
use Rattle.printer.specs.Records.{style_of}
use Rattle.printer.specs.Tools.{holds}
use Rattle.printer.specs.Widths.{advance, column_width}
use Rattle.printer.specs.declared.commands.Waiting.{Waiting}
use Rattle.measures.specs.Exact.{packed}
use Rattle.registers.specs.declared.pending.Pending.{Pending}
use Rattle.registers.specs.Register.{kind_at, command_at, argument_at, image_mode_at, image_byte_at, image_columns_at, dots_across_at, dots_down_at, auto_feed_at, pitch_at, spacing_at, wide_at, wide_once_at, reduced_at, proportional_at, bold_at, double_strike_at, italic_at, underline_at, superscript_at, subscript_at, font_at, country_at, outline_at, double_height_at, italic_table_at, download_at, draft_at, upper_prints_at, style_at, advance_at, column_width_at, advance_dots_at}
use Rattle.registers.specs.Layout.{flag, pitch_number}
use Rattle.registers.specs.Groups.{is_set, resolution_of, pitch_of, place_in, width_in, settings_in, channels_in, stops_in}
use Rattle.registers.specs.State.{pending_of}
use Rattle.accepting.specs.declared.bounds.Refused.{Refused}

abbrev pub is_flag : ℕ → Bool
is_flag n = eqb n (flag (is_set n))

abbrev pub is_byte : ℕ → Bool
is_byte n = eqb n (n % 256)

abbrev pub is_pitch : ℕ → Bool
is_pitch n = eqb n (pitch_number (pitch_of n))

abbrev pub same_pending : List ℕ → Pending → Bool
same_pending m v =
    eqb (get_or m kind_at 0) v.kind && (eqb (get_or m command_at 0) v.command && (eqb (get_or m argument_at 0) v.argument && (eqb (get_or m image_mode_at 0) v.mode
    && (eqb (get_or m image_byte_at 0) v.part && eqb (get_or m image_columns_at 0) v.columns))))

abbrev pub same_setup : List ℕ → Bool
same_setup m =
    eqb (get_or m dots_across_at 0) (per_inch_across (resolution_of (get_or m dots_across_at 0)))
    && (eqb (get_or m dots_down_at 0) (per_inch_down (resolution_of (get_or m dots_across_at 0))) && is_flag (get_or m auto_feed_at 0))

abbrev pub same_width : List ℕ → Bool
same_width m =
    is_pitch (get_or m pitch_at 0) && (is_byte (get_or m spacing_at 0) && (is_flag (get_or m wide_at 0) && (is_flag (get_or m wide_once_at 0) && (is_flag (get_or m reduced_at 0)
    && is_flag (get_or m proportional_at 0)))))

abbrev pub same_emphasis : List ℕ → Bool
same_emphasis m =
    is_flag (get_or m bold_at 0) && (is_flag (get_or m double_strike_at 0) && (is_flag (get_or m italic_at 0) && (is_flag (get_or m underline_at 0) && (is_flag (get_or m superscript_at 0)
    && is_flag (get_or m subscript_at 0)))))

abbrev pub same_face : List ℕ → Bool
same_face m =
    is_byte (get_or m font_at 0) && (is_byte (get_or m country_at 0) && (is_byte (get_or m outline_at 0) && (is_flag (get_or m double_height_at 0) && (is_flag (get_or m italic_table_at 0)
    && is_flag (get_or m download_at 0)))))

-- draft, and whether 80h to 9Fh print
abbrev pub same_printing : List ℕ → Bool
same_printing m = is_flag (get_or m draft_at 0) && is_flag (get_or m upper_prints_at 0)

abbrev pub same_derived : List ℕ → Bool
same_derived m =
    eqb (get_or m style_at 0) (style_of (settings_in m))
    && (eqb (get_or m advance_at 0) (advance (width_in m)) && (eqb (get_or m column_width_at 0) (column_width (width_in m))
    && eqb (get_or m advance_dots_at 0) (packed (advance (width_in m) * per_inch_across (resolution_of (get_or m dots_across_at 0))))))

-- all of them, with the numbers of what is waited for
unfoldable pub same_registers : List ℕ → Pending → Bool
same_registers m v =
    same_pending m v && (same_setup m && (same_width m && (same_emphasis m && (same_face m && (same_printing m && same_derived m)))))

-- the registers are those of the printer that they are read as, but that it waits for w, and its groups and w are within their bounds
unfoldable pub accepts : List ℕ → Waiting → Bool
accepts m w =
    same_registers m (pending_of w) && (holds (settings_bounds (settings_in m)) && (holds (place_bounds (settings_in m) (place_in m)) &&
    (holds (column_bounds (stops_in m)) && (holds (channel_bounds (channels_in m)) && holds (waiting_bounds (settings_in m) (stops_in m) w)))))

-- what registers say is waited for, by whether they are those of a state within its bounds
abbrev pub examined : Bool → Waiting → Result Waiting Refused
examined true w = Ok w
examined false w = Err (record { waiting = w })
