-- The number of each register, by the name that it has in the code (crates/registers/src/lib.rt). Nothing else here or in the proofs says one
-- as a numeral, so that a register more moves those after it in these lines alone.
use Rattle.std.specs.Prelude.{ℕ, ◌+◌}
use Rattle.printer.specs.PowerOn.{stop_room}

-- what is waited for

abbrev pub kind_at : ℕ
kind_at = 0

abbrev pub command_at : ℕ
command_at = kind_at + 1

abbrev pub argument_at : ℕ
argument_at = kind_at + 2

abbrev pub image_mode_at : ℕ
image_mode_at = kind_at + 3

abbrev pub image_byte_at : ℕ
image_byte_at = kind_at + 4

abbrev pub image_columns_at : ℕ
image_columns_at = kind_at + 5

-- the place

abbrev pub across_at : ℕ
across_at = image_columns_at + 1

abbrev pub down_at : ℕ
down_at = across_at + 1

-- margins, and the page

abbrev pub left_at : ℕ
left_at = down_at + 1

abbrev pub right_at : ℕ
right_at = left_at + 1

abbrev pub page_at : ℕ
page_at = right_at + 1

abbrev pub skip_at : ℕ
skip_at = page_at + 1

abbrev pub line_at : ℕ
line_at = page_at + 2

-- the settings of the start

abbrev pub dots_across_at : ℕ
dots_across_at = line_at + 1

abbrev pub dots_down_at : ℕ
dots_down_at = dots_across_at + 1

abbrev pub auto_feed_at : ℕ
auto_feed_at = dots_across_at + 2

abbrev pub paper_width_at : ℕ
paper_width_at = dots_across_at + 3

-- what the width of a letter depends on

abbrev pub pitch_at : ℕ
pitch_at = paper_width_at + 1

abbrev pub spacing_at : ℕ
spacing_at = pitch_at + 1

abbrev pub wide_at : ℕ
wide_at = pitch_at + 2

abbrev pub wide_once_at : ℕ
wide_once_at = pitch_at + 3

abbrev pub reduced_at : ℕ
reduced_at = pitch_at + 4

abbrev pub proportional_at : ℕ
proportional_at = pitch_at + 5

-- how a letter looks

abbrev pub bold_at : ℕ
bold_at = proportional_at + 1

abbrev pub double_strike_at : ℕ
double_strike_at = bold_at + 1

abbrev pub italic_at : ℕ
italic_at = bold_at + 2

abbrev pub underline_at : ℕ
underline_at = bold_at + 3

abbrev pub superscript_at : ℕ
superscript_at = underline_at + 1

abbrev pub subscript_at : ℕ
subscript_at = superscript_at + 1

abbrev pub font_at : ℕ
font_at = subscript_at + 1

abbrev pub country_at : ℕ
country_at = font_at + 1

abbrev pub outline_at : ℕ
outline_at = font_at + 2

abbrev pub double_height_at : ℕ
double_height_at = font_at + 3

abbrev pub italic_table_at : ℕ
italic_table_at = font_at + 4

abbrev pub download_at : ℕ
download_at = font_at + 5

-- draft quality, and whether 80h to 9Fh print

abbrev pub draft_at : ℕ
draft_at = download_at + 1

abbrev pub upper_prints_at : ℕ
upper_prints_at = draft_at + 1

-- what follows from the settings

abbrev pub style_at : ℕ
style_at = upper_prints_at + 1

abbrev pub advance_at : ℕ
advance_at = style_at + 1

abbrev pub column_width_at : ℕ
column_width_at = style_at + 2

abbrev pub advance_dots_at : ℕ
advance_dots_at = style_at + 3

-- the chosen channel; then two lists of stops, each a count and its stops

abbrev pub chosen_at : ℕ
chosen_at = advance_dots_at + 1

abbrev pub column_count_at : ℕ
column_count_at = chosen_at + 1

abbrev pub column_stops_at : ℕ
column_stops_at = column_count_at + 1

abbrev pub gathered_count_at : ℕ
gathered_count_at = column_stops_at + stop_room

abbrev pub gathered_stops_at : ℕ
gathered_stops_at = gathered_count_at + 1

-- the channels: a count for each of eight, and sixteen places for each

abbrev pub channel_counts_at : ℕ
channel_counts_at = gathered_stops_at + stop_room

abbrev pub channel_stops_at : ℕ
channel_stops_at = channel_counts_at + 8

-- how many there are
abbrev pub register_count : ℕ
register_count = channel_stops_at + 128
