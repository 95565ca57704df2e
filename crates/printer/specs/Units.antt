-- Document 01, 'Units, page and power-on': units, dots, and the rounding rule between them; document 02, E7: the rest.
use Rattle.std.specs.Prelude.{ℕ, ◌+◌, ◌*◌, ◌-◌, ◌/◌, ◌%◌, ltb}
use Rattle.printer.specs.Tools.{pick}
use Rattle.printer.specs.Types.{Units, Dots, Resolution, Rounded}

-- one unit is 1/3600 inch
abbrev pub units : ℕ → Units
units n = record { 0 = n }

-- D across and D down
abbrev pub per_inch_across : Resolution → ℕ
per_inch_across Resolution.Dots300 = 300
per_inch_across Resolution.Dots203 = 203

abbrev pub per_inch_down : Resolution → ℕ
per_inch_down Resolution.Dots300 = 300
per_inch_down Resolution.Dots203 = 200

-- the rounding rule
abbrev pub rounded : ℕ → ℕ → ℕ
rounded d n = (n * d + 1800) / 3600

abbrev pub dots : ℕ → ℕ → Dots
dots d n = record { 0 = rounded d n }

-- document 02, E7: the signed rest, units × D − 3,600 × dot, as a word of 16 bits
abbrev pub rest_word : ℕ → ℕ → ℕ
rest_word d n = (n * d + 65536 - 3600 * rounded d n) % 65536

-- what such a word counts forth or back: one of the two is 0
abbrev pub forth : ℕ → ℕ
forth w = pick (ltb w 32768) w 0

abbrev pub back : ℕ → ℕ
back w = pick (ltb w 32768) 0 (65536 - w)

-- the rounding rule hands back the dot and the rest
abbrev pub rounding : ℕ → ℕ → Rounded
rounding d n = record { dot = dots d n; rest = record { 0 = rest_word d n } }

abbrev pub across_rounding : Resolution → ℕ → Rounded
across_rounding r n = rounding (per_inch_across r) n

abbrev pub row_dots : Resolution → ℕ → Dots
row_dots r n = dots (per_inch_down r) n

-- the narrowest and the widest paper: 20 and 80 columns at 10 cpi
abbrev pub narrowest_paper : ℕ
narrowest_paper = 7200

abbrev pub widest_paper : ℕ
widest_paper = 28800

-- the shortest page, which also remains above a perforation skip, and the longest
abbrev pub shortest_page : ℕ
shortest_page = 3600

abbrev pub longest_page : ℕ
longest_page = 79200
