-- Document 01, 'Widths': base, advance and column width.
use Rattle.std.specs.Prelude.{ℕ, ◌+◌, ◌*◌, Bool, true, false}
use Rattle.printer.specs.Tools.{pick, either}
use Rattle.printer.specs.Types.{ImageMode, Pitch, Width}

-- the base: pitch, reduced, proportional
abbrev pub base : Pitch → Bool → Bool → ℕ
base Pitch.Cpi10 false false = 360
base Pitch.Cpi12 false false = 300
base Pitch.Cpi15 false false = 240
base Pitch.Cpi10 true false = 216
base Pitch.Cpi12 true false = 180
base Pitch.Cpi15 true false = 240
base p false true = 360
base p true true = 180

-- double width: ESC W 1 or SO
abbrev pub double_width : Width → Bool
double_width w = either w.wide w.wideonce

-- the advance
abbrev pub advance : Width → ℕ
advance w =
    pick (double_width w) 2 1 * (base w.pitch w.reduced w.proportional + 20 * w.spacing)

-- the column width
abbrev pub column_width : Width → ℕ
column_width w = pick w.proportional 360 (advance w)

-- document 02, E4: the units of an image column, and its bytes
abbrev pub image_step : ImageMode → ℕ
image_step ImageMode.Single = 60
image_step ImageMode.Double = 30
image_step ImageMode.DoubleSpeed = 30
image_step ImageMode.Quadruple = 15
image_step ImageMode.Crt80 = 45
image_step ImageMode.Crt90 = 40
image_step ImageMode.Single24 = 60
image_step ImageMode.Double24 = 30
image_step ImageMode.Crt24 = 40
image_step ImageMode.Triple24 = 20
image_step ImageMode.Hex24 = 10

abbrev pub image_bytes : ImageMode → ℕ
image_bytes ImageMode.Single = 1
image_bytes ImageMode.Double = 1
image_bytes ImageMode.DoubleSpeed = 1
image_bytes ImageMode.Quadruple = 1
image_bytes ImageMode.Crt80 = 1
image_bytes ImageMode.Crt90 = 1
image_bytes ImageMode.Single24 = 3
image_bytes ImageMode.Double24 = 3
image_bytes ImageMode.Crt24 = 3
image_bytes ImageMode.Triple24 = 3
image_bytes ImageMode.Hex24 = 3
