-- Where moves end, if they are allowed.
use Rattle.std.specs.Prelude.{ℕ, ◌+◌, ◌*◌, ◌-◌, ◌/◌, ◌%◌, Bool, true, false, Option, Some, None, leb, ltb, eqb}
use Rattle.printer.specs.Tools.{pick, both}
use Rattle.printer.specs.Units.{units}
use Rattle.printer.specs.Widths.{image_step}
use Rattle.printer.specs.Performing.{relative_move, column_move}
use Rattle.printer.specs.declared.commands.ImageMode.{ImageMode}
use Rattle.printer.specs.declared.settings.Margins.{Margins}
use Rattle.printer.specs.declared.units.Units.{Units}
use Rattle.interpreter.specs.declared.lines.Depth.{Depth}

-- a position, if a test allows it
abbrev pub reach : Bool → ℕ → Option Units
reach true n = Some (units n)
reach false n = None

-- across, within a margin; down, above the edge

abbrev pub rightward : (from by right : ℕ) → Option Units
rightward from by right = reach (leb (from + by) right) (from + by)

abbrev pub leftward : (from by left : ℕ) → Option Units
leftward from by left = reach (leb (left + by) from) (from - by)

abbrev pub downward : (from by edge : ℕ) → Option Units
downward from by edge = reach (ltb (from + by) edge) (from + by)

-- a signed move of 16 bits, in steps
abbrev pub relative_to : Margins → (across n step : ℕ) → Option Units
relative_to m across n step =
    reach
    (pick (ltb n 0x8000) (leb (across + n * step) m.right.0) (leb (m.left.0 + (0x10000 - n) * step) across))
    (relative_move across n step)

-- after the k-th byte of an image column that ends within the right margin
abbrev pub column_end : ImageMode → (k across right : ℕ) → Option Units
column_end m k across right = reach (leb (across + image_step m) right) (across + column_move m k)

-- so many columns of a width as a margin

abbrev pub left_column : (width n right : ℕ) → Option Units
left_column width n right = reach (ltb (n * width) right) (n * width)

abbrev pub right_column : (width n left paper : ℕ) → Option Units
right_column width n left paper = reach (both (ltb left (n * width)) (leb (n * width) paper)) (n * width)

-- down by n/180 inch, over edges; nowhere, if the edge is the top
abbrev pub further_down : (down n edge : ℕ) → Depth
further_down down n edge =
    pick (eqb edge 0) (record { down = units down; pages = 0 })
    (record { down = units ((down + 20 * n) % edge); pages = (down + 20 * n) / edge % 256 })
