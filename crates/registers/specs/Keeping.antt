-- What follows from the settings, kept as they change.
use Rattle.std.specs.Prelude.{ℕ, ◌+◌, ◌*◌, ◌-◌, ◌%◌, List, get_or, set}
use Rattle.std.specs.Int.Bits.{bit_or}
use Rattle.printer.specs.Units.{per_inch_across}
use Rattle.printer.specs.Widths.{advance, column_width}
use Rattle.printer.specs.declared.units.Resolution.{Resolution}
use Rattle.printer.specs.declared.settings.Width.{Width}
use Rattle.measures.specs.Exact.{packed}
use Rattle.registers.specs.declared.derived.Shown.{Shown}
use Rattle.registers.specs.Register.{wide_at, wide_once_at, reduced_at, proportional_at, bold_at, double_strike_at, italic_at, underline_at, superscript_at, subscript_at, outline_at, double_height_at, italic_table_at, download_at, style_at, advance_at, column_width_at, advance_dots_at, dots_across_at}
use Rattle.registers.specs.Groups.{resolution_of, width_in}

-- the settings of one register that show in the style bits: the register, and the value of the lowest bit

abbrev pub register_of : Shown → ℕ
register_of Shown.Bold = bold_at
register_of Shown.DoubleStrike = double_strike_at
register_of Shown.Italic = italic_at
register_of Shown.Underline = underline_at
register_of Shown.Superscript = superscript_at
register_of Shown.Subscript = subscript_at
register_of Shown.DoubleHeight = double_height_at
register_of Shown.Outline = outline_at
register_of Shown.Proportional = proportional_at
register_of Shown.Reduced = reduced_at
register_of Shown.ItalicTable = italic_table_at
register_of Shown.Download = download_at

abbrev pub weight_of : Shown → ℕ
weight_of Shown.Bold = 0x1
weight_of Shown.DoubleStrike = 0x2
weight_of Shown.Italic = 0x4
weight_of Shown.Underline = 0x8
weight_of Shown.Superscript = 0x10
weight_of Shown.Subscript = 0x20
weight_of Shown.DoubleHeight = 0x80
weight_of Shown.Outline = 0x100
weight_of Shown.Proportional = 0x400
weight_of Shown.Reduced = 0x800
weight_of Shown.ItalicTable = 0x1000
weight_of Shown.Download = 0x2000

-- what a number in its register shows
abbrev pub shows : Shown → ℕ → ℕ
shows k n = n % 4 * weight_of k

-- what the two registers of double width show
abbrev pub shows_double : (wide once : ℕ) → ℕ
shows_double wide once = bit_or wide once % 2 * 0x40

-- the style bits less what a setting showed, and what it shows now
abbrev pub restyled : List ℕ → (showed shown : ℕ) → List ℕ
restyled m showed shown = set m style_at ((get_or m style_at 0 % 0x10000 + 0x10000 - showed + shown) % 0x10000)

-- such a setting stored
unfoldable pub shown_stored : List ℕ → Shown → ℕ → List ℕ
shown_stored m k n = restyled (set m (register_of k) n) (shows k (get_or m (register_of k) 0)) (shows k n)

-- double width
unfoldable pub double_stored : List ℕ → (wide once : ℕ) → List ℕ
double_stored m wide once =
    restyled (set (set m wide_at wide) wide_once_at once) (shows_double (get_or m wide_at 0) (get_or m wide_once_at 0)) (shows_double wide once)

-- the advance, the column width and the advance in dots of a width
abbrev pub widths_stored : Resolution → Width → List ℕ → List ℕ
widths_stored r w m =
    set (set (set m advance_at (advance w)) column_width_at (column_width w)) advance_dots_at (packed (advance w * per_inch_across r))

-- those of the width in the registers
unfoldable pub measured : List ℕ → List ℕ
measured m = widths_stored (resolution_of (get_or m dots_across_at 0)) (width_in m) m
