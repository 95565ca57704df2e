-- What commands leave and write.
use Rattle.std.specs.Prelude.{ℕ, ◌≡◌, false, Option, Some, None, List, [], ◌∷◌}
use Rattle.printer.specs.Settings.{left_of, across_of, down_of, at, with_margins, with_wide_once}
use Rattle.printer.specs.Units.{units, across_rounding, row_dots}
use Rattle.printer.specs.Records.{feed_record, passed_record}
use Rattle.printer.specs.Performing.{with_parts}
use Rattle.printer.specs.declared.records.Mark.{Mark}
use Rattle.printer.specs.declared.records.Record.{Record}
use Rattle.printer.specs.declared.settings.Settings.{Settings}
use Rattle.printer.specs.declared.state.Place.{Place}
use Rattle.printer.specs.declared.state.Printer.{Printer}
use Rattle.printer.specs.declared.units.Units.{Units}
use Rattle.registers.specs.declared.pending.Pending.{Pending}
use Rattle.registers.specs.Layout.{words}
use Rattle.registers.specs.Held.{Held}
use Rattle.interpreter.specs.Outcome.{Stepped, stepped}
use Rattle.interpreter.specs.declared.lines.Depth.{Depth}

-- a printer as registers, and records
pub record Wrote (v : Pending) (r : Stepped) (after : List ℕ) (k : List Record) : Type 0 where
  pub state : after ≡ words v r.printer
  pub wrote : r.records ≡ k

-- what a function leaves and gives back of every printer that the registers hold
abbrev pub Writes : (Printer → Stepped) → (m after : List ℕ) → List Record → Type 0
Writes f m after k = (p : Printer) (v : Pending) → Held p v m → Wrote v (f p) after k

-- Along the line

abbrev pub moved_to : Printer → ℕ → Printer
moved_to p across = with_parts p p.settings (at across (down_of p.place)) p.stops

-- a move that writes nothing, or is passed over
abbrev pub move_or_pass : Printer → Option Units → (code : ℕ) → Stepped
move_or_pass p (Some n) b = stepped (moved_to p n.0) []
move_or_pass p None b = stepped p (passed_record b 3 ∷ [])

-- a record at a place, with no style and no country
abbrev pub record_here : Mark → Settings → Place → (byte font advance : ℕ) → Record
record_here mark s x b font n =
    record {
      mark = mark;
      column = (across_rounding s.setup.resolution (across_of x)).dot;
      row = row_dots s.setup.resolution (down_of x);
      byte = b;
      font = font;
      style = 0;
      country = 0;
      advance = units n;
      rest = (across_rounding s.setup.resolution (across_of x)).rest;
    }

-- a move that writes a record, or is passed over
abbrev pub print_or_pass : Printer → Option Units → Record → (byte : ℕ) → Stepped
print_or_pass p (Some n) v b = stepped (moved_to p n.0) (v ∷ [])
print_or_pass p None v b = stepped p (passed_record b 4 ∷ [])

-- the printer with other margins, at the left one
abbrev pub margins_set : Printer → (left right : ℕ) → Printer
margins_set p left right =
    with_parts p (with_margins p.settings left right) (at left (down_of p.place)) p.stops

-- Down the page

-- to the left margin, at a distance from the top: SO ends
abbrev pub on_line_at : Printer → ℕ → Printer
on_line_at p down = with_parts p (with_wide_once p.settings false) (at (left_of p.settings) down) p.stops

-- the same, with LN
abbrev pub line_to : Printer → (down pages : ℕ) → Stepped
line_to p down pages = stepped (on_line_at p down) (feed_record p.settings.setup.resolution down pages ∷ [])

-- ESC J: the place across stays
abbrev pub fed_to : Printer → Depth → Stepped
fed_to p d =
    stepped (with_parts p p.settings (at (across_of p.place) d.down.0) p.stops)
    (feed_record p.settings.setup.resolution d.down.0 d.pages ∷ [])
