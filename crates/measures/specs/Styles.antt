-- The style bits by groups of settings.
use Rattle.std.specs.Prelude.{ℕ, ◌+◌, ◌*◌, ◌%◌}
use Rattle.printer.specs.Tools.{pick}
use Rattle.printer.specs.Widths.{double_width}
use Rattle.printer.specs.declared.settings.Emphasis.{Emphasis}
use Rattle.printer.specs.declared.settings.Face.{Face}
use Rattle.printer.specs.declared.settings.Script.{Script}
use Rattle.printer.specs.declared.settings.Width.{Width}

abbrev pub emphasis_style : Emphasis → ℕ
emphasis_style e =
    pick e.bold 0x1 0 + pick e.doublestrike 0x2 0 + pick e.italic 0x4 0 + pick e.underline 0x8 0

abbrev pub script_style : Script → ℕ
script_style t = pick t.superscript 0x10 0 + pick t.subscript 0x20 0

abbrev pub width_style : Width → ℕ
width_style w = pick (double_width w) 0x40 0 + pick w.proportional 0x400 0 + pick w.reduced 0x800 0

abbrev pub face_style : Face → ℕ
face_style f =
    pick f.doubleheight 0x80 0 + f.outline % 4 * 0x100 + pick f.italictable 0x1000 0
    + pick f.download 0x2000 0
