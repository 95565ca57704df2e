-- Each record that is written fits its bytes.
use Prim.Native.Nat.{ℕ, ◌≤◌}
use mathlib.Core.Path.{◌≡◌, refl}
use mathlib.Core.Bool.{Bool, true, false}
use mathlib.Core.List.{List, [], ◌∷◌}
use native.Mathlib.Omega.{arith}
use lib.Dec.{leb, eqb}
use borrow.Author.Tests.{leb-true, eqb-true}
use Rattle.printer.specs.Tools.{pick, Bytes, Each}
use Rattle.printer.specs.Units.{across_rounding, row_dots}
use Rattle.printer.specs.Widths.{double_width}
use Rattle.printer.specs.Settings.{across_of, down_of}
use Rattle.printer.specs.Escapes.{countries}
use Rattle.printer.specs.Codes.{Received, by, by_third, spelt_as, shows_as, received, shows}
use Rattle.printer.specs.Records.{style_of, letter_record, image_record, feed_record, clear_record, passed_record}
use Rattle.printer.specs.Decoding.{FitsBytes}
use Rattle.printer.specs.Accepted.{Ours}
use Rattle.printer.specs.Performing.{Event, done, passed, inside, automatic, Writing, silent, letter, image_byte, feed, clear, records_by, effect_at, control_at, records_of, records_all, perform}
use Rattle.printer.specs.Steps.{frame_at, events_in, step_events, step_records, step_of, records_over}
use Rattle.printer.specs.Types.{Control, Place, Printer, Resolution, Settings}
use Rattle.printer.proofs.Choices.{either_elim, each_append}
use Rattle.printer.proofs.Legal.{Legal, LegalAll}
use Rattle.printer.proofs.Keeping.{WithinBounds, Writable, Bounded, keep-control, keep_done, keep}
use Rattle.printer.proofs.KeepingSteps.{bounded, sound, step_ours}

-- Parts of records

flag_le : (on : Bool) (n : ℕ) → pick on n 0 ≤ n
flag_le true n = omega arith
flag_le false n = omega arith

pub style_fits : (s : Settings) → style_of s ≤ 65535
unfolding style_of
style_fits s =
    omega (arith, flag_le s.emphasis.bold 0x1, flag_le s.emphasis.doublestrike 0x2, flag_le s.emphasis.italic 0x4, flag_le s.emphasis.underline 0x8, flag_le s.script.superscript 0x10, flag_le s.script.subscript 0x20, flag_le (double_width s.width) 0x40, flag_le s.face.doubleheight 0x80, flag_le s.width.proportional 0x400, flag_le s.width.reduced 0x800, flag_le s.face.italictable 0x1000, flag_le s.face.download 0x2000)

column_fits : (r : Resolution) (n : ℕ) → n ≤ 79200 → (across_rounding r n).dot.0 ≤ 65535
column_fits Resolution.Dots300 n h = omega arith
column_fits Resolution.Dots203 n h = omega arith

rest-fits : (r : Resolution) (n : ℕ) → (across_rounding r n).rest.0 ≤ 65535
rest-fits r n = omega arith

row_fits : (r : Resolution) (n : ℕ) → n ≤ 79200 → (row_dots r n).0 ≤ 65535
row_fits Resolution.Dots300 n h = omega arith
row_fits Resolution.Dots203 n h = omega arith

country_fits : (n : ℕ) → pick (countries n) 0 1 ≤ 0 → n ≤ 255
country_fits n h = go (countries n) refl h
  where
    go : (t : Bool) → countries n ≡ t → pick t 0 1 ≤ 0 → n ≤ 255
    go true e k =
        either_elim _ (leb n 13) (eqb n 0x40) e (λ l. let m : n ≤ 13 = leb-true _ _ l in omega arith)
        (λ l. let m : n ≡ 0x40 = eqb-true _ _ l in omega arith)
    go false e k = omega arith

-- The records of a state within the bounds

module _ (s : Settings) (x : Place) (f : WithinBounds s x) where
  letter-fits : (b n : ℕ) → Writable s x (letter b n) → FitsBytes (letter_record s x b n)
  letter-fits b n h =
      record {
        column = column_fits s.setup.resolution (across_of x) (omega arith);
        row = row_fits s.setup.resolution (down_of x) (omega arith);
        byte = h.0;
        font = f.2;
        style = style_fits s;
        country = country_fits s.face.country (omega arith);
        advance = h.1;
        rest = rest-fits s.setup.resolution (across_of x);
      }

  image-fits : (b part n : ℕ) → Writable s x (image_byte b part n) → FitsBytes (image_record s x b part n)
  image-fits b part n h =
      record {
        column = column_fits s.setup.resolution (across_of x) (omega arith);
        row = row_fits s.setup.resolution (down_of x) (omega arith);
        byte = h.0;
        font = omega (arith, h.3);
        style = omega arith;
        country = omega arith;
        advance = h.1;
        rest = rest-fits s.setup.resolution (across_of x);
      }

feed-fits : (r : Resolution) (down pages : ℕ) → down ≤ 79200 → pages ≤ 255 → FitsBytes (feed_record r down pages)
feed-fits r down pages h k =
    record {
      column = omega arith;
      row = row_fits r down h;
      byte = k;
      font = omega arith;
      style = omega arith;
      country = omega arith;
      advance = omega arith;
      rest = omega arith;
    }

clear_fits : FitsBytes clear_record
clear_fits = omega arith

-- what can be written, at a place within the bounds
written-fits : (s : Settings) (x y : Place) (w : Writing) → WithinBounds s x → down_of y ≤ 79200 → Writable s x w → Each FitsBytes (records_by s x y w)
written-fits s x y silent f d h = tt
written-fits s x y (letter b n) f d h = (letter-fits s x f b n h, tt)
written-fits s x y (image_byte b part n) f d h = (image-fits s x f b part n h, tt)
written-fits s x y (feed pages) f d h = (feed-fits s.setup.resolution (down_of y) pages d h, tt)
written-fits s x y clear f d h = (clear_fits, tt)

down_fits : (s : Settings) (x : Place) → WithinBounds s x → down_of x ≤ 79200
down_fits s x f = omega arith

-- the byte that NO bears is one of the command's
shows-byte : (r : Received) → Bytes (spelt_as r) → shows_as r ≤ 255
shows-byte (by code arguments) h = h.0
shows-byte (by_third code third) h = h.1.0

passed-fits : (b reason : ℕ) → b ≤ 255 → reason ≤ 5 → FitsBytes (passed_record b reason)
passed-fits b reason h k = omega arith

control-fits : (p : Printer) (c : Control) (n : ℕ) → Legal p (inside c n) → Bounded p → Each FitsBytes (records_of p (inside c n))
control-fits p c n h k =
    let m = keep-control p.settings p.stops p.place c n h k.within in
    written-fits p.settings p.place (control_at p c n).place (control_at p c n).writing k.within (down_fits (control_at p c n).settings _ m.0) m.1

pub event_fits : (p : Printer) (e : Event) → Legal p e → Bounded p → Each FitsBytes (records_of p e)
event_fits p (done c n) h k =
    let m = keep_done p c n h k in
    written-fits p.settings p.place (effect_at p c n).place (effect_at p c n).writing k.within (down_fits (effect_at p c n).settings _ m.0.within) m.1
event_fits p (passed c reason) h k = (passed-fits (shows c) reason (shows-byte (received c) h.bytes) h.known, tt)
event_fits p (inside c n) h k = control-fits p c n h k
event_fits p (automatic n) h k = control-fits p Control.LineFeed n h.0 k

events_fit : (p : Printer) (l : List Event) → LegalAll p l → Bounded p → Each FitsBytes (records_all p l)
unfolding records_all
events_fit p [] h k = tt
events_fit p (e ∷ l) h k =
    each_append FitsBytes (records_of p e) (records_all (perform p e) l) (event_fits p e h.0 k)
    (events_fit (perform p e) l h.1 (keep p e h.0 k))

pub steps_fit : (p : Printer) (l : List ℕ) → Bytes l → Ours p → Each FitsBytes (records_over p l)
unfolding records_over step_records step_events
steps_fit p [] h o = tt
steps_fit p (b ∷ l) h o =
    each_append FitsBytes (step_records p b) (records_over (step_of p b) l)
    (events_fit p (events_in p (frame_at p b)) (sound p b h.0 o.typed o.accepted).legal (bounded p o.typed o.accepted))
    (steps_fit (step_of p b) l h.1 (step_ours p b h.0 o))
