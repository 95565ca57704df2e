-- The registers of a printer and the printer that registers are read as undo each other.
use Prim.Native.Nat.{ℕ, ◌+◌, ◌≤◌}
use mathlib.Core.Path.{◌≡◌, refl, sym, ap, ◌∙◌}
use mathlib.Core.Bool.{Bool, true, false, ◌&&◌}
use mathlib.Core.List.{List, [], ◌∷◌, ◌++◌}
use native.Mathlib.Omega.{arith}
use lib.Dec.{eqb, leb}
use lib.ListN.{length, take, drop, get_or, length-append}
use lib.Seq.{drop-drop, drop_at, take_at, get_or-drop}
use borrow.Author.Tests.{eqb-true, leb-true, eq-eqb}
use Rattle.printer.specs.Tools.{pick, Holds}
use Rattle.printer.specs.Accepted.{Accepted, Typed, StopsTyped}
use Rattle.printer.specs.Bounds.{accepted, waiting_bounds}
use Rattle.printer.specs.Escapes.{countries}
use Rattle.printer.specs.declared.commands.Listing.{Listing}
use Rattle.printer.specs.declared.commands.Target.{Target}
use Rattle.printer.specs.declared.commands.Waiting.{Waiting}
use Rattle.printer.specs.declared.settings.Settings.{Settings}
use Rattle.printer.specs.declared.state.Place.{Place}
use Rattle.printer.specs.declared.state.Printer.{Printer}
use Rattle.printer.specs.declared.stops.Stops.{Stops}
use Rattle.printer.proofs.Accepting.{accepted_fact}
use Rattle.printer.proofs.Choices.{either_elim}
use Rattle.printer.proofs.Modes.{bytes_within}
use Rattle.registers.specs.declared.pending.Pending.{Pending}
use Rattle.registers.specs.Register.{column_stops_at, gathered_stops_at, channel_counts_at, channel_stops_at, register_count}
use Rattle.registers.specs.Layout.{Derived, laid, words, derived_of}
use Rattle.registers.specs.Groups.{place_in, settings_in, stops_in}
use Rattle.registers.specs.Held.{Small, Held}
use Rattle.registers.specs.Stores.{pended}
use Rattle.registers.specs.State.{pending_of, waiting_of, pending_in, registers_of, printer_in, same_list, accepted_in, ImageTyped, Plain}
use Rattle.registers.proofs.Laws.{settings-back}
use Rattle.registers.proofs.Copying.{part_long}
use Rattle.registers.proofs.Waiting.{waiting-back, pending-narrow, waiting-typed}

pub itself : (n : ℕ) → eqb n n ≡ true
itself n = eq-eqb n n refl

pub same-itself : (l : List ℕ) → same_list l l ≡ true
unfolding same_list
same-itself [] = refl
same-itself (x ∷ l) = rw (itself x) (same-itself l)

-- what is waited for, whatever stood there
pub pended-words : (u v : Pending) (p : Printer) → pended u (words v p) ≡ words u p
unfolding laid
pended-words u v p = refl

-- The registers of a printer are read as it

drop_past : (xs ys : List ℕ) (a b : ℕ) → length xs ≡ a → drop (a + b) (xs ++ ys) ≡ drop b ys
drop_past xs ys a b e = rw (← drop-drop, drop_at xs ys a e)

get_d_past : (xs ys : List ℕ) (a b : ℕ) → length xs ≡ a → get_or (xs ++ ys) (a + b) 0 ≡ get_or ys b 0
get_d_past xs ys a b e = sym (get_or-drop a (xs ++ ys) b 0) ∙ rw (drop_at xs ys a e)

module _ (v : Pending) (d : Derived) (p : Printer) (t : StopsTyped p.stops) where
  pub stops-back : stops_in (laid v d p) ≡ p.stops
  unfolding laid stops_in
  stops-back =
      let a = p.stops.columns.stops in
      let b = p.stops.gathered in
      let c = p.stops.channels.counts in
      let e = p.stops.channels.stops in
      let z : List ℕ = c ++ (e ++ []) in
      let y : List ℕ = b.count ∷ (b.stops ++ z) in
      let columns : take 32 (a ++ y) ≡ a = take_at a y 32 t.columns in
      let gathered-count : get_or (a ++ y) 32 0 ≡ b.count = get_d_past a y 32 0 t.columns in
      let gathered : take 32 (drop 33 (a ++ y)) ≡ b.stops =
      rw (drop_past a y 32 1 t.columns) (take_at b.stops z 32 t.gathered) in
      let counts : take 8 (drop 65 (a ++ y)) ≡ c =
      rw (drop_past a y 32 33 t.columns, drop_past b.stops z 32 0 t.gathered) (take_at c (e ++ []) 8 t.counts) in
      let places : take 128 (drop 73 (a ++ y)) ≡ e =
      rw (drop_past a y 32 41 t.columns, drop_past b.stops z 32 8 t.gathered, drop_past c (e ++ []) 8 0 t.counts) (take_at e [] 128 t.channels) in
      simp (columns, gathered-count, gathered, counts, places)

-- a state is its parts
made : {s t : Settings} {x y : Place} {a b : Stops} {v w : Waiting} → s ≡ t → x ≡ y → a ≡ b → v ≡ w
    → ◌≡◌ {A = Printer} (record { settings = s; place = x; stops = a; waiting = v }) (record { settings = t; place = y; stops = b; waiting = w })
made e f g h = cc

module _ {p : Printer} (h : Plain p) where
  pending-back : pending_in (registers_of p) ≡ pending_of p.waiting
  unfolding laid
  pending-back = pending-narrow p.waiting h.typed.waiting h.image

  place-back : place_in (registers_of p) ≡ p.place
  unfolding laid
  place-back = refl

  pub registers-read : printer_in (registers_of p) ≡ p
  unfolding printer_in
  registers-read =
      let v = pending_of p.waiting in
      let d = derived_of p.settings in
      made (settings-back v d p h.small) place-back (stops-back v d p h.typed.stops)
      (ap waiting_of pending-back ∙ waiting-back p.waiting)

  -- and they are accepted just if it is
  pub registers-accepted : accepted_in (registers_of p) ≡ accepted p
  unfolding accepted_in
  registers-accepted =
      ap (λ (q : Printer). same_list (registers_of p) (registers_of q) && accepted q) registers-read
      ∙ rw (same-itself (registers_of p))

-- two printers with the same registers are the same
pub registers_tell : {p q : Printer} → Plain p → Plain q → registers_of p ≡ registers_of q → p ≡ q
registers_tell h k e = sym (registers-read h) ∙ ap printer_in e ∙ registers-read k

-- how many there are
pub words_long : (v : Pending) (d : Derived) (p : Printer) → StopsTyped p.stops → length (laid v d p) ≡ register_count
unfolding laid
words_long v d p t = simp length-append (omega (arith, t.columns, t.gathered, t.counts, t.channels))

-- Bounds say more than types of some numbers

passed : (t : Bool) → pick t 0 1 ≤ 0 → t ≡ true
passed true h = refl
passed false h = absurd (omega arith)

country_small : (n : ℕ) → countries n ≡ true → n ≤ 255
country_small n e =
    either_elim _ (leb n 13) (eqb n 64) e (λ h. omega (arith, leb-true n 13 h)) (λ h. omega (arith, eqb-true n 64 h))

image_few : (p : Printer) (w : Waiting) → Holds (waiting_bounds p.settings p.stops w) → ImageTyped w
image_few p Waiting.Nothing h = tt
image_few p Waiting.SecondByte h = tt
image_few p (Waiting.Arguments w) h = tt
image_few p (Waiting.StopList (Listing.Sets Target.Columns) b) h = tt
image_few p (Waiting.StopList (Listing.Sets (Target.Channel m)) b) h = omega (arith, h.1.0)
image_few p (Waiting.StopList Listing.Dropped b) h = tt
image_few p (Waiting.ImageData m k n) h = (omega (arith, h.1.1.1.0, (bytes_within m).1), h.1.0)

module _ {p : Printer} (t : Typed p) (a : Accepted p) where
  pub small : Small p.settings
  small =
      let b = a.settings.1.1.1.1.1.1.1.1 in
      let c : p.settings.face.country ≤ 255 = country_small _ (passed _ b.1.0) in
      (omega arith, (t.font, (c, omega arith)))

  pub plain : Plain p
  plain = record { typed = t; small = small; image = image_few p p.waiting a.waiting }

-- Registers that are accepted are those of the printer that they are read as

parts : (t u : Bool) → (t && u) ≡ true → (t ≡ true) × (u ≡ true)
parts true u e = (refl, e)
parts false true e = (e, refl)
parts false false e = (e, e)

same_fact : (a b : List ℕ) → same_list a b ≡ true → a ≡ b
unfolding same_list
same_fact [] [] e = refl
same_fact [] (y ∷ b) e = cc
same_fact (x ∷ a) [] e = cc
same_fact (x ∷ a) (y ∷ b) e =
    let h = parts (eqb x y) (same_list a b) e in
    let f : x ≡ y = eqb-true x y h.0 in
    let g : a ≡ b = same_fact a b h.1 in
    cc

module _ (m : List ℕ) (long : length m ≡ register_count) where
  pub printer-typed : Typed (printer_in m)
  unfolding printer_in settings_in stops_in
  printer-typed =
      record {
        font = omega arith;
        stops =
            record {
              columns = part_long column_stops_at 32 m (omega arith);
              channels = part_long channel_stops_at 128 m (omega arith);
              counts = part_long channel_counts_at 8 m (omega arith);
              gathered = part_long gathered_stops_at 32 m (omega arith);
            };
        waiting = waiting-typed m;
      }

module _ (m : List ℕ) (e : accepted_in m ≡ true) where
  pub accepted-registers : m ≡ registers_of (printer_in m)
  unfolding accepted_in
  accepted-registers = same_fact m _ (parts (same_list m (registers_of (printer_in m))) (accepted (printer_in m)) e).0

  pub accepted-printer : Accepted (printer_in m)
  unfolding accepted_in
  accepted-printer =
      accepted_fact (printer_in m) (parts (same_list m (registers_of (printer_in m))) (accepted (printer_in m)) e).1

  pub accepted-plain : length m ≡ register_count → Plain (printer_in m)
  accepted-plain long = plain (printer-typed m long) accepted-printer

  pub accepted-held : length m ≡ register_count → Held (printer_in m) (pending_of (printer_in m).waiting) m
  accepted-held long =
      record { same = accepted-registers; small = (accepted-plain long).small; long = (printer-typed m long).stops }
