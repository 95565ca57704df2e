-- The forward reading finds the last record that survives.
use Prim.Native.Nat.{ℕ, zero, suc, ◌<◌, ◌/◌}
use native.Mathlib.Omega.{arith}
use mathlib.Core.Path.{◌≡◌, refl, sym, ap, subst, ◌∙◌}
use mathlib.Core.Bool.{Bool, true, false}
use mathlib.Core.List.{List}
use lib.Dec.{ltb}
use lib.ListN.{length}
use borrow.Author.Tests.{ltb-true, ltb-false}
use Rattle.printer.specs.Records.{record_size}
use Rattle.printer.proofs.Frames.{clash}
use Rattle.slot.specs.Slot.{Found, or_else, standing, next, forward, found, seen_at}
use Rattle.slot.specs.Survival.{breaks, Unbroken, Survives, Last}
use Rattle.slot.specs.declared.Seen.{Seen}

-- a letter asked for with no LN and no CL after it; and one that survives on a line before
record Open (f : ℕ → Seen) (n i : ℕ) : Type 0 where
  within : i < n
  letter : f i ≡ Seen.Letter
  unbroken : Unbroken f i n

record Kept (f : ℕ → Seen) (n i : ℕ) : Type 0 where
  survives : Survives f n i
  before : Open f n i → ⊥

-- a place among n + 1 is among n, or the last
place : (P : Type 0) (i n : ℕ) → i < suc n → (i < n → P) → (i ≡ n → P) → P
place P i n h a b = go (ltb i n) refl
  where
    go : (t : Bool) → ltb i n ≡ t → P
    go true e = a (ltb-true i n e)
    go false e = let g = ltb-false i n e in b (omega (arith, g, h))

broken : {t : Bool} → t ≡ false → t ≡ true → ⊥
broken e g = clash cc

-- One record more

shorter : {f : ℕ → Seen} {n i : ℕ} → i < n → Survives f (suc n) i → Survives f n i
shorter h s =
    record {
      within = h;
      letter = s.letter;
      page = λ m p q. s.page m p (omega (arith, q));
      clear = λ m p q. s.clear m p (omega (arith, q));
    }

longer : (f : ℕ → Seen) (n i : ℕ) → (f n ≡ Seen.Page → ⊥) → (f n ≡ Seen.Clear → Unbroken f i n → ⊥) → Survives f n i
    → Survives f (suc n) i
longer f n i page clear s =
    record {
      within = let h = s.within in omega (arith, h);
      letter = s.letter;
      page = λ m p q.
          place (f m ≡ Seen.Page → ⊥) m n q (s.page m p) (λ e. subst (λ (k : ℕ). f k ≡ Seen.Page → ⊥) (sym e) page);
      clear = λ m p q.
          place (f m ≡ Seen.Clear → Unbroken f i m → ⊥) m n q (s.clear m p)
          (λ e. subst (λ (k : ℕ). f k ≡ Seen.Clear → Unbroken f i k → ⊥) (sym e) clear);
    }

open_shorter : {f : ℕ → Seen} {n i : ℕ} → i < n → Open f (suc n) i → Open f n i
open_shorter h o = record { within = h; letter = o.letter; unbroken = λ m p q. o.unbroken m p (omega (arith, q)) }

open_longer : (f : ℕ → Seen) (n i : ℕ) → breaks (f n) ≡ false → Open f n i → Open f (suc n) i
open_longer f n i e o =
    record {
      within = let h = o.within in omega (arith, h);
      letter = o.letter;
      unbroken = λ m p q.
          place (breaks (f m) ≡ false) m n q (o.unbroken m p) (λ g. subst (λ (k : ℕ). breaks (f k) ≡ false) (sym g) e);
    }

open_last : (f : ℕ → Seen) (n : ℕ) → f n ≡ Seen.Letter → Open f (suc n) n
open_last f n e = record { within = omega arith; letter = e; unbroken = λ m p q. absurd (omega (arith, p, q)) }

open_none : (f : ℕ → Seen) (n i : ℕ) → breaks (f n) ≡ true → Open f (suc n) i → ⊥
open_none f n i e o =
    place ⊥ i n o.within (λ h. broken (o.unbroken n h (omega arith)) e)
    (λ g. broken (ap breaks o.letter) (ap (λ (k : ℕ). breaks (f k)) g ∙ e))

open_survives : {f : ℕ → Seen} {n i : ℕ} → Open f n i → Survives f n i
open_survives o =
    record {
      within = o.within;
      letter = o.letter;
      page = λ m p q e. broken (o.unbroken m p q) (ap breaks e);
      clear = λ m p q e u. broken (o.unbroken m p q) (ap breaks e);
    }

-- a letter is no break
letter-breaks : (f : ℕ → Seen) (i n : ℕ) → i ≡ n → f i ≡ Seen.Letter → breaks (f n) ≡ true → ⊥
letter-breaks f i n g e h = broken (ap breaks e) (ap (λ (k : ℕ). breaks (f k)) g ∙ h)

-- The forward reading

record Reads (f : ℕ → Seen) (n : ℕ) (v : Found) : Type 0 where
  kept : Last (Kept f n) v.kept
  line : Last (Open f n) v.line

no_last : (P : ℕ → Type 0) → ((i : ℕ) → P i → ⊥) → Last P 0
no_last P h = record { holds = λ i e. absurd (omega (arith, e)); newest = λ i _. h i }

stands : (f : ℕ → Seen) (n k line : ℕ) → Last (Kept f n) k → Last (Open f n) line → Last (Survives f n) (or_else line k)
stands f n k zero a b =
    record {
      holds = λ i e. (a.holds i e).survives;
      newest = λ i h s. a.newest i h (record { survives = s; before = b.newest i (omega arith) });
    }
stands f n k (suc j) a b =
    record {
      holds = λ i e. open_survives (b.holds i e);
      newest = λ i h s.
          b.newest i h
          (record { within = s.within; letter = s.letter; unbroken = λ m p. (b.holds j refl).unbroken m (omega (arith, p, h)) });
    }

-- where the record is no break
kept_on : (f : ℕ → Seen) (n k : ℕ) → breaks (f n) ≡ false → Last (Kept f n) k → Last (Kept f (suc n)) k
kept_on f n k e a =
    record {
      holds = λ i g.
          let c = a.holds i g in
          record {
            survives = longer f n i (λ z. broken e (ap breaks z)) (λ z _. broken e (ap breaks z)) c.survives;
            before = λ o. c.before (open_shorter c.survives.within o);
          };
      newest = λ i h c.
          place ⊥ i n c.survives.within
          (λ p. a.newest i h (record { survives = shorter p c.survives; before = λ o. c.before (open_longer f n i e o) }))
          (λ g. subst (λ (m : ℕ). Kept f (suc n) m → ⊥) (sym g) (λ d. d.before (open_last f n d.survives.letter)) c);
    }

line_on : (f : ℕ → Seen) (n k : ℕ) → f n ≡ Seen.Other → Last (Open f n) k → Last (Open f (suc n)) k
line_on f n k e a =
    record {
      holds = λ i g. open_longer f n i (ap breaks e) (a.holds i g);
      newest = λ i h o.
          place ⊥ i n o.within (λ p. a.newest i h (open_shorter p o))
          (λ g. let z = sym o.letter ∙ ap f g ∙ e in clash cc);
    }

line_set : (f : ℕ → Seen) (n : ℕ) → f n ≡ Seen.Letter → Last (Open f (suc n)) (suc n)
line_set f n e =
    record {
      holds = λ i g. subst (Open f (suc n)) (omega (arith, g)) (open_last f n e);
      newest = λ i h o. let w = o.within in absurd (omega (arith, h, w));
    }

kept_line : (f : ℕ → Seen) (n k : ℕ) → f n ≡ Seen.Line → Last (Survives f n) k → Last (Kept f (suc n)) k
kept_line f n k e a =
    record {
      holds = λ i g.
          record {
            survives = longer f n i (λ z. let y = sym z ∙ e in clash cc) (λ z _. let y = sym z ∙ e in clash cc) (a.holds i g);
            before = open_none f n i (ap breaks e);
          };
      newest = λ i h c.
          place ⊥ i n c.survives.within (λ p. a.newest i h (shorter p c.survives))
          (λ g. letter-breaks f i n g c.survives.letter (ap breaks e));
    }

kept-page : (f : ℕ → Seen) (n : ℕ) → f n ≡ Seen.Page → (i : ℕ) → Kept f (suc n) i → ⊥
kept-page f n e i c =
    place ⊥ i n c.survives.within (λ p. c.survives.page n p (omega arith) e)
    (λ g. letter-breaks f i n g c.survives.letter (ap breaks e))

kept_clear : (f : ℕ → Seen) (n k : ℕ) → f n ≡ Seen.Clear → Last (Kept f n) k → Last (Kept f (suc n)) k
kept_clear f n k e a =
    record {
      holds = λ i g.
          let s = (a.holds i g).survives in
          record {
            survives = longer f n i (λ z. let y = sym z ∙ e in clash cc)
                (λ _ u. (a.holds i g).before (record { within = s.within; letter = s.letter; unbroken = u })) s;
            before = open_none f n i (ap breaks e);
          };
      newest = λ i h c.
          place ⊥ i n c.survives.within
          (λ p.
          a.newest i h
          (record { survives = shorter p c.survives; before = λ o. c.survives.clear n p (omega arith) e o.unbroken }))
          (λ g. letter-breaks f i n g c.survives.letter (ap breaks e));
    }

reads-next : (f : ℕ → Seen) (n : ℕ) (v : Found) (s : Seen) → f n ≡ s → Reads f n v → Reads f (suc n) (next s (suc n) v)
reads-next f n v Seen.Letter e r = record { kept = kept_on f n v.kept (ap breaks e) r.kept; line = line_set f n e }
reads-next f n v Seen.Line e r =
    record {
      kept = kept_line f n (standing v) e (stands f n v.kept v.line r.kept r.line);
      line = no_last (Open f (suc n)) (λ i. open_none f n i (ap breaks e));
    }
reads-next f n v Seen.Page e r =
    record {
      kept = no_last (Kept f (suc n)) (kept-page f n e);
      line = no_last (Open f (suc n)) (λ i. open_none f n i (ap breaks e));
    }
reads-next f n v Seen.Clear e r =
    record {
      kept = kept_clear f n v.kept e r.kept;
      line = no_last (Open f (suc n)) (λ i. open_none f n i (ap breaks e));
    }
reads-next f n v Seen.Other e r =
    record { kept = kept_on f n v.kept (ap breaks e) r.kept; line = line_on f n v.line e r.line }

reads : (f : ℕ → Seen) (n : ℕ) → Reads f n (forward f n)
unfolding forward
reads f zero =
    record {
      kept = no_last (Kept f 0) (λ i c. let h = c.survives.within in absurd (omega (arith, h)));
      line = no_last (Open f 0) (λ i o. let h = o.within in absurd (omega (arith, h)));
    }
reads f (suc n) = reads-next f n (forward f n) (f n) refl (reads f n)

pub found_last : (a b : ℕ) (l : List ℕ) → Last (Survives (seen_at a b l) (length l / record_size)) (found a b l)
found_last a b l =
    let f = seen_at a b l in
    let n = length l / record_size in
    stands f n (forward f n).kept (forward f n).line (reads f n).kept (reads f n).line
