-- Reading back finds what the forward reading finds.
use Prim.Native.Nat.{ℕ, zero, suc, ◌+◌, ◌-◌, ◌*◌, ◌/◌, ◌%◌, ◌<◌, ◌≤◌}
use native.Mathlib.Omega.{arith}
use mathlib.Core.Path.{◌≡◌, refl, sym, ap, ◌∙◌}
use mathlib.Core.Bool.{Bool, true, false}
use mathlib.Core.List.{List, [], ◌∷◌}
use native.Mathlib.Nat.{add-sub_cancel_left}
use Rattle.printer.proofs.Frames.{clash}
use lib.Dec.{eqb}
use Rattle.std.specs.Prelude.{Some, None, Ok, Err}
use borrow.Author.Tests.{eq-eqb, ne_eqb}
use lib.ListN.{length, take, drop}
use Rattle.printer.specs.Tools.{within}
use Rattle.printer.specs.Records.{record_size}
use Rattle.printer.specs.Decoding.{decoded}
use Rattle.printer.specs.declared.records.Mark.{Mark}
use Rattle.printer.specs.declared.records.Record.{Record}
use Rattle.printer.proofs.Choices.{pick_elim, within_fact}
use Rattle.slot.specs.Back.{left}
use Rattle.slot.specs.Slot.{letter_seen, feed_seen, seen_as, seen_in, seen_of, Found, nothing, or_else, standing, next, forward, found, seen_at, record_at, place_found, part, found_part, length_refused, part_of}
use Rattle.slot.specs.declared.Seen.{Seen}

-- nothing of the first k records but the last
last : (f : ℕ → Seen) (k : ℕ) → 0 < k → forward f k ≡ next (f (k - 1)) k (forward f (k - 1))
unfolding forward
last f zero p = absurd (omega arith)
last f (suc k) p = let e : suc k - 1 ≡ k = omega arith in rw e

-- what a record leaves to find of those before it
left-line : (void : Bool) (k : ℕ) (v : Found) → left void (next Seen.Line k v) ≡ standing v
left-line true k v = refl
left-line false k v = refl

left-page : (void : Bool) (k : ℕ) (v : Found) → left void (next Seen.Page k v) ≡ 0
left-page true k v = refl
left-page false k v = refl

left-clear : (void : Bool) (k : ℕ) (v : Found) → left void (next Seen.Clear k v) ≡ v.kept
left-clear true k v = refl
left-clear false k v = refl

or-else-above : (k m : ℕ) → 0 < k → or_else k m ≡ k
or-else-above zero m p = absurd (omega arith)
or-else-above (suc k) m p = refl

place-before : (k : ℕ) → 0 < k → Some (k - 1) ≡ place_found k
place-before zero p = absurd (omega arith)
place-before (suc k) p = let e : suc k - 1 ≡ k = omega arith in rw e

none_before : (void : Bool) → left void nothing ≡ 0
none_before true = refl
none_before false = refl

-- with a above b nothing is found
no-letter : (s : Seen) (k : ℕ) (v : Found) → (s ≡ Seen.Letter → ⊥) → v ≡ nothing → next s k v ≡ nothing
no-letter Seen.Letter k v h e = absurd (h refl)
no-letter Seen.Line k v h e = rw e
no-letter Seen.Page k v h e = refl
no-letter Seen.Clear k v h e = rw e
no-letter Seen.Other k v h e = e

no-letters : (f : ℕ → Seen) → ((i : ℕ) → f i ≡ Seen.Letter → ⊥) → (n : ℕ) → forward f n ≡ nothing
unfolding forward
no-letters f h zero = refl
no-letters f h (suc n) = no-letter (f n) (suc n) (forward f n) (h n) (no-letters f h n)

apart : (a b column : ℕ) → b < a → letter_seen a b column ≡ Seen.Letter → ⊥
apart a b column h =
    pick_elim (λ (s : Seen). s ≡ Seen.Letter → ⊥) (within a b column)
    (λ e _. let w = within_fact a b column e in absurd (omega (arith, w.0, w.1, h)))
    (λ _ e. clash cc)

apart-feed : (pages : ℕ) → feed_seen pages ≡ Seen.Letter → ⊥
apart-feed pages =
    pick_elim (λ (s : Seen). s ≡ Seen.Letter → ⊥) (eqb pages 0) (λ _ e. clash cc) (λ _ e. clash cc)

apart_as : (a b : ℕ) (m : Mark) (r : Record) → b < a → seen_as a b m r ≡ Seen.Letter → ⊥
apart_as a b Mark.Tx r h = apart a b r.column.0 h
apart_as a b Mark.Im r h = λ e. clash cc
apart_as a b Mark.Ln r h = apart-feed r.byte
apart_as a b Mark.Cl r h = λ e. clash cc
apart_as a b Mark.No r h = λ e. clash cc

apart_in : (a b : ℕ) (l : List Record) → b < a → seen_in a b l ≡ Seen.Letter → ⊥
apart_in a b [] h = λ e. clash cc
apart_in a b (r ∷ l) h = apart_as a b r.mark r h

apart_of : (a b : ℕ) (bytes : List ℕ) → b < a → seen_of a b bytes ≡ Seen.Letter → ⊥
unfolding seen_of
apart_of a b bytes h = apart_in a b (decoded bytes) h

pub crossed : (a b : ℕ) (l : List ℕ) → b < a → found a b l ≡ 0
crossed a b l h =
    ap standing (no-letters (seen_at a b l) (λ i. apart_of a b (record_at l i) h) (length l / record_size))

-- The loop: the first k records give what the whole list gives

abbrev pub Left : (a b : ℕ) → List ℕ → ℕ → Bool → Type 0
Left a b l k void = (record_size * k ≤ length l) × (found a b l ≡ left void (forward (seen_at a b l) k))

module _ (a b : ℕ) (l : List ℕ) where
  pub crossed_place : b < a → None ≡ place_found (found a b l)
  crossed_place h = ap place_found (sym (crossed a b l h))

  pub none_left : (k : ℕ) (void : Bool) → Left a b l k void → k ≤ 0 → None ≡ place_found (found a b l)
  unfolding forward
  none_left zero void h p = ap place_found (sym (h.1 ∙ none_before void))
  none_left (suc k) void h p = absurd (omega (arith, p))

  module _ (k : ℕ) (void : Bool) (h : Left a b l k void) (p : 0 < k) where
    -- the bytes of the last of the k records are these to the question
    abbrev Here : Seen → Type 0
    Here s = let at = record_size * (k - 1) in s ≡ seen_of a b (take (at + record_size - at) (drop at l))

    seen : (s : Seen) → Here s → found a b l ≡ left void (next s k (forward (seen_at a b l) (k - 1)))
    seen s e =
        let f = seen_at a b l in
        let g : s ≡ f (k - 1) = rw add-sub_cancel_left at e in
        rw g (h.1 ∙ ap (left void) (last f k p))

    room : record_size * (k - 1) ≤ length l
    room = omega (arith, h.0)

    pub stands_here : void ≡ false → Here Seen.Letter → Some (k - 1) ≡ place_found (found a b l)
    stands_here t e =
        place-before k p ∙ ap place_found (sym (rw t at (seen Seen.Letter e) ∙ or-else-above k _ p))

    pub turns_here : Here Seen.Page → None ≡ place_found (found a b l)
    turns_here e = ap place_found (sym (seen Seen.Page e ∙ left-page void k (forward (seen_at a b l) (k - 1))))

    pub void_letter : void ≡ true → Here Seen.Letter → Left a b l (k - 1) void
    void_letter t e = rw t (room, rw t at (seen Seen.Letter e))

    pub line_on : Here Seen.Line → Left a b l (k - 1) false
    line_on e = (room, seen Seen.Line e ∙ left-line void k (forward (seen_at a b l) (k - 1)))

    pub clear_on : Here Seen.Clear → Left a b l (k - 1) true
    clear_on e = (room, seen Seen.Clear e ∙ left-clear void k (forward (seen_at a b l) (k - 1)))

    pub other_on : Here Seen.Other → Left a b l (k - 1) void
    other_on e = (room, seen Seen.Other e)

-- What comes back

pub ragged : (a b : ℕ) (l : List ℕ) → (length l % record_size ≡ 0 → ⊥) → Err length_refused ≡ part_of a b l
unfolding part_of
ragged a b l h = rw (ne_eqb (length l % record_size) 0 h)

answered : (a b : ℕ) (l : List ℕ) → length l % record_size ≡ 0 → Ok (found_part (found a b l)) ≡ part_of a b l
unfolding part_of
answered a b l h = rw (eq-eqb (length l % record_size) 0 h)

part-at : (n i : ℕ) → Some i ≡ place_found n → part (record_size * i) record_size ≡ found_part n
part-at zero i e = absurd (clash cc)
part-at (suc n) i e = let g : i ≡ n = cc in rw g

no-part : (n : ℕ) → None ≡ place_found n → part 0 0 ≡ found_part n
no-part zero e = refl
no-part (suc n) e = absurd (clash cc)

module _ (a b : ℕ) (l : List ℕ) (h : length l % record_size ≡ 0) where
  pub found_here : (i : ℕ) → Some i ≡ place_found (found a b l) → Ok (part (record_size * i) record_size) ≡ part_of a b l
  found_here i e = ap Ok (part-at (found a b l) i e) ∙ answered a b l h

  pub nothing-found : None ≡ place_found (found a b l) → Ok (part 0 0) ≡ part_of a b l
  nothing-found e = ap Ok (no-part (found a b l) e) ∙ answered a b l h
