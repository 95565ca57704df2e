-- A state by value stored group by group is its registers.
use Prim.Native.Nat.{ℕ, suc, ◌+◌, ◌<◌}
use mathlib.Core.Path.{◌≡◌, refl, ap, ◌∙◌}
use mathlib.Core.List.{List, [], ◌∷◌, ◌++◌, append_assoc}
use native.Mathlib.Omega.{arith}
use lib.ListN.{length, drop, set, length-append, length-drop, drop_of_length-le}
use lib.Seq.{drop-drop, set_at, take_at, drop_at}
use Rattle.printer.specs.Accepted.{StopsTyped}
use Rattle.printer.specs.declared.state.Printer.{Printer}
use Rattle.printer.specs.declared.stops.TabStops.{TabStops}
use Rattle.registers.specs.declared.pending.Pending.{Pending}
use Rattle.registers.specs.Register.{chosen_at, column_count_at, gathered_count_at, channel_counts_at, channel_stops_at, register_count}
use Rattle.registers.specs.Layout.{derived_of, pending_words, place_words, settings_words, derived_words, laid, words}
use Rattle.registers.specs.Stores.{stores, place_cells, settings_stored, over, list_stored, stops_stored, stale_in}
use Rattle.registers.proofs.Laying.{firsts, listed}

-- laid after so many registers
over-next : (h l r : List ℕ) (from : ℕ) → length h ≡ from → over from l (h ++ r) ≡ (h ++ l) ++ drop (length l) r
over-next h l r from e = rw (take_at h r from e, ← drop-drop, drop_at h r from e, append_assoc)

-- a list's count, and its stops
abbrev both : TabStops → List ℕ
both t = t.count ∷ t.stops

list-next : (h r : List ℕ) (t : TabStops) (from : ℕ) → length h ≡ from → 0 < length r
    → list_stored from t (h ++ r) ≡ (h ++ both t) ++ drop (suc (length t.stops)) r
list-next h [] t from e k = absurd (omega arith)
list-next h (y ∷ r) t from e k =
    let s : set (h ++ (y ∷ r)) from t.count ≡ (h ++ (t.count ∷ [])) ++ r =
    set_at h _ _ _ from e ∙ rw append_assoc in
    let n : length (h ++ (t.count ∷ [])) ≡ from + 1 = simp length-append (omega arith) in
    ap (over (from + 1) t.stops) s ∙ over-next (h ++ (t.count ∷ [])) t.stops r (from + 1) n ∙ simp append_assoc

-- the registers before the lists
abbrev front : Pending → Printer → List ℕ → List ℕ
front v p l =
    pending_words v (place_words p.place (settings_words p.settings
    (derived_words (derived_of p.settings) (p.stops.channels.chosen ∷ l))))

module _ (p : Printer) (m : List ℕ) (long : length m ≡ register_count) where
  abbrev front-stored : List ℕ → List ℕ
  front-stored l = set (settings_stored p.settings (stores (place_cells p.place) l)) chosen_at p.stops.channels.chosen

  front-words : front-stored m ≡ front (stale_in m) p (drop column_count_at m)
  unfolding firsts settings_stored
  front-words = ap front-stored (listed column_count_at m (omega arith))

  regroup : (h a b c d : List ℕ) → ((((h ++ a) ++ b) ++ c) ++ d) ++ [] ≡ h ++ (a ++ (b ++ (c ++ (d ++ []))))
  regroup h a b c d = simp append_assoc

  pub packed-words : StopsTyped p.stops
      → stops_stored p.stops (settings_stored p.settings (stores (place_cells p.place) m)) ≡ words (stale_in m) p
  unfolding stops_stored laid
  packed-words t =
      let a = p.stops.columns in
      let b = p.stops.gathered in
      let c = p.stops.channels.counts in
      let d = p.stops.channels.stops in
      let h = front (stale_in m) p [] in
      let n : length (drop column_count_at m) ≡ 202 = simp length-drop (omega arith) in
      let r : List ℕ = drop (suc (length a.stops)) (drop column_count_at m) in
      let s : List ℕ = drop (suc (length b.stops)) r in
      let u : List ℕ = drop (length c) s in
      let hr : length r ≡ 169 = simp length-drop (omega (arith, t.columns)) in
      let hs : length s ≡ 136 = simp length-drop (omega (arith, t.columns, t.gathered)) in
      let hu : length u ≡ 128 = simp length-drop (omega (arith, t.columns, t.gathered, t.counts)) in
      let ha : length (h ++ both a) ≡ gathered_count_at = simp length-append (omega (arith, t.columns)) in
      let hb : length ((h ++ both a) ++ both b) ≡ channel_counts_at = simp length-append (omega (arith, t.columns, t.gathered)) in
      let hc : length (((h ++ both a) ++ both b) ++ c) ≡ channel_stops_at = simp length-append (omega (arith, t.columns, t.gathered, t.counts)) in
      let e1 : list_stored column_count_at a (h ++ drop column_count_at m) ≡ (h ++ both a) ++ r = list-next h (drop column_count_at m) a column_count_at refl (omega arith) in
      let e2 : list_stored gathered_count_at b ((h ++ both a) ++ r) ≡ ((h ++ both a) ++ both b) ++ s =
      list-next (h ++ both a) r b gathered_count_at ha (omega arith) in
      let e3 : over channel_counts_at c (((h ++ both a) ++ both b) ++ s) ≡ (((h ++ both a) ++ both b) ++ c) ++ u =
      over-next ((h ++ both a) ++ both b) c s channel_counts_at hb in
      let e4 : over channel_stops_at d ((((h ++ both a) ++ both b) ++ c) ++ u) ≡ ((((h ++ both a) ++ both b) ++ c) ++ d) ++ drop (length d) u =
      over-next (((h ++ both a) ++ both b) ++ c) d u channel_stops_at hc in
      let z : drop (length d) u ≡ [] = drop_of_length-le u {i = length d} (omega (arith, t.channels)) in
      ap (λ (l : List ℕ). over channel_stops_at d (over channel_counts_at c (list_stored gathered_count_at b (list_stored column_count_at a l)))) front-words
      ∙ ap (λ (l : List ℕ). over channel_stops_at d (over channel_counts_at c (list_stored gathered_count_at b l))) e1
      ∙ ap (λ (l : List ℕ). over channel_stops_at d (over channel_counts_at c l)) e2
      ∙ ap (λ (l : List ℕ). over channel_stops_at d l) e3
      ∙ e4
      ∙ rw z (regroup h (both a) (both b) c d)
