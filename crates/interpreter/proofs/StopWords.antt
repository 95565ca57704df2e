-- The lists of stops among the registers: where they stand, and registers with one list changed.
use Prim.Native.Nat.{ℕ, suc, ◌+◌, ◌*◌, ◌-◌, ◌%◌, ◌≤◌, ◌<◌}
use mathlib.Core.Path.{◌≡◌, refl, sym, ap, ◌∙◌}
use mathlib.Core.List.{List, [], ◌∷◌, ◌++◌, append_assoc, append-nil}
use native.Mathlib.Nat.{zero-add, suc-add}
use native.Mathlib.Omega.{arith}
use lib.Dec.{ltb}
use lib.ListN.{length, take, drop, get_or, set, replicate, length-append, length-set, get_or-append}
use lib.Seq.{paste, take_at, drop_at, drop-drop, set_at, get_or_at, get_or-drop, set-append_left, take-append-le, take-append-add, drop-append-add}
use Rattle.printer.specs.Accepted.{StopsTyped}
use Rattle.printer.specs.Settings.{down_of, held_in, channel_count, channel_stops, chosen_stops}
use Rattle.printer.specs.Deciding.{column_from, line_from}
use Rattle.printer.specs.PowerOn.{no_stops}
use Rattle.printer.specs.Performing.{with_parts, stops_of, gathering, one_more, with_channel}
use Rattle.printer.specs.declared.state.Printer.{Printer}
use Rattle.printer.specs.declared.stops.Channels.{Channels}
use Rattle.printer.specs.declared.stops.Stops.{Stops}
use Rattle.printer.specs.declared.stops.TabStops.{TabStops}
use Rattle.registers.specs.declared.pending.Pending.{Pending}
use Rattle.registers.specs.Register.{across_at, down_at, left_at, right_at, column_width_at, chosen_at, column_count_at, column_stops_at, gathered_count_at, gathered_stops_at, channel_counts_at, channel_stops_at, register_count}
use Rattle.registers.specs.Layout.{derived_of, pending_words, place_words, settings_words, derived_words, laid, words}
use Rattle.registers.specs.Held.{Held}
use Rattle.printer.proofs.ChannelLaws.{set_places}
use Rattle.registers.proofs.Reading.{chosen-held}
use Rattle.interpreter.specs.Searching.{first_from, column_at, is_ahead}
use Rattle.interpreter.proofs.Places.{down-held}
use Rattle.interpreter.proofs.Searches.{column_search, line_search}

abbrev pub with_stops : Printer → Stops → Printer
with_stops p t = with_parts p p.settings p.place t

-- a part of a list replaced by another
replaced : (xs old ys l : List ℕ) (n k : ℕ) → length xs ≡ n → length old ≡ k
    → (take n (xs ++ (old ++ ys)) ++ l) ++ drop (n + k) (xs ++ (old ++ ys)) ≡ xs ++ (l ++ ys)
replaced xs old ys l n k e f =
    rw (take_at xs (old ++ ys) n e, ← drop-drop k n (xs ++ (old ++ ys)), drop_at xs (old ++ ys) n e, drop_at old ys k f)
    (append_assoc xs l ys)

-- one laid over the second of two lists
paste_further : (xs ys l : List ℕ) (n at k : ℕ) → length xs ≡ n → paste (xs ++ ys) (n + at) l k ≡ xs ++ paste ys at l k
paste_further xs ys l n at k e =
    let i : n + at + k ≡ n + (at + k) = omega arith in
    rw (i, ← e, take-append-add xs ys at, drop-append-add xs ys (at + k)) (simp append_assoc)

-- a store past the first of two lists
set_further : (xs ys : List ℕ) (i a n : ℕ) → length xs ≡ n → set (xs ++ ys) (n + i) a ≡ xs ++ set ys i a
set_further [] ys i a n e = rw (← e, zero-add)
set_further (x ∷ xs) ys i a n e = rw (← e, suc-add) (ap (λ (l : List ℕ). x ∷ l) (set_further xs ys i a _ refl))

module _ (v : Pending) (p : Printer) where
  abbrev t : Stops
  t = p.stops

  -- registers before the lists, with a channel chosen, and any after them
  abbrev front : (chosen : ℕ) → List ℕ → List ℕ
  front k l =
      pending_words v (place_words p.place (settings_words p.settings (derived_words (derived_of p.settings) (k ∷ l))))

  -- those before the gathered list, and those after it
  abbrev before : List ℕ
  before = front t.channels.chosen (t.columns.count ∷ t.columns.stops)

  abbrev after : Channels → List ℕ
  after c = c.counts ++ (c.stops ++ [])

  -- those before the channels
  abbrev head : List ℕ
  head = before ++ (t.gathered.count ∷ t.gathered.stops)

  split : (g : TabStops) → words v (with_stops p (gathering t g)) ≡ before ++ (g.count ∷ (g.stops ++ after t.channels))
  unfolding laid
  split g = refl

  module _ (long : StopsTyped p.stops) where
    before-length : length before ≡ gathered_count_at
    before-length = simp (length-append, long.columns)

    head-length : length head ≡ channel_counts_at
    head-length = simp (length-append, long.columns, long.gathered)

    pub words-length : length (words v p) ≡ register_count
    unfolding laid
    words-length = simp (length-append, long.columns, long.gathered, long.counts, long.channels)

    -- the channels, with the same one chosen
    channels-split : (stops counts : List ℕ) → words v (with_stops p (stops_of t.columns (record { stops = stops; counts = counts; chosen = t.channels.chosen }) t.gathered))
        ≡ head ++ (counts ++ stops)
    unfolding laid
    channels-split stops counts =
        ap (λ (l : List ℕ). before ++ (t.gathered.count ∷ (t.gathered.stops ++ (counts ++ l)))) (append-nil stops)
        ∙ sym (append_assoc before (t.gathered.count ∷ t.gathered.stops) (counts ++ stops))

    -- the stops where they stand

    pub column-stops : take 32 (drop column_stops_at (words v p)) ≡ t.columns.stops
    unfolding laid
    column-stops = take_at t.columns.stops _ 32 long.columns

    pub gathered-list : take 33 (drop gathered_count_at (words v p)) ≡ t.gathered.count ∷ t.gathered.stops
    gathered-list =
        ap (λ (l : List ℕ). take 33 (drop gathered_count_at l)) (split t.gathered)
        ∙ ap (take 33) (drop_at before (t.gathered.count ∷ (t.gathered.stops ++ after t.channels)) gathered_count_at before-length)
        ∙ take_at (t.gathered.count ∷ t.gathered.stops) (after t.channels) 33 (ap suc long.gathered)

    gathered-stops : take 16 (drop gathered_stops_at (words v p)) ≡ take 16 t.gathered.stops
    gathered-stops =
        ap (λ (l : List ℕ). take 16 (drop gathered_stops_at l)) (split t.gathered)
        ∙ ap (λ (l : List ℕ). take 16 l) (sym (drop-drop 1 gathered_count_at (before ++ (t.gathered.count ∷ (t.gathered.stops ++ after t.channels))))
        ∙ ap (drop 1) (drop_at before (t.gathered.count ∷ (t.gathered.stops ++ after t.channels)) gathered_count_at before-length))
        ∙ take-append-le 16 t.gathered.stops (after t.channels) (omega (arith, long.gathered))

    pub channel-stops : (k : ℕ) → take 16 (drop (channel_stops_at + 16 * k) (words v p)) ≡ (channel_stops t.channels k).stops
    channel-stops k =
        let c = t.channels in
        let e : channel_stops_at + 16 * k ≡ channel_counts_at + (8 + 16 * k) = omega arith in
        ap (λ (l : List ℕ). take 16 (drop (channel_stops_at + 16 * k) l)) (channels-split c.stops c.counts)
        ∙ ap (λ (n : ℕ). take 16 (drop n (head ++ (c.counts ++ c.stops)))) e
        ∙ ap (take 16) (sym (drop-drop (8 + 16 * k) channel_counts_at (head ++ (c.counts ++ c.stops))) ∙ ap (drop (8 + 16 * k)) (drop_at head (c.counts ++ c.stops) channel_counts_at head-length)
        ∙ sym (drop-drop (16 * k) 8 (c.counts ++ c.stops)) ∙ ap (drop (16 * k)) (drop_at c.counts c.stops 8 long.counts))

    -- the counts

    pub channel-count : (k : ℕ) → k < 8 → get_or (words v p) (channel_counts_at + k) 0 ≡ channel_count t.channels k
    channel-count k h =
        let c = t.channels in
        ap (λ (l : List ℕ). get_or l (channel_counts_at + k) 0) (channels-split c.stops c.counts)
        ∙ sym (get_or-drop channel_counts_at (head ++ (c.counts ++ c.stops)) k 0)
        ∙ ap (λ (l : List ℕ). get_or l k 0) (drop_at head (c.counts ++ c.stops) channel_counts_at head-length)
        ∙ get_or-append c.counts c.stops 0 k (omega (arith, long.counts))

    pub gathered-count : get_or (words v p) gathered_count_at 0 ≡ t.gathered.count
    gathered-count =
        ap (λ (l : List ℕ). get_or l gathered_count_at 0) (split t.gathered)
        ∙ get_or_at before t.gathered.count (t.gathered.stops ++ after t.channels) 0 gathered_count_at before-length

    -- and one list replaced

    pub emptied : take gathered_count_at (words v p) ++ (replicate 33 0 ++ drop (gathered_count_at + 33) (words v p))
        ≡ words v (with_stops p (gathering t no_stops))
    emptied =
        sym (append_assoc (take gathered_count_at (words v p)) (replicate 33 0) (drop (gathered_count_at + 33) (words v p)))
        ∙ ap (λ (l : List ℕ). paste l gathered_count_at (replicate 33 0) 33) (split t.gathered)
        ∙ replaced before (t.gathered.count ∷ t.gathered.stops) (after t.channels) (replicate 33 0) gathered_count_at 33 before-length (ap suc long.gathered)
        ∙ sym (split no_stops)

    pub columns-replaced : paste (words v p) column_count_at (drop gathered_count_at (words v p)) 33
        ≡ words v (with_stops p (stops_of t.gathered t.channels t.gathered))
    unfolding laid
    columns-replaced =
        ap (λ (l : List ℕ). (take column_count_at (words v p) ++ l) ++ drop gathered_count_at (words v p)) gathered-list
        ∙ replaced (front t.channels.chosen []) (t.columns.count ∷ t.columns.stops) _ (t.gathered.count ∷ t.gathered.stops) column_count_at 33 refl
        (ap suc long.columns)

    pub channel-replaced : (k n : ℕ) → k < 8
        → set (paste (words v p) (channel_stops_at + 16 * k) (drop gathered_stops_at (words v p)) 16) (channel_counts_at + k) n
        ≡ words v (with_stops p (stops_of t.columns (record { stops = paste t.channels.stops (16 * k) t.gathered.stops 16; counts = set t.channels.counts k n; chosen = t.channels.chosen }) t.gathered))
    channel-replaced k n h =
        let c = t.channels in
        let e : channel_stops_at + 16 * k ≡ channel_counts_at + (8 + 16 * k) = omega arith in
        let q : paste (words v p) (channel_stops_at + 16 * k) (drop gathered_stops_at (words v p)) 16 ≡ head ++ (c.counts ++ paste c.stops (16 * k) t.gathered.stops 16) =
        ap (λ (l : List ℕ). (take (channel_stops_at + 16 * k) (words v p) ++ l) ++ drop (channel_stops_at + 16 * k + 16) (words v p)) gathered-stops
        ∙ ap (λ (l : List ℕ). paste l (channel_stops_at + 16 * k) t.gathered.stops 16) (channels-split c.stops c.counts)
        ∙ ap (λ (i : ℕ). paste (head ++ (c.counts ++ c.stops)) i t.gathered.stops 16) e
        ∙ paste_further head (c.counts ++ c.stops) t.gathered.stops channel_counts_at (8 + 16 * k) 16 head-length
        ∙ ap (λ (l : List ℕ). head ++ l) (paste_further c.counts c.stops t.gathered.stops 8 (16 * k) 16 long.counts) in
        ap (λ (l : List ℕ). set l (channel_counts_at + k) n) q
        ∙ set_further head (c.counts ++ paste c.stops (16 * k) t.gathered.stops 16) k n channel_counts_at head-length
        ∙ ap (λ (l : List ℕ). head ++ l) (set-append_left c.counts (paste c.stops (16 * k) t.gathered.stops 16) k n (omega (arith, long.counts)))
        ∙ sym (channels-split (paste c.stops (16 * k) t.gathered.stops 16) (set c.counts k n))

    pub one_more_lem : (stop : ℕ) → t.gathered.count < 32
        → set (set (words v p) (gathered_stops_at + t.gathered.count) stop) gathered_count_at (t.gathered.count + 1)
        ≡ words v (with_stops p (gathering t (one_more t.gathered stop)))
    one_more_lem stop h =
        let n = t.gathered.count in
        let l = t.gathered.stops in
        let z = after t.channels in
        let e : gathered_stops_at + n ≡ gathered_count_at + suc n = omega arith in
        ap (λ (r : List ℕ). set (set r (gathered_stops_at + n) stop) gathered_count_at (n + 1)) (split t.gathered)
        ∙ ap (λ (i : ℕ). set (set (before ++ (n ∷ (l ++ z))) i stop) gathered_count_at (n + 1)) e
        ∙ ap (λ (r : List ℕ). set r gathered_count_at (n + 1)) (set_further before (n ∷ (l ++ z)) (suc n) stop gathered_count_at before-length)
        ∙ ap (λ (r : List ℕ). set (before ++ (n ∷ r)) gathered_count_at (n + 1)) (set-append_left l z n stop (omega (arith, long.gathered)))
        ∙ set_at before n (set l n stop ++ z) (n + 1) gathered_count_at before-length
        ∙ sym (split (one_more t.gathered stop))

-- Registers that hold a printer, with a list changed
module _ {p : Printer} {v : Pending} {m : List ℕ} (h : Held p v m) where
  pub held-length : length m ≡ register_count
  held-length = ap length h.same ∙ words-length v p h.long

  module _ {after : List ℕ} where
    pub columns-copied : after ≡ paste m column_count_at (drop gathered_count_at m) 33
        → Held (with_stops p (stops_of p.stops.gathered p.stops.channels p.stops.gathered)) v after
    columns-copied e =
        record {
          same = e ∙ ap (λ (l : List ℕ). paste l column_count_at (drop gathered_count_at l) 33) h.same ∙ columns-replaced v p h.long;
          small = h.small;
          long = record { columns = h.long.gathered; channels = h.long.channels; counts = h.long.counts; gathered = h.long.gathered };
        }

    pub channel-copied : (k n : ℕ) → k < 8 → n ≡ p.stops.gathered.count + 1 → after ≡ paste m (channel_stops_at + 16 * k) (drop gathered_stops_at m) 16
        → Held (with_stops p (stops_of p.stops.columns (with_channel p.stops.channels k p.stops.gathered) p.stops.gathered)) v (set after (channel_counts_at + k) n)
    channel-copied k n i q e =
        record {
          same =
              ap (λ (l : List ℕ). set l (channel_counts_at + k) n) (e ∙ ap (λ (l : List ℕ). paste l (channel_stops_at + 16 * k) (drop gathered_stops_at l) 16) h.same)
              ∙ channel-replaced v p h.long k n i
              ∙ ap (λ (x : ℕ). words v (with_stops p (stops_of p.stops.columns (record { stops = paste p.stops.channels.stops (16 * k) p.stops.gathered.stops 16; counts = set p.stops.channels.counts k x; chosen = p.stops.channels.chosen }) p.stops.gathered))) q;
          small = h.small;
          long =
              record {
                columns = h.long.columns;
                channels = set_places p.stops.channels k p.stops.gathered h.long.channels h.long.gathered i;
                counts = simp length-set h.long.counts;
                gathered = h.long.gathered;
              };
        }

  pub count_held : get_or m gathered_count_at 0 ≡ p.stops.gathered.count
  count_held = ap (λ (l : List ℕ). get_or l gathered_count_at 0) h.same ∙ gathered-count v p h.long

  pub channel-count-held : (k : ℕ) → k < 8 → get_or m (channel_counts_at + k) 0 ≡ channel_count p.stops.channels k
  channel-count-held k i = ap (λ (l : List ℕ). get_or l (channel_counts_at + k) 0) h.same ∙ channel-count v p h.long k i

  pub stop-added : (stop : ℕ) → p.stops.gathered.count < 32
      → set (set m (gathered_stops_at + get_or m gathered_count_at 0) stop) gathered_count_at (get_or m gathered_count_at 0 + 1) ≡ words v (with_stops p (gathering p.stops (one_more p.stops.gathered stop)))
  stop-added stop k = rw (count_held, h.same) (one_more_lem v p h.long stop k)

  -- the searches among the stops where they stand

  pub column-sought : first_from (column_at (get_or m left_at 0) (get_or m column_width_at 0)) (is_ahead (get_or m across_at 0) (get_or m right_at 0)) 1 (take (get_or m column_count_at 0) (take 32 (drop column_stops_at m)))
      ≡ column_from p.settings p.place 1 (held_in p.stops.columns)
  unfolding laid
  column-sought =
      rw (h.same, column-stops v p h.long) (sym (column_search p.settings p.place 1 (held_in p.stops.columns)))

  pub line-sought : (k n : ℕ) → k ≡ p.stops.channels.chosen → n ≡ (chosen_stops p.stops).count
      → first_from (λ n. n) (ltb (get_or m down_at 0)) 1 (take n (take (channel_stops_at + 16 * k + 16 - (channel_stops_at + 16 * k)) (drop (channel_stops_at + 16 * k) m)))
      ≡ line_from (down_of p.place) 1 (held_in (chosen_stops p.stops))
  line-sought k n e f =
      let g : channel_stops_at + 16 * k + 16 - (channel_stops_at + 16 * k) ≡ 16 = omega arith in
      rw (g, down-held h, h.same, channel-stops v p h.long k, e, f) (sym (line_search (down_of p.place) 1 (held_in (chosen_stops p.stops))))

  -- the chosen channel, one of eight, and its count

  pub chosen-number : p.stops.channels.chosen ≤ 7 → get_or m chosen_at 0 % 8 ≡ p.stops.channels.chosen
  chosen-number q = omega (arith, chosen-held h)

  pub chosen-count : p.stops.channels.chosen ≤ 7 → get_or m (channel_counts_at + get_or m chosen_at 0 % 8) 0 ≡ channel_count p.stops.channels p.stops.channels.chosen
  chosen-count q = rw (chosen-number q) (channel-count-held p.stops.channels.chosen (omega arith))

  -- the places of the channels
  pub places-held : drop channel_stops_at m ≡ p.stops.channels.stops
  places-held =
      let c = p.stops.channels in
      ap (drop channel_stops_at) (h.same ∙ channels-split v p h.long c.stops c.counts)
      ∙ sym (drop-drop 8 channel_counts_at (head v p ++ (c.counts ++ c.stops)))
      ∙ ap (drop 8) (drop_at (head v p) (c.counts ++ c.stops) channel_counts_at (head-length v p h.long))
      ∙ drop_at c.counts c.stops 8 h.long.counts
