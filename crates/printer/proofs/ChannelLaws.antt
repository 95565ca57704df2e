-- The vertical channels: one set leaves the others as they were; the bounds of all and of each; their lists, one after the other.
use Prim.Native.Nat.{ℕ, zero, suc, ◌+◌, ◌*◌, ◌-◌, ◌≤◌, ◌<◌}
use mathlib.Core.Path.{◌≡◌, refl, sym, ap, subst, ◌∙◌}
use mathlib.Core.Bool.{Bool, true, false}
use mathlib.Core.List.{List, [], ◌∷◌, ◌++◌, append_assoc}
use native.Mathlib.Omega.{arith}
use native.Mathlib.Nat.{add-zero}
use lib.Dec.{ltb, eqb}
use lib.ListN.{length, get_or, take, drop, replicate, take-append-drop, get_or-replicate, length-drop, length-set}
use lib.ListN as ListN
use lib.Seq.{paste, length-paste, length-take-le, take-append-le, drop-append-le, take_at, drop_at, drop-paste, drop-drop, take-take, get_or-set_same, get_or-set_other, ext_get_or}
use borrow.Author.Tests.{eqb-true, eqb-false, ltb-true, ltb-false}
use Rattle.printer.specs.Tools.{Order, Holds}
use Rattle.printer.specs.Settings.{held_in, channel_stops}
use Rattle.printer.specs.PowerOn.{never_set}
use Rattle.printer.specs.Performing.{choosing, with_channel}
use Rattle.printer.specs.Bounds.{ascending, target_bounds, channels_below, channel_bounds}
use Rattle.printer.specs.Types.{Channels, TabStops, Target}

-- Sixteen places pasted into many

-- a part of the first of two lists joined
part_append : (a n : ℕ) (xs ys : List ℕ) → a + n ≤ length xs → take n (drop a (xs ++ ys)) ≡ take n (drop a xs)
part_append a n xs ys h =
    let k : a ≤ length xs = omega arith in
    let j : n ≤ length (drop a xs) = simp length-drop (omega arith) in
    rw (drop-append-le a xs ys k, take-append-le n (drop a xs) ys j)

module _ (d s : List ℕ) (m : ℕ) (long : length d ≡ 128) (enough : length s ≡ 32) (fits : m < 8) where
  places-before : (k : ℕ) → k < m → take 16 (drop (16 * k) (paste d (16 * m) s 16)) ≡ take 16 (drop (16 * k) d)
  places-before k h =
      let n : length (take (16 * m) d) ≡ 16 * m = length-take-le (16 * m) d (omega arith) in
      let j : 16 * k + 16 ≤ length (take (16 * m) d) = omega arith in
      rw append_assoc
      (part_append (16 * k) 16 (take (16 * m) d) _ j
      ∙ sym (part_append (16 * k) 16 (take (16 * m) d) (drop (16 * m) d) j)
      ∙ ap (λ (l : List ℕ). take 16 (drop (16 * k) l)) (take-append-drop (16 * m) d))

  places-after : (k : ℕ) → m < k → take 16 (drop (16 * k) (paste d (16 * m) s 16)) ≡ take 16 (drop (16 * k) d)
  places-after k h =
      let e : 16 * k ≡ 16 * m + 16 + (16 * k - (16 * m + 16)) = omega arith in
      rw (e, ← drop-drop (16 * k - (16 * m + 16)) (16 * m + 16) (paste d (16 * m) s 16), drop-paste d (16 * m) s 16 (omega arith) (omega arith), drop-drop)

  places-there : take 16 (drop (16 * m) (paste d (16 * m) s 16)) ≡ take 16 s
  places-there =
      rw (append_assoc, drop_at (take (16 * m) d) (take 16 s ++ drop (16 * m + 16) d) (16 * m) (length-take-le (16 * m) d (omega arith)))
      (take_at (take 16 s) (drop (16 * m + 16) d) 16 (length-take-le 16 s (omega arith)))

  places-long : length (paste d (16 * m) s 16) ≡ 128
  places-long = length-paste d (16 * m) s 16 (omega arith) (omega arith) ∙ long

-- One channel set

-- its arrays have their lengths
pub set_places : (c : Channels) (m : ℕ) (l : TabStops) → length c.stops ≡ 128 → length l.stops ≡ 32 → m < 8
    → length (with_channel c m l).stops ≡ 128
set_places c m l d s h = places-long c.stops l.stops m d s h

module _ (c : Channels) (m : ℕ) (l : TabStops) (d : length c.stops ≡ 128) (s : length l.stops ≡ 32) (h : m < 8) where
  -- the others stay
  pub other-channels : (k : ℕ) → (k ≡ m → ⊥) → channel_stops (with_channel c m l) k ≡ channel_stops c k
  other-channels k n = rw (places (ltb k m) refl, get_or-set_other c.counts m k (l.count + 1) 0 n)
    where
      places : (t : Bool) → ltb k m ≡ t → take 16 (drop (16 * k) (paste c.stops (16 * m) l.stops 16)) ≡ take 16 (drop (16 * k) c.stops)
      places true e = places-before c.stops l.stops m d s h k (ltb-true k m e)
      places false e = let u : m ≤ k = ltb-false k m e in places-after c.stops l.stops m d s h k (omega (arith, n))

  -- it holds these stops
  pub this-channel : length c.counts ≡ 8 → channel_stops (with_channel c m l) m ≡ record { stops = take 16 l.stops; count = l.count }
  this-channel e =
      let k : m < length c.counts = omega arith in
      let i : l.count + 1 - 1 ≡ l.count = omega arith in
      rw (places-there c.stops l.stops m d s h, get_or-set_same c.counts m (l.count + 1) 0 k, i)

-- Bounds

holds-append : (a b : List Order) → Holds a → Holds b → Holds (a ++ b)
holds-append [] b h k = k
holds-append (o ∷ a) b h k = (h.0, holds-append a b h.1 k)

holds_first : (a b : List Order) → Holds (a ++ b) → Holds a
holds_first [] b h = tt
holds_first (o ∷ a) b h = (h.0, holds_first a b h.1)

holds-rest : (a b : List Order) → Holds (a ++ b) → Holds b
holds-rest [] b h = h
holds-rest (o ∷ a) b h = holds-rest a b h.1

-- a channel within the vertical bounds
abbrev Vertical : TabStops → Type 0
Vertical l = Holds (target_bounds (Target.Channel 0) l)

abbrev pub Within : Channels → ℕ → Type 0
Within c k = Vertical (channel_stops c k)

pub each_channel : (c : Channels) (n k : ℕ) → Holds (channels_below c n) → k < n → Within c k
unfolding channels_below
each_channel c zero k h l = absurd (omega arith)
each_channel c (suc n) k h l =
    go (eqb k n) refl (each_channel c n k (holds-rest (target_bounds (Target.Channel n) (channel_stops c n)) (channels_below c n) h))
  where
    go : (t : Bool) → eqb k n ≡ t → (k < n → Within c k) → Within c k
    go true e f = rw (eqb-true k n e) (holds_first (target_bounds (Target.Channel n) (channel_stops c n)) (channels_below c n) h)
    go false e f = let u : (k ≡ n → ⊥) = eqb-false k n e in f (omega (arith, u))

pub all_channels : (c : Channels) (n : ℕ) → ((k : ℕ) → k < n → Within c k) → Holds (channels_below c n)
unfolding channels_below
all_channels c zero f = tt
all_channels c (suc n) f =
    holds-append (target_bounds (Target.Channel n) (channel_stops c n)) (channels_below c n) (f n (omega arith)) (all_channels c n (λ k l. f k (omega arith)))

-- the sixteen places of a list of at most sixteen are enough for it
short-list : (l : TabStops) (m : ℕ) → Holds (target_bounds (Target.Channel m) l) → held_in (record { stops = take 16 l.stops; count = l.count }) ≡ held_in l
short-list l m h = take-take l.count 16 l.stops h.0

pub channel_set : (c : Channels) (m : ℕ) (l : TabStops) → length c.stops ≡ 128 → length c.counts ≡ 8 → length l.stops ≡ 32 → m < 8
    → Holds (target_bounds (Target.Channel m) l) → Holds (channel_bounds c) → Holds (channel_bounds (with_channel c m l))
channel_set c m l d e s h f g = (g.0, all_channels (with_channel c m l) 8 (λ k u. go k u (eqb k m) refl))
  where
    go : (k : ℕ) → k < 8 → (t : Bool) → eqb k m ≡ t → Within (with_channel c m l) k
    go k u true i =
        rw (eqb-true k m i) (subst Vertical (sym (this-channel c m l d s h e)) (f.0, rw (short-list l m f) f.1))
    go k u false i = subst Vertical (sym (other-channels c m l d s h k (eqb-false k m i))) (each_channel c 8 k g.1 u)

-- another one chosen
pub chosen_within : (c : Channels) (m : ℕ) → m ≤ 7 → Holds (channel_bounds c) → Holds (channel_bounds (choosing c m))
unfolding channels_below
chosen_within c m h f = (h, f.1)

-- never set, whatever the places hold
pub never-within : (places : List ℕ) → Holds (channel_bounds (never_set places))
unfolding ascending
never-within places = (omega arith, all_channels (never_set places) 8 (λ k h. rw (none k h) (omega arith, tt)))
  where
    none : (k : ℕ) → k < 8 → ◌≡◌ {A = ℕ} (get_or (replicate 8 0) k 0) 0
    none k h = get_or-replicate 8 k 0 0 h

-- Lists

-- the stops that the channels from the k-th on hold
unfoldable pub channel_lists : Channels → (k n : ℕ) → List (List ℕ)
channel_lists c k zero = []
channel_lists c k (suc n) = held_in (channel_stops c k) ∷ channel_lists c (suc k) n

abbrev pub eight_lists : Channels → List (List ℕ)
eight_lists c = channel_lists c 0 8

length_lists : (c : Channels) (k n : ℕ) → length (channel_lists c k n) ≡ n
unfolding channel_lists
length_lists c k zero = refl
length_lists c k (suc n) = ap suc (length_lists c (suc k) n)

list_at : (c : Channels) (k n i : ℕ) → i < n → get_or (channel_lists c k n) i [] ≡ held_in (channel_stops c (k + i))
unfolding channel_lists
list_at c k zero i h = absurd (omega arith)
list_at c k (suc n) zero h = rw (add-zero k)
list_at c k (suc n) (suc i) h = let e : k + suc i ≡ suc k + i = omega arith in rw e (list_at c (suc k) n i (omega arith))

pub list_of : (c : Channels) (m : ℕ) → m < 8 → get_or (eight_lists c) m [] ≡ held_in (channel_stops c m)
list_of c m h = let e : 0 + m ≡ m = omega arith in rw e at (list_at c 0 8 m h)

pub lists_set : (c : Channels) (m : ℕ) (l : TabStops) → length c.stops ≡ 128 → length c.counts ≡ 8 → length l.stops ≡ 32 → m < 8
    → Holds (target_bounds (Target.Channel m) l) → ListN.set (eight_lists c) m (held_in l) ≡ eight_lists (with_channel c m l)
lists_set c m l d e s h f =
    ext_get_or [] _ _ (length-set (eight_lists c) m (held_in l) ∙ length_lists c 0 8 ∙ sym (length_lists (with_channel c m l) 0 8))
    (λ k u. go k (omega (arith, length-set (eight_lists c) m (held_in l), length_lists c 0 8)) (eqb k m) refl)
  where
    go : (k : ℕ) → k < 8 → (t : Bool) → eqb k m ≡ t → get_or (ListN.set (eight_lists c) m (held_in l)) k [] ≡ get_or (eight_lists (with_channel c m l)) k []
    go k u true i =
        let n : m < length (eight_lists c) = omega (arith, length_lists c 0 8) in
        rw (eqb-true k m i)
        (get_or-set_same (eight_lists c) m (held_in l) [] n
        ∙ sym (list_of (with_channel c m l) m h ∙ ap held_in (this-channel c m l d s h e) ∙ short-list l m f))
    go k u false i =
        let n = eqb-false k m i in
        get_or-set_other (eight_lists c) m k (held_in l) [] n ∙ list_of c k u
        ∙ sym (list_of (with_channel c m l) k u ∙ ap held_in (other-channels c m l d s h k n))

pub lists_chosen : (c : Channels) (m : ℕ) → eight_lists (choosing c m) ≡ eight_lists c
unfolding channel_lists
lists_chosen c m = refl

pub lists_never : (places : List ℕ) → eight_lists (never_set places) ≡ replicate 8 []
unfolding channel_lists
lists_never places = refl
