-- The loop that places a series of bytes.
use Prim.Native.Nat.{ℕ, zero, suc, ◌+◌, ◌*◌, ◌-◌, ◌%◌, ◌≤◌, ◌<◌}
use mathlib.Core.Path.{◌≡◌, refl, ap, ◌∙◌}
use mathlib.Core.Bool.{Bool, true, false}
use mathlib.Core.List.{List, [], ◌∷◌, ◌++◌}
use native.Mathlib.Nat.{zero-mul, suc-mul, add-zero, mul-one, add-mul, mul-le-mul_right, le-mul_of_pos_right, le_of_mul-le-mul_right}
use native.Mathlib.Numerals.{add-one}
use native.Mathlib.Omega.{arith}
use lib.Dec.{eqb}
use lib.ListN.{length, take, get_or, set}
use lib.Seq.{take-suc, take-take, length-take-le, set-get_or}
use borrow.Author.Tests.{eqb-true, eqb-false}
use Rattle.printer.specs.Tools.{pick}
use Rattle.printer.specs.Records.{record_size, encoded_all}
use Rattle.printer.specs.declared.records.Record.{Record}
use Rattle.printer.specs.Units.{rounded, rest_word, per_inch_across}
use Rattle.printer.proofs.Choices.{each_append}
use Rattle.printer.proofs.CodeLaws.{product}
use Rattle.measures.specs.declared.rounding.Exact.{Exact}
use Rattle.measures.specs.Exact.{packed, carried, dot_of, rest_of}
use Rattle.measures.proofs.Exact.{packed_dot, packed-rest, packed-sum}
use Rattle.registers.specs.Register.{across_at, right_at, dots_across_at}
use Rattle.registers.specs.Groups.{resolution_of}
use Rattle.framing.specs.Letters.{prints_from}
use Rattle.interpreter.specs.Output.{Written}
use Rattle.interpreter.specs.Series.{of_part, like_at, placed_all, AllPrint, Reached, OnLine, Formed, OnPaper, Placeable, Placing, spot_after}
use Rattle.interpreter.specs.declared.series.Placed.{Placed}
use Rattle.interpreter.specs.declared.series.Series.{Series}
use Rattle.interpreter.specs.declared.series.Spot.{Spot}
use Rattle.interpreter.specs.Taking.{Fits}
use Rattle.interpreter.proofs.Writes.{none, more, same_length}

-- by a test, wherever it is asked
pub by_test : (P : Bool → Type 0) (t : Bool) → (t ≡ true → P true) → (t ≡ false → P false) → P t
by_test P true f g = f refl
by_test P false f g = g refl

-- Columns

-- a product that is not 0 is of numbers that are not
pub some_times : (n bytes : ℕ) → 0 < n * bytes → 0 < n
some_times zero bytes h = absurd (omega (arith, h, zero-mul bytes))
some_times (suc n) bytes h = omega arith

-- one column less
pub one_less : (n bytes : ℕ) → 0 < n → n * bytes ≡ (n - 1) * bytes + bytes
one_less n bytes h =
    let e : suc (n - 1) ≡ n = omega arith in
    rw e at (suc-mul (n - 1) bytes)

module _ {done part n bytes k : ℕ} (s : Reached done part n bytes k) where
  -- the spot after one byte more
  reached-next : Reached (pick (eqb part bytes) (done + 1) done) (pick (eqb part bytes) 1 (part + 1)) (n + 1) bytes k
  reached-next =
      by_test (λ (t : Bool). Reached (pick t (done + 1) done) (pick t 1 (part + 1)) (n + 1) bytes k) (eqb part bytes)
      (λ e. let z : part ≡ bytes = eqb-true part bytes e in
      let m : (done + 1) * bytes ≡ done * bytes + bytes = rw (add-one, suc-mul) in
      record { counted = omega (arith, s.counted, z, m); low = omega arith; high = omega (arith, s.low, z) })
      (λ e. let z = eqb-false part bytes e in
      record { counted = omega (arith, s.counted); low = omega arith; high = omega (arith, s.high, z) })

  -- no byte, no column
  pub none_done : n ≡ 0 → k ≤ bytes → done ≡ 0
  none_done e h = go done s.counted
    where
      go : (j : ℕ) → j * bytes + part ≡ n + k → j ≡ 0
      go zero f = refl
      go (suc j) f = absurd (omega (arith, f, suc-mul j bytes, s.low, e))

  -- of one byte each there are as many as bytes
  pub one_each : bytes ≡ 1 → k ≡ 1 → (done ≡ n) × (part ≡ 1)
  one_each e f =
      let p : part ≡ 1 = omega (arith, s.low, s.high, e) in
      (omega (arith, rw (e, mul-one) at s.counted, p, f), p)

  module _ {x step right : ℕ} (f : OnLine n bytes k x step right) (h : (1 ≤ k) × (k ≤ bytes)) where
    -- the columns done are within those of the line
    pub done-few : done ≤ f.whole
    done-few = go n refl
      where
        go : (j : ℕ) → n ≡ j → done ≤ f.whole
        go zero e = omega (arith, none_done e h.1)
        go (suc j) e = le_of_mul-le-mul_right {k = bytes} (omega (arith, s.counted, s.low, f.enough, h.0, e)) (omega (arith, h))

    pub done-within : x + done * step ≤ right
    done-within = let m : done * step ≤ f.whole * step = mul-le-mul_right step done-few in omega (arith, f.in-margin, m)

-- a column's last byte, before others: they are from the next column on
pub after-column : {done part n bytes k : ℕ} → Reached done part (suc n) bytes k → k ≡ bytes → Reached (done - 1) part n bytes 1 × (0 < done)
after-column {done} {bytes = bytes} s e =
    let d : 0 < done = some_times done bytes (omega (arith, s.counted, s.high, e)) in
    let m = one_less done bytes d in
    (record { counted = omega (arith, s.counted, e, m); low = s.low; high = s.high }, d)

-- one byte more
placed_more : (v : Record) (d step bytes : ℕ) (l : List ℕ) (x k done part b : ℕ) → (1 ≤ k) × (k ≤ bytes) → Reached done part (length l) bytes k
    → placed_all v d x step bytes k (l ++ (b ∷ []))
    ≡ placed_all v d x step bytes k l ++ (like_at (of_part v part) (rounded d (x + done * step)) (rest_word d (x + done * step)) b ∷ [])
unfolding placed_all
placed_more v d step bytes [] x k done part b h s =
    let e : done ≡ 0 = none_done s refl h.1 in
    let f : part ≡ k = omega (arith, s.counted, rw (e, zero-mul) at s.counted) in
    rw (e, f, zero-mul, add-zero)
placed_more v d step bytes (a ∷ l) x k done part b h s =
    ap (λ (r : List Record). like_at (of_part v k) (rounded d x) (rest_word d x) a ∷ r)
    (by_test
    (λ (t : Bool). placed_all v d (pick t (x + step) x) step bytes (pick t 1 (suc k)) (l ++ (b ∷ []))
    ≡ placed_all v d (pick t (x + step) x) step bytes (pick t 1 (suc k)) l ++ (like_at (of_part v part) (rounded d (x + done * step)) (rest_word d (x + done * step)) b ∷ []))
    (eqb k bytes)
    (λ e. let q = after-column s (eqb-true k bytes e) in
    let p : x + step + (done - 1) * step ≡ x + done * step = omega (arith, one_less done step q.1) in
    rw (← p) (placed_more v d step bytes l (x + step) 1 (done - 1) part b (omega arith, omega (arith, h)) q.0))
    (λ e. let z = eqb-false k bytes e in
    placed_more v d step bytes l x (suc k) done part b (omega arith, omega (arith, h.1, z))
    (record { counted = omega (arith, s.counted); low = s.low; high = s.high })))

-- The loop

-- what the loop begins with: an exact place and step, and a byte of a column
pub record Begun (d x step bytes k most by : ℕ) (s : Spot) : Type 0 where
  pub place : s.exact.0 ≡ packed (x * d + 1800)
  pub each : by ≡ packed (step * d)
  pub spot : (s.part ≡ k) × (s.done ≡ 0)
  pub from : (1 ≤ k) × (k ≤ bytes)
  pub moves : 0 < step
  pub on_line : OnLine most bytes k x step 28800

-- the invariant: the first bytes are placed, and print
pub record SoFar (v : Record) (from d x step bytes k : ℕ) (input out₀ out : List ℕ) (s : Spot) (n at : ℕ) : Type 0 where
  pub within : n ≤ length input
  pub reached : Reached s.done s.part n bytes k
  pub place : s.exact.0 ≡ packed ((x + s.done * step) * d + 1800)
  pub written : at ≡ record_size * n
  pub printed : AllPrint from (take n input)
  pub wrote : Written out₀ 0 (placed_all v d x step bytes k (take n input)) at out

pub begins : {v : Record} {from d x step bytes k most : ℕ} {input out : List ℕ} {by : ℕ} {s : Spot}
    → Begun d x step bytes k most by s → SoFar v from d x step bytes k input out out s 0 0
unfolding placed_all
begins {d = d} {x = x} {step = step} {bytes = bytes} {k = k} {out = out} {s = s} b =
    record {
      within = omega arith;
      reached = rw (b.spot.0, b.spot.1) (record { counted = rw zero-mul; low = b.from.0; high = b.from.1 });
      place = b.place ∙ rw (b.spot.1, zero-mul, add-zero);
      written = omega arith;
      printed = tt;
      wrote = none out 0;
    }

module _
    {v : Record} {from d x step bytes k : ℕ} {input out₀ out : List ℕ} {by : ℕ} {s₀ s : Spot} {n at : ℕ}
    (g : SoFar v from d x step bytes k input out₀ out s n at) (b : Begun d x step bytes k (length input) by s₀)
    (dots : d ≤ 300) (room : record_size * length input ≤ length out₀) where
  fits : at ≤ length out₀
  fits = omega (arith, g.written, g.within)

  pub long : length out ≡ length out₀
  long = same_length g.wrote fits

  -- so many bytes are of columns on the line
  shorter : (j : ℕ) → j ≤ length input → OnLine j bytes k x step 28800
  shorter j h =
      let f = b.on_line in
      record { whole = f.whole; enough = omega (arith, f.enough); in-margin = f.in-margin }

  -- a place on the line, in parts of a dot
  on_line : (j : ℕ) → x + j * step ≤ 28800 → (x + j * step) * d ≤ 8640000
  on_line j h = product _ _ 28800 300 h dots

  pub line-so-far : x + s.done * step ≤ 28800
  line-so-far = done-within g.reached (shorter n g.within) b.from

  -- the place in 1/3600 dot, its dot and its rest
  so_far : (x + s.done * step) * d + 1800 ≤ 8641800
  so_far = omega (arith, on_line s.done line-so-far)

  column : dot_of s.exact.0 ≡ rounded d (x + s.done * step)
  column = rw g.place (packed_dot ((x + s.done * step) * d + 1800) (omega (arith, so_far)))

  rest : rest_of s.exact.0 ≡ rest_word d (x + s.done * step)
  rest = rw g.place (packed-rest d (x + s.done * step) (omega (arith, so_far)))

  -- so few columns are done
  pub few : s.done ≤ 28800
  few =
      omega (arith, line-so-far, le-mul_of_pos_right s.done b.moves)

  module _ (some : n < length input) where
    next : take (n + 1) input ≡ take n input ++ (get_or input n 0 ∷ [])
    next = rw (add-one, take-suc input n 0)

    -- the exact place after the byte
    place_after : pick (eqb s.part bytes) (carried ((s.exact.0 + by) % 4294967296)) s.exact.0
        ≡ packed ((x + pick (eqb s.part bytes) (s.done + 1) s.done * step) * d + 1800)
    place_after =
        let after = done-within (reached-next g.reached) (shorter (n + 1) (omega arith)) b.from in
        by_test
        (λ (t : Bool). x + pick t (s.done + 1) s.done * step ≤ 28800
        → pick t (carried ((s.exact.0 + by) % 4294967296)) s.exact.0 ≡ packed ((x + pick t (s.done + 1) s.done * step) * d + 1800))
        (eqb s.part bytes)
        (λ _ h.
        let i : x + (s.done + 1) * step ≡ x + s.done * step + step = omega (arith, suc-mul s.done step, add-one s.done) in
        let few-parts : step * d ≤ 8640000 = product step d 28800 300 (omega (arith, i, h)) dots in
        let a : (x + s.done * step) * d + 1800 + step * d ≡ (x + (s.done + 1) * step) * d + 1800 =
        rw i (omega (arith, add-mul (x + s.done * step) step d)) in
        rw (g.place, b.each, packed-sum ((x + s.done * step) * d + 1800) (step * d) (omega (arith, so_far)) (omega (arith, few-parts)), a))
        (λ _ _. g.place) after

    pub goes_on : {r : Record} {out' : List ℕ} → prints_from from (get_or input n 0) ≡ true
        → r ≡ like_at (of_part v s.part) (dot_of s.exact.0) (rest_of s.exact.0) (get_or input n 0) → Written out at (r ∷ []) (at + record_size) out'
        → SoFar v from d x step bytes k input out₀ out' (spot_after s by bytes) (n + 1) (at + record_size)
    goes_on {r} e q w =
        let c : length (take n input) ≡ n = length-take-le n input g.within in
        record {
          within = omega arith;
          reached = reached-next g.reached;
          place = place_after;
          written = omega (arith, g.written);
          printed = rw next (each_append (λ b. prints_from from b ≡ true) (take n input) (get_or input n 0 ∷ []) g.printed (e, tt));
          wrote =
              rw (next, placed_more v d step bytes (take n input) x k s.done s.part (get_or input n 0) b.from (rw c g.reached), ← rest, ← column, ← q)
              (more g.wrote fits w);
        }

-- An exact place and an exact step, by another name of the dots of an inch

pub place-known : (x : ℕ) {first : Exact} {n d : ℕ} → first ≡ record { 0 = packed (x * n + 1800) } → n ≡ d → first.0 ≡ packed (x * d + 1800)
place-known x e f = ap (λ (p : Exact). p.0) e ∙ ap (λ (k : ℕ). packed (x * k + 1800)) f

pub step_known : (step : ℕ) {by : Exact} {n d : ℕ} → by ≡ record { 0 = packed (step * n) } → n ≡ d → by.0 ≡ packed (step * d)
step_known step e f = ap (λ (p : Exact). p.0) e ∙ ap (λ (k : ℕ). packed (step * k)) f

-- fewer bytes are on the line, and fit, too
pub fewer_line : {n most bytes k across step right : ℕ} → OnLine most bytes k across step right → n ≤ most → OnLine n bytes k across step right
fewer_line f h = record { whole = f.whole; enough = omega (arith, f.enough); in-margin = f.in-margin }

-- the right margin is on the paper
pub on_paper : {n bytes k across step right : ℕ} → OnLine n bytes k across step right → right ≤ 28800 → OnLine n bytes k across step 28800
on_paper f h = record { whole = f.whole; enough = f.enough; in-margin = omega (arith, f.in-margin) }

pub fewer_fit : {n most bytes k columns input room across step right : ℕ} → Fits most bytes k columns input room across step right → n ≤ most
    → Fits n bytes k columns input room across step right
unfolding fewer_line
fewer_fit f h =
    record {
      line = fewer_line f.line h;
      some_columns = f.some_columns;
      some-input = omega (arith, f.some-input);
      some-room = omega (arith, f.some-room);
    }

-- What the loop begins with, on the registers
pub begun : {m : List ℕ} {s : Series} {most room : ℕ} {e : Exact} → Placeable m s most room
    → e ≡ record { 0 = packed (get_or m across_at 0 * per_inch_across (resolution_of (get_or m dots_across_at 0)) + 1800) }
    → Begun (get_or m dots_across_at 0) (get_or m across_at 0) s.step.0 s.bytes s.part most s.by.0 (record { exact = e; part = s.part; done = 0 })
begun {m} p f =
    record {
      place = place-known (get_or m across_at 0) f p.paper.inch;
      each = p.formed.exact;
      spot = (refl, refl);
      from = p.formed.begins;
      moves = p.formed.moves;
      on_line = on_paper p.line p.paper.margin;
    }

-- A part of the input is given to it, of bytes that fit

pub placeable : {m : List ℕ} {s : Series} {columns n : ℕ} (input out : List ℕ) → Formed m s → OnPaper m
    → Fits n s.bytes s.part columns (length input) (length out) (get_or m across_at 0) s.step.0 (get_or m right_at 0)
    → Placeable m s (length (take n input)) (length out)
placeable {n = n} input out f p h =
    rw (length-take-le n input h.some-input)
    (record { formed = f; paper = p; line = h.line; fits = omega (arith, h.some-room) })

pub placed-of : {m : List ℕ} {s : Series} {from n : ℕ} {input out : List ℕ} {r : Placed} {after wrote : List ℕ} → n ≤ length input
    → Placing m s from (take n input) out r after wrote → Placing m s from input out r after wrote × (r.count ≤ n)
placed-of {n = n} {input = input} {r = r} h g =
    let c : r.count ≤ n = omega (arith, g.few, length-take-le n input h) in
    let t : take r.count (take n input) ≡ take r.count input = take-take r.count n input c in (
      record {
        few = omega (arith, c, h);
        printed = rw t at g.printed;
        reached = g.reached;
        moved = g.moved;
        records = rw t at g.records;
      },
      c,
    )

-- Where none is placed, nothing changes

pub not_moved : (m : List ℕ) (step : ℕ) {m' : List ℕ} {n : ℕ} → n ≡ 0 → m' ≡ set m across_at (get_or m across_at 0 + n * step) → m' ≡ m
not_moved m step e k = rw e at k ∙ rw (zero-mul step, add-zero, set-get_or)

pub not_written : {xs ys : List ℕ} {l : List Record} {n : ℕ} → n ≡ 0 → Written xs 0 l (record_size * n) ys → ys ≡ xs
unfolding encoded_all
not_written {xs} {l = []} {n} e w = let z : record_size * n ≡ 0 = omega arith in w.bytes ∙ rw z
not_written {l = r ∷ l} e w = absurd (omega (arith, w.place))
