-- Exact places and steps as one number: dot and rest, one number of those that give a length back, and sums.
use Prim.Native.Nat.{ℕ, ◌+◌, ◌*◌, ◌-◌, ◌/◌, ◌%◌, ◌≤◌, ◌<◌}
use mathlib.Core.Path.{◌≡◌, refl, sym, ap, ◌∙◌}
use mathlib.Core.Bool.{Bool, true, false}
use native.Mathlib.Nat.{mod-eq_of_lt}
use native.Mathlib.Omega.{arith}
use lib.Dec.{ltb, eqb}
use borrow.Author.Tests.{ltb-true, ltb-false, eqb-true, eqb-false, eq-eqb, ne_eqb}
use Rattle.printer.specs.Tools.{pick}
use Rattle.printer.specs.Units.{rounded, rest_word}
use Rattle.measures.specs.Exact.{packed, carried}

-- Dot and rest: what is over of an exact place is half a dot more than the rest

pub over_of : (d n : ℕ) → (rest_word d n + 1800) % 65536 ≡ (n * d + 1800) % 3600
over_of d n = omega arith

pub over_below : (w d n : ℕ) → w ≡ rest_word d n → (w + 1800) % 65536 < 3600
over_below w d n e = rw (e, over_of d n) (omega arith)

-- a length by its quotient and remainder
quotient : (n q r : ℕ) → n ≡ 3600 * q + r → r < 3600 → 65536 * r + q ≡ packed n
quotient n q r e h = omega arith

pub step_forth : (d n : ℕ) → rest_word d n < 32768 → 65536 * rest_word d n + rounded d n ≡ packed (n * d)
step_forth d n h = quotient (n * d) (rounded d n) (rest_word d n) (omega arith) (omega arith)

pub rest_back : (d n : ℕ) → 32768 ≤ rest_word d n → (61936 ≤ rest_word d n) × (1 ≤ rounded d n)
rest_back d n h = (omega arith, omega arith)

pub step_back : (d n : ℕ) → 32768 ≤ rest_word d n → 65536 * (rest_word d n - 61936) + (rounded d n - 1) ≡ packed (n * d)
step_back d n h =
    let k : 1 ≤ rounded d n = (rest_back d n h).1 in
    let e : n * d + 65536 ≡ 3600 * rounded d n + rest_word d n = omega arith in
    quotient (n * d) (rounded d n - 1) (rest_word d n - 61936) (omega (arith, (rest_back d n h).0)) (omega arith)

pub packed-over : (n : ℕ) → n < 235929600 → packed n / 65536 ≡ n % 3600
packed-over n h = omega arith

pub packed-rest : (d n : ℕ) → n * d + 1800 < 235929600 → (packed (n * d + 1800) / 65536 + 63736) % 65536 ≡ rest_word d n
packed-rest d n h = ap (λ (x : ℕ). (x + 63736) % 65536) (packed-over (n * d + 1800) h) ∙ omega arith

-- The number of a length, told by the length that it gives back

pub gives_back : (x n : ℕ) → x < 235929600 → n < 235929600 → eqb (x % 65536 * 3600 + x / 65536) n ≡ eqb x (packed n)
gives_back x n h k = go (eqb (x % 65536 * 3600 + x / 65536) n) refl
  where
    go : (t : Bool) → eqb (x % 65536 * 3600 + x / 65536) n ≡ t → t ≡ eqb x (packed n)
    go true e =
        let f : x % 65536 * 3600 + x / 65536 ≡ n = eqb-true _ _ e in
        sym (eq-eqb x (packed n) (omega arith))
    go false e = sym (ne_eqb x (packed n) (λ q. eqb-false (x % 65536 * 3600 + x / 65536) n e (omega arith)))

pub gives_none : (x n : ℕ) → 235929600 ≤ x → n < 235929600 → false ≡ eqb x (packed n)
gives_none x n h k = sym (ne_eqb x (packed n) (λ q. omega arith))

-- The dot, and sums

pub packed_dot : (n : ℕ) → n < 235929600 → packed n % 65536 ≡ n / 3600
packed_dot n h = omega arith

-- dots and what is over of a sum, from those of its parts
sum : (Q R q r : ℕ) → 3600 * Q + R ≡ 3600 * q + r → R < 3600 → r < 7200 → q < 60000 → carried (65536 * r + q) ≡ 65536 * R + Q
sum Q R q r e f g h = go (ltb (65536 * r + q) 235929600) refl
  where
    go : (t : Bool) → ltb (65536 * r + q) 235929600 ≡ t → pick t (65536 * r + q) (65536 * r + q - 235929599) ≡ 65536 * R + Q
    go true b =
        let less : 65536 * r + q < 235929600 = ltb-true _ _ b in
        let same : r ≡ R = omega arith in
        omega arith
    go false b =
        let most : 235929600 ≤ 65536 * r + q = ltb-false _ _ b in
        let same : r ≡ R + 3600 = omega arith in
        omega arith

pub packed-sum : (a b : ℕ) → a < 50000000 → b < 50000000 → carried ((packed a + packed b) % 4294967296) ≡ packed (a + b)
packed-sum a b h k =
    let s : packed a + packed b ≡ 65536 * (a % 3600 + b % 3600) + (a / 3600 + b / 3600) = omega arith in
    let small : (65536 * (a % 3600 + b % 3600) + (a / 3600 + b / 3600)) % 4294967296 ≡ 65536 * (a % 3600 + b % 3600) + (a / 3600 + b / 3600) = mod-eq_of_lt (omega arith) in
    rw (s, small)
    (sum ((a + b) / 3600) ((a + b) % 3600) (a / 3600 + b / 3600) (a % 3600 + b % 3600) (omega arith) (omega arith) (omega arith) (omega arith))
