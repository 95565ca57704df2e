-- The bytes of style and country, from one number.
use Prim.Native.Nat.{ℕ, ◌+◌, ◌*◌, ◌/◌, ◌%◌, ◌≤◌}
use mathlib.Core.Path.{◌≡◌}
use native.Mathlib.Omega.{arith}
use Rattle.printer.specs.Records.{encoded}
use Rattle.printer.specs.declared.records.Record.{Record}
use Rattle.measures.specs.Encoding.{with_look}
use Rattle.measures.proofs.encoding.encoded.Goals as goal

module _ (s c : ℕ) (hs : s ≤ 65535) (hc : c ≤ 255) where
  b0 : (s + 65536 * c) % 256 ≡ s % 256
  b0 = omega arith

  b1 : (s + 65536 * c) / 256 % 256 ≡ s / 256 % 256
  b1 = omega arith

  b2 : (s + 65536 * c) / 65536 % 256 ≡ c
  b2 = omega arith

  b3 : (s + 65536 * c) / 16777216 % 256 ≡ 0
  b3 = omega arith

look_bytes : (r : Record) → r.style ≤ 65535 → r.country ≤ 255 → with_look r (r.style + 65536 * r.country) ≡ encoded r
unfolding encoded
look_bytes r hs hc =
    let s = r.style in
    let c = r.country in
    rw (b0 s c hs hc, b1 s c hs hc, b2 s c hs hc, b3 s c hs hc)

pub returns : goal.returns
returns c = rw (c.with_look.ensures, c.look_of.ensures) (look_bytes c.args.r (omega arith) (omega arith))
