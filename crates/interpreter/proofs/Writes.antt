-- Records written into the output: none, one by a copy of its bytes, and some after others.
use Prim.Native.Nat.{ℕ, ◌+◌, ◌*◌, ◌-◌, ◌≤◌}
use mathlib.Core.Path.{◌≡◌, sym, ◌∙◌}
use mathlib.Core.List.{List, [], ◌∷◌, ◌++◌, append_assoc, append-nil}
use native.Mathlib.Nat.{add-sub_cancel_left}
use native.Mathlib.Omega.{arith}
use lib.ListN.{length, take, drop, length-append, length-drop, drop_of_length-le, take-append-drop}
use lib.Seq.{drop-drop, take_all, length-take-le, take_at, drop_at}
use borrow.Rule.Slice.PartMut.{put_mid, mid_of}
use Rattle.printer.specs.Records.{record_size, encoded, encoded_all}
use Rattle.printer.specs.declared.records.Record.{Record}
use Rattle.printer.proofs.Bytes.{length-encoded, length-encoded_all, encoded_all-append}
use Rattle.interpreter.specs.Output.{Written}

pub none : (xs : List ℕ) (at : ℕ) → Written xs at [] at xs
unfolding encoded_all
none xs at = record { place = omega arith; bytes = sym (take-append-drop at xs) }

-- a part that is lent, and written whole by a copy of a record's bytes
pub one : (xs zs : List ℕ) (at : ℕ) (r : Record) → at + record_size ≤ length xs → zs ≡ encoded r
    → Written xs at (r ∷ []) (at + record_size) (put_mid at (at + record_size - at) xs zs)
unfolding encoded_all
one xs zs at r h e =
    let n = length-encoded r in
    record { place = omega arith; bytes = rw (e, append-nil) (simp (add-sub_cancel_left, drop-drop)) }

-- records written from the beginning of the last part
pub lent : {xs ys : List ℕ} {at end : ℕ} {l : List Record} → at ≤ length xs → Written (mid_of at (length xs - at) xs) 0 l end ys
    → Written xs at l (at + end) (put_mid at (length xs - at) xs ys)
lent {xs} {ys} {at} {end} {l} h w =
    let whole : mid_of at (length xs - at) xs ≡ drop at xs = take_all (length xs - at) (drop at xs) (simp length-drop (omega arith)) in
    let rest : drop (length xs - at) (drop at xs) ≡ [] =
    drop_of_length-le (drop at xs) {i = length xs - at} (simp length-drop (omega arith)) in
    record {
      place = omega (arith, w.place);
      bytes = rw (rest, append-nil, w.bytes, whole, drop-drop);
    }

module _ {xs ys : List ℕ} {at end : ℕ} {l : List Record} (w : Written xs at l end ys) (fits : end ≤ length xs) where
  front : length (take at xs ++ encoded_all l) ≡ end
  front =
      simp length-append
      (let p = w.place in omega (arith, length-take-le at xs (omega arith), length-encoded_all l))

  split : ys ≡ (take at xs ++ encoded_all l) ++ drop end xs
  split = w.bytes ∙ sym (append_assoc (take at xs) (encoded_all l) (drop end xs))

  pub same_length : length ys ≡ length xs
  same_length = rw split (simp (length-append, length-drop) (omega (arith, front, length-append (take at xs) (encoded_all l))))

  pub more : {k : List Record} {next : ℕ} {zs : List ℕ} → Written ys end k next zs → Written xs at (l ++ k) next zs
  more {k} {next} {zs} v =
      let e : next ≡ end + record_size * length k = v.place in
      let r : drop next ys ≡ drop next xs =
      rw (split, e, ← drop-drop) (rw (drop_at (take at xs ++ encoded_all l) (drop end xs) end front, drop-drop)) in
      record {
        place = omega (arith, w.place, length-append l k);
        bytes =
            rw (v.bytes, r, split, take_at (take at xs ++ encoded_all l) (drop end xs) end front, encoded_all-append l k)
            (simp append_assoc);
      }
