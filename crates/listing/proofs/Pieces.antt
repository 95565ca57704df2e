-- Input shown in parts, one after the other.
use Prim.Native.Nat.{ℕ, ◌+◌, ◌-◌, ◌<◌}
use mathlib.Core.Path.{◌≡◌, refl, sym, ap, subst, ◌∙◌}
use mathlib.Core.Bool.{true}
use mathlib.Core.List.{List, [], ◌++◌}
use native.Mathlib.Omega.{arith}
use lib.ListN.{length, take, drop, length-append, length-drop}
use lib.Seq.{take-add, take_all, length-take-le}
use Rattle.printer.specs.Tools.{Bytes}
use Rattle.printer.specs.Accepted.{Ours}
use Rattle.printer.specs.Bounds.{accepted}
use Rattle.printer.specs.Steps.{state_after}
use Rattle.printer.specs.declared.state.Printer.{Printer}
use Rattle.printer.proofs.Choices.{bytes_take, bytes_append}
use Rattle.printer.proofs.Accepting.{fact_accepted}
use Rattle.printer.proofs.Cuts.{state-append}
use Rattle.printer.proofs.KeepingSteps.{steps_ours}
use Rattle.std.specs.Prelude.{Result, Ok, Err, IfOk, IsErrAnd, MatchResult}
use Rattle.listing.specs.Showing.{Shown, SomeShown, FromInput}
use Rattle.listing.specs.declared.Progress.{Progress}

pub shown-none : (p : Printer) (input : List ℕ) → Shown p input p 0
unfolding state_after
shown-none p input = record { state = refl; within = omega arith; refused = λ e. refl }

module _ {p q : Printer} {input : List ℕ} {n : ℕ} (g : Shown p input q n) where
  -- a state on which nothing was read is handed on
  same-state : n ≡ 0 → q ≡ p
  unfolding state_after
  same-state e = g.state ∙ ap (λ (k : ℕ). state_after p (take k input)) e

  pub shown-more : {r : Printer} {m : ℕ} → Shown q (drop n input) r m → Shown p input r (n + m)
  shown-more {r} {m} h =
      record {
        state = cc (g.state, h.state, take-add n m input, state-append p (take n input) (take m (drop n input)));
        within = let w = h.within in omega (arith, g.within, length-drop n input);
        refused = λ e.
            let z = g.refused e in
            let y = h.refused (ap accepted (same-state z) ∙ e) in
            omega arith;
      }

  -- a state of ours stays so
  pub shown-accepted : Bytes input → Ours p → accepted q ≡ true
  shown-accepted b o = rw g.state (fact_accepted _ (steps_ours p (take n input) (bytes_take n input b) o).accepted)

  pub from-shown : Bytes input → FromInput p q n
  from-shown b =
      record { input = take n input; bytes = bytes_take n input b; size = length-take-le n input g.within; state = g.state }

-- what is counted is what the result says
said_of : {E : Type 0} {result : Result ℕ E} {n m : ℕ} → result ≡ Ok n → IfOk result (λ k. k ≡ m) → n ≡ m
said_of {E} {m = m} e s = let P : Result ℕ E → Type 0 = λ r. IfOk r (λ k. k ≡ m) in subst P e s

-- an error of another kind leaves the count
pub said-mapped : {E F : Type 0} (r : Result ℕ E) (s : Result ℕ F) (m : ℕ) (R : E → F → Type 0)
    → MatchResult r (λ x. s ≡ Ok x) (λ e. IsErrAnd s (R e)) → IfOk r (λ k. k ≡ m) → IfOk s (λ k. k ≡ m)
said-mapped {F = F} (Ok x) s m R h k = let P : Result ℕ F → Type 0 = λ t. IfOk t (λ k. k ≡ m) in subst P (sym h) k
said-mapped (Err e) (Ok y) m R h k = absurd h
said-mapped (Err e) (Err z) m R h k = tt

-- A turn: what is left of the piece is shown in part

pub record Going (before : Progress) (input : List ℕ) (after : Progress) (at : ℕ) : Type 0 where
  pub total : after.read ≡ before.read + at
  pub shown : Shown before.printer input after.printer at
  pub kept : accepted before.printer ≡ true → accepted after.printer ≡ true

pub going-none : (p : Progress) (input : List ℕ) → Going p input p 0
going-none p input = record { total = omega arith; shown = shown-none p.printer input; kept = λ e. e }

module _ {E : Type 0} {before now after : Progress} {input : List ℕ} {at : ℕ} {result : Result ℕ E} (g : Going before input now at)
    (h : SomeShown now (take (length input - at) (drop at input)) result after) where
  pub rest : SomeShown now (drop at input) result after
  rest = let k = length-drop at input in rw (take_all (length input - at) (drop at input) (omega arith)) at h

  pub turned : Going before input after (at + rest.read)
  turned = let t = rest.counted.total in record { total = omega (arith, g.total); shown = shown-more g.shown rest.shown; kept = λ e. rest.kept (g.kept e) }

  module _ {n : ℕ} (e : result ≡ Ok n) where
    pub turned-ok : Going before input after (at + n)
    turned-ok = rw (said_of e rest.counted.said) turned

    pub turned-some : accepted before.printer ≡ true → at < length input → 0 < n
    turned-some a l =
        let k = rest.some (g.kept a) (omega (arith, length-drop at input)) in omega (arith, said_of e rest.counted.said)

-- Input from outside

pub from-none : (p : Printer) → FromInput p p 0
unfolding state_after
from-none p = record { input = []; bytes = tt; size = refl; state = refl }

pub from_more : {p q r : Printer} {n m : ℕ} → FromInput p q n → FromInput q r m → FromInput p r (n + m)
from_more {p} g h =
    record {
      input = g.input ++ h.input;
      bytes = bytes_append g.input h.input g.bytes h.bytes;
      size = let k = length-append g.input h.input in cc (g.size, h.size);
      state = cc (g.state, h.state, state-append p g.input h.input);
    }
