-- Commands that are done if a position can be reached, and else passed over.
use Prim.Native.Nat.{ℕ, ◌+◌, ◌*◌}
use mathlib.Core.Path.{◌≡◌, refl, sym, ap, ◌∙◌}
use mathlib.Core.Bool.{Bool, true, false}
use Rattle.std.specs.Prelude.{Some, None}
use mathlib.Core.List.{List, [], ◌∷◌}
use native.Mathlib.Omega.{arith}
use lib.Dec.{leb, ltb}
use Rattle.std.specs.Int.{w16, from_le_bytes}
use Rattle.printer.specs.Codes.{shows}
use Rattle.printer.specs.Tools.{pick, ◌up_to◌, holds}
use Rattle.printer.specs.Units.{units}
use Rattle.printer.specs.Records.{passed_record}
use Rattle.printer.specs.Settings.{relative_step, across_of}
use Rattle.printer.specs.Performing.{done, perform, records_of}
use Rattle.printer.specs.Deciding.{needs_at, attempt}
use Rattle.printer.specs.declared.commands.Command.{Command}
use Rattle.printer.specs.declared.commands.Move.{Move}
use Rattle.printer.specs.declared.records.Record.{Record}
use Rattle.printer.specs.declared.state.Printer.{Printer}
use Rattle.printer.specs.declared.units.Units.{Units}
use Rattle.printer.proofs.CodeLaws.{both_true}
use Rattle.interpreter.specs.Outcome.{Stepped, stepped, Outcome}
use Rattle.interpreter.proofs.Outcomes.{whole, attempt-done, attempt-passed}
use Rattle.interpreter.specs.Reaching.{reach, relative_to}
use Rattle.interpreter.specs.Leaving.{moved_to, move_or_pass, print_or_pass}

-- A position that is reached, or not

pub reached : (t : Bool) (a : ℕ) (n : Units) → reach t a ≡ Some n → (t ≡ true) × (a ≡ n.0)
reached true a n e = let same : units a ≡ n = cc in (refl, ap (λ (u : Units). u.0) same)
reached false a n e = absurd (let z : ◌≡◌ {A = ℕ} 0 1 = cc in omega arith)

pub unreached : (t : Bool) (a : ℕ) → reach t a ≡ None → t ≡ false
unreached true a e = absurd (let z : ◌≡◌ {A = ℕ} 0 1 = cc in omega arith)
unreached false a e = refl

-- A move to a position, by a command's needs
module _ (p : Printer) (c : Command) (n : ℕ) where
  pub goes : (t : Bool) → holds (needs_at p c 0) ≡ t → perform p (done c 0) ≡ moved_to p n → records_of p (done c 0) ≡ []
      → Outcome p (attempt p c 3 ∷ []) (move_or_pass p (reach t n) (shows c))
  goes true h e k = attempt-done p c 3 h (whole p (done c 0) [] (rw e) (sym k))
  goes false h e k = attempt-passed p c 3 h refl

  pub prints : (t : Bool) (v : Record) → holds (needs_at p c 0) ≡ t → perform p (done c 0) ≡ moved_to p n
      → records_of p (done c 0) ≡ v ∷ [] → Outcome p (attempt p c 4 ∷ []) (print_or_pass p (reach t n) v (shows c))
  prints true v h e k = attempt-done p c 4 h (whole p (done c 0) (v ∷ []) (rw e) (sym k))
  prints false v h e k = attempt-passed p c 4 h refl

-- A position that a command sets
module _ (p : Printer) (c : Command) (t : Bool) (n : ℕ) (h : holds (needs_at p c 0) ≡ t) {r : Stepped} where
  pub sets : (q : ℕ → Printer) (v : List Record) (m : Units) → perform p (done c 0) ≡ q n → v ≡ records_of p (done c 0)
      → reach t n ≡ Some m → r ≡ stepped (q m.0) v → Outcome p (attempt p c 3 ∷ []) r
  sets q v m e k f o =
      let g = reached t n m f in
      attempt-done p c 3 (h ∙ g.0) (whole p (done c 0) v (o ∙ rw (e, g.1)) k)

  pub keeps : reach t n ≡ None → r ≡ stepped p (passed_record (shows c) 3 ∷ [])
      → Outcome p (attempt p c 3 ∷ []) r
  keeps f o = attempt-passed p c 3 (h ∙ unreached t n f) o

-- the needs of one of two orders
one_of : (t : Bool) (a b c d : ℕ) → holds (pick t (◌up_to◌ a b ∷ []) (◌up_to◌ c d ∷ [])) ≡ pick t (leb a b) (leb c d)
one_of true a b c d = both_true (leb a b)
one_of false a b c d = both_true (leb c d)

pub relative-goes : (p : Printer) (a b : ℕ)
    → Outcome p (attempt p (Command.Move Move.Relative a b) 3 ∷ [])
    (move_or_pass p (relative_to p.settings.margins (across_of p.place) (a + 256 * b) (relative_step p.settings)) 0x5C)
relative-goes p a b = goes p (Command.Move Move.Relative a b) _ _ (one_of (ltb (a + 256 * b) 0x8000) _ _ _ _) refl refl

-- a number of two bytes, low byte first
pub two_bytes : {n : ℕ} (a b : ℕ) → n ≡ from_le_bytes w16 (a ∷ b ∷ []) → n ≡ a + 256 * b
two_bytes a b e = omega (arith, e)
