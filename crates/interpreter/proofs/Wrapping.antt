-- A letter stays on its line, or goes to the next one.
use Prim.Native.Nat.{ℕ, ◌+◌}
use mathlib.Core.Path.{◌≡◌, refl}
use mathlib.Core.Bool.{Bool, true, false}
use mathlib.Core.List.{List, [], ◌∷◌}
use lib.Dec.{leb, eqb}
use Rattle.printer.specs.Tools.{pick, either}
use Rattle.printer.specs.Settings.{left_of, right_of, across_of}
use Rattle.printer.specs.Widths.{advance}
use Rattle.printer.specs.Performing.{automatic, perform}
use Rattle.printer.specs.Deciding.{attempt, pages_of_line, letter_events}
use Rattle.printer.specs.declared.commands.Command.{Command}
use Rattle.printer.specs.declared.state.Printer.{Printer}
use Rattle.printer.proofs.CodeLaws.{both_true}

first_or_second : {A : Type 0} (t u : Bool) (a b : A) (l : List A) → either t u ≡ true
    → pick t (a ∷ []) (pick u (b ∷ []) l) ≡ pick t a b ∷ []
first_or_second true u a b l e = refl
first_or_second false true a b l e = refl
first_or_second false false a b l e = cc

neither : {A : Type 0} (t u : Bool) (a b c : A) → either t u ≡ false → pick t a (pick u b c) ≡ c
neither true u a b c e = cc
neither false true a b c e = cc
neither false false a b c e = refl

module _ (p : Printer) (b : ℕ) where
  abbrev fits : Bool
  fits = leb (across_of p.place + advance p.settings.width) (right_of p.settings)

  abbrev home : Bool
  home = eqb (across_of p.place) (left_of p.settings)

  pub letter-stays : either fits home ≡ true → letter_events p b ≡ attempt p (Command.Letter b) 4 ∷ []
  unfolding letter_events attempt
  letter-stays e = rw (both_true fits) (first_or_second fits home _ _ _ e)

  pub letter-wraps : either fits home ≡ false
      → letter_events p b ≡ automatic (pages_of_line p) ∷ attempt (perform p (automatic (pages_of_line p))) (Command.Letter b) 4 ∷ []
  unfolding letter_events
  letter-wraps e = rw (both_true fits) (neither fits home _ _ _ e)
