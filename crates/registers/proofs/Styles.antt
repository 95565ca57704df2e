-- The style bits are a sum, a part for each setting that shows, and are kept by difference.
use Prim.Native.Nat.{ℕ, ◌+◌, ◌*◌, ◌%◌, ◌≤◌}
use mathlib.Core.Path.{◌≡◌, refl, sym, subst, ◌∙◌}
use mathlib.Core.Bool.{Bool, true, false}
use mathlib.Core.List.{List, [], ◌∷◌}
use native.Mathlib.Omega.{arith}
use lib.ListN.{length, get_or, set, length-set}
use Rattle.printer.specs.Tools.{pick, either}
use Rattle.printer.specs.Records.{style_of}
use Rattle.printer.specs.declared.state.Printer.{Printer}
use Rattle.registers.specs.declared.derived.Shown.{Shown}
use Rattle.registers.specs.declared.pending.Pending.{Pending}
use Rattle.registers.specs.Register.{pitch_at, wide_at, wide_once_at, style_at, column_count_at}
use Rattle.registers.specs.Layout.{Derived, flag, derived_of, laid}
use Rattle.registers.specs.Held.{Held}
use Rattle.registers.specs.Keeping.{register_of, shows, shows_double, shown_stored, double_stored}
use Rattle.registers.proofs.Laying.{firsts, listed}
use Rattle.registers.proofs.State.{words_long}

-- what some settings show, and double width
abbrev shown_by : List Shown → List ℕ → ℕ
shown_by [] m = shows_double (get_or m wide_at 0) (get_or m wide_once_at 0)
shown_by (k ∷ l) m = shows k (get_or m (register_of k) 0) + shown_by l m

-- all of them
abbrev style_in : List ℕ → ℕ
style_in =
    shown_by
    (Shown.Bold ∷ Shown.DoubleStrike ∷ Shown.Italic ∷ Shown.Underline ∷ Shown.Superscript ∷ Shown.Subscript ∷ Shown.DoubleHeight ∷
    Shown.Outline ∷ Shown.Proportional ∷ Shown.Reduced ∷ Shown.ItalicTable ∷ Shown.Download ∷ [])

flag-shows : (on : Bool) (w : ℕ) → flag on % 4 * w ≡ pick on w 0
flag-shows true w = omega arith
flag-shows false w = omega arith

double_shows : (wide once : Bool) → shows_double (flag wide) (flag once) ≡ pick (either wide once) 0x40 0
double_shows true true = refl
double_shows true false = refl
double_shows false true = refl
double_shows false false = refl

pub style_back : (v : Pending) (d : Derived) (p : Printer) → style_in (laid v d p) ≡ style_of p.settings
unfolding laid style_of
style_back v d p = simp (flag-shows, double_shows) (omega arith)

-- the style bits in the registers are what their settings show
abbrev Shows : List ℕ → Type 0
Shows m = get_or m style_at 0 ≡ style_in m

pub record Styled (m : List ℕ) : Type 0 where
  pub long : column_count_at ≤ length m
  pub shown : Shows m

pub styled-held : {p : Printer} {v : Pending} {m : List ℕ} → Held p v m → Styled m
unfolding laid
styled-held {p} {v} {m} h =
    let d = derived_of p.settings in
    rw h.same (record { long = omega (arith, words_long v d p h.long); shown = sym (style_back v d p) })

-- so they are those of the settings
pub style_known : (v : Pending) (d : Derived) (p : Printer) → Styled (laid v d p) → d.style ≡ style_of p.settings
unfolding laid
style_known v d p h = h.shown ∙ style_back v d p

-- and each store by difference keeps them so

module _ (m : List ℕ) (e : Shows (firsts column_count_at 0 m)) where
  by-setting : (k : Shown) (n : ℕ) → Shows (shown_stored (firsts column_count_at 0 m) k n)
  unfolding firsts shown_stored
  by-setting Shown.Bold n = omega arith
  by-setting Shown.DoubleStrike n = omega arith
  by-setting Shown.Italic n = omega arith
  by-setting Shown.Underline n = omega arith
  by-setting Shown.Superscript n = omega arith
  by-setting Shown.Subscript n = omega arith
  by-setting Shown.DoubleHeight n = omega arith
  by-setting Shown.Outline n = omega arith
  by-setting Shown.Proportional n = omega arith
  by-setting Shown.Reduced n = omega arith
  by-setting Shown.ItalicTable n = omega arith
  by-setting Shown.Download n = omega arith

  by-double : (wide once : ℕ) → Shows (double_stored (firsts column_count_at 0 m) wide once)
  unfolding firsts double_stored
  by-double wide once = omega arith

  -- the pitch shows in none
  by-pitch : (n : ℕ) → Shows (set (firsts column_count_at 0 m) pitch_at n)
  unfolding firsts
  by-pitch n = e

module _ {m : List ℕ} (h : Styled m) where
  -- over the registers as the list of each, stores compute
  stored : (f : List ℕ → List ℕ) → length (f m) ≡ length m → (Shows (firsts column_count_at 0 m) → Shows (f (firsts column_count_at 0 m))) → Styled (f m)
  stored f l g =
      let e = listed column_count_at m h.long in
      record { long = omega arith; shown = subst (λ (x : List ℕ). Shows (f x)) (sym e) (g (subst Shows e h.shown)) }

  pub shown-kept : (k : Shown) (n : ℕ) → Styled (shown_stored m k n)
  unfolding shown_stored
  shown-kept k n = stored (λ (l : List ℕ). shown_stored l k n) (simp length-set) (λ e. by-setting m e k n)

  pub double-kept : (wide once : ℕ) → Styled (double_stored m wide once)
  unfolding double_stored
  double-kept wide once = stored (λ (l : List ℕ). double_stored l wide once) (simp length-set) (λ e. by-double m e wide once)

  pub pitch-kept : (n : ℕ) → Styled (set m pitch_at n)
  pitch-kept n = stored (λ (l : List ℕ). set l pitch_at n) (simp length-set) (λ e. by-pitch m e n)
