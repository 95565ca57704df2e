-- Decimal numbers: the number of the digits left, after those passed, is the word's. What all words ask for, of those so far.
use Rattle.std.proofs.Common.{◌≡◌, ℕ, ◌+◌, ◌^◌, ◌≤◌, ◌<◌, true, false, List, [], ◌∷◌, ◌++◌, length, drop, get_or, Result, Ok, Err, Some, None, refl, sym, ◌∙◌, append_assoc, arith}
use Rattle.std.specs.Char.{is_ascii_digit, IsAsciiDigit}
use native.Mathlib.Nat.{pow-succ', pow-le-pow_right}
use native.Mathlib.Numerals.{add-one}
use borrow.Author.Tests.{le-leb, lt-leb}
use lib.ListN.{drop_of_length-le}
use lib.Seq.{drop-cons}
use Rattle.command_line.specs.CommandLine.{with_digit, most_digits, decimal_from, decimal_of, asked_by}

-- The digits that are left

pub record DigitsLeft (word : List ℕ) (value i : ℕ) : Type 0 where
  pub few : length word ≤ most_digits
  pub passed : i ≤ length word
  pub small : value < 10 ^ i
  pub same : decimal_of word ≡ decimal_from value (drop i word)

pub none : (word : List ℕ) → length word ≡ 0 → None ≡ decimal_of word
unfolding decimal_of
none word e = rw e

pub too_many : (word : List ℕ) → most_digits < length word → None ≡ decimal_of word
unfolding decimal_of
too_many word h = simp (le-leb 1 (length word) (omega arith), lt-leb (length word) most_digits h)

pub begins : (word : List ℕ) → 0 < length word → length word ≤ most_digits → DigitsLeft word 0 0
unfolding decimal_of
begins word n h =
    record {
      few = h;
      passed = omega arith;
      small = omega arith;
      same = simp (le-leb 1 (length word) (omega arith), le-leb (length word) most_digits h);
    }

module _ {word : List ℕ} {value i : ℕ} (v : DigitsLeft word value i) where
  pub ends : length word ≤ i → Some value ≡ decimal_of word
  unfolding decimal_from
  ends h = sym (v.same ∙ rw (drop_of_length-le word {i = i} h))

  module _ (h : i < length word) where
    pub unreadable : is_ascii_digit (get_or word i 0) ≡ false → None ≡ decimal_of word
    unfolding decimal_from
    unreadable e = sym (v.same ∙ rw (drop-cons word i 0, e))

    -- the number fits, with the digit
    module _ (d : IsAsciiDigit (get_or word i 0)) where
      below : with_digit value (get_or word i 0) < 10 ^ (i + 1)
      below = rw (add-one, pow-succ') (omega (arith, v.small))

      pub fits : with_digit value (get_or word i 0) < 10 ^ most_digits
      fits =
          let p : 10 ^ (i + 1) ≤ 10 ^ most_digits = pow-le-pow_right (omega (arith, v.few)) {i = i + 1} {j = most_digits} (omega arith) in
          omega (arith, below)

      pub goes_on : is_ascii_digit (get_or word i 0) ≡ true → DigitsLeft word (with_digit value (get_or word i 0)) (i + 1)
      unfolding decimal_from
      goes_on e =
          record {
            few = v.few;
            passed = omega arith;
            small = below;
            same = v.same ∙ rw (drop-cons word i 0, e, add-one);
          }

-- The words so far

module _ {A B E : Type 0} (after : A → List ℕ → Result A E) (choice : A → Result B E) where
  pub record Taken (first now : A) : Type 0 where
    pub words : List (List ℕ)
    pub same : (rest : List (List ℕ)) → asked_by after choice first (words ++ rest) ≡ asked_by after choice now rest

  pub taken_none : (first : A) → Taken first first
  taken_none first = record { words = []; same = λ rest. refl }

  module _ {first now : A} (t : Taken first now) (word : List ℕ) where
    pub taken_more : {next : A} → after now word ≡ Ok next → Taken first next
    unfolding asked_by
    taken_more {next} e =
        record {
          words = t.words ++ word ∷ [];
          same = λ rest. rw (append_assoc t.words (word ∷ []) rest) (t.same (word ∷ rest) ∙ rw e);
        }

    pub refused : {e : E} → after now word ≡ Err e → (words : List (List ℕ)) × (Err e ≡ asked_by after choice first words)
    unfolding asked_by
    refused h = (t.words ++ word ∷ [], sym (t.same (word ∷ []) ∙ rw h))

  pub all_taken : {first now : A} → Taken first now → (words : List (List ℕ)) × (choice now ≡ asked_by after choice first words)
  unfolding asked_by
  all_taken t = (t.words ++ [], sym (t.same []))
