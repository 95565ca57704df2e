-- The loop over the digits.
use Rattle.std.proofs.Common.{rules, arith, sym, ◌∙◌}
use Rattle.std.proofs.lemmas.Bool.Decides.{nat_tests}
use Rattle.command_line.proofs.WordLaws.{none, too_many, begins, ends, unreadable, fits, goes_on}
use Rattle.command_line.proofs.decimal.Goals as goal
use Rattle.command_line.proofs.decimal.Goals.{then-is_empty-via-then-is_empty, then-is_empty-via-else-is_empty+then-word-gt-MOST_DIGITS}

pub returns-then-is_empty : goal.returns-then-is_empty
returns-then-is_empty c =
    elim c.then-is_empty.branch [
      | then-is_empty-via-then-is_empty w ↦ none _ (search (rules, nat_tests))
      | then-is_empty-via-else-is_empty+then-word-gt-MOST_DIGITS w ↦ too_many _ w.if-word-gt-MOST_DIGITS.true
    ]

pub loop-digit-init : goal.loop-digit-init
loop-digit-init c = begins _ (grind (arith, nat_tests)) c.if-word-gt-MOST_DIGITS.false

pub returns-then-not-is_ascii_digit : goal.returns-then-not-is_ascii_digit
returns-then-not-is_ascii_digit c =
    unreadable c.loop-digit.invariant c.loop-digit-test.true (sym c.is_ascii_digit.ensures.value ∙ c.if-not-is_ascii_digit.true)

pub overflow_mul-value : goal.overflow_mul-value
overflow_mul-value c =
    let k = fits c.loop-digit.invariant c.loop-digit-test.true c.if-not-is_ascii_digit.ensures.cases in
    search rules

pub overflow_add-value : goal.overflow_add-value
overflow_add-value c =
    let k = fits c.loop-digit.invariant c.loop-digit-test.true c.if-not-is_ascii_digit.ensures.cases in
    rw c.from.ensures (search rules)

pub loop-digit-preserved : goal.loop-digit-preserved
loop-digit-preserved c =
    rw c.from.ensures
    (goes_on c.loop-digit.invariant c.loop-digit-test.true c.if-not-is_ascii_digit.ensures.cases
    (sym c.is_ascii_digit.ensures.value ∙ c.if-not-is_ascii_digit.false))

pub returns : goal.returns
returns c = ends c.loop-digit.invariant c.loop-digit-test.false
