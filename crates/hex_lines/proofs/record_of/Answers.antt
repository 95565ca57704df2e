-- The loop over the pairs of digits.
use Rattle.std.proofs.Common.{◌∙◌}
use Rattle.hex_lines.proofs.BackLaws.{another_length, ends, stops_high, stops_low, goes_on}
use Rattle.hex_lines.proofs.record_of.Goals as goal

pub returns-then-line-ne-DIGITS : goal.returns-then-line-ne-DIGITS
returns-then-line-ne-DIGITS c = another_length _ c.if-line-ne-DIGITS.true

pub returns-in_err-high : goal.returns-in_err-high
returns-in_err-high c =
    c.from_residual.ensures ∙ stops_high c.loop-k.invariant c.loop-k-test.true c.in_err-high.ensures

pub returns-in_err-low : goal.returns-in_err-low
returns-in_err-low c =
    c.from_residual-in_err-low.ensures
    ∙ stops_low c.loop-k.invariant c.loop-k-test.true c.in_ok-high.ensures c.in_err-low.ensures

pub loop-k-preserved : goal.loop-k-preserved
loop-k-preserved c = goes_on c.loop-k.invariant c.loop-k-test.true c.in_ok-high.ensures _ c.in_ok-low.ensures

pub returns : goal.returns
returns c = ends c.loop-k.invariant c.loop-k-test.false
