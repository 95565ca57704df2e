-- A letter stays on its line, or goes to the next one, with two records.
use mathlib.Core.Path.{refl, sym, ◌∙◌}
use native.Mathlib.Omega.{arith}
use Rattle.registers.proofs.Reading.{margins-held, advance-held}
use Rattle.interpreter.proofs.Places.{across-held}
use Rattle.interpreter.proofs.Printing.{fed-held, wraps}
use Rattle.interpreter.proofs.Wrapping.{letter-stays, letter-wraps}
use Rattle.interpreter.proofs.Writes.{more}
use Rattle.interpreter.proofs.letters.letter.Goals as goal

pub returns-then-stays : goal.returns-then-stays
returns-then-stays c p v h =
    rw (letter-stays p _ (rw (c.margins_in.ensures ∙ margins-held h, across-held h, advance-held h) at (sym c.stays.ensures ∙ c.if-stays.true)))
    (c.write_letter.ensures p v h)

pub returns : goal.returns
returns c p v h =
    let line = c.line_feed-line.ensures p v h in
    let letter = c.write_letter-2.ensures _ v (fed-held line h) in
    let both = wraps line _ (record { state = letter.0; wrote = refl }) in
    rw (letter-wraps p _ (rw (c.margins_in.ensures ∙ margins-held h, across-held h, advance-held h) at (sym c.stays.ensures ∙ c.if-stays.false)))
    (both.state, rw both.wrote (more c.write_record-at.ensures (omega (arith, c.write_record-at.ensures.place)) letter.1))
