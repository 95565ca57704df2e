-- ESC N: done if the skip is allowed, and then it fits 32 bits.
use Prim.Native.Nat.{◌*◌}
use mathlib.Core.Path.{◌≡◌, refl, sym, ◌∙◌}
use Rattle.printer.specs.Records.{style_of}
use Rattle.printer.specs.Settings.{line_of}
use Rattle.printer.specs.declared.commands.Command.{Command}
use Rattle.registers.specs.Layout.{laid}
use Rattle.registers.proofs.Reading.{paper-held, place-held}
use Rattle.interpreter.proofs.Escaping.{allowed, not-allowed, silently}
use Rattle.interpreter.proofs.pages.attempt_skip.Goals as goal

pub returns-then-skip_fits : goal.returns-then-skip_fits
unfolding laid style_of
returns-then-skip_fits c p v h =
    let n = c.args.n in
    let paper = c.paper_in-paper.ensures ∙ paper-held h in
    let place = c.place_in-place.ensures ∙ place-held h in
    let skip : c.times-skip.result ≡ n * line_of p.settings = rw paper at c.times-skip.ensures.0 in
    allowed (Command.Skip n) 3 (rw (skip, paper, place) at (sym c.skip_fits.ensures ∙ c.if-skip_fits.true))
    (silently (Command.Skip n) refl (rw (skip, h.same)))

pub returns : goal.returns
returns c p v h =
    let n = c.args.n in
    let paper = c.paper_in-paper.ensures ∙ paper-held h in
    let place = c.place_in-place.ensures ∙ place-held h in
    let skip : c.times-skip.result ≡ n * line_of p.settings = rw paper at c.times-skip.ensures.0 in
    not-allowed (Command.Skip n) 3 (rw (skip, paper, place) at (sym c.skip_fits.ensures ∙ c.if-skip_fits.false)) h
    c.passed_record.ensures
