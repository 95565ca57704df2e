-- The start, by the test of its settings.
use mathlib.Core.Path.{sym, ◌∙◌}
use Rattle.printer.specs.Calls.{start_of}
use Rattle.printer.proofs.Answering.{start_promise}
use Rattle.reader.proofs.start.Goals as goal

pub returns-then-usable : goal.returns-then-usable
unfolding start_of
returns-then-usable c =
    start_promise _ _ (rw (sym c.usable.ensures ∙ c.if-usable.true) (rw c.setup_of.ensures at c.started.ensures))

pub returns : goal.returns
unfolding start_of
returns c =
    start_promise _ _
    (rw (sym c.usable.ensures ∙ c.if-usable.false) (rw (c.setup_of-2.ensures, c.plain_start.ensures) at c.started-2.ensures))
