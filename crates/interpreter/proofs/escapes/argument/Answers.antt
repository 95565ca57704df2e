-- The setting if the argument is taken, and else passed over.
use mathlib.Core.Path.{sym, ◌∙◌}
use Rattle.interpreter.proofs.Escaping.{in-range, out_of_range, silently}
use Rattle.interpreter.proofs.escapes.argument.Goals as goal

pub returns-then-takes : goal.returns-then-takes
returns-then-takes g c p v h =
    let a = c.args in
    in-range _ _ _ (sym c.takes.ensures ∙ c.if-takes.true)
    (silently (g.S.Setting.command a.c a.n) (g.met.S.Setting.silent a.c a.n p) (c.set.ensures p v h))

pub returns : goal.returns
returns g c p v h =
    out_of_range _ _ _ (sym c.takes.ensures ∙ c.if-takes.false) h
    (rw (c.code.ensures c.args.n) at c.passed_record.ensures)
