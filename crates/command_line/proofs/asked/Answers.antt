-- The loop over the words.
use Rattle.std.proofs.Common.{◌≡◌, rules, Err, sym, ◌∙◌}
use Rattle.command_line.proofs.WordLaws.{taken_none, taken_more, refused, all_taken}
use Rattle.command_line.proofs.asked.Goals as goal

pub loop-i-init : goal.loop-i-init
loop-i-init g c = rw c.new-asked.ensures (taken_none _ _ _)

pub returns-in_err-asked : goal.returns-in_err-asked
returns-in_err-asked g c =
    let k = refused _ _ c.loop-i.invariant _ (sym c.word.ensures ∙ c.in_err-asked.was) in
    let e : c.from_residual.result ≡ Err c.in_err-asked.field-0.0 = search rules in
    (k.0, e ∙ k.1)

pub loop-i-preserved : goal.loop-i-preserved
loop-i-preserved g c = taken_more _ _ c.loop-i.invariant _ (sym c.word.ensures ∙ c.in_ok-asked.was)

pub returns : goal.returns
returns g c = rw c.choice.ensures (all_taken _ _ c.loop-i.invariant)
