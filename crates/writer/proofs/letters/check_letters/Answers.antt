-- What a letter's check says of the letters passed.
use Rattle.std.proofs.Common.{◌∙◌}
use Rattle.std.proofs.lemmas.Result.{err_from_is_err_and}
use Rattle.std.proofs.lemmas.List.{length_push}
use Rattle.writer.proofs.Chunks.{all_ahead, at_end, more_left, same_letter, passed}
use Rattle.writer.proofs.Faults.{begins, bad, goes_on}
use Rattle.writer.proofs.letters.check_letters.Goals as goal

pub loop-bytes-init : goal.loop-bytes-init
loop-bytes-init c =
    let s = c.into_iter-bytes-iterator.ensures.into_iter_gives in
    rw s (record { passed = begins _; ahead = all_ahead _ _ c.chunks_exact-bytes-items.ensures.size c.chunks_exact-bytes-items.ensures.rest })

pub returns-in_err-check_letter : goal.returns-in_err-check_letter
returns-in_err-check_letter c =
    let p = err_from_is_err_and c.from_residual.result c.from_residual.ensures.1 in
    let v = c.loop-bytes.invariant.ahead in
    let s = c.in-Some.ensures.steps in
    let x = c.letter_from-x.ensures ∙ same_letter v c.in-Some.bytes c.next.new.self s in
    rw (p.1, p.2) (bad c.loop-bytes.invariant.passed x (more_left v c.in-Some.bytes c.next.new.self s) c.in_err-check_letter.ensures)

pub loop-bytes-preserved : goal.loop-bytes-preserved
loop-bytes-preserved c =
    let v = c.loop-bytes.invariant.ahead in
    let s = c.in-Some.ensures.steps in
    let x = c.letter_from-x.ensures ∙ same_letter v c.in-Some.bytes c.next.new.self s in
    rw length_push
    (record { passed = goes_on c.loop-bytes.invariant.passed x c.in_ok-check_letter.ensures; ahead = passed v c.in-Some.bytes c.next.new.self s })

pub returns : goal.returns
returns c =
    let e = at_end c.loop-bytes.invariant.ahead c.in-None.ensures.steps.1.0 in
    rw (← e, c.loop-bytes.invariant.passed.good)
