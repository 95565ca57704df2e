-- ESC @, and the letters one after the other.
use Rattle.std.proofs.Common.{◌∙◌, arith}
use Rattle.std.proofs.lemmas.List.{length_push}
use Rattle.writer.specs.Card.{count_of}
use Rattle.writer.proofs.Chunks.{all_ahead, at_end, more_left, same_letter, passed}
use Rattle.writer.proofs.Refusals.{none-refused}
use Rattle.writer.proofs.GoodLetters.{good_at}
use Rattle.writer.proofs.Cards.{begins, room_left, goes_on}
use Rattle.writer.proofs.put_card.Goals as goal

pub loop-bytes-init : goal.loop-bytes-init
loop-bytes-init c =
    let s = c.into_iter-bytes-iterator.ensures.into_iter_gives in
    rw s
    (record { begun = begins _ c.put-at.ensures; ahead = all_ahead _ _ c.chunks_exact-bytes-items.ensures.size c.chunks_exact-bytes-items.ensures.rest })

pub put_letter-at-requires : goal.put_letter-at-requires
put_letter-at-requires c =
    let l = c.args.letters.now in
    let v = c.loop-bytes.invariant in
    let s = c.in-Some.ensures.steps in
    let all = none-refused _ _ c.requires.no_fault in
    let x = c.letter_from-x.ensures ∙ same_letter v.ahead c.in-Some.bytes c.next.new.self s in
    let within = more_left v.ahead c.in-Some.bytes c.next.new.self s in
    let g = good_at l (count_of l) _ all within in
    let room = room_left v.begun x (count_of l) all within (omega arith) in
    rw x (rw v.begun.down g.further, g.down_most, room)

pub loop-bytes-preserved : goal.loop-bytes-preserved
loop-bytes-preserved c =
    let v = c.loop-bytes.invariant in
    let s = c.in-Some.ensures.steps in
    let x = c.letter_from-x.ensures ∙ same_letter v.ahead c.in-Some.bytes c.next.new.self s in
    rw length_push
    (record { begun = goes_on v.begun x c.put_letter-at.ensures; ahead = passed v.ahead c.in-Some.bytes c.next.new.self s })

pub returns : goal.returns
returns c =
    let v = c.loop-bytes.invariant in
    let e = at_end v.ahead c.in-None.ensures.steps.1.0 in
    rw (← e) v.begun.laid
