-- By what is waited for.
use Rattle.interpreter.proofs.Taken.{byte-turned}
use Rattle.interpreter.proofs.turn.turn.Goals as goal

pub returns-in-SecondByte : goal.returns-in-SecondByte
returns-in-SecondByte c =
    let r = c.after_byte.ensures in
    rw r.0 (byte-turned c.requires (λ p v h. c.second_step.ensures p v (rw c.in-SecondByte.is at h)) r.1)

pub returns-in-Arguments : goal.returns-in-Arguments
returns-in-Arguments c =
    let r = c.after_byte-in-Arguments.ensures in
    rw r.0 (byte-turned c.requires (λ p v h. c.argument_step.ensures p v (rw c.in-Arguments.is at h)) r.1)

pub returns-in-StopList : goal.returns-in-StopList
returns-in-StopList c =
    let r = c.after_byte-in-StopList.ensures in
    rw r.0 (byte-turned c.requires (λ p v h. c.list_step.ensures p v (rw c.in-StopList.is at h)) r.1)
