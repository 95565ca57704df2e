-- By what the byte is.
use Rattle.registers.proofs.Waiting.{begins-found, begins-nothing}
use Rattle.registers.proofs.pending.begins.Goals as goal

pub returns-in-Begins : goal.returns-in-Begins
returns-in-Begins c = rw (begins-found, ← c.begun_of.ensures, c.in-Begins.is)

pub returns-in-List : goal.returns-in-List
returns-in-List c = rw (c.named_list.ensures, begins-found, ← c.begun_of.ensures, c.in-List.is)

pub returns-in_default : goal.returns-in_default
returns-in_default c =
    rw (begins-found, ← c.begun_of.ensures) (begins-nothing _ _ c.in_default.not-Begins c.in_default.not-List)
