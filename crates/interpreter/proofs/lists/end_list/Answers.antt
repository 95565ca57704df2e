-- The list replaces the stops in force, of the columns or of a channel.
use Rattle.interpreter.proofs.StopWords.{columns-copied}
use Rattle.interpreter.proofs.lists.end_list.Goals as goal

pub returns-in-Columns : goal.returns-in-Columns
returns-in-Columns c p v h g = rw c.in-Columns.is (c.open_list.ensures _ v (columns-copied h c.copy_within.ensures.after))

pub returns-in-Channel : goal.returns-in-Channel
returns-in-Channel c p v h g =
    let e = c.in-Channel.is in
    let q = rw e at g in
    rw e (c.open_list-in-Channel.ensures _ v (c.set_channel.ensures p v h q.0 q.1.0))
