-- So many whole feeds are written.
use Rattle.writer.specs.Card.{whole_feeds}
use Rattle.writer.specs.Laid.{Laid}
use Rattle.writer.proofs.output.put_feeds.Given as goal

abbrev pub invariant-loop : goal.invariant-loop
invariant-loop l = Laid l.fn.out (whole_feeds l.counter) l.at l.out
