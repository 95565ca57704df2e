-- The last of as many as the count says.
use Rattle.std.proofs.lemmas.List.{take_min}
use Rattle.std.proofs.lemmas.Option.{unwrap_or-slice_get}
use Rattle.accepting.proofs.StopLists.{last_read}
use Rattle.accepting.proofs.lists.last.Goals as goal

pub returns : goal.returns
returns c = rw (c.unwrap_or.ensures, c.copied.ensures, c.last.ensures.value, unwrap_or-slice_get, c.min-end.ensures, take_min) (last_read _)
