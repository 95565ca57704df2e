-- VT as FF.
use Rattle.interpreter.proofs.Tabbing.{as-form, once-ended}
use Rattle.interpreter.proofs.tabs.to_next_page.Goals as goal

pub returns : goal.returns
returns c b p v h = as-form p b (c.form_feed.ensures _ v (once-ended p b h (c.end_wide_once.ensures p v h)))
