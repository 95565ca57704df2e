-- A length within its bounds gives a new page and its top, and any other is passed over.
use Rattle.printer.specs.Records.{style_of}
use Rattle.printer.specs.Performing.{done, perform}
use Rattle.printer.specs.declared.commands.Command.{Command}
use Rattle.printer.proofs.CodeLaws.{both_true}
use Rattle.registers.specs.Layout.{laid}
use Rattle.interpreter.proofs.Escaping.{performed, allowed, not-allowed}
use Rattle.interpreter.proofs.Paging.{shows-page}
use Rattle.interpreter.proofs.pages.new_page.Goals as goal

pub returns-then-allowed : goal.returns-then-allowed
unfolding laid style_of
returns-then-allowed c g p v h e =
    let feed = c.feed_record.ensures in
    allowed (Command.Page g) 3 (simp both_true (rw e at c.if-allowed.true))
    (performed (done (Command.Page g) 0) (rw (e, h.same))
    (rw (feed (perform p (done (Command.Page g) 0)) v (record { same = rw (e, h.same); small = h.small; long = h.long }))))

pub returns : goal.returns
returns c g p v h e =
    not-allowed (Command.Page g) 3 (simp both_true (rw e at c.if-allowed.false)) h
    (rw (shows-page g) c.passed_record.ensures)
