-- A byte of a list: one more stop, or passed over.
use mathlib.Core.Path.{refl, sym, ap, ◌∙◌}
use mathlib.Core.List.{[]}
use Rattle.printer.specs.Settings.{column_of}
use Rattle.printer.specs.Performing.{done}
use Rattle.printer.specs.declared.commands.Command.{Command}
use Rattle.printer.specs.declared.commands.Listing.{Listing}
use Rattle.printer.specs.declared.commands.ListPart.{ListPart}
use Rattle.registers.proofs.Reading.{settings-held, column-held}
use Rattle.interpreter.proofs.Outcomes.{whole, attempt-done, attempt-passed, did}
use Rattle.interpreter.proofs.StopWords.{count_held, stop-added}
use Rattle.interpreter.proofs.lists.list_byte.Goals as goal

pub returns-then-allowed : goal.returns-then-allowed
returns-then-allowed c p v h =
    let a = c.args in
    let s = c.settings_in-s.ensures ∙ settings-held h in
    let w = column-held h ∙ ap column_of (sym s) in
    let e = c.stop_allowed-allowed.ensures in
    let command = Command.List (Listing.Sets a.k) (ListPart.Byte a.b) in
    did
    (attempt-done p command 3 (rw (s, count_held h) at (sym (e.0 w) ∙ c.if-allowed.true)) (whole p (done command 0) [] refl refl))
    (c.add_stop.ensures ∙ rw (c.stop_of.ensures c.settings_in-s.result refl, s) (stop-added h _ (rw (count_held h) at (e.1 c.if-allowed.true).0)))
    refl

pub returns : goal.returns
returns c p v h =
    let a = c.args in
    let s = c.settings_in-s.ensures ∙ settings-held h in
    let w = column-held h ∙ ap column_of (sym s) in
    did
    (attempt-passed p (Command.List (Listing.Sets a.k) (ListPart.Byte a.b)) 3
    (rw (s, count_held h) at (sym (c.stop_allowed-allowed.ensures.0 w) ∙ c.if-allowed.false)) refl)
    h.same (rw c.passed_record.ensures)
