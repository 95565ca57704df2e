-- By the first byte: letters, or its step.
use mathlib.Core.Path.{◌≡◌, refl, sym, ap, ◌∙◌}
use Rattle.printer.specs.declared.commands.Control.{Control}
use Rattle.printer.specs.declared.commands.First.{First}
use Rattle.interpreter.proofs.Following.{no-letter-from}
use Rattle.interpreter.proofs.Stepping.{control-frame}
use Rattle.interpreter.proofs.Taken.{byte-turned}
use Rattle.interpreter.proofs.turn.take_here.Goals as goal

pub returns-in-Control-LineFeed : goal.returns-in-Control-LineFeed
returns-in-Control-LineFeed c =
    let f = no-letter-from _ _ c.upper_letters-from.ensures (sym c.prints.ensures ∙ c.if-prints.false) in
    let k = c.in-Control-LineFeed in
    let feed : k.field-0 ≡ Control.LineFeed = rw k.is at k.field-0-is in
    let line : c.first-f.result ≡ First.Control Control.LineFeed = k.is ∙ ap First.Control feed in
    byte-turned c.requires (λ p v h. c.line_step-line.ensures p v _ h (rw line at (control-frame h _ refl f c.first-f.ensures))) c.write_record.ensures

pub returns : goal.returns
returns c =
    let r = c.after_byte.ensures in
    rw r.0
    (byte-turned c.requires
    (λ p v h. c.control_step.ensures p v h
    (control-frame h _ refl (no-letter-from _ _ c.upper_letters-from.ensures (sym c.prints.ensures ∙ c.if-prints.false)) c.first-f.ensures))
    r.1)
