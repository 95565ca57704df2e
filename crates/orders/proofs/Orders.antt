-- The commands of the items as sent: one, and several one after the other.
use mathlib.Core.Path.{◌≡◌, refl, sym, ap, ◌∙◌}
use mathlib.Core.Bool.{true}
use mathlib.Core.List.{List, [], ◌∷◌}
use Rattle.printer.specs.Tools.{Each}
use Rattle.printer.specs.Performing.{done, with_parts, perform_all, records_all}
use Rattle.printer.specs.Deciding.{ranged, decide}
use Rattle.printer.specs.Steps.{wait_for, state_after, records_over}
use Rattle.printer.specs.declared.commands.Look.{Look}
use Rattle.printer.specs.declared.commands.One.{One}
use Rattle.printer.specs.declared.commands.Parameter.{Parameter}
use Rattle.printer.specs.declared.commands.Waiting.{Waiting}
use Rattle.printer.specs.declared.settings.Settings.{Settings}
use Rattle.printer.specs.declared.state.Printer.{Printer}
use Rattle.printer.proofs.Cuts.{state-append, records-append}
use Rattle.whole.specs.Whole.{Does, beginning, Escape, switch, one}
use Rattle.whole.proofs.Whole.{escape}
use Rattle.orders.specs.Orders.{Setting, look, spacing, row_of, Sent, sent_all, Accepted, Same}
use Rattle.orders.proofs.Items.{command_of, taken, settings_by, settings_all, row_bytes, row-accepted, same_upper}

-- a printer with other settings
abbrev changed : Printer → Settings → Printer
changed p s = with_parts p s p.place p.stops

-- its events, and what they leave and write

decided : (p : Printer) (c : Setting) → taken c ≡ true → decide p (command_of c) ≡ done (command_of c) 0 ∷ []
unfolding ranged
decided p (look k) h = rw h
decided p (spacing n) h = refl

performed : (p : Printer) (c : Setting) → (perform_all p (done (command_of c) 0 ∷ []) ≡ changed p (settings_by p.settings c)) × (records_all p (done (command_of c) 0 ∷ []) ≡ [])
unfolding perform_all records_all
performed p (look k) = (refl, refl)
performed p (spacing n) = (refl, refl)

an_escape : (c : Setting) → Escape (command_of c) Waiting.Nothing
an_escape (look (Look.Switch w)) = switch w
an_escape (look (Look.Choice c n)) = one (One.Choice c) n
an_escape (spacing n) = one (One.Parameter Parameter.Spacing) n

-- a command as sent

module _ (p : Printer) (x : Sent) (w : p.waiting ≡ Waiting.Nothing) (h : Accepted p.settings.upperprints x) where
  does : Does p (x.0 ∷ (row_of x.1).bytes) (beginning x.0) (command_of x.1) Waiting.Nothing
  does = rw (row_bytes x.1) (escape p x.0 (command_of x.1) Waiting.Nothing w h.0 (an_escape x.1))

  events : decide p (command_of x.1) ≡ done (command_of x.1) 0 ∷ []
  events = decided p x.1 (sym (row-accepted x.1) ∙ h.1)

  leaves : state_after p (x.0 ∷ (row_of x.1).bytes) ≡ changed p (settings_by p.settings x.1)
  leaves = does.state ∙ rw (events, (performed p x.1).0) (ap (wait_for (changed p (settings_by p.settings x.1))) (sym w))

  silent : records_over p (x.0 ∷ (row_of x.1).bytes) ≡ []
  silent = does.records ∙ rw (events) (performed p x.1).1

-- several leave the settings of all of them, and write nothing
leaves_all : (p : Printer) (l : List Sent) → p.waiting ≡ Waiting.Nothing → Each (Accepted p.settings.upperprints) l
    → (state_after p (sent_all l) ≡ changed p (settings_all p.settings l)) × (records_over p (sent_all l) ≡ [])
unfolding sent_all state_after records_over
leaves_all p [] w h = (refl, refl)
leaves_all p (x ∷ l) w h =
    let q = changed p (settings_by p.settings x.1) in
    let bytes = x.0 ∷ (row_of x.1).bytes in
    let v = leaves_all q l w (rw (same_upper p.settings x.1) h.1) in (
      state-append p bytes (sent_all l) ∙ rw (leaves p x w h.0) v.0,
      records-append p bytes (sent_all l) ∙ rw (silent p x w h.0, leaves p x w h.0) v.1,
    )

-- so those that leave the same settings leave the same state
pub same : (p : Printer) (l m : List Sent) → p.waiting ≡ Waiting.Nothing
    → Each (Accepted p.settings.upperprints) l → Each (Accepted p.settings.upperprints) m
    → settings_all p.settings l ≡ settings_all p.settings m → Same p (sent_all l) (sent_all m)
same p l m w h k e =
    let one = leaves_all p l w h in
    let other = leaves_all p m w k in
    record { state = one.0 ∙ ap (changed p) e ∙ sym other.0; silent = one.1; other_silent = other.1 }
