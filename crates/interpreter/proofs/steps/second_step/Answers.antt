-- An escape.s second byte, by what it is.
use Rattle.printer.specs.declared.commands.ListOpening.{ListOpening}
use mathlib.Core.Path.{refl, sym, ◌∙◌}
use Rattle.printer.specs.declared.commands.Command.{Command}
use Rattle.printer.specs.declared.commands.Look.{Look}
use Rattle.printer.specs.declared.commands.Refused.{Refused}
use Rattle.interpreter.proofs.Escaping.{refused, silently, in-range, allowed}
use Rattle.interpreter.proofs.Shifts.{only_shifts}
use Rattle.interpreter.proofs.Stepping.{second-frame, waited, whole}
use Rattle.interpreter.proofs.steps.second_step.Goals as goal

pub shift-requires : goal.shift-requires
shift-requires c = record { fact = only_shifts c.args.b _ (sym c.requires.s_value ∙ c.in-Control.is) }

pub returns-in-Control : goal.returns-in-Control
returns-in-Control c p v h =
    rw c.whole.ensures
    (whole h _ (second-frame h _ refl c.requires.s_value c.in-Control.is) (c.shift.ensures p v h.held))

pub returns-in-Reset : goal.returns-in-Reset
returns-in-Reset c p v h =
    rw c.whole-in-Reset.ensures
    (whole h _ (second-frame h _ refl c.requires.s_value c.in-Reset.is) (c.reset.ensures p v h.held))

pub returns-in-Mode : goal.returns-in-Mode
returns-in-Mode c p v h =
    rw c.whole-in-Mode.ensures
    (whole h _ (second-frame h _ refl c.requires.s_value c.in-Mode.is)
    (silently (Command.Mode c.in-Mode.k) refl (c.mode.ensures p v h.held)))

pub returns-in-Switch : goal.returns-in-Switch
returns-in-Switch c p v h =
    rw c.whole-in-Switch.ensures
    (whole h _ (second-frame h _ refl c.requires.s_value c.in-Switch.is)
    (in-range _ _ _ refl (silently (Command.Look (Look.Switch c.in-Switch.w)) refl (c.switch.ensures p v h.held))))

pub returns-in-Begins : goal.returns-in-Begins
returns-in-Begins c p v h = rw c.waits.ensures (waited h _ (second-frame h _ refl c.requires.s_value c.in-Begins.is))

pub returns-in-List : goal.returns-in-List
returns-in-List c p v h =
    let opens = Command.OpenList (ListOpening.Named c.in-List.t) in
    rw (c.waits-in-List.ensures, c.named_list.ensures)
    (whole h _ {c = opens} (second-frame h _ refl c.requires.s_value c.in-List.is)
    (allowed opens 2 refl (silently opens refl (c.open_list.ensures p v h.held))))

pub returns-in-Unlisted : goal.returns-in-Unlisted
returns-in-Unlisted c p v h =
    rw c.whole-in-Unlisted.ensures
    (whole h _ (second-frame h _ refl c.requires.s_value c.in-Unlisted.is)
    (refused (Command.Refused (Refused.Escape c.args.b)) 1 h.held c.passed_record.ensures))
