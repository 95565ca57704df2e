-- A control byte, each by its own function.
use mathlib.Core.Path.{refl}
use mathlib.Core.Bool.{false}
use Rattle.interpreter.proofs.Events.{received, silent_did}
use Rattle.interpreter.proofs.Setting.{reduced-stored}
use Rattle.interpreter.proofs.controls.control.Goals as goal

pub returns-in-ShiftOut : goal.returns-in-ShiftOut
returns-in-ShiftOut c p v h q = rw c.in-ShiftOut.is (silent_did _ refl (c.wide_once.ensures p v h))

pub returns-in-Dc2 : goal.returns-in-Dc2
returns-in-Dc2 c p v h q = rw c.in-Dc2.is (silent_did _ refl (reduced-stored h false c.show_width.ensures))

pub returns-in-Dc4 : goal.returns-in-Dc4
returns-in-Dc4 c p v h q = rw c.in-Dc4.is (silent_did _ refl (c.end_wide_once.ensures p v h))

pub returns-in-CarriageReturn : goal.returns-in-CarriageReturn
returns-in-CarriageReturn c p v h q = rw c.in-CarriageReturn.is (received _ (c.carriage_return.ensures p v h))

pub returns-in-LineFeed : goal.returns-in-LineFeed
returns-in-LineFeed c p v h q = rw c.in-LineFeed.is (received _ (c.line_feed.ensures p v h))

pub returns-in-FormFeed : goal.returns-in-FormFeed
returns-in-FormFeed c p v h q = rw c.in-FormFeed.is (received _ (c.form_feed.ensures p v h))

pub returns-in-VerticalTab : goal.returns-in-VerticalTab
returns-in-VerticalTab c p v h q = rw c.in-VerticalTab.is (c.vertical_tab.ensures _ p v h q)
