-- A byte's step, and the steps over a whole input.
use Rattle.std.specs.Prelude.{ℕ, List, [], ◌∷◌, ◌++◌}
use Rattle.printer.specs.Framing.{frame}
use Rattle.printer.specs.Performing.{Event, perform_all, records_all}
use Rattle.printer.specs.Deciding.{decide}
use Rattle.printer.specs.Types.{Frame, Waiting, Record, Printer}

abbrev pub frame_at : Printer → ℕ → Frame
frame_at p b = frame p.settings.upperprints p.waiting b

abbrev pub events_in : Printer → Frame → List Event
events_in p (Frame.Waits w) = []
events_in p (Frame.Whole c w) = decide p c

abbrev pub next_in : Frame → Waiting
next_in (Frame.Waits w) = w
next_in (Frame.Whole c w) = w

abbrev pub wait_for : Printer → Waiting → Printer
wait_for p w = record { settings = p.settings; place = p.place; stops = p.stops; waiting = w }

unfoldable pub step_events : Printer → ℕ → List Event
step_events p b = events_in p (frame_at p b)

unfoldable pub step_of : Printer → ℕ → Printer
step_of p b = wait_for (perform_all p (step_events p b)) (next_in (frame_at p b))

unfoldable pub step_records : Printer → ℕ → List Record
step_records p b = records_all p (step_events p b)

-- Over an input

unfoldable pub state_after : Printer → List ℕ → Printer
state_after p [] = p
state_after p (b ∷ l) = state_after (step_of p b) l

unfoldable pub records_over : Printer → List ℕ → List Record
records_over p [] = []
records_over p (b ∷ l) = step_records p b ++ records_over (step_of p b) l

unfoldable pub events_over : Printer → List ℕ → List Event
events_over p [] = []
events_over p (b ∷ l) = step_events p b ++ events_over (step_of p b) l
