-- An event writes at most one record, and a byte's events at most two.
use Prim.Native.Nat.{ℕ, suc, ◌≤◌}
use mathlib.Core.List.{List, [], ◌∷◌}
use native.Mathlib.Omega.{arith}
use lib.ListN.{length, length-append}
use Rattle.printer.specs.Performing.{Event, done, passed, inside, automatic, Writing, silent, letter, image_byte, feed, clear, records_by, effect_at, control_at, records_of, records_all, perform}
use Rattle.printer.specs.Deciding.{feed_after_return, decide}
use Rattle.printer.specs.Steps.{frame_at, events_in, step_events, step_records}
use Rattle.printer.specs.Types.{Command, Control, Frame, Place, Printer, Settings}
use Rattle.printer.proofs.Choices.{pick_elim}
use Rattle.printer.proofs.Legal.{vt, decided}

one_written : (s : Settings) (x y : Place) (w : Writing) → length (records_by s x y w) ≤ 1
one_written s x y silent = omega arith
one_written s x y (letter b n) = omega arith
one_written s x y (image_byte b part n) = omega arith
one_written s x y (feed pages) = omega arith
one_written s x y clear = omega arith

one_record : (p : Printer) (e : Event) → length (records_of p e) ≤ 1
one_record p (done c n) = one_written p.settings p.place (effect_at p c n).place (effect_at p c n).writing
one_record p (passed c reason) = omega arith
one_record p (inside c n) = one_written p.settings p.place (control_at p c n).place (control_at p c n).writing
one_record p (automatic n) = omega arith

-- at most n records
abbrev Few : ℕ → Printer → List Event → Type 0
Few n p l = length (records_all p l) ≤ n

few_none : (p : Printer) → Few 0 p []
unfolding records_all
few_none p = omega arith

few_more : (n : ℕ) (p : Printer) (e : Event) (l : List Event) → Few n (perform p e) l → Few (suc n) p (e ∷ l)
unfolding records_all
few_more n p e l h = omega (arith, one_record p e, length-append (records_of p e) (records_all (perform p e) l))

few_one : (p : Printer) (e : Event) → Few 2 p (e ∷ [])
few_one p e = let k = few_more 0 p e [] (few_none (perform p e)) in omega arith

few_two : (p : Printer) (e f : Event) → Few 2 p (e ∷ f ∷ [])
few_two p e f = few_more 1 p e (f ∷ []) (few_more 0 (perform p e) f [] (few_none (perform (perform p e) f)))

few_feed : (p : Printer) → Few 1 p (feed_after_return p)
unfolding feed_after_return
few_feed p =
    pick_elim (Few 1 p) p.settings.setup.autofeed (λ _. few_more 0 p _ [] (few_none _)) (λ _. let k = few_none p in omega arith)

-- VT and the CR performed inside it write nothing
few_return : (p : Printer) (b : ℕ) (l : List Event) → Few 1 (perform (perform p (done (vt b) 0)) (inside Control.CarriageReturn 0)) l
    → Few 2 p (done (vt b) 0 ∷ inside Control.CarriageReturn 0 ∷ l)
unfolding records_all
few_return p b l h = omega arith

few_decide : (p : Printer) (c : Command) → Few 2 p (decide p c)
few_decide p =
    decided p (λ (c : Command) (l : List Event). Few 2 p l)
    (record {
      does = λ c n r k. few_one p _;
      passes = λ c reason k u. few_one p _;
      wraps = λ b h. few_two p _ _;
      returns = λ b. few_more 1 p _ _ (few_feed _);
      performs_return = λ b. few_return p b _ (few_feed _);
      performs = λ b x n h. few_two p _ _;
    })

few_frame : (p : Printer) (f : Frame) → Few 2 p (events_in p f)
few_frame p (Frame.Waits w) = let k = few_none p in omega arith
few_frame p (Frame.Whole c w) = few_decide p c

pub two_records : (p : Printer) (b : ℕ) → length (step_records p b) ≤ 2
unfolding step_records step_events
two_records p b = few_frame p (frame_at p b)
