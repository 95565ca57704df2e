-- Lines down the page: LF, the LF after a CR, and ESC J.
use Prim.Native.Nat.{ℕ, ◌+◌, ◌*◌, ◌/◌, ◌%◌, ◌≤◌, ◌<◌}
use mathlib.Core.Path.{◌≡◌, refl, ap, ◌∙◌}
use mathlib.Core.Bool.{Bool, true, false}
use Rattle.std.specs.Prelude.{Some, None}
use mathlib.Core.List.{List, [], ◌∷◌}
use native.Mathlib.Nat.{div-add-mod', mul-le-mul_left, mod-eq_of_lt}
use native.Mathlib.Omega.{arith}
use borrow.Author.Tests.{ltb-true, ltb-false, le-leb, lt-leb, ne_eqb}
use Rattle.printer.specs.Tools.{pick}
use Rattle.printer.specs.Units.{shortest_page}
use Rattle.printer.specs.Records.{feed_record}
use Rattle.printer.specs.Settings.{line_of, edge_of, down_of}
use Rattle.printer.specs.Accepted.{Accepted}
use Rattle.printer.specs.Performing.{done, inside}
use Rattle.printer.specs.Deciding.{pages_of_line, feed_after_return}
use Rattle.printer.specs.declared.commands.Command.{Command}
use Rattle.printer.specs.declared.commands.Control.{Control}
use Rattle.printer.specs.declared.records.Record.{Record}
use Rattle.printer.specs.declared.state.Printer.{Printer}
use Rattle.printer.specs.declared.units.Units.{Units}
use Rattle.registers.specs.declared.pending.Pending.{Pending}
use Rattle.registers.specs.Layout.{words}
use Rattle.interpreter.specs.Outcome.{Outcome}
use Rattle.interpreter.specs.Doing.{Did}
use Rattle.interpreter.specs.Reaching.{downward, further_down}
use Rattle.interpreter.specs.Leaving.{line_to, fed_to}
use Rattle.interpreter.specs.declared.lines.Depth.{Depth}
use Rattle.interpreter.proofs.Outcomes.{one, whole}
use Rattle.interpreter.proofs.Attempts.{reached, unreached}
use Rattle.interpreter.proofs.Events.{nothing}

-- LF, by where its line ends
module _ (p : Printer) where
  pub feeds : {n : Units} → downward (down_of p.place) (line_of p.settings) (edge_of p.settings) ≡ Some n
      → Outcome p (inside Control.LineFeed (pages_of_line p) ∷ []) (line_to p n.0 0)
  feeds e =
      let f = reached _ _ _ e in
      rw (lt-leb _ _ (ltb-true _ _ f.0), ← f.1) (one p (inside Control.LineFeed 0) refl refl)

  pub turns : downward (down_of p.place) (line_of p.settings) (edge_of p.settings) ≡ None
      → Outcome p (inside Control.LineFeed (pages_of_line p) ∷ []) (line_to p 0 1)
  turns e = rw (le-leb _ _ (ltb-false _ _ (unreached _ _ e))) (one p (inside Control.LineFeed 1) refl refl)

-- After a CR, by automatic line feed
module _ (p : Printer) where
  after-return : {t : Bool} → p.settings.setup.autofeed ≡ t
      → feed_after_return p ≡ pick t (inside Control.LineFeed (pages_of_line p) ∷ []) []
  unfolding feed_after_return
  after-return e = ap (λ (t : Bool). pick t (inside Control.LineFeed (pages_of_line p) ∷ []) []) e

  pub feeds-after : {v : Pending} {after : List ℕ} {k : List Record} → p.settings.setup.autofeed ≡ true
      → Did p v (inside Control.LineFeed (pages_of_line p) ∷ []) after k
      → Did p v (feed_after_return p) after k
  feeds-after t d = rw (after-return t) d

  pub stays_after : {v : Pending} {after : List ℕ} → p.settings.setup.autofeed ≡ false
      → after ≡ words v p → Did p v (feed_after_return p) after []
  stays_after t e = rw (after-return t) (nothing e)

-- ESC J, in a state within its bounds: the edge is at least the shortest page, and the pages fit a byte
module _ (p : Printer) (n : ℕ) (k : n ≤ 255) (h : Accepted p) where
  abbrev sum : ℕ
  sum = down_of p.place + 20 * n

  abbrev edge : ℕ
  edge = edge_of p.settings

  edge-enough : shortest_page ≤ edge
  edge-enough = omega arith

  pages_fit : sum / edge < 256
  pages_fit = omega (arith, div-add-mod' sum edge, mul-le-mul_left (sum / edge) edge-enough)

  pub feed-done : {d : Depth} → d ≡ further_down (down_of p.place) n edge
      → Outcome p (done (Command.Feed n) (sum / edge) ∷ []) (fed_to p d)
  feed-done e =
      whole p (done (Command.Feed n) (sum / edge))
      (feed_record p.settings.setup.resolution (sum % edge) (sum / edge) ∷ [])
      (ap (fed_to p) e ∙ rw (ne_eqb edge 0 (omega (arith, edge-enough)), mod-eq_of_lt pages_fit)) refl
