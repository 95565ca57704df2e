-- Document 02, E8: the theorems.
use Prim.Native.Nat.{ℕ, ◌<◌}
use mathlib.Core.Path.{◌≡◌}
use mathlib.Core.Bool.{true}
use mathlib.Core.List.{List, [], ◌∷◌, ◌++◌}
use Rattle.printer.specs.Tools.{Each}
use Rattle.printer.specs.Bounds.{accepted}
use Rattle.printer.specs.Steps.{records_over}
use Rattle.printer.specs.Spelling.{StandsFor}
use Rattle.printer.specs.declared.commands.Waiting.{Waiting}
use Rattle.printer.specs.declared.state.Printer.{Printer}
use Rattle.orders.specs.Orders.{Setting, row_of, Sent, sent_all, Accepted, Reordered, Same, move_by, sum16}
use Rattle.orders.proofs.Items.{reordered_settings, twice_settings, two_items}
use Rattle.orders.proofs.Orders.{same}
use Rattle.orders.proofs.Moves.{one_move}

-- where nothing is waited for, by any bytes that stand for ESC then
module _ (p : Printer) (w : p.waiting ≡ Waiting.Nothing) where
  abbrev Taken : Sent → Type 0
  Taken = Accepted p.settings.upperprints

  -- commands may be sent in any order, as long as those of one item keep theirs
  pub any_order : (l m : List Sent) → Each Taken l → Each Taken m → Reordered l m → Same p (sent_all l) (sent_all m)
  any_order l m h k r = same p l m w h k (reordered_settings p.settings l m r)

  -- so two of different items in either order
  pub either_order : (x y : Sent) → Taken x → Taken y → ((row_of x.1).item ≡ (row_of y.1).item → ⊥)
      → Same p (sent_all (x ∷ y ∷ [])) (sent_all (y ∷ x ∷ []))
  either_order x y h k n = any_order (x ∷ y ∷ []) (y ∷ x ∷ []) (h, (k, tt)) (k, (h, tt)) (two_items x y n)

  -- one done twice is one done once
  pub twice : (a b : ℕ) (c : Setting) → Taken (a, c) → Taken (b, c) → Same p (sent_all ((a, c) ∷ (b, c) ∷ [])) (sent_all ((a, c) ∷ []))
  twice a b c h k = same p ((a, c) ∷ (b, c) ∷ []) ((a, c) ∷ []) w (h, (k, tt)) (h, tt) (twice_settings p.settings a b c)

  -- two moves by ESC \ that are both done, in a state of ours, end where one by their sum in 16 bits ends, and that is done too
  pub added : (a b n m : ℕ) → StandsFor p.settings.upperprints a 0x1B → StandsFor p.settings.upperprints b 0x1B
      → accepted p ≡ true → n < 65536 → m < 65536 → records_over p (move_by a n ++ move_by b m) ≡ []
      → Same p (move_by a n ++ move_by b m) (move_by a (sum16 n m))
  added a b n m e f v h k r = one_move p a b n m w e f v h k r
