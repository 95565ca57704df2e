-- Reading the records back from the newest: what of the forward reading is left to find, where what stands on the line reached is void or not.
use Rattle.std.specs.Prelude.{ℕ, Bool}
use Rattle.printer.specs.Tools.{pick}
use Rattle.slot.specs.Slot.{Found, standing}

abbrev pub left : (void : Bool) → Found → ℕ
left void v = pick void v.kept (standing v)
