-- Between what the numbers of every image mode are: one table for all that asks for it.
use Prim.Native.Nat.{◌≤◌}
use native.Mathlib.Omega.{arith}
use Rattle.printer.specs.Widths.{image_step, image_bytes}
use Rattle.printer.specs.Codes.{image_mode_number}
use Rattle.printer.specs.Types.{ImageMode}

limits : (m : ImageMode)
    → (1 ≤ image_step m) × ((image_step m ≤ 60) × ((1 ≤ image_bytes m) × ((image_bytes m ≤ 3) × (image_mode_number m ≤ 255))))
limits ImageMode.Single = omega arith
limits ImageMode.Double = omega arith
limits ImageMode.DoubleSpeed = omega arith
limits ImageMode.Quadruple = omega arith
limits ImageMode.Crt80 = omega arith
limits ImageMode.Crt90 = omega arith
limits ImageMode.Single24 = omega arith
limits ImageMode.Double24 = omega arith
limits ImageMode.Crt24 = omega arith
limits ImageMode.Triple24 = omega arith
limits ImageMode.Hex24 = omega arith

pub step_within : (m : ImageMode) → (1 ≤ image_step m) × (image_step m ≤ 60)
step_within m = ((limits m).0, (limits m).1.0)

pub bytes_within : (m : ImageMode) → (1 ≤ image_bytes m) × (image_bytes m ≤ 3)
bytes_within m = ((limits m).1.1.0, (limits m).1.1.1.0)

pub number-byte : (m : ImageMode) → image_mode_number m ≤ 255
number-byte m = (limits m).1.1.1.1
