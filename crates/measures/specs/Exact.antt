-- Exact places across, and steps between them, as one number each: what is over of the dots, in 1/3600 dot, times 65,536, and the dots.
use Rattle.std.specs.Prelude.{ℕ, ◌+◌, ◌*◌, ◌-◌, ◌/◌, ◌%◌, ltb}
use Rattle.printer.specs.Tools.{pick}

-- so many 1/3600 dots
abbrev pub packed : ℕ → ℕ
packed n = 65536 * (n % 3600) + n / 3600

-- a sum of two, with what is over made less than a dot again: 235,929,600 is 3,600 times 65,536
abbrev pub carried : ℕ → ℕ
carried x = pick (ltb x 235929600) x (x - 235929599)

-- the dot of an exact place, and its rest as a word of 16 bits: half a dot less than what is over
abbrev pub dot_of : ℕ → ℕ
dot_of x = x % 65536

abbrev pub rest_of : ℕ → ℕ
rest_of x = (x / 65536 + 63736) % 65536
