-- Document 01, "Sizes": numbers that lie between two ends, and the range that every number of a chart keeps.
use Rattle.std.specs.Prelude.{Bool, ◌&&◌, ℤ, pos, negsuc, ◌-◌}
use Rattle.std.specs.Int.Signed.{le_z}
use Rattle.sizes.specs.Sizes.{MOST}

-- R5 of 01: low ≤ x ≤ high
unfoldable pub within : ℤ → ℤ → ℤ → Bool
within low x high = le_z low x && le_z x high

-- the two ends of "within ±1,000,000,000"
abbrev pub lowest : ℤ
lowest = negsuc (MOST - 1)

abbrev pub highest : ℤ
highest = pos MOST

-- 01, "Sizes": every constant, argument and range end lies within ±1,000,000,000
unfoldable pub in_range : ℤ → Bool
in_range x = within lowest x highest
