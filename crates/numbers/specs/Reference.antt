-- A number that stands where a state, variable or event is named, as a natural number: one below 0 names nothing.
use Rattle.std.specs.Prelude.{ℕ, ℤ, pos, negsuc}

-- one past every signed 32-bit number, and past every count of 01: nothing has this number
abbrev pub NOWHERE : ℕ
NOWHERE = 2147483648

-- 01, R6 and R7: what is named must exist; a number below 0 names nothing
abbrev pub ref : ℤ → ℕ
ref (pos n) = n
ref (negsuc n) = NOWHERE
