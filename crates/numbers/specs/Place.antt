-- Document 01, "One reaction": what a slot holds, so that nobody takes an empty slot's marker for a state.
use Rattle.std.specs.Prelude.{ℕ}
use Rattle.std.specs.Prelude.{Option, None, Some}
use Rattle.std.specs.Prelude.{ℤ, pos, negsuc}

-- 01: an empty slot is -1; no number below 0 is a state
abbrev pub place_of : ℤ → Option ℕ
place_of (pos n) = Some n
place_of (negsuc n) = None
