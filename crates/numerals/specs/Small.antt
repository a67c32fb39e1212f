-- What a natural number keeps while it is read, and once it was. Assumes nothing.
use Rattle.std.specs.Prelude.{ℕ, ◌+◌, ◌-◌, ◌*◌, ◌≤◌, min, cond, ltb, Option, None, Some, Result, Ok, Err}
use Rattle.sizes.specs.Sizes.{MOST}
use Rattle.meaning.specs.Number.{BEYOND}
use Rattle.meaning.specs.declared.Fault.{Fault}

-- the value v with one digit more, held at one past the range
abbrev pub grown : ℕ → ℕ → ℕ
grown v b = min BEYOND (v * 10 + (b - 48))

-- the same, where the byte is a digit
abbrev pub with_digit : ℕ → ℕ → Option ℕ
with_digit v b = cond (ltb b 48) None (cond (ltb 57 b) None (Some (grown v b)))

-- what was read is in the range
abbrev pub Small : Result ℕ Fault → Type 0
Small (Ok n) = n ≤ MOST
Small (Err f) = Unit
