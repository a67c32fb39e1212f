-- Rows that a value has room for, and what the first number of a row tells of its form (01, "Chart text"). Assumes nothing.
use Rattle.std.specs.Prelude.{ℕ, ◌≤◌, Bool, false, ℤ, length, ◌≡◌, List, [], ◌∷◌}
use Prim.Native.Char.{code}
use Rattle.meaning.specs.Grammar.{Record, e_record, row_size, most}
use Rattle.meaning.specs.Grammar.{Field, turn, number, count, letter, dash, target_state, target_history, target_none}
use Rattle.meaning.specs.Value.{Rows, is_letter, is_absent, one_of_letters}

-- ---- rows that a value has room for

-- each row has k numbers
unfoldable pub AllLong : ℕ → List (List ℤ) → Type 0
AllLong k [] = Unit
AllLong k (r ∷ rs) = (length r ≡ k) × AllLong k rs

pub record Fit (rows : Rows) : Type 0 where
  pub long : (r : Record) → AllLong (row_size r) (rows r)
  pub few : (r : Record) → length (rows r) ≤ most r

-- and of which a text can be the whole: it has its E
pub record Whole (rows : Rows) : Type 0 where
  pub fit : Fit rows
  pub one : length (rows e_record) ≡ 1

-- ---- fields

-- the first number of a row tells a field from one that is apart from it: a letter, "-", or h
unfoldable pub tells : Field → ℤ → Bool
tells turn z = false
tells number z = false
tells (count low high) z = false
tells (letter ls) z = one_of_letters ls z
tells dash z = is_absent z
tells target_state z = false
tells target_history z = is_letter (code "h") z
tells target_none z = is_absent z
