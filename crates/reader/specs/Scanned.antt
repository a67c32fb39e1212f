-- What the walk over a text's lines leaves: its answer, and where that is 0 and there is room the value of the rows read, 0 past it.
-- Assumes nothing.
use Rattle.std.specs.Prelude.{◌≡◌, List, ◌++◌, ℕ, ◌-◌, ◌≤◌, ℤ, pos, length, replicate}
use Rattle.meaning.specs.Value.{Rows, VALUE}
use Rattle.meaning.specs.Text.{Result, done, answer_of, value_of}
use Rattle.meaning.specs.declared.Answer.{Answer}
use Rattle.round_trip.specs.Rows.{Whole}

-- shut, or a page of them stands in each goal
unfoldable pub zeros : ℕ → List ℤ
zeros n = replicate n (pos 0)

-- of what a text gives, o, the answer is a, and n lent numbers are l
pub record Scanned (o : Result Rows) (a : Answer) (n : ℕ) (l : List ℤ) : Type 0 where
  pub answer : a ≡ answer_of o
  pub numbers : (r : Rows) → o ≡ done r → VALUE ≤ n → (l ≡ value_of r ++ zeros (n - VALUE)) × Whole r
  pub size : length l ≡ n
