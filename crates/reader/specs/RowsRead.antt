-- What reading a text's lines into lent numbers leaves: the value of the rows and 0 past it; all 0 where it is refused, also for
-- numbers too few for a value. The rules R1 to R7 are still to be tried. Assumes nothing.
use Rattle.std.specs.Prelude.{◌≡◌, Bool, true, false, List, ◌++◌, ℕ, ◌-◌, leb, ℤ}
use Rattle.meaning.specs.Value.{Rows, VALUE}
use Rattle.meaning.specs.Text.{Result, done, refused, answer_of, value_of}
use Rattle.meaning.specs.declared.Answer.{Answer}
use Rattle.round_trip.specs.Rows.{Whole}
use Rattle.reader.specs.Scanned.{zeros}

abbrev pub roomy_if : Bool → Rows → Result Rows
roomy_if true r = done r
roomy_if false r = refused 3 0

-- 3 with place 0 where n numbers are too few
abbrev pub roomy : ℕ → Result Rows → Result Rows
roomy n (done r) = roomy_if (leb VALUE n) r
roomy n (refused a p) = refused a p

-- n lent numbers after it
abbrev pub Left : Result Rows → ℕ → List ℤ → Type 0
Left (done r) n l = (l ≡ value_of r ++ zeros (n - VALUE)) × Whole r
Left (refused a p) n l = l ≡ zeros n

pub record RowsRead (o : Result Rows) (n : ℕ) (a : Answer) (l : List ℤ) : Type 0 where
  pub answer : a ≡ answer_of (roomy n o)
  pub numbers : Left (roomy n o) n l
