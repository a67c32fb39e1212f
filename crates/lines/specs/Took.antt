-- What reading one line leaves: its mark, and its row in the lent numbers where the mark is 0. Assumes nothing.
use Rattle.std.specs.Prelude.{◌≡◌, List, ℕ, ℤ, length}
use Rattle.std.proofs.lemmas.List.Edits.{sets}
use Rattle.meaning.specs.Line.{Line}

-- of the line l, the mark is m, and the numbers xs are ys with its row from `at` on
pub record Took (l : Line) (at : ℕ) (xs : List ℤ) (m : ℕ) (ys : List ℤ) : Type 0 where
  pub mark : m ≡ l.mark
  pub row : m ≡ 0 → ys ≡ sets xs at l.row
  pub size : length ys ≡ length xs

-- and of the wrong form nothing is left
pub record Taken (l : Line) (at : ℕ) (xs : List ℤ) (m : ℕ) (ys : List ℤ) : Type 0 where
  pub took : Took l at xs m ys
  pub kept : m ≡ 1 → ys ≡ xs
