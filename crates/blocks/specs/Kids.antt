-- The children that a state goes on with, in a descent that counts the states left. Assumes nothing.
use Rattle.std.specs.Prelude.{◌≡◌, ℕ, ◌-◌, ◌≤◌, ◌<◌, ◌∷◌, length}
use Rattle.meaning.specs.Chart.{Chart}
use Rattle.meaning.specs.Entry.{Way, below}
use Rattle.meaning.specs.Lists.{concat_map, from, keep}
use Rattle.meaning.specs.Tree.{kind_of, is_child}
use Rattle.tree.specs.Courses.{defaulting, visit_as}

-- what is entered below s, with so many states left, are those of the numbers from first up to below end that are its children, each with
-- what is below it
pub record KidsLeft (c : Chart) (next : Way) (s left first end : ℕ) : Type 0 where
  pub within : end ≤ length c.states
  pub more : first < end → 0 < left
  pub goes : (way : ℕ → Way) → way s ≡ next
      → below c way left s ≡ concat_map
      (λ d. visit_as (defaulting (kind_of c s) next) s d ∷ below c way (left - 1) d) (keep (is_child c s) (from first (end - first)))
