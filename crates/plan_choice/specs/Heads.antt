-- What the chooser over a plan asks and says (01, "The plan"): a plan that was examined, its heads where they stand, and the chosen heads
-- by their numbers. Assumes nothing.
use Rattle.std.specs.Prelude.{◌≡◌, ℕ, ◌+◌, ◌*◌, ◌<◌, ◌≤◌, Bool, true, List, [], ◌∷◌, map, length, get_or, take, drop, ℤ}
use Rattle.sizes.specs.Sizes.{STATES, TRANSITIONS}
use Rattle.meaning.specs.declared.plan.Counts.{Counts}
use Rattle.meaning.specs.declared.plan.Head.{Head}
use Rattle.meaning.specs.Machine.{chosen_heads}
use Rattle.meaning.specs.WellFormed.{HEAD_ROW, counts_of, heads_at, head_by, plan_by, well_formed}
use Rattle.choice.specs.Choice.{seen}

-- the plan is well formed, and these are its counts
pub record Examined (ns : List ℤ) (k : Counts) : Type 0 where
  pub formed : well_formed ns ≡ true
  pub counted : k ≡ counts_of ns

-- the head whose row begins at this place
abbrev pub head_at : List ℤ → ℕ → Head
head_at ns at = head_by (take HEAD_ROW (drop at ns))

-- its span is of states
abbrev pub Spanned : Head → Type 0
Spanned h = (h.first < STATES) × (h.last < STATES)

-- head h, where the heads begin at base
abbrev pub head_of : List ℤ → ℕ → ℕ → Head
head_of ns base h = head_at ns (base + h * HEAD_ROW)

-- the first so many of the picks, as heads
abbrev pub picked : List ℤ → ℕ → ℕ → List ℕ → List Head
picked ns base count picks = map (head_of ns base) (take count picks)

-- numbers of heads of a plan with so many
abbrev pub Heads : ℕ → List ℕ → Type 0
Heads heads picks = (j : ℕ) → j < length picks → get_or picks j 0 < heads

-- picks that are heads of the plan
pub record Picks (heads count : ℕ) (picks : List ℕ) : Type 0 where
  pub named : (j : ℕ) → j < count → get_or picks j 0 < heads
  pub few : count ≤ TRANSITIONS
  pub size : length picks ≡ TRANSITIONS

-- what a step fires: the chosen of any state with these marks and values
pub record Chose (ns : List ℤ) (k : Counts) (e : ℕ) (active : List Bool) (vars : List ℤ) (count : ℕ) (picks : List ℕ) : Type 0 where
  pub is : picked ns (heads_at k) count picks ≡ chosen_heads (plan_by ns) e (seen active vars)
  pub stands : Picks k.heads count picks
