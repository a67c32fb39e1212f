-- Rows of a plan by their number, and counts that keep their sizes. Assumes nothing.
use Rattle.std.specs.Prelude.{ℕ, ◌+◌, ◌*◌, ◌≤◌, List, take, drop, ℤ}
use Rattle.sizes.specs.Sizes.{STATES, VARIABLES, EVENTS, TRANSITIONS, INSTRUCTIONS}
use Rattle.meaning.specs.declared.plan.Counts.{Counts}

-- row i of rows that have k numbers each and begin at a place
abbrev pub row : ℕ → ℕ → ℕ → List ℤ → List ℤ
row k at i ns = take k (drop (at + i * k) ns)

-- "the counts keep their sizes"
pub record Sized (k : Counts) : Type 0 where
  pub states : k.states ≤ STATES
  pub vars : k.vars ≤ VARIABLES
  pub events : k.events ≤ EVENTS
  pub heads : k.heads ≤ TRANSITIONS
  pub instructions : k.instructions ≤ INSTRUCTIONS
