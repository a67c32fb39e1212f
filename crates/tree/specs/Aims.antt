-- Where a transition leads, and what choosing finds out of it (01, "Scope", "Span"). Assumes nothing.
use Rattle.std.specs.Prelude.{Option, None, Some}
use Rattle.std.specs.Prelude.{◌≡◌, ℕ, suc, ◌+◌, length}
use Rattle.meaning.specs.Chart.{Chart}
use Rattle.meaning.specs.declared.chart.Target.{Target}
use Rattle.meaning.specs.declared.chart.Target.TheVariants.{To as to, History as history, InPlace as in_place}
use Rattle.meaning.specs.Tree.{trans_row, descendants, scope}
use Rattle.tree.specs.declared.ways.Goal.{Goal}
use Rattle.tree.specs.declared.ways.Goal.TheVariants.{Target as target, Owner as owner}

-- a target is a state, the history of an o state, or none: in place
abbrev pub aim_by : Target → Option Goal
aim_by (to t) = Some (target t)
aim_by (history b) = Some (owner b)
aim_by in_place = None

-- the state aimed at; "for a history, its owner is the target"
abbrev pub aimed_at : Goal → ℕ
aimed_at (target t) = t
aimed_at (owner b) = b

-- below which state a firing leaves and enters: the scope of source and target; in place, the source
abbrev pub top_of : Chart → ℕ → Option Goal → ℕ
top_of c s (Some goal) = scope c s (aimed_at goal)
top_of c s None = s

-- what choosing finds out of a transition: its top, and where the states below that one end
pub record Found (c : Chart) (t top end : ℕ) : Type 0 where
  pub is : top ≡ top_of c (trans_row c t).source (aim_by (trans_row c t).target)
  pub ends : end ≡ suc top + length (descendants c top)
