-- A span as a range (01, "Span"). Assumes nothing.
use Rattle.std.specs.Prelude.{◌≡◌, ℕ, suc, ◌+◌, ◌-◌, ◌<◌, ◌≤◌, Bool, true, false, List, length, get_or}
use Rattle.meaning.specs.Lists.{from}
use Rattle.meaning.specs.Chart.{Chart}
use Rattle.meaning.specs.declared.chart.Target.{Target}
use Rattle.meaning.specs.Tree.{descendants, span_of}
use Rattle.laws.specs.Facts.{TargetFacts}
use Rattle.tree.specs.Aims.{aim_by, top_of}
use Rattle.choice.specs.declared.Span.{Span}

-- the states of a list are the numbers of a range, and there is at least one
pub record Spans (l : List ℕ) (r : Span) : Type 0 where
  pub is : l ≡ from r.first (r.end - r.first)
  pub some : r.first < r.end

-- the span of a source and a target, with its top and where the states below that one end
pub record Spanned (c : Chart) (s : ℕ) (t : Target) (r : Span) : Type 0 where
  pub spans : Spans (span_of c s t) r
  pub top : r.top ≡ top_of c s (aim_by t)
  pub below : r.end ≡ suc r.top + length (descendants c r.top)

-- a source and a target as R6 wants them
abbrev pub Aims : Chart → ℕ → Target → Type 0
Aims c s t = (s < length c.states) × TargetFacts c s t

-- the states of a span are marked, the others stay as they were
pub record Goes (r : Span) (old new : List Bool) : Type 0 where
  pub within : (x : ℕ) → r.first ≤ x → x < r.end → get_or new x false ≡ true
  pub below : (x : ℕ) → x < r.first → get_or new x false ≡ get_or old x false
  pub long : length new ≡ length old
  pub above : (x : ℕ) → r.end ≤ x → get_or new x false ≡ get_or old x false
