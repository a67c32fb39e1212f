-- What a step function asks of the widget that it works on: values, queue and slots as the chart has them, and a place in the trace.
-- Assumes nothing.
use Rattle.std.specs.Prelude.{ℕ, ◌<◌, ◌≤◌, List, length, ℤ}
use Rattle.sizes.specs.Sizes.{TRANSITIONS}
use Rattle.meaning.specs.Chart.{Chart}
use Rattle.meaning.specs.declared.State.{State}
use Rattle.widget.specs.View.{ctx}
use Rattle.laws.specs.Facts.{Each}
use Rattle.invariants.specs.Good.{Good}
use Rattle.choice.specs.declared.Pick.{Pick}
use Rattle.choice.specs.Choice.{picked, Carried}

pub record Ready (c : Chart) (u : State) (trace : List ℤ) (at : ℕ) : Type 0 where
  pub good : Good c (ctx u trace at)
  pub fits : at ≤ length trace

-- chosen transitions are transitions of the chart, each with what choosing found out of it
pub record Fires (c : Chart) (count : ℕ) (picks : List Pick) : Type 0 where
  pub few : count ≤ TRANSITIONS
  pub named : Each (λ t. t < length c.transitions) (picked count picks)
  pub carried : Carried c count picks
