-- A firing that moves (01, "Firing"), to a target or to a history alike. Assumes nothing.
use Rattle.std.specs.Prelude.{ℕ, ℤ}
use Rattle.meaning.specs.Chart.{Chart}
use Rattle.meaning.specs.declared.chart.Owner.TheVariants.{TransitionOf as transition_of}
use Rattle.meaning.specs.Effects.{perform_all}
use Rattle.meaning.specs.Entry.{all_below}
use Rattle.meaning.specs.Reaction.{leave_all}
use Rattle.meaning.specs.Steps.{Step, ◌then◌, each}
use Rattle.meaning.specs.Tree.{descendants}
use Rattle.meaning.specs.Widget.{Ctx}
use Rattle.tree.specs.Courses.{goal_way, goal_visit}
use Rattle.tree.specs.declared.ways.Goal.{Goal}

-- "the active states of the span are left .. Then the transition's actions. Then states are entered": from the scope to the goal
unfoldable pub moving : Chart → ℤ → ℕ → Goal → ℕ → Step Ctx
moving c a t goal from =
    leave_all c a (descendants c from)
    then perform_all c a (transition_of t)
    then each (goal_visit c a goal) (all_below c (goal_way c goal) from)
