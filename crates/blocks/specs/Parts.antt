-- The parts of a block as the code has them: a visit on the way to a goal, and a move to a goal. Assumes nothing.
use Rattle.std.specs.Prelude.{ℕ, List, ◌++◌}
use Rattle.meaning.specs.Chart.{Chart}
use Rattle.meaning.specs.declared.chart.Owner.TheVariants.{TransitionOf as transition_of}
use Rattle.meaning.specs.Tree.{descendants}
use Rattle.meaning.specs.Lists.{concat_map}
use Rattle.meaning.specs.Entry.{Visit, all_below}
use Rattle.meaning.specs.declared.plan.Instr.{Instr}
use Rattle.meaning.specs.Compile.{code_acts, visit_code, towards_code, exits_code}
use Rattle.tree.specs.declared.ways.Goal.{Goal}
use Rattle.tree.specs.declared.ways.Goal.TheVariants.{Target, Owner}
use Rattle.tree.specs.Courses.{goal_way}

-- how a state on the way to a target, or to the owner of a history, is entered
abbrev pub goal_code : Chart → Goal → Visit → List Instr
goal_code c (Target t) = visit_code c
goal_code c (Owner b) = towards_code c b

-- the states below the scope left, the transition's actions, the way to the goal
unfoldable pub move_code : Chart → ℕ → Goal → ℕ → List Instr
move_code c t goal top =
    exits_code c (descendants c top) ++ (code_acts c (transition_of t) ++ concat_map (goal_code c goal) (all_below c (goal_way c goal) top))
