-- Cases that 01 does not star, computed like the starred ones: the starred calls by the plan machine, which gives the same answers,
-- states and traces; three cases that "Easy errors here", the readings and a full queue turn on; that 7 is tested before 6; and a run that
-- makes null steps until none is enabled. Each over the chart and by its plan. Assumes nothing.
use mathlib.Core.Path.{◌≡◌, refl}
use mathlib.Core.List.{List, [], ◌∷◌}
use mathlib.Core.Option.{none}
use lib.IntN.{ℤ, pos, negsuc}
use Rattle.meaning.specs.declared.State.{State}
use Rattle.meaning.specs.Open.{all_open}
use Rattle.meaning.specs.declared.Entry.{Entry}
use Rattle.meaning.specs.declared.Entry.TheVariants.{Taken as taken, Left as left, Entered as entered}
use Rattle.meaning.specs.Rules.{failing_rule}
use Rattle.meaning.specs.Calls.{Outcome, as_found, unstarted, start, run}
use Rattle.meaning.specs.Compile.{compile}
use Rattle.meaning.specs.Machine.{machine_start, machine_run}
use Rattle.meaning.specs.Examples.{chart_K, plan_K, chart_two, chart_self, chart_inside, chart_filling, chart_settling}
use Rattle.meaning.specs.Examples.{standing, gives, react_to, machine_to}
use Rattle.meaning.proofs.Starred.{start_entries, entries_1, entries_2, entries_3, entries_4, entries_5, both_entries}
use Rattle.meaning.proofs.Starred.{state_started, state_posted, state_1, state_2, state_3, state_4, state_5, state_both}

-- a self-transition on a component: every component is left and entered
abbrev pub self_entries : List Entry
self_entries =
    taken 0 ∷ left 5 ∷ left 4 ∷ left 3 ∷ left 2 ∷ left 1 ∷ entered 1 ∷ entered 2 ∷ entered 3 ∷ entered 4 ∷ entered 5 ∷ []

abbrev pub state_self : State
state_self = standing (0 ∷ 1 ∷ 2 ∷ 3 ∷ 4 ∷ 5 ∷ []) (pos 1 ∷ negsuc 0 ∷ pos 3 ∷ negsuc 0 ∷ pos 5 ∷ []) [] []

-- a history entered from inside its owner: state 3, which the firing itself has just left, is restored
abbrev pub inside_entries : List Entry
inside_entries = taken 1 ∷ left 3 ∷ left 1 ∷ entered 1 ∷ entered 3 ∷ []

abbrev pub state_inside : State
state_inside = standing (0 ∷ 1 ∷ 3 ∷ []) (pos 1 ∷ pos 3 ∷ []) [] []

-- event 1 waits in front
abbrev pub state_filling : State
state_filling = standing (0 ∷ 1 ∷ []) [] [] ((pos 1, pos 0) ∷ [])

-- the event's own step, then two null steps
abbrev pub settled_entries : List Entry
settled_entries = taken 0 ∷ left 1 ∷ entered 2 ∷ taken 1 ∷ left 2 ∷ entered 3 ∷ taken 2 ∷ left 3 ∷ entered 4 ∷ []

abbrev pub state_settled : State
state_settled = standing (0 ∷ 4 ∷ []) (pos 3 ∷ []) [] []

pub record Computed : Type 0 where
  pub start_K_by_plan : machine_start plan_K unstarted 3000 ≡ gives state_started start_entries
  pub event_1_by_plan : machine_to plan_K 3000 1 state_started ≡ gives state_1 entries_1
  pub event_2_by_plan : machine_to plan_K 3000 2 state_1 ≡ gives state_2 entries_2
  pub event_1_again_by_plan : machine_to plan_K 3000 1 state_2 ≡ gives state_3 entries_3
  pub event_1_restores_by_plan : machine_to plan_K 3000 1 state_3 ≡ gives state_4 entries_4
  pub event_1_held_by_plan : machine_to plan_K 3000 1 state_4 ≡ gives state_5 entries_5
  pub room_15_by_plan : machine_to plan_K 15 1 state_started ≡ gives state_1 entries_1
  pub room_14_by_plan : machine_to plan_K 14 1 state_started ≡ as_found 11 0 state_posted
  pub both_fire_by_plan : machine_start (compile chart_two) unstarted 3000 ≡ gives state_both both_entries
  pub self_pass : failing_rule chart_self ≡ none
  pub self_transition : react_to chart_self 3000 1 (start chart_self unstarted 3000).after ≡ gives state_self self_entries
  pub self_transition_by_plan : machine_to (compile chart_self) 3000 1 (machine_start (compile chart_self) unstarted 3000).after
      ≡ gives state_self self_entries
  pub inside_pass : failing_rule chart_inside ≡ none
  pub inside : react_to chart_inside 3000 2 (react_to chart_inside 3000 1 (start chart_inside unstarted 3000).after).after
      ≡ gives state_inside inside_entries
  pub inside_by_plan :
      machine_to (compile chart_inside) 3000 2
      (machine_to (compile chart_inside) 3000 1 (machine_start (compile chart_inside) unstarted 3000).after).after
      ≡ gives state_inside inside_entries
  -- a queue that fills in the middle of a reaction: 9, and the widget stays as it was, the event in front
  pub filling_pass : failing_rule chart_filling ≡ none
  pub filling : react_to chart_filling 3000 1 (start chart_filling unstarted 3000).after ≡ as_found 9 0 state_filling
  pub filling_by_plan : machine_to (compile chart_filling) 3000 1 (machine_start (compile chart_filling) unstarted 3000).after
      ≡ as_found 9 0 state_filling
  -- "then 7, 6": a widget not yet started has no state active, which would be 6
  pub not_started : run chart_K unstarted 3000 ≡ as_found 7 0 unstarted
  pub not_started_by_plan : machine_run plan_K unstarted 3000 ≡ as_found 7 0 unstarted
  -- "Then null steps follow .. until none is enabled"
  pub settling_pass : failing_rule chart_settling ≡ none
  pub settling : react_to chart_settling 3000 1 (start chart_settling unstarted 3000).after ≡ gives state_settled settled_entries
  pub settling_by_plan : machine_to (compile chart_settling) 3000 1 (machine_start (compile chart_settling) unstarted 3000).after
      ≡ gives state_settled settled_entries

pub computed : Computed
unfolding all_open
computed = record {
  start_K_by_plan = refl;
  event_1_by_plan = refl;
  event_2_by_plan = refl;
  event_1_again_by_plan = refl;
  event_1_restores_by_plan = refl;
  event_1_held_by_plan = refl;
  room_15_by_plan = refl;
  room_14_by_plan = refl;
  both_fire_by_plan = refl;
  self_pass = refl;
  self_transition = refl;
  self_transition_by_plan = refl;
  inside_pass = refl;
  inside = refl;
  inside_by_plan = refl;
  filling_pass = refl;
  filling = refl;
  filling_by_plan = refl;
  not_started = refl;
  not_started_by_plan = refl;
  settling_pass = refl;
  settling = refl;
  settling_by_plan = refl;
}
