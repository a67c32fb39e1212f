-- The starred cases of 01, "Checked by example", in its order and nothing else: one list under one proved statement, closed by computing.
-- K is the text that 01 prints, and the calls are those on the value read from it. A case of a call says all that the call gives:
-- the answer, the active states, slots, variables and queue after it, and the trace. Assumes nothing.
use mathlib.Core.Path.{◌≡◌, refl}
use mathlib.Core.List.{List, [], ◌∷◌, map}
use mathlib.Core.Option.{none}
use lib.ListN.{length}
use lib.IntN.{ℤ, pos, negsuc}
use Rattle.meaning.specs.declared.State.{State}
use Rattle.meaning.specs.Open.{all_open}
use Rattle.meaning.specs.declared.Entry.{Entry}
use Rattle.meaning.specs.declared.Entry.TheVariants.{Taken as taken, Left as left, Entered as entered, Changed as changed, Told as told}
use Rattle.meaning.specs.Value.{VALUE, chart_of}
use Rattle.meaning.specs.Rules.{failing_rule}
use Rattle.meaning.specs.Text.{done, read}
use Rattle.meaning.specs.Text as text
use Rattle.meaning.specs.Calls.{Outcome, as_found, unstarted, start, start_of}
use Rattle.meaning.specs.Compile.{start_block, block, plan_of, compile_of}
use Rattle.meaning.specs.Examples.{text_K, value_K, chart_K, plan_K, chart_two, standing, gives, react_of}

-- what the calls write: start, and five events
abbrev pub start_entries : List Entry
start_entries = entered 0 ∷ entered 1 ∷ []

abbrev pub entries_1 : List Entry
entries_1 = taken 0 ∷ left 1 ∷ entered 2 ∷ told (pos 9) ∷ entered 3 ∷ []

abbrev pub entries_2 : List Entry
entries_2 = taken 1 ∷ left 3 ∷ entered 4 ∷ told (pos 7) ∷ []

abbrev pub entries_3 : List Entry
entries_3 = taken 2 ∷ left 4 ∷ left 2 ∷ changed 0 (pos 60) ∷ entered 1 ∷ []

abbrev pub entries_4 : List Entry
entries_4 = taken 0 ∷ left 1 ∷ entered 2 ∷ entered 4 ∷ told (pos 7) ∷ []

abbrev pub entries_5 : List Entry
entries_5 = taken 2 ∷ left 4 ∷ left 2 ∷ changed 0 (pos 100) ∷ entered 1 ∷ []

abbrev pub both_entries : List Entry
both_entries =
    entered 0 ∷ entered 1 ∷ entered 2 ∷ entered 3 ∷ entered 5 ∷ entered 6 ∷ taken 1 ∷ left 6 ∷ changed 0 (pos 1) ∷ entered 7 ∷ taken 0
    ∷ left 3 ∷ entered 4 ∷ []

-- and the states that they leave: active states, slots (-1 is an empty one), variables, queue
abbrev pub state_started : State
state_started = standing (0 ∷ 1 ∷ []) [] (pos 0 ∷ []) []

-- the same with event 1 posted
abbrev pub state_posted : State
state_posted = standing (0 ∷ 1 ∷ []) [] (pos 0 ∷ []) ((pos 1, pos 0) ∷ [])

abbrev pub state_1 : State
state_1 = standing (0 ∷ 2 ∷ 3 ∷ []) (pos 1 ∷ []) (pos 0 ∷ []) []

abbrev pub state_2 : State
state_2 = standing (0 ∷ 2 ∷ 4 ∷ []) (pos 1 ∷ negsuc 0 ∷ pos 3 ∷ []) (pos 0 ∷ []) []

abbrev pub state_3 : State
state_3 = standing (0 ∷ 1 ∷ []) (pos 2 ∷ negsuc 0 ∷ pos 4 ∷ []) (pos 60 ∷ []) []

abbrev pub state_4 : State
state_4 = standing (0 ∷ 2 ∷ 4 ∷ []) (pos 1 ∷ negsuc 0 ∷ pos 4 ∷ []) (pos 60 ∷ []) []

abbrev pub state_5 : State
state_5 = standing (0 ∷ 1 ∷ []) (pos 2 ∷ negsuc 0 ∷ pos 4 ∷ []) (pos 100 ∷ []) []

abbrev pub state_both : State
state_both = standing (0 ∷ 1 ∷ 2 ∷ 4 ∷ 5 ∷ 7 ∷ []) (negsuc 0 ∷ negsuc 0 ∷ pos 3 ∷ negsuc 0 ∷ negsuc 0 ∷ pos 6 ∷ []) (pos 1 ∷ []) []

pub record Starred : Type 0 where
  -- "Chart K": the text, the value read from it, the chart that it states
  pub text_states_K : read text_K VALUE ≡ done value_K
  pub value_states_K : chart_of value_K ≡ chart_K
  -- each call from the state that the one before left:
  -- "Start and event 1 .. Event 2 .. Event 1 .. Event 1 .. Event 1: as the fourth with 4 0 100"
  pub start_K : start_of value_K unstarted 3000 ≡ gives state_started start_entries
  pub event_1 : react_of value_K 3000 1 state_started ≡ gives state_1 entries_1
  pub event_2 : react_of value_K 3000 2 state_1 ≡ gives state_2 entries_2
  pub event_1_again : react_of value_K 3000 1 state_2 ≡ gives state_3 entries_3
  pub event_1_restores : react_of value_K 3000 1 state_3 ≡ gives state_4 entries_4
  pub event_1_held : react_of value_K 3000 1 state_4 ≡ gives state_5 entries_5
  -- "Plan of K: blocks of 21, 6 and 10 for T0, T1, T2, start 2; heads T1, T2, T0; 195 numbers. 194 lent: 4"
  pub plan_blocks : map (λ t. length (block chart_K t)) (0 ∷ 1 ∷ 2 ∷ []) ≡ 21 ∷ 6 ∷ 10 ∷ []
  pub plan_start : length (start_block chart_K) ≡ 2
  pub plan_heads : map (λ h. h.transition) (plan_of chart_K).heads ≡ 1 ∷ 2 ∷ 0 ∷ []
  pub plan_length : length plan_K ≡ 195
  pub lent_195 : compile_of value_K 195 ≡ done plan_K
  pub lent_194 : compile_of value_K 194 ≡ text.refused 4 0
  -- "The first event 1 with 15 trace numbers is done, with 14 gives 11"
  pub room_15 : react_of value_K 15 1 state_started ≡ gives state_1 entries_1
  pub room_14 : react_of value_K 14 1 state_started ≡ as_found 11 0 state_posted
  -- "Two components, null transitions: .. both fire"
  pub two_pass : failing_rule chart_two ≡ none
  pub both_fire : start chart_two unstarted 3000 ≡ gives state_both both_entries

pub starred : Starred
unfolding all_open
starred = record {
  text_states_K = refl;
  value_states_K = refl;
  start_K = refl;
  event_1 = refl;
  event_2 = refl;
  event_1_again = refl;
  event_1_restores = refl;
  event_1_held = refl;
  plan_blocks = refl;
  plan_start = refl;
  plan_heads = refl;
  plan_length = refl;
  lent_195 = refl;
  lent_194 = refl;
  room_15 = refl;
  room_14 = refl;
  two_pass = refl;
  both_fire = refl;
}
