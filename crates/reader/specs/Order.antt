-- The order of records in a text: what is counted, where the next row of each kind stands in the chart's numbers, and what is counted
-- after a line. Assumes nothing.
use Rattle.std.specs.Prelude.{List, ℕ, ◌+◌, ◌*◌, ◌≤◌, ℤ, pos, length, set}
use Rattle.sizes.specs.Sizes.{STATES, VARIABLES, TRANSITIONS, ACTIONS}
use Rattle.meaning.specs.Value.{Rows, counted, laid, place}
use Rattle.meaning.specs.Grammar.{Record, s_record, v_record, e_record, t_record, a_record, no_record, row_size}
use Rattle.reader.specs.declared.order.Turns.{Turns}

-- how many of a kind were read
abbrev pub turn_of : Turns → Record → ℕ
turn_of t s_record = t.states
turn_of t v_record = t.vars
turn_of t e_record = t.events
turn_of t t_record = t.transitions
turn_of t a_record = t.actions
turn_of t no_record = 0

-- the counts of rows
abbrev pub turns_in : Rows → Turns
turns_in r = record {
  states = length (r s_record);
  vars = length (r v_record);
  events = length (r e_record);
  transitions = length (r t_record);
  actions = length (r a_record);
}

-- the place of the next row of a kind
unfoldable pub place_of : Record → Turns → ℕ
place_of r t = place (laid r) + turn_of t r * row_size r

-- what is counted after a line
unfoldable pub turns_after : Record → Turns → Turns
turns_after s_record t =
    record { states = t.states + 1; vars = t.vars; events = t.events; transitions = t.transitions; actions = t.actions }
turns_after v_record t =
    record { states = t.states; vars = t.vars + 1; events = t.events; transitions = t.transitions; actions = t.actions }
turns_after e_record t =
    record { states = t.states; vars = t.vars; events = t.events + 1; transitions = t.transitions; actions = t.actions }
turns_after t_record t =
    record { states = t.states; vars = t.vars; events = t.events; transitions = t.transitions + 1; actions = t.actions }
turns_after a_record t =
    record { states = t.states; vars = t.vars; events = t.events; transitions = t.transitions; actions = t.actions + 1 }
turns_after no_record t = t

-- the counts keep their sizes
pub record Within (t : Turns) : Type 0 where
  pub states : t.states ≤ STATES
  pub vars : t.vars ≤ VARIABLES
  pub events : t.events ≤ 1
  pub transitions : t.transitions ≤ TRANSITIONS
  pub actions : t.actions ≤ ACTIONS

-- the counts stored at their places
unfoldable pub with_counts : Turns → List ℤ → List ℤ
with_counts t l =
    set (set (set (set l (place (counted s_record)) (pos t.states)) (place (counted v_record)) (pos t.vars))
    (place (counted t_record)) (pos t.transitions)) (place (counted a_record)) (pos t.actions)
