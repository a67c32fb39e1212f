-- A widget's state as numbers that a host can keep (docs/HOST.md): "a started mark, an active mark and a slot for each of 64 states, 16
-- variables, a queue length and 16 queue places of event and argument" (01, "One reaction"), in this order. Every state has its numbers,
-- and every list of numbers gives a state: one that no call accepts where the numbers state no widget. Assumes nothing.
use Rattle.std.specs.Prelude.{Bool, true, false, cond, not, ◌&&◌, List, [], ◌∷◌, ◌++◌, map, ℕ, ◌+◌, ltb, leb, ℤ, pos, negsuc, length, get_or, take, drop, replicate}
use Rattle.std.specs.Int.Signed.{lt_z}
use Rattle.sizes.specs.Sizes.{STATES, VARIABLES, STATE_NUMBERS}
use Rattle.numbers.specs.Equal.{eq_z}
use Rattle.numbers.specs.Range.{within}
use Rattle.numbers.specs.Reference.{NOWHERE}
use Rattle.queue.specs.Queue.{empty_queue}
use Rattle.queue.specs.Numbers.{QUEUE_NUMBERS, queue_by, item_numbers}
use Rattle.meaning.specs.declared.State.{State}
use Rattle.meaning.specs.Lists.{every}

-- ---- the layout: how many marks there are, and where each part begins

abbrev pub MARKS : ℕ
MARKS = 1 + STATES

abbrev pub SLOTS_AT : ℕ
SLOTS_AT = MARKS

abbrev pub VARS_AT : ℕ
VARS_AT = SLOTS_AT + STATES

abbrev pub LENGTH_AT : ℕ
LENGTH_AT = VARS_AT + VARIABLES

-- ---- a state's numbers

unfoldable pub mark : Bool → ℤ
mark true = pos 1
mark false = pos 0

-- a count as a signed 32-bit number: itself, or -1 where it has none
unfoldable pub small : ℕ → ℤ
small n = cond (ltb n NOWHERE) (pos n) (negsuc 0)

unfoldable pub saved : State → List ℤ
saved u = (mark u.started ∷ map mark u.active) ++ u.slots ++ u.vars ++ (small u.queue.len ∷ item_numbers u.queue.items)

-- ---- the state that numbers give

-- n numbers from a place on
unfoldable pub part : ℕ → ℕ → List ℤ → List ℤ
part at n ns = take n (drop at ns)

unfoldable pub is_mark : ℤ → Bool
is_mark x = within (pos 0) x (pos 1)

unfoldable pub is_set : ℤ → Bool
is_set x = eq_z x (pos 1)

-- enough numbers, marks that are 0 or 1, a queue's length of 0 or more
unfoldable pub states_widget : List ℤ → Bool
states_widget ns =
    leb STATE_NUMBERS (length ns) && not (lt_z (get_or ns LENGTH_AT (pos 0)) (pos 0)) && every is_mark (take MARKS ns)

unfoldable pub stated : List ℤ → State
stated ns = record {
  started = is_set (get_or ns 0 (pos 0));
  active = map is_set (part 1 STATES ns);
  slots = part SLOTS_AT STATES ns;
  vars = part VARS_AT VARIABLES ns;
  queue = queue_by (part LENGTH_AT QUEUE_NUMBERS ns);
}

-- a widget with no state active: "7: not started", or "6: .. illegal configuration" by chart and by plan ("root active")
unfoldable pub no_widget : Bool → State
no_widget started = record {
  started = started;
  active = replicate STATES false;
  slots = replicate STATES (negsuc 0);
  vars = replicate VARIABLES (pos 0);
  queue = empty_queue;
}

-- numbers that state no widget: not started where the first of them is 0 or there is none, else started
unfoldable pub widget_of : List ℤ → State
widget_of ns = cond (states_widget ns) (stated ns) (no_widget (not (eq_z (get_or ns 0 (pos 0)) (pos 0))))

-- ---- numbers after a call that is done: the state's, and past them what was there; too few for a state stay as they were

unfoldable pub stored : State → List ℤ → List ℤ
stored u ns = cond (ltb (length ns) STATE_NUMBERS) ns (saved u ++ drop STATE_NUMBERS ns)

-- after calls of which some may be done (a replay): the state's, where there was a widget to go on from
unfoldable pub moved_on : State → List ℤ → List ℤ
moved_on u ns = cond (states_widget ns) (stored u ns) ns
