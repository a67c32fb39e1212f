-- Charts, states and calls to compute with (01, "Checked by example"): chart K as its text, as its value and as a chart; the chart of two
-- null components; two charts more; what a call gives and the states after it, in few words. Assumes nothing.
use Rattle.std.specs.Prelude.{ℕ, zero, suc, Bool, true, false, List, [], ◌∷◌, map, replicate, ℤ, pos, negsuc}
use Rattle.sizes.specs.Sizes.{QUEUE, STATES, VARIABLES}
use Rattle.queue.specs.Queue.{item, queue_of}
use Rattle.meaning.specs.declared.State.{State}
use Rattle.meaning.specs.Grammar.{bytes, Record, s_record, v_record, e_record, t_record, a_record, no_record}
use Rattle.meaning.specs.Lists.{concat_map, from, has, padded}
use Rattle.meaning.specs.Chart.{Kind, kind_o, kind_a, kind_b, Guard, always, compares, equal, Target, to, history, set_to}
use Rattle.meaning.specs.Chart.{add_to, send, tell, entry_of, exit_of, default_of, transition_of}
use Rattle.meaning.specs.Chart.{StateRow, VarRow, TransRow, ActRow, Act, Owner, Chart}
use Rattle.meaning.specs.Value.{ABSENT}
use Rattle.meaning.specs.Text.{value_of}
use Rattle.meaning.specs.Widget.{numbers}
use Rattle.meaning.specs.declared.Entry.{Entry}
use Rattle.meaning.specs.Calls.{Outcome, run, post, run_of, post_of}
use Rattle.meaning.specs.Compile.{compile}
use Rattle.meaning.specs.Machine.{machine_run, machine_post}

unfoldable pub st : ℕ → Kind → ℕ → StateRow
st p k d = record { parent = p; kind = k; default = d }

unfoldable pub tr : ℕ → ℕ → Guard → Target → TransRow
tr s e g t = record { source = s; trigger = e; guard = g; target = t }

unfoldable pub ac : Owner → Act → ActRow
ac o a = record { owner = o; act = a }

-- chart K as its text: fields parted by one tab, each line ended by LF
unfoldable pub text_K : List ℕ
text_K = concat_map bytes (
    "S\t0\t-\to\t1\n"
    ∷ "S\t1\t0\tb\t-\n"
    ∷ "S\t2\t0\to\t3\n"
    ∷ "S\t3\t2\tb\t-\n"
    ∷ "S\t4\t2\tb\t-\n"
    ∷ "V\t0\t-100\t100\t0\n"
    ∷ "E\t2\n"
    ∷ "T\t0\t1\t1\t-\t-\t-\th2\n"
    ∷ "T\t1\t3\t2\t-\t-\t-\t4\n"
    ∷ "T\t2\t2\t1\t-\t-\t-\t1\n"
    ∷ "A\te\t4\to\t7\t-\n"
    ∷ "A\tx\t2\ta\t0\t60\n"
    ∷ "A\td\t2\to\t9\t-\n"
    ∷ []
    )

-- chart K as a chart
unfoldable pub chart_K : Chart
chart_K = record {
  states = st 0 kind_o 1 ∷ st 0 kind_b 0 ∷ st 0 kind_o 3 ∷ st 2 kind_b 0 ∷ st 2 kind_b 0 ∷ [];
  vars = record { low = negsuc 99; high = pos 100; first = pos 0 } ∷ [];
  events = 2;
  transitions = tr 1 1 always (history 2) ∷ tr 3 2 always (to 4) ∷ tr 2 1 always (to 1) ∷ [];
  actions = ac (entry_of 4) (tell (pos 7)) ∷ ac (exit_of 2) (add_to 0 (pos 60)) ∷ ac (default_of 2) (tell (pos 9)) ∷ [];
}

-- chart K's rows: each field a number, or the code of its letter
abbrev pub rows_K : Record → List (List ℤ)
rows_K s_record =
    (ABSENT ∷ pos 111 ∷ pos 1 ∷ []) ∷ (pos 0 ∷ pos 98 ∷ ABSENT ∷ []) ∷ (pos 0 ∷ pos 111 ∷ pos 3 ∷ [])
    ∷ (pos 2 ∷ pos 98 ∷ ABSENT ∷ []) ∷ (pos 2 ∷ pos 98 ∷ ABSENT ∷ []) ∷ []
rows_K v_record = (negsuc 99 ∷ pos 100 ∷ pos 0 ∷ []) ∷ []
rows_K e_record = (pos 2 ∷ []) ∷ []
rows_K t_record =
    (pos 1 ∷ pos 1 ∷ ABSENT ∷ ABSENT ∷ ABSENT ∷ pos 104 ∷ pos 2 ∷ []) ∷ (pos 3 ∷ pos 2 ∷ ABSENT ∷ ABSENT ∷ ABSENT ∷ pos 0 ∷ pos 4 ∷ [])
    ∷ (pos 2 ∷ pos 1 ∷ ABSENT ∷ ABSENT ∷ ABSENT ∷ pos 0 ∷ pos 1 ∷ []) ∷ []
rows_K a_record =
    (pos 101 ∷ pos 4 ∷ pos 111 ∷ pos 7 ∷ ABSENT ∷ []) ∷ (pos 120 ∷ pos 2 ∷ pos 97 ∷ pos 0 ∷ pos 60 ∷ [])
    ∷ (pos 100 ∷ pos 2 ∷ pos 111 ∷ pos 9 ∷ ABSENT ∷ []) ∷ []
rows_K no_record = []

-- chart K as a value that is handed over
unfoldable pub value_K : List ℤ
value_K = value_of rows_K

-- "Plan of K"
unfoldable pub plan_K : List ℤ
plan_K = compile chart_K

-- "Two components, null transitions: the higher source sets v to 1, the lower has guard v = 0, v is 0"
unfoldable pub chart_two : Chart
chart_two = record {
  states =
      st 0 kind_o 1 ∷ st 0 kind_a 0 ∷ st 1 kind_o 3 ∷ st 2 kind_b 0 ∷ st 2 kind_b 0 ∷ st 1 kind_o 6 ∷ st 5 kind_b 0 ∷ st 5 kind_b 0 ∷ [];
  vars = record { low = negsuc 99; high = pos 100; first = pos 0 } ∷ [];
  events = 0;
  transitions = tr 3 0 (compares 0 equal (pos 0)) (to 4) ∷ tr 6 0 always (to 7) ∷ [];
  actions = ac (transition_of 1) (set_to 0 (pos 1)) ∷ [];
}

-- a component that is its own source and target: its scope lies above its a parent, so every component is left and entered
unfoldable pub chart_self : Chart
chart_self = record {
  states =
      st 0 kind_o 1 ∷ st 0 kind_a 0 ∷ st 1 kind_o 3 ∷ st 2 kind_b 0 ∷ st 1 kind_o 5 ∷ st 4 kind_b 0 ∷ [];
  vars = [];
  events = 1;
  transitions = tr 2 1 always (to 2) ∷ [];
  actions = [];
}

-- a history entered from inside its own owner: it restores what that very firing has just left
unfoldable pub chart_inside : Chart
chart_inside = record {
  states = st 0 kind_o 1 ∷ st 0 kind_o 2 ∷ st 1 kind_b 0 ∷ st 1 kind_b 0 ∷ [];
  vars = [];
  events = 2;
  transitions = tr 2 1 always (to 3) ∷ tr 3 2 always (history 1) ∷ [];
  actions = ac (default_of 1) (tell (pos 9)) ∷ [];
}

-- a queue that fills in the middle of a reaction: state 1 is left, and its exit actions send one event more than there are places
unfoldable pub chart_filling : Chart
chart_filling = record {
  states = st 0 kind_o 1 ∷ st 0 kind_b 0 ∷ st 0 kind_b 0 ∷ [];
  vars = [];
  events = 1;
  transitions = tr 1 1 always (to 2) ∷ [];
  actions = replicate (suc QUEUE) (ac (exit_of 1) (send 1 (pos 0)));
}

-- an event that null steps follow, one after another: 1 to 2 by the event, then on to 3 and to 4
unfoldable pub chart_settling : Chart
chart_settling = record {
  states = st 0 kind_o 1 ∷ st 0 kind_b 0 ∷ st 0 kind_b 0 ∷ st 0 kind_b 0 ∷ st 0 kind_b 0 ∷ [];
  vars = [];
  events = 1;
  transitions = tr 1 1 always (to 2) ∷ tr 2 0 always (to 3) ∷ tr 3 0 always (to 4) ∷ [];
  actions = [];
}

-- a started state: the active states; the slots, the variables and what waits, from their first place on. "Places not in use hold: not
-- active, -1, 0, and 0 with 0"
unfoldable pub standing : List ℕ → List ℤ → List ℤ → List (ℤ × ℤ) → State
standing on slots vars events = record {
  started = true;
  active = map (λ s. has s on) (from 0 STATES);
  slots = padded STATES (negsuc 0) slots;
  vars = padded VARIABLES (pos 0) vars;
  queue = queue_of (map (λ e. item e.0 e.1) events);
}

-- a call is done, leaves this state and writes these entries
unfoldable pub gives : State → List Entry → Outcome
gives u es = record { number = 0; place = 0; after = u; trace = concat_map numbers es }

-- post the event with argument 0 and run it, with room for n trace numbers, over a chart's value
unfoldable pub react_of : List ℤ → ℕ → ℕ → State → Outcome
react_of v n e u = run_of v (post_of v u (pos e) (pos 0)).after n

-- the same over a chart
unfoldable pub react_to : Chart → ℕ → ℕ → State → Outcome
react_to c n e u = run c (post c u (pos e) (pos 0)).after n

-- the same over a plan
unfoldable pub machine_to : List ℤ → ℕ → ℕ → State → Outcome
machine_to ns n e u = machine_run ns (machine_post ns u (pos e) (pos 0)).after n

unfoldable pub examples_open : ℕ
unfolding st tr ac text_K chart_K value_K
    plan_K chart_two chart_self chart_inside chart_filling chart_settling queue_of standing gives react_of react_to
    machine_to
examples_open = 0
