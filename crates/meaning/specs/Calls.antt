-- The calls on a widget (01, "One reaction" and "Answer numbers"): start, post, run, discard, with the order of tests and rollback, defined
-- once over what a chart or a plan brings: its fresh state, its test for 6, its events, its step and null steps. Then the calls over a
-- chart: first one that passes the rules, then one handed over as a value. Assumes nothing.
use Rattle.std.specs.Prelude.{ℕ, zero, suc, ◌/◌, Bool, true, false, List, [], ◌∷◌, map, length, replicate, ℤ, pos, negsuc}
use Rattle.std.proofs.Math.Option.{Option, none, some}
use Rattle.sizes.specs.Sizes.{STATES, VARIABLES}
use Rattle.numbers.specs.Reference.{ref}
use Rattle.queue.specs.Queue.{empty_queue, removed}
use Rattle.queue.specs.Queue.{Removed}
use Rattle.meaning.specs.Answers.{RULE_FAILS, FOREIGN, NOT_STARTED, QUEUE_EMPTY, NO_SUCH_EVENT}
use Rattle.meaning.specs.declared.State.{State}
use Rattle.meaning.specs.declared.Answer.{Answer}
use Rattle.meaning.specs.declared.Called.{Called}
use Rattle.meaning.specs.Steps.{Res, ok, refuse, Step, ◌then◌, require, each}
use Rattle.meaning.specs.Lists.{padded}
use Rattle.meaning.specs.Chart.{VarRow, Chart}
use Rattle.meaning.specs.Value.{chart_of}
use Rattle.meaning.specs.Rules.{failing_rule_of}
use Rattle.meaning.specs.Widget.{Ctx, set_queue, change, begin, ENTRY}
use Rattle.meaning.specs.Effects.{enter, enqueue}
use Rattle.meaning.specs.Entry.{all_below, by_defaults, visit}
use Rattle.meaning.specs.Reaction.{step, settle}
use Rattle.meaning.specs.Foreign.{own, event_fits}

-- ---- what a call gives

pub record Outcome : Type 0 where
  pub number : ℕ
  pub place : ℕ
  pub after : State
  pub trace : List ℤ

-- "Any other leaves the state as it was and zeroes the lent output, its count"
unfoldable pub as_found : ℕ → ℕ → State → Outcome
as_found n p u = record { number = n; place = p; after = u; trace = [] }

unfoldable pub outcome : State → Res Ctx → Outcome
outcome u (ok k) = record { number = 0; place = 0; after = k.state; trace = k.out }
outcome u (refuse n) = as_found n 0 u

-- the answer, the state after, and the count of entries
unfoldable pub called : Outcome → Called
called o = record { answer = record { number = o.number; place = o.place }; state = o.after; entries = length o.trace / ENTRY }

-- a lent slice of n numbers afterwards: "the lent slice past the last entry" is 0
unfoldable pub lent : ℕ → Outcome → List ℤ
lent n o = padded n (pos 0) o.trace

-- ---- start

-- a widget not yet started
unfoldable pub unstarted : State
unstarted = record {
  started = false;
  active = replicate STATES false;
  slots = replicate STATES (negsuc 0);
  vars = replicate VARIABLES (pos 0);
  queue = empty_queue;
}

-- "no state active before, places not in use as above, all slots empty, all variables at their first value and an empty queue"
unfoldable pub fresh_by : List VarRow → State
fresh_by vs = record {
  started = true;
  active = replicate STATES false;
  slots = replicate STATES (negsuc 0);
  vars = padded VARIABLES (pos 0) (map (λ r. r.first) vs);
  queue = empty_queue;
}

-- what a chart or a plan brings to the calls
pub record Runner : Type 0 where
  -- the state that a start begins with, and what it enters
  pub anew : State
  pub entering : Step Ctx
  -- the test for 6
  pub owning : State → Bool
  pub events : ℕ
  -- one step with an event and its argument; null steps until none is enabled
  pub one : ℕ → ℤ → Step Ctx
  pub settling : Step Ctx

-- "enters .., then makes null steps"
unfoldable pub start_steps_by : Runner → Step Ctx
start_steps_by w = w.entering then w.settling

-- "It tests neither 7 nor 6"
unfoldable pub start_by : Runner → State → ℕ → Outcome
unfolding start_steps_by
start_by w u n = outcome u (start_steps_by w (begin w.anew n))

-- ---- run, post, discard: "then 7, 6; then 8, or 10 before 9"

unfoldable pub tests_by : Runner → State → Step Ctx
tests_by w u = require NOT_STARTED u.started then require FOREIGN (w.owning u)

-- the queue without its front event, or 8
unfoldable pub take_front : Removed → Step Ctx
take_front r = require QUEUE_EMPTY r.done then change (set_queue r.queue)

-- "A run removes the front event and makes one step with it. Then null steps follow"
unfoldable pub react_by : Runner → Removed → Step Ctx
react_by w r = take_front r then w.one (ref r.front.event) r.front.arg then w.settling

unfoldable pub run_by : Runner → State → ℕ → Outcome
unfolding tests_by react_by
run_by w u n = outcome u ((tests_by w u then react_by w (removed u.queue)) (begin u n))

-- "Post appends an event with an argument"
unfoldable pub post_by : Runner → State → ℤ → ℤ → Outcome
unfolding tests_by
post_by w u e a = outcome u ((tests_by w u then require NO_SUCH_EVENT (event_fits w.events e a) then enqueue e a) (begin u 0))

-- "discard removes the front one"
unfoldable pub discard_by : Runner → State → Outcome
unfolding tests_by
discard_by w u = outcome u ((tests_by w u then take_front (removed u.queue)) (begin u 0))

-- ---- over a chart that passes the rules

unfoldable pub fresh : Chart → State
unfolding fresh_by
fresh c = fresh_by c.vars

-- "Start, with argument 0 and whatever the state held, enters the root and its defaults"
unfoldable pub enter_first : Chart → Step Ctx
enter_first c = enter c (pos 0) 0 then each (visit c (pos 0)) (all_below c by_defaults 0)

abbrev pub by_chart : Chart → Runner
by_chart c = record { anew = fresh c; entering = enter_first c; owning = own c; events = c.events; one = step c; settling = settle c }

unfoldable pub start_steps : Chart → Step Ctx
unfolding start_steps_by enter_first
start_steps c = start_steps_by (by_chart c)

unfoldable pub start : Chart → State → ℕ → Outcome
unfolding start_by start_steps
start c u n = start_by (by_chart c) u n

unfoldable pub tests : Chart → State → Step Ctx
unfolding tests_by
tests c u = tests_by (by_chart c) u

unfoldable pub react : Chart → Removed → Step Ctx
unfolding react_by
react c r = react_by (by_chart c) r

unfoldable pub run : Chart → State → ℕ → Outcome
unfolding run_by tests react
run c u n = run_by (by_chart c) u n

unfoldable pub post : Chart → State → ℤ → ℤ → Outcome
unfolding post_by tests
post c u e a = post_by (by_chart c) u e a

unfoldable pub discard : Chart → State → Outcome
unfolding discard_by tests
discard c u = discard_by (by_chart c) u

-- ---- over a chart handed over as a value: "chart 3 .. first"

-- the call is a function, so that a chart that fails the rules is not run
unfoldable pub if_ruled : List ℤ → State → (Chart → Outcome) → Outcome
if_ruled v u call = elim (failing_rule_of v) [
  | none ↦ call (chart_of v)
  | some r ↦ as_found RULE_FAILS r u
]

unfoldable pub start_of : List ℤ → State → ℕ → Outcome
unfolding if_ruled
start_of v u n = if_ruled v u (λ c. start c u n)

unfoldable pub run_of : List ℤ → State → ℕ → Outcome
unfolding if_ruled
run_of v u n = if_ruled v u (λ c. run c u n)

unfoldable pub post_of : List ℤ → State → ℤ → ℤ → Outcome
unfolding if_ruled
post_of v u e a = if_ruled v u (λ c. post c u e a)

unfoldable pub discard_of : List ℤ → State → Outcome
unfolding if_ruled
discard_of v u = if_ruled v u (λ c. discard c u)

-- everything above, opened: for statements that compute
unfoldable pub calls_open : ℕ
unfolding as_found outcome called lent unstarted fresh_by start_steps_by start_by tests_by take_front react_by run_by post_by discard_by
    fresh enter_first start_steps start tests react run post discard if_ruled start_of run_of post_of discard_of
calls_open = 0
