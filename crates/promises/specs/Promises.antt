-- What each public function promises (01, "Promises"): one definition for each says its result and every lent number on every input,
-- refusals too. In the order: the rules' check; chart text read and written; the calls on a widget over its chart; plans compiled and
-- examined; the calls on a widget over a plan, and replay. Assumes nothing.
use Rattle.std.specs.Prelude.{◌≡◌, Bool, true, false, List, ℕ, length, ℤ, pos}
use Rattle.meaning.specs.declared.Answer.{Answer}
use Rattle.meaning.specs.declared.Called.{Called}
use Rattle.meaning.specs.declared.State.{State}
use Rattle.meaning.specs.declared.Written.{Written}
use Rattle.meaning.specs.declared.plan.Compiled.{Compiled}
use Rattle.meaning.specs.Lists.{padded}
use Rattle.meaning.specs.Rules.{failing_rule_of, verdict}
use Rattle.meaning.specs.Text.{read, write, answer_of, written, lent_numbers, lent_bytes}
use Rattle.meaning.specs.Compile.{compile_of, compiled, plan_lent}
use Rattle.meaning.specs.WellFormed.{well_formed}
use Rattle.meaning.specs.Machine.{machine_start, machine_run, machine_post, machine_discard}
use Rattle.promises.specs.Replay.{items_of, replay, replayed}
use Rattle.promises.specs.declared.Replayed.{Replayed}
use Rattle.meaning.specs.Calls.{called, lent as lent_trace, unstarted, start_of, run_of, post_of, discard_of}

-- ---- the rules' check

-- "3: a rule fails, the first named", its number as the place; else 0
pub record Checked (v : List ℤ) (r : Answer) : Type 0 where
  pub result : r ≡ verdict (failing_rule_of v)

-- ---- chart text

-- a text read into lent numbers: the answer with its line or rule; the chart and 0 past it, or all 0
pub record Read (text : List ℕ) (chart : List ℤ) (r : Answer) (after : List ℤ) : Type 0 where
  pub result : r ≡ answer_of (read text (length chart))
  pub lent : after ≡ lent_numbers (length chart) (read text (length chart))

-- a chart value written into lent bytes: the answer and the count of bytes; the text and 0 past it, or all 0
pub record Wrote (v : List ℤ) (out : List ℕ) (r : Written) (after : List ℕ) : Type 0 where
  pub result : r ≡ written v (length out)
  pub lent : after ≡ lent_bytes (length out) (write v (length out))

-- ---- the calls on a widget: answer, place, state after, count of entries; the lent trace has the entries and 0 past them

-- what a host has before its first start
pub record Unstarted (r : State) : Type 0 where
  pub result : r ≡ unstarted

pub record Started (v : List ℤ) (u : State) (trace : List ℤ) (r : Called) (after : List ℤ) : Type 0 where
  pub result : r ≡ called (start_of v u (length trace))
  pub lent : after ≡ lent_trace (length trace) (start_of v u (length trace))

pub record Ran (v : List ℤ) (u : State) (trace : List ℤ) (r : Called) (after : List ℤ) : Type 0 where
  pub result : r ≡ called (run_of v u (length trace))
  pub lent : after ≡ lent_trace (length trace) (run_of v u (length trace))

pub record Posted (v : List ℤ) (u : State) (event arg : ℤ) (r : Called) : Type 0 where
  pub result : r ≡ called (post_of v u event arg)

pub record Discarded (v : List ℤ) (u : State) (r : Called) : Type 0 where
  pub result : r ≡ called (discard_of v u)

-- ---- plans

-- a chart compiled into lent numbers: the answer with its rule, and the count of numbers; the plan and 0 past it, or all 0
pub record Compiles (v plan : List ℤ) (r : Compiled) (after : List ℤ) : Type 0 where
  pub result : r ≡ compiled (compile_of v (length plan))
  pub lent : after ≡ plan_lent (length plan) (compile_of v (length plan))

-- "5: a plan is cut short or not well formed; numbers past its end are ignored"; else 0
unfoldable pub plan_verdict : Bool → Answer
plan_verdict true = record { number = 0; place = 0 }
plan_verdict false = record { number = 5; place = 0 }

pub record Examined (ns : List ℤ) (r : Answer) : Type 0 where
  pub result : r ≡ plan_verdict (well_formed ns)

-- numbers that the examination accepts: they begin with a well-formed plan
abbrev pub Planned : List ℤ → Type 0
Planned ns = well_formed ns ≡ true

-- ---- the calls on a widget over a plan, as those over a chart

pub record PlanStarted (ns : List ℤ) (u : State) (trace : List ℤ) (r : Called) (after : List ℤ) : Type 0 where
  pub result : r ≡ called (machine_start ns u (length trace))
  pub lent : after ≡ lent_trace (length trace) (machine_start ns u (length trace))

pub record PlanRan (ns : List ℤ) (u : State) (trace : List ℤ) (r : Called) (after : List ℤ) : Type 0 where
  pub result : r ≡ called (machine_run ns u (length trace))
  pub lent : after ≡ lent_trace (length trace) (machine_run ns u (length trace))

pub record PlanPosted (ns : List ℤ) (u : State) (event arg : ℤ) (r : Called) : Type 0 where
  pub result : r ≡ called (machine_post ns u event arg)

pub record PlanDiscarded (ns : List ℤ) (u : State) (r : Called) : Type 0 where
  pub result : r ≡ called (machine_discard ns u)

-- events replayed: the answer that stopped it or 0, the state after, how many events were done, the entries of the last run; the lent trace
-- has that run's entries and 0 past them
pub record PlanReplayed (ns : List ℤ) (u : State) (events trace : List ℤ) (r : Replayed) (after : List ℤ) : Type 0 where
  pub result : r ≡ replayed (replay ns u (items_of events) (length trace))
  pub lent : after ≡ padded (length trace) (pos 0) (replay ns u (items_of events) (length trace)).trace
