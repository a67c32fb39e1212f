-- What each entry point for a host promises (docs/HOST.md): the answer, the numbers of the report, and every lent number on every input,
-- refusals too. A widget is lent as numbers (Saved); what is done to the widget that they state is what the engine's own functions do.
-- In the order: what every entry point tells; charts, texts and plans; the calls on a widget over its chart, then over a plan; a replay.
-- Assumes nothing.
use Rattle.std.specs.Prelude.{◌≡◌, Bool, true, false, cond, List, [], ◌∷◌, ℕ, eqb, ltb, length, ℤ, pos}
use Rattle.sizes.specs.Sizes.{STATE_NUMBERS}
use Rattle.meaning.specs.declared.Answer.{Answer}
use Rattle.meaning.specs.declared.Called.{Called}
use Rattle.meaning.specs.declared.State.{State}
use Rattle.meaning.specs.Answers.{FOREIGN}
use Rattle.meaning.specs.Lists.{padded}
use Rattle.meaning.specs.Rules.{failing_rule_of, verdict}
use Rattle.meaning.specs.Text.{read, write, answer_of, written, lent_numbers, lent_bytes}
use Rattle.meaning.specs.Compile.{compile_of, compiled, plan_lent}
use Rattle.meaning.specs.WellFormed.{well_formed}
use Rattle.meaning.specs.Calls.{Outcome, as_found, called, lent as lent_trace, unstarted, start_of, run_of, post_of, discard_of}
use Rattle.meaning.specs.Machine.{machine_start, machine_run, machine_post, machine_discard}
use Rattle.promises.specs.Promises.{plan_verdict}
use Rattle.promises.specs.Replay.{items_of, replay, replayed}
use Rattle.promises.specs.Saved.{small, widget_of, stored, moved_on}
use Rattle.promises.specs.declared.Replayed.{Replayed}

-- ---- what every entry point tells

-- the answer is the result; its place and a count are the report
pub record Told (a : Answer) (count : ℕ) (r : ℤ) (report : List ℤ) : Type 0 where
  pub answer : r ≡ small a.number
  pub told : report ≡ small a.place ∷ small count ∷ []

-- a widget's numbers after a call: those of the state after it, or, refused, as they were
unfoldable pub kept : Called → List ℤ → List ℤ
kept c ns = cond (eqb c.answer.number 0) (stored c.state ns) ns

-- a call on a widget, told and kept
pub record Ends (c : Called) (ns : List ℤ) (r : ℤ) (report after : List ℤ) : Type 0 where
  pub tells : Told c.answer c.entries r report
  pub widget : after ≡ kept c ns

-- a call on a widget that is lent n trace numbers too
pub record Traces (o : Outcome) (ns : List ℤ) (n : ℕ) (r : ℤ) (report after trace : List ℤ) : Type 0 where
  pub ends : Ends (called o) ns r report after
  pub lent : trace ≡ lent_trace n o

-- ---- charts, texts and plans

abbrev pub HostChecked : List ℤ → ℤ → List ℤ → Type 0
HostChecked v r report = Told (verdict (failing_rule_of v)) 0 r report

pub record HostRead (text : List ℕ) (chart : List ℤ) (r : ℤ) (report after : List ℤ) : Type 0 where
  pub tells : Told (answer_of (read text (length chart))) 0 r report
  pub lent : after ≡ lent_numbers (length chart) (read text (length chart))

pub record HostWrote (v : List ℤ) (text : List ℕ) (r : ℤ) (report : List ℤ) (after : List ℕ) : Type 0 where
  pub tells : Told (written v (length text)).answer (written v (length text)).length r report
  pub lent : after ≡ lent_bytes (length text) (write v (length text))

pub record HostCompiled (v plan : List ℤ) (r : ℤ) (report after : List ℤ) : Type 0 where
  pub tells : Told (compiled (compile_of v (length plan))).answer (compiled (compile_of v (length plan))).length r report
  pub lent : after ≡ plan_lent (length plan) (compile_of v (length plan))

abbrev pub HostExamined : List ℤ → ℤ → List ℤ → Type 0
HostExamined ns r report = Told (plan_verdict (well_formed ns)) 0 r report

-- ---- a widget that has to be stored whatever it was: "6" where too few numbers are lent for one

-- what the chart or the plan is refused for comes first
unfoldable pub too_few : Answer → Answer
too_few a = cond (eqb a.number 0) (record { number = FOREIGN; place = 0 }) a

-- a widget not yet started
unfoldable pub unstarted_into : List ℤ → Called
unstarted_into ns =
    cond (ltb (length ns) STATE_NUMBERS) (called (as_found FOREIGN 0 unstarted))
    (called (record { number = 0; place = 0; after = unstarted; trace = [] }))

abbrev pub HostUnstarted : List ℤ → ℤ → List ℤ → List ℤ → Type 0
HostUnstarted ns r report after = Ends (unstarted_into ns) ns r report after

-- a start, by whether too few numbers are lent, the verdict on its chart or plan, and what it does where there is room
unfoldable pub start_by : Bool → Answer → (State → Outcome) → State → Outcome
start_by true a f u = as_found (too_few a).number (too_few a).place u
start_by false a f u = f u

unfoldable pub start_into : Answer → (State → Outcome) → List ℤ → Outcome
start_into a f ns = start_by (ltb (length ns) STATE_NUMBERS) a f (widget_of ns)

-- ---- the calls on a widget over its chart

abbrev pub HostStarted : List ℤ → List ℤ → List ℤ → ℤ → List ℤ → List ℤ → List ℤ → Type 0
HostStarted v ns trace r report after lent =
    Traces (start_into (verdict (failing_rule_of v)) (λ u. start_of v u (length trace)) ns) ns (length trace) r report after lent

abbrev pub HostRan : List ℤ → List ℤ → List ℤ → ℤ → List ℤ → List ℤ → List ℤ → Type 0
HostRan v ns trace r report after lent = Traces (run_of v (widget_of ns) (length trace)) ns (length trace) r report after lent

abbrev pub HostPosted : List ℤ → List ℤ → ℤ → ℤ → ℤ → List ℤ → List ℤ → Type 0
HostPosted v ns event arg r report after = Ends (called (post_of v (widget_of ns) event arg)) ns r report after

abbrev pub HostDiscarded : List ℤ → List ℤ → ℤ → List ℤ → List ℤ → Type 0
HostDiscarded v ns r report after = Ends (called (discard_of v (widget_of ns))) ns r report after

-- ---- the calls on a widget over a plan, as those over a chart

abbrev pub HostPlanStarted : List ℤ → List ℤ → List ℤ → ℤ → List ℤ → List ℤ → List ℤ → Type 0
HostPlanStarted plan ns trace r report after lent =
    Traces (start_into (plan_verdict (well_formed plan)) (λ u. machine_start plan u (length trace)) ns) ns (length trace) r report after
    lent

abbrev pub HostPlanRan : List ℤ → List ℤ → List ℤ → ℤ → List ℤ → List ℤ → List ℤ → Type 0
HostPlanRan plan ns trace r report after lent =
    Traces (machine_run plan (widget_of ns) (length trace)) ns (length trace) r report after lent

abbrev pub HostPlanPosted : List ℤ → List ℤ → ℤ → ℤ → ℤ → List ℤ → List ℤ → Type 0
HostPlanPosted plan ns event arg r report after = Ends (called (machine_post plan (widget_of ns) event arg)) ns r report after

abbrev pub HostPlanDiscarded : List ℤ → List ℤ → ℤ → List ℤ → List ℤ → Type 0
HostPlanDiscarded plan ns r report after = Ends (called (machine_discard plan (widget_of ns))) ns r report after

-- ---- a replay: the report has the place, the entries of the last run and how many events were done; what was done stays

pub record Stops (p : Replayed) (ns : List ℤ) (r : ℤ) (report after : List ℤ) : Type 0 where
  pub answer : r ≡ small p.answer.number
  pub told : report ≡ small p.answer.place ∷ small p.entries ∷ small p.done ∷ []
  pub widget : after ≡ moved_on p.state ns

pub record HostReplayed (plan ns events trace : List ℤ) (r : ℤ) (report after out : List ℤ) : Type 0 where
  pub stops : Stops (replayed (replay plan (widget_of ns) (items_of events) (length trace))) ns r report after
  pub lent : out ≡ padded (length trace) (pos 0) (replay plan (widget_of ns) (items_of events) (length trace)).trace
