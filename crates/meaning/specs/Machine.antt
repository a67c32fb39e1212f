-- The plan machine (01, "The plan"): running instructions, choosing by heads, steps and null steps, and the calls on a widget over a plan;
-- first over a plan that is well formed, then over any list of numbers. The effects are those of the reaction. Assumes nothing.
use Rattle.std.specs.Prelude.{ℕ, zero, suc, Bool, true, false, ◌&&◌, List, [], ◌∷◌, take, drop, ℤ, pos, negsuc, eqb, leb, ltb, Option, None, Some}
use Rattle.numbers.specs.Equal.{eq_z}
use Rattle.queue.specs.Queue.{Removed}
use Rattle.meaning.specs.Answers.{NOT_A_PLAN}
use Rattle.meaning.specs.declared.State.{State}
use Rattle.meaning.specs.Steps.{Res, ok, refuse, Step, ◌then◌, each}
use Rattle.meaning.specs.Lists.{keep, every, exists}
use Rattle.meaning.specs.Chart.{VarRow}
use Rattle.meaning.specs.Widget.{Ctx, is_active, slot, is_empty, is_filled, emit}
use Rattle.meaning.specs.declared.Entry.{Entry}
use Rattle.meaning.specs.declared.Entry.TheVariants.{Taken as taken}
use Rattle.meaning.specs.Effects.{perform, mark_left, mark_entered}
use Rattle.meaning.specs.Reaction.{guard_holds, step_by, settle_in_by, settle_by}
use Rattle.meaning.specs.Foreign.{values_fit, queue_fits, marks_fit}
use Rattle.meaning.specs.Calls.{Outcome, Runner, as_found, fresh_by, start_steps_by, start_by, tests_by, react_by, run_by, post_by}
use Rattle.meaning.specs.Calls.{discard_by}
use Rattle.meaning.specs.Plan.{Instr, go_in, go_out, skip_out, skip_empty, skip_full, skip_not, does, Head, Plan}
use Rattle.meaning.specs.WellFormed.{plan_by, well_formed}

-- ---- running instructions

-- what the machine works on: the context, and how many instructions are still to be passed over
pub record Mach : Type 0 where
  pub ctx : Ctx
  pub over : ℕ

unfoldable pub passing : ℕ → Ctx → Mach
passing n k = record { ctx = k; over = n }

-- after an effect nothing is passed over
unfoldable pub go_on : Res Ctx → Res Mach
go_on (ok k) = ok (passing 0 k)
go_on (refuse n) = refuse n

-- "pass over n if" not
unfoldable pub on_if : Bool → ℕ → Ctx → Res Mach
on_if true n k = ok (passing 0 k)
on_if false n k = ok (passing n k)

unfoldable pub holds_it : ℕ → Option ℕ → Bool
holds_it d None = false
holds_it d (Some x) = eqb d x

-- "1 IN s. 2 OUT s p. Both act and trace even if s is so already. 3 SKIPOUT s n: pass over n if s is not active. 4 SKIPEMPTY s n.
-- 5 SKIPFULL s n. 6 SKIPNOT s d n: pass over n if the slot of s is not d. 7 SET, 8 ADD, 9 TAKE, 10 SEND, 11 TELL"
unfoldable pub exec_now : List VarRow → ℤ → Instr → Ctx → Res Mach
exec_now vs a (go_in s) k = go_on (mark_entered s k)
exec_now vs a (go_out s p) k = go_on (mark_left p s k)
exec_now vs a (skip_out s n) k = on_if (is_active k.state s) n k
exec_now vs a (skip_empty s n) k = on_if (is_filled (slot k.state s)) n k
exec_now vs a (skip_full s n) k = on_if (is_empty (slot k.state s)) n k
exec_now vs a (skip_not s d n) k = on_if (holds_it d (slot k.state s)) n k
exec_now vs a (does x) k = go_on (perform vs a x k)

unfoldable pub exec_at : List VarRow → ℤ → ℕ → Instr → Ctx → Res Mach
exec_at vs a zero i k = exec_now vs a i k
exec_at vs a (suc n) i k = ok (passing n k)

unfoldable pub exec : List VarRow → ℤ → Instr → Step Mach
exec vs a i m = exec_at vs a m.over i m.ctx

unfoldable pub run_code : List VarRow → ℤ → List Instr → Step Mach
run_code vs a code = each (exec vs a) code

unfoldable pub end_code : Res Mach → Res Ctx
end_code (ok m) = ok m.ctx
end_code (refuse n) = refuse n

-- a block, from its first instruction to its last
unfoldable pub run_block : List VarRow → ℤ → List Instr → Step Ctx
run_block vs a code k = end_code (run_code vs a code (passing 0 k))

-- ---- "The machine chooses by heads alone, in their order"

unfoldable pub head_enabled : ℕ → State → Head → Bool
head_enabled e u h = eqb h.trigger e && (is_active u h.source && guard_holds h.guard u)

-- the spans first to last have a state in common
unfoldable pub spans_meet : Head → Head → Bool
spans_meet h g = leb h.first g.last && leb g.first h.last

-- gone: the heads already chosen
unfoldable pub thin_heads : List Head → List Head → List Head
thin_heads gone [] = []
thin_heads gone (h ∷ hs) = elim (exists (spans_meet h) gone) [
  | true ↦ thin_heads gone hs
  | false ↦ h ∷ thin_heads (h ∷ gone) hs
]

unfoldable pub chosen_heads : Plan → ℕ → State → List Head
chosen_heads p e u = thin_heads [] (keep (head_enabled e u) p.heads)

-- ---- steps

-- "block start, block length"
unfoldable pub head_block : Plan → Head → List Instr
head_block p h = take h.length (drop h.start p.code)

unfoldable pub fire_head : Plan → ℤ → Head → Step Ctx
fire_head p a h = emit (taken h.transition) then run_block p.vars a (head_block p h)

unfoldable pub plan_step : Plan → ℕ → ℤ → Step Ctx
unfolding step_by
plan_step p e a = step_by (chosen_heads p) (fire_head p) e a

unfoldable pub plan_settle_in : Plan → ℕ → Step Ctx
unfolding settle_in_by
plan_settle_in p n = settle_in_by (chosen_heads p) (plan_step p) n

unfoldable pub plan_settle : Plan → Step Ctx
unfolding settle_by plan_settle_in
plan_settle p = settle_by (chosen_heads p) (plan_step p)

-- ---- "For 6 the plan machine tests only .."

-- the plan machine tests only "each slot -1 or a state of the plan"
unfoldable pub plan_slot_fits : ℕ → ℤ → Bool
plan_slot_fits states (pos d) = ltb d states
plan_slot_fits states (negsuc n) = eqb n 0

unfoldable pub plan_slots_fit : ℕ → List ℤ → Bool
plan_slots_fit states slots = every (plan_slot_fits states) (take states slots) && every (eq_z (negsuc 0)) (drop states slots)

-- "root active, each slot -1 or a state of the plan, variables, queue and unused places as above"
unfoldable pub plan_own : ℕ → List VarRow → ℕ → State → Bool
plan_own states vs events u =
    is_active u 0 && (marks_fit states u && (values_fit vs u.vars && (plan_slots_fit states u.slots && queue_fits events u.queue)))

-- ---- the calls over a well-formed plan

-- "the start block"
unfoldable pub plan_enter : Plan → Step Ctx
plan_enter p = run_block p.vars (pos 0) (take p.start_length p.code)

abbrev pub by_plan : Plan → Runner
by_plan p = record {
  anew = fresh_by p.vars;
  entering = plan_enter p;
  owning = plan_own p.states p.vars p.events;
  events = p.events;
  one = plan_step p;
  settling = plan_settle p;
}

unfoldable pub plan_start_steps : Plan → Step Ctx
unfolding start_steps_by plan_enter
plan_start_steps p = start_steps_by (by_plan p)

unfoldable pub plan_start : Plan → State → ℕ → Outcome
unfolding start_by plan_start_steps
plan_start p u n = start_by (by_plan p) u n

unfoldable pub plan_tests : Plan → State → Step Ctx
unfolding tests_by
plan_tests p u = tests_by (by_plan p) u

unfoldable pub plan_react : Plan → Removed → Step Ctx
unfolding react_by
plan_react p r = react_by (by_plan p) r

unfoldable pub plan_run : Plan → State → ℕ → Outcome
unfolding run_by plan_tests plan_react
plan_run p u n = run_by (by_plan p) u n

unfoldable pub plan_post : Plan → State → ℤ → ℤ → Outcome
unfolding post_by plan_tests
plan_post p u e a = post_by (by_plan p) u e a

unfoldable pub plan_discard : Plan → State → Outcome
unfolding discard_by plan_tests
plan_discard p u = discard_by (by_plan p) u

-- ---- over any list of numbers: "plan 5 first"; 5 "a plan is cut short or not well formed; numbers past its end are ignored"

-- the call is a function, so that what is not a plan is not run
unfoldable pub if_well_formed : List ℤ → State → (Plan → Outcome) → Outcome
if_well_formed ns u call = elim (well_formed ns) [
  | true ↦ call (plan_by ns)
  | false ↦ as_found NOT_A_PLAN 0 u
]

unfoldable pub machine_start : List ℤ → State → ℕ → Outcome
unfolding if_well_formed
machine_start ns u n = if_well_formed ns u (λ p. plan_start p u n)

unfoldable pub machine_run : List ℤ → State → ℕ → Outcome
unfolding if_well_formed
machine_run ns u n = if_well_formed ns u (λ p. plan_run p u n)

unfoldable pub machine_post : List ℤ → State → ℤ → ℤ → Outcome
unfolding if_well_formed
machine_post ns u e a = if_well_formed ns u (λ p. plan_post p u e a)

unfoldable pub machine_discard : List ℤ → State → Outcome
unfolding if_well_formed
machine_discard ns u = if_well_formed ns u (λ p. plan_discard p u)

-- everything above, opened: for statements that compute
unfoldable pub machine_open : ℕ
unfolding passing go_on on_if holds_it exec_now exec_at exec run_code end_code run_block head_enabled spans_meet thin_heads chosen_heads
    head_block fire_head plan_step plan_settle_in plan_settle plan_slot_fits plan_slots_fit plan_own plan_enter plan_start_steps
    plan_start plan_tests plan_react plan_run plan_post plan_discard if_well_formed machine_start machine_run machine_post
    machine_discard
machine_open = 0
