-- The numbers that a call over a plan may give (01, "Answer numbers"): over any plan and from any state whatsoever; then over any list
-- of numbers, where 5 comes first. 14 is never given. Assumes nothing.
use mathlib.Core.Path.{◌∙◌, ◌≡◌, ap, refl, subst, sym}
use Prim.Native.Nat.{ℕ}
use mathlib.Core.Bool.{Bool, false, true, true≢false}
use mathlib.Core.List.{List, [], ◌∷◌}
use lib.ListN.{take}
use lib.IntN.{pos, ℤ}
use lib.Dec.{eqb}
use Rattle.agreement.proofs.Calling.{plan_make}
use Rattle.agreement.proofs.CompiledCalls.{machine_makes}
use Rattle.agreement.specs.PlanCalls.{machine_make}
use Rattle.invariants.specs.CallLists.{Call, to_discard, to_post, to_run, to_start}
use Rattle.laws.proofs.Lists.{or_right}
use Rattle.laws.specs.Facts.{Each, none_left, one_more}
use Rattle.meaning.specs.Calls.{Outcome, fresh_by, outcome, as_found, take_front}
use Rattle.meaning.specs.Effects.{enqueue}
use Rattle.meaning.specs.Foreign.{event_fits}
use Rattle.meaning.specs.Lists.{has}
use Rattle.meaning.specs.Machine.{machine_discard, machine_post, machine_run, machine_start, plan_discard, plan_post, plan_react, plan_run}
use Rattle.meaning.specs.Machine.{plan_settle, plan_start, plan_start_steps, plan_tests, run_block, plan_own}
use Rattle.meaning.specs.Plan.{Plan}
use Rattle.meaning.specs.Steps.{Res, Step, ◌then◌, bind, ok, refuse, require}
use Rattle.meaning.specs.WellFormed.{plan_by, well_formed}
use Rattle.meaning.specs.Widget.{Ctx, begin}
use Rattle.meaning.specs.declared.State.{State}
use Rattle.meaning.specs.declared.plan.Instr.{Instr}
use Rattle.plan_invariants.proofs.Marks.{Marking, On, append_marked, front_marked, marked_effects, react_marked}
use Rattle.plan_invariants.proofs.Walk.{Ends, Runs, block_runs, settle_runs, then_runs}
use Rattle.plan_invariants.specs.Answers.{DISCARD_ANSWERS, POST_ANSWERS, RUN_ANSWERS, START_ANSWERS, may_give}
use Rattle.queue.specs.Queue.{removed}

-- ---- over any plan, from any state

abbrev pub Whatever : List Bool → Type 0
Whatever l = Unit {0}

abbrev pub AnyInstr : Instr → Type 0
AnyInstr i = Unit {0}

-- one of these numbers
abbrev pub OneOf : List ℕ → ℕ → Type 0
OneOf l n = has n l ≡ true

pub each_any : (is : List Instr) → Each AnyInstr is
each_any [] = none_left
each_any (i ∷ is) = one_more tt (each_any is)

pub answer_of : (l : List ℕ) (u : State) (r : Res Ctx) → has 0 l ≡ true → Ends (OneOf l) r (On Whatever)
    → has (outcome u r).number l ≡ true
unfolding outcome as_found
answer_of l u (ok k) z h = z
answer_of l u (refuse n) z h = h

pub tested_answer : (p : Plan) (l : List ℕ) (u : State) (F : Step Ctx) (k : Ctx) → has 7 l ≡ true → has 6 l ≡ true
    → Runs (OneOf l) (On Whatever) F
    → Ends (OneOf l) ((plan_tests p u then F) k) (On Whatever)
unfolding plan_tests ◌then◌ require bind
tested_answer p l u F k r7 r6 f = go u.started (plan_own p.states p.vars p.events u)
  where
    go : (a b : Bool) → Ends (OneOf l) (bind (bind (require 7 a k) (require 6 b)) F) (On Whatever)
    go false b = r7
    go true false = r6
    go true true = f k tt

pub marking : (l : List ℕ) → has 9 l ≡ true → has 11 l ≡ true → has 12 l ≡ true → Marking (OneOf l) AnyInstr Whatever
marking l r9 r11 r12 = record { full = r9; no_room = r11; unsettled = r12; enters = λ s c m h. tt; leaves = λ s q c m h. tt }

module _ (p : Plan) (u : State) where
  start_answer : (n : ℕ) → has (plan_start p u n).number START_ANSWERS ≡ true
  unfolding plan_start has plan_start_steps
  start_answer n =
      let w = marked_effects p (OneOf START_ANSWERS) AnyInstr Whatever (marking START_ANSWERS refl refl refl) in
      let first = take p.start_length p.code in
      answer_of START_ANSWERS u (plan_start_steps p (begin (fresh_by p.vars) n)) refl
      (then_runs (OneOf START_ANSWERS) (On Whatever) (run_block p.vars (pos 0) first) (plan_settle p)
      (block_runs p (OneOf START_ANSWERS) AnyInstr (On Whatever) w (pos 0) first (each_any first))
      (settle_runs p (OneOf START_ANSWERS) AnyInstr (On Whatever) w (each_any p.code)) (begin (fresh_by p.vars) n) tt)

  run_answer : (n : ℕ) → has (plan_run p u n).number RUN_ANSWERS ≡ true
  unfolding plan_run has
  run_answer n = answer_of RUN_ANSWERS u ((plan_tests p u then plan_react p (removed u.queue)) (begin u n)) refl
      (tested_answer p RUN_ANSWERS u (plan_react p (removed u.queue)) (begin u n) refl refl
      (react_marked p (OneOf RUN_ANSWERS) AnyInstr Whatever (marking RUN_ANSWERS refl refl refl) (each_any p.code) (removed u.queue)
      (front_marked (OneOf RUN_ANSWERS) Whatever refl (removed u.queue))))

  post_answer : (e a : ℤ) → has (plan_post p u e a).number POST_ANSWERS ≡ true
  unfolding plan_post has
  post_answer e a = answer_of POST_ANSWERS u ((plan_tests p u then require 10 (event_fits p.events e a) then enqueue e a)
      (begin u 0)) refl
      (tested_answer p POST_ANSWERS u (require 10 (event_fits p.events e a) then enqueue e a) (begin u 0) refl refl
      (append_marked (OneOf POST_ANSWERS) Whatever refl refl (event_fits p.events e a) e a))

  discard_answer : has (plan_discard p u).number DISCARD_ANSWERS ≡ true
  unfolding plan_discard has
  discard_answer = answer_of DISCARD_ANSWERS u ((plan_tests p u then take_front (removed u.queue)) (begin u 0)) refl
      (tested_answer p DISCARD_ANSWERS u (take_front (removed u.queue)) (begin u 0) refl refl
      (front_marked (OneOf DISCARD_ANSWERS) Whatever refl (removed u.queue)))

  pub plan_answer : (x : Call) → has (plan_make p x u).number (may_give x) ≡ true
  unfolding plan_make may_give
  plan_answer (to_start n) = start_answer n
  plan_answer (to_run n) = run_answer n
  plan_answer (to_post e a) = post_answer e a
  plan_answer to_discard = discard_answer

-- ---- over any list of numbers

module _ (ns : List ℤ) where
  -- a call by whether the numbers are a well-formed plan
  abbrev or_5 : Call → State → Bool → Outcome
  or_5 x u b = elim b [
    | true ↦ plan_make (plan_by ns) x u
    | false ↦ as_found 5 0 u
  ]

  by_form : (x : Call) (u : State) → machine_make ns x u ≡ or_5 x u (well_formed ns)
  unfolding machine_make plan_make machine_start machine_run machine_post machine_discard
  by_form (to_start n) u = refl
  by_form (to_run n) u = refl
  by_form (to_post e a) u = refl
  by_form to_discard u = refl

  -- well formed: as over the plan that the numbers state
  pub formed : well_formed ns ≡ true → (x : Call) (u : State) → machine_make ns x u ≡ plan_make (plan_by ns) x u
  formed e x u = machine_makes ns (plan_by ns) e refl x u

  -- not well formed: 5
  pub unformed : well_formed ns ≡ false → (x : Call) (u : State) → machine_make ns x u ≡ as_found 5 0 u
  unformed e x u = by_form x u ∙ ap (or_5 x u) e

  -- the numbers that a call may give, from any state whatsoever
  pub formed_answer : well_formed ns ≡ true → (x : Call) (u : State) → has (machine_make ns x u).number (may_give x) ≡ true
  formed_answer e x u = subst (λ o. has o.number (may_give x) ≡ true) (sym (formed e x u)) (plan_answer (plan_by ns) u x)

  pub machine_answer : (x : Call) (u : State) → has (machine_make ns x u).number (5 ∷ may_give x) ≡ true
  unfolding has as_found
  machine_answer x u = subst (λ o. has o.number (5 ∷ may_give x) ≡ true) (sym (by_form x u)) (go (well_formed ns))
    where
      go : (b : Bool) → has (or_5 x u b).number (5 ∷ may_give x) ≡ true
      go true = or_right (eqb (plan_make (plan_by ns) x u).number 5) _ (plan_answer (plan_by ns) u x)
      go false = refl

  -- "it never gives 14"
  no_14 : (x : Call) → has 14 (5 ∷ may_give x) ≡ false
  unfolding has may_give
  no_14 (to_start n) = refl
  no_14 (to_run n) = refl
  no_14 (to_post e a) = refl
  no_14 to_discard = refl

  pub never_14 : (x : Call) (u : State) → (machine_make ns x u).number ≡ 14 → ⊥
  never_14 x u e = true≢false (sym (machine_answer x u) ∙ ap (λ n. has n (5 ∷ may_give x)) e ∙ no_14 x)
