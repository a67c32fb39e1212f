-- The root's mark (01, answer 6: "the plan machine tests only: root active, .."): where no instruction leaves the root and the start
-- block begins with IN 0, every call that is done leaves the root active, so that 6 is never given after a start. Assumes nothing.
use mathlib.Core.Path.{◌∙◌, ◌≡◌, refl, subst, sym}
use Prim.Native.Nat.{suc, zero, ℕ}
use native.Mathlib.Omega.{arith}
use mathlib.Core.Bool.{Bool, false, false≢true, not, true, true≢false}
use mathlib.Core.List.{List, [], ◌∷◌}
use lib.ListN.{get_or, length, length-replicate, set, take}
use lib.Seq.{get_or-set_same}
use lib.IntN.{pos, ℤ}
use lib.Dec.{eqb}
use borrow.Author.Tests.{eqb-true}
use Rattle.agreement.proofs.Calling.{plan_make}
use Rattle.agreement.specs.PlanCalls.{machine_make}
use Rattle.invariants.specs.CallLists.{Call, to_discard, to_post, to_run, to_start}
use Rattle.invariants.specs.Good.{Sized}
use Rattle.laws.proofs.Lists.{and_left, and_right}
use Rattle.laws.specs.Facts.{Each, none_left, one_more}
use Rattle.meaning.specs.Calls.{fresh_by, outcome, as_found, take_front}
use Rattle.meaning.specs.Effects.{enqueue, mark_entered}
use Rattle.meaning.specs.Foreign.{event_fits}
use Rattle.meaning.specs.Lists.{every}
use Rattle.meaning.specs.Machine.{exec, exec_at, exec_now, go_on, passing, plan_discard, plan_post, plan_react, plan_run, plan_settle}
use Rattle.meaning.specs.Machine.{plan_start, plan_start_steps, plan_tests, run_block, run_code, plan_own}
use Rattle.meaning.specs.Plan.{Plan}
use Rattle.meaning.specs.Steps.{Res, Step, ◌then◌, bind, each, ok, refuse, require}
use Rattle.meaning.specs.WellFormed.{plan_by, well_formed}
use Rattle.meaning.specs.Widget.{Ctx, begin, change, emit, is_active, set_active}
use Rattle.meaning.specs.declared.Entry.TheVariants.{Entered as entered}
use Rattle.meaning.specs.declared.State.{State}
use Rattle.meaning.specs.declared.plan.Instr.{Instr}
use Rattle.meaning.specs.declared.plan.Instr.TheVariants.{Does as does, In as go_in, Out as go_out, SkipEmpty as skip_empty}
use Rattle.meaning.specs.declared.plan.Instr.TheVariants.{SkipFull as skip_full, SkipNot as skip_not, SkipOut as skip_out}
use Rattle.plan_invariants.proofs.AnyNumbers.{formed_facts}
use Rattle.plan_invariants.proofs.Answering.{formed}
use Rattle.plan_invariants.proofs.Calls.{fit_own, own_root}
use Rattle.plan_invariants.proofs.Marks.{Marking, On, append_marked, emit_marked, front_marked, instr_marked, marked_effects}
use Rattle.plan_invariants.proofs.Marks.{react_marked}
use Rattle.plan_invariants.proofs.Walk.{Ends, Refusal, Runs, code_ends, code_runs, each_taken, ends_bind, gone_on, settle_runs}
use Rattle.plan_invariants.specs.Root.{begins_in_root, enters_root, leaves_root, never_leaves_root, starts_in_root}
use Rattle.queue.specs.Queue.{removed}
use Rattle.queue.specs.Queue.{Removed}
use Rattle.sizes.specs.Sizes.{STATES}

-- the marks have the root
abbrev Marked : List Bool → Type 0
Marked l = get_or l 0 false ≡ true

abbrev Stays : Instr → Type 0
Stays i = leaves_root i ≡ false

entered_marked : (s : ℕ) (l : List Bool) → Marked l → Marked (set l s true)
entered_marked s [] e = e
entered_marked zero (x ∷ l) e = refl
entered_marked (suc s) (x ∷ l) e = e

left_marked : (s : ℕ) (l : List Bool) → eqb s 0 ≡ false → Marked l → Marked (set l s false)
left_marked s [] n e = e
left_marked zero (x ∷ l) n e = absurd (true≢false n)
left_marked (suc s) (x ∷ l) n e = e

root_marking : Marking Refusal Stays Marked
unfolding leaves_root
root_marking = record {
  full = λ e. omega arith;
  no_room = λ e. omega arith;
  unsettled = λ e. omega arith;
  enters = λ s c l h. entered_marked s l h;
  leaves = λ s q c l h. left_marked s l c h;
}

-- ---- steps of a plan that never leaves the root

stay_each : (is : List Instr) → every (λ i. not (leaves_root i)) is ≡ true → Each Stays is
unfolding every
stay_each [] e = none_left
stay_each (i ∷ is) e = one_more (is_not (leaves_root i) (and_left (not (leaves_root i)) _ e))
    (stay_each is (and_right (not (leaves_root i)) _ e))
  where
    is_not : (b : Bool) → not b ≡ true → b ≡ false
    is_not true q = absurd (false≢true q)
    is_not false q = refl

module _ (p : Plan) (never : never_leaves_root p ≡ true) where
  code_stays : Each Stays p.code
  unfolding never_leaves_root
  code_stays = stay_each p.code never

  react_rooted : (r : Removed) → Runs Refusal (On Marked) (plan_react p r)
  react_rooted r = react_marked p Refusal Stays Marked root_marking code_stays r (front_marked Refusal Marked (λ e. omega arith) r)

  -- IN 0, from any marks of 01's size
  first_rooted : (s : ℕ) → eqb s 0 ≡ true → (k : Ctx) → length k.state.active ≡ STATES → Ends Refusal (mark_entered s k) (On Marked)
  unfolding mark_entered ◌then◌ set_active change
  first_rooted s e k l = ends_bind Refusal (λ j. length j.state.active ≡ STATES) (On Marked) (emit (entered s) k)
      (change (set_active s true))
      (emit_marked Refusal (λ x. length x ≡ STATES) (λ z. omega arith) (entered s) k l)
      (λ j m. subst (λ i. Marked (set j.state.active i true)) (sym (eqb-true s 0 e))
      (get_or-set_same j.state.active 0 true false (omega (arith, m))))

  -- a block that begins so
  block_rooted : (is : List Instr) → begins_in_root is ≡ true → Each Stays is → (k : Ctx) → length k.state.active ≡ STATES
      → Ends Refusal (run_block p.vars (pos 0) is k) (On Marked)
  unfolding begins_in_root enters_root run_block run_code each passing exec exec_at exec_now
  block_rooted [] e c k l = absurd (false≢true e)
  block_rooted (go_in s ∷ is) e (one_more c cs) k l =
      let rest = each (exec p.vars (pos 0)) is in
      code_ends Refusal (On Marked) (bind (go_on (mark_entered s k)) rest)
      (ends_bind Refusal (λ j. On Marked j.ctx) (λ j. On Marked j.ctx) (go_on (mark_entered s k)) rest
      (gone_on Refusal (On Marked) (mark_entered s k) (first_rooted s e k l))
      (code_runs Refusal (On Marked) p.vars (pos 0) Stays (instr_marked p Refusal Stays Marked root_marking (pos 0)) is cs))
  block_rooted (go_out s q ∷ is) e c k l = absurd (false≢true e)
  block_rooted (skip_out s n ∷ is) e c k l = absurd (false≢true e)
  block_rooted (skip_empty s n ∷ is) e c k l = absurd (false≢true e)
  block_rooted (skip_full s n ∷ is) e c k l = absurd (false≢true e)
  block_rooted (skip_not s d n ∷ is) e c k l = absurd (false≢true e)
  block_rooted (does x ∷ is) e c k l = absurd (false≢true e)

  start_rooted : starts_in_root p ≡ true → (n : ℕ) → Ends Refusal (plan_start_steps p (begin (fresh_by p.vars) n)) (On Marked)
  unfolding starts_in_root plan_start_steps ◌then◌ begin fresh_by
  start_rooted e n =
      let first = take p.start_length p.code in
      ends_bind Refusal (On Marked) (On Marked) (run_block p.vars (pos 0) first (begin (fresh_by p.vars) n)) (plan_settle p)
      (block_rooted first e (each_taken Stays p.start_length p.code code_stays) (begin (fresh_by p.vars) n)
      (length-replicate STATES false))
      (settle_runs p Refusal Stays (On Marked) (marked_effects p Refusal Stays Marked root_marking) code_stays)

-- ---- calls: one that is done leaves the root active

done_rooted : (u : State) (r : Res Ctx) → Ends Refusal r (On Marked) → (outcome u r).number ≡ 0 → is_active (outcome u r).after 0 ≡ true
unfolding outcome as_found is_active
done_rooted u (ok k) h e = h
done_rooted u (refuse m) h e = absurd (h e)

-- past the tests the root is active
tested_rooted : (p : Plan) (u : State) (F : Step Ctx) (k : Ctx) → k.state.active ≡ u.active → Runs Refusal (On Marked) F
    → Ends Refusal ((plan_tests p u then F) k) (On Marked)
unfolding plan_tests ◌then◌ require bind is_active
tested_rooted p u F k q f = go u.started (plan_own p.states p.vars p.events u) refl
  where
    go : (a b : Bool) → plan_own p.states p.vars p.events u ≡ b
        → Ends Refusal (bind (bind (require 7 a k) (require 6 b)) F) (On Marked)
    go false b e = λ z. omega arith
    go true false e = λ z. omega arith
    go true true e = f k (subst Marked (sym q) (own_root p u e))

module _ (p : Plan) (u : State) where
  pub root_after_start : never_leaves_root p ≡ true → starts_in_root p ≡ true → (n : ℕ) → (plan_start p u n).number ≡ 0
      → is_active (plan_start p u n).after 0 ≡ true
  unfolding plan_start
  root_after_start l s n = done_rooted u (plan_start_steps p (begin (fresh_by p.vars) n)) (start_rooted p l s n)

  pub root_after_run : never_leaves_root p ≡ true → (n : ℕ) → (plan_run p u n).number ≡ 0 → is_active (plan_run p u n).after 0 ≡ true
  unfolding plan_run begin
  root_after_run l n = done_rooted u ((plan_tests p u then plan_react p (removed u.queue)) (begin u n))
      (tested_rooted p u (plan_react p (removed u.queue)) (begin u n) refl (react_rooted p l (removed u.queue)))

  -- post and discard touch no mark, whatever the plan
  pub root_after_post : (e a : ℤ) → (plan_post p u e a).number ≡ 0 → is_active (plan_post p u e a).after 0 ≡ true
  unfolding plan_post begin
  root_after_post e a = done_rooted u ((plan_tests p u then require 10 (event_fits p.events e a) then enqueue e a) (begin u 0))
      (tested_rooted p u (require 10 (event_fits p.events e a) then enqueue e a) (begin u 0) refl
      (append_marked Refusal Marked (λ z. omega arith) (λ z. omega arith) (event_fits p.events e a) e a))

  pub root_after_discard : (plan_discard p u).number ≡ 0 → is_active (plan_discard p u).after 0 ≡ true
  unfolding plan_discard begin
  root_after_discard = done_rooted u ((plan_tests p u then take_front (removed u.queue)) (begin u 0))
      (tested_rooted p u (take_front (removed u.queue)) (begin u 0) refl
      (front_marked Refusal Marked (λ z. omega arith) (removed u.queue)))

-- ---- over any well-formed numbers: all of the machine's test

-- a started state that passes the machine's test for 6
abbrev pub Owned : Plan → State → Type 0
Owned p v = (v.started ≡ true) × (plan_own p.states p.vars p.events v ≡ true)

module _ (ns : List ℤ) (w : well_formed ns ≡ true) (never : never_leaves_root (plan_by ns) ≡ true)
    (starts : starts_in_root (plan_by ns) ≡ true) where
  root_after : (x : Call) (u : State) → (plan_make (plan_by ns) x u).number ≡ 0 → is_active (plan_make (plan_by ns) x u).after 0 ≡ true
  unfolding plan_make
  root_after (to_start n) u e = root_after_start (plan_by ns) u never starts n e
  root_after (to_run n) u e = root_after_run (plan_by ns) u never n e
  root_after (to_post i a) u e = root_after_post (plan_by ns) u i a e
  root_after to_discard u e = root_after_discard (plan_by ns) u e

  pub machine_root : (x : Call) (u : State) → (machine_make ns x u).number ≡ 0 → is_active (machine_make ns x u).after 0 ≡ true
  machine_root x u = subst (λ o. o.number ≡ 0 → is_active o.after 0 ≡ true) (sym (formed ns w x u)) (root_after x u)

  -- a call that is done leaves a started state that passes the machine's whole test for 6
  pub machine_own : (x : Call) (u : State) → Sized u → (machine_make ns x u).number ≡ 0 → Owned (plan_by ns) (machine_make ns x u).after
  machine_own x u z e =
      let f = (formed_facts ns w x u z).done e in
      (f.started, fit_own (plan_by ns) (machine_make ns x u).after f ∙ machine_root x u e)
