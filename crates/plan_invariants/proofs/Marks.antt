-- What the plan machine's steps keep of the marks alone, and with which numbers they refuse, over any plan: from what IN and OUT do to
-- the marks. In the order: entries, queue and acts, which leave the marks; instructions; what follows the tests. Assumes nothing.
use Rattle.std.specs.Prelude.{Option, None, Some}
use Prim.Native.Nat.{ℕ}
use mathlib.Core.Bool.{Bool, false, true}
use mathlib.Core.List.{List}
use lib.ListN.{set}
use lib.IntN.{◌+ℤ◌, pos, ℤ}
use lib.Dec.{leb}
use Rattle.laws.specs.Facts.{Each}
use Rattle.meaning.specs.Calls.{take_front}
use Rattle.meaning.specs.Effects.{act_on, act_var, assign, enqueue, mark_entered, mark_left, perform, store_in, take_queue}
use Rattle.meaning.specs.Machine.{exec_now, holds_it, plan_react, plan_settle, plan_step}
use Rattle.meaning.specs.Plan.{Plan}
use Rattle.meaning.specs.Steps.{◌then◌, bind, look, require}
use Rattle.meaning.specs.Tree.{var_row}
use Rattle.meaning.specs.Widget.{Ctx, ENTRY, change, emit, is_active, is_empty, is_filled, numbers, set_active}
use Rattle.meaning.specs.declared.Entry.{Entry}
use Rattle.meaning.specs.declared.Entry.TheVariants.{Entered as entered, Left as left}
use Rattle.meaning.specs.Widget.{set_queue, set_slot, set_value, slot, value_at, add_numbers}
use Rattle.meaning.specs.declared.State.{State}
use Rattle.meaning.specs.declared.chart.Act.{Act}
use Rattle.meaning.specs.declared.chart.Act.TheVariants.{AddTo as add_to, Send as send, SetTo as set_to, TakeTo as take_to, Tell as tell}
use Rattle.meaning.specs.declared.chart.VarRow.{VarRow}
use Rattle.meaning.specs.declared.plan.Instr.{Instr}
use Rattle.meaning.specs.declared.plan.Instr.TheVariants.{Does as does, In as go_in, Out as go_out, SkipEmpty as skip_empty}
use Rattle.meaning.specs.declared.plan.Instr.TheVariants.{SkipFull as skip_full, SkipNot as skip_not, SkipOut as skip_out}
use Rattle.numbers.specs.Reference.{ref}
use Rattle.plan_invariants.proofs.Walk.{Effects, Ends, Runs, either_way, gone_on, look_runs, settle_runs, step_runs, then_runs}
use Rattle.queue.specs.Queue.{appended}
use Rattle.queue.specs.declared.Queue.{Queue}
use Rattle.queue.specs.Queue.{Removed}

-- M of the marks
abbrev pub On : (List Bool → Type 0) → Ctx → Type 0
On M k = M k.state.active

-- ---- entries, queue and acts, which leave the marks

module _ (R : ℕ → Type 0) (M : List Bool → Type 0) where
  pub emit_marked : R 11 → (e : Entry) → Runs R (On M) (emit e)
  unfolding emit add_numbers ◌then◌ require bind
  emit_marked no_room e k h = go (leb ENTRY k.room)
    where
      go : (b : Bool) → Ends R (bind (require 11 b k) (add_numbers (numbers e))) (On M)
      go true = h
      go false = no_room

  queue_marked : (n : ℕ) → R n → (b : Bool) (q : Queue) → Runs R (On M) (require n b then change (set_queue q))
  unfolding ◌then◌ require bind change set_queue
  queue_marked n r true q k h = h
  queue_marked n r false q k h = r

  enqueue_marked : R 9 → (e x : ℤ) → Runs R (On M) (enqueue e x)
  unfolding enqueue look take_queue
  enqueue_marked full e x k h = queue_marked 9 full (appended k.state.queue e x).done (appended k.state.queue e x).queue k h

  pub front_marked : R 8 → (r : Removed) → Runs R (On M) (take_front r)
  unfolding take_front
  front_marked none r = queue_marked 8 none r.done r.queue

  pub append_marked : R 9 → R 10 → (b : Bool) (e a : ℤ) → Runs R (On M) (require 10 b then enqueue e a)
  unfolding ◌then◌ require bind
  append_marked full wrong true e a k h = enqueue_marked full e a k h
  append_marked full wrong false e a k h = wrong

  assign_marked : R 11 → (r : VarRow) (v : ℕ) (x : ℤ) → Runs R (On M) (assign r v x)
  unfolding assign change set_value
  assign_marked no_room r v x = then_runs R (On M) _ _ (emit_marked no_room _) (λ k h. h)

  act_marked : R 9 → R 11 → (r : VarRow) (a : ℤ) (x : Act) → Runs R (On M) (act_on r a x)
  unfolding act_on
  act_marked full no_room r a (set_to v x) = assign_marked no_room r v x
  act_marked full no_room r a (add_to v x) = look_runs R (On M) _ (λ k h. assign_marked no_room r v (value_at k.state v +ℤ x))
  act_marked full no_room r a (take_to v) = assign_marked no_room r v a
  act_marked full no_room r a (send e x) = then_runs R (On M) _ _ (emit_marked no_room _) (enqueue_marked full (pos e) x)
  act_marked full no_room r a (tell x) = emit_marked no_room _

  store_marked : (q : Option ℕ) (s : ℕ) (u : State) → M u.active → M (store_in q s u).active
  unfolding store_in set_slot
  store_marked None s u h = h
  store_marked (Some q) s u h = h

-- ---- instructions

-- what is asked of M, of instructions that are C, and of R: a full queue, no room, a 33rd null step
pub record Marking (R : ℕ → Type 0) (C : Instr → Type 0) (M : List Bool → Type 0) : Type 0 where
  pub full : R 9
  pub no_room : R 11
  pub unsettled : R 12
  pub enters : (s : ℕ) → C (go_in s) → (l : List Bool) → M l → M (set l s true)
  pub leaves : (s : ℕ) (q : Option ℕ) → C (go_out s q) → (l : List Bool) → M l → M (set l s false)

module _ (p : Plan) (R : ℕ → Type 0) (C : Instr → Type 0) (M : List Bool → Type 0) (w : Marking R C M) where
  pub instr_marked : (a : ℤ) (i : Instr) → C i → (k : Ctx) → On M k → Ends R (exec_now p.vars a i k) (λ m. On M m.ctx)
  unfolding exec_now mark_entered mark_left perform set_active change
  instr_marked a (go_in s) c k h = gone_on R (On M) (mark_entered s k)
      (then_runs R (On M) _ _ (emit_marked R M w.no_room (entered s)) (λ j g. w.enters s c j.state.active g) k h)
  instr_marked a (go_out s q) c k h = gone_on R (On M) (mark_left q s k)
      (then_runs R (On M) _ _ (emit_marked R M w.no_room (left s))
      (λ j g. store_marked R M q s (set_active s false j.state) (w.leaves s q c j.state.active g)) k h)
  instr_marked a (skip_out s n) c k h = either_way R (On M) (is_active k.state s) n k h
  instr_marked a (skip_empty s n) c k h = either_way R (On M) (is_filled (slot k.state s)) n k h
  instr_marked a (skip_full s n) c k h = either_way R (On M) (is_empty (slot k.state s)) n k h
  instr_marked a (skip_not s d n) c k h = either_way R (On M) (holds_it d (slot k.state s)) n k h
  instr_marked a (does x) c k h =
      gone_on R (On M) (perform p.vars a x k) (act_marked R M w.full w.no_room (var_row p.vars (act_var x)) a x k h)

  pub marked_effects : Effects p R C (On M)
  marked_effects = record { unsettled = w.unsettled; takes = λ h n. emit_marked R M w.no_room _; does = instr_marked }

  -- ---- what follows the tests of a run

  pub react_marked : Each C p.code → (r : Removed) → Runs R (On M) (take_front r) → Runs R (On M) (plan_react p r)
  unfolding plan_react
  react_marked c r f = then_runs R (On M) _ _ f
      (then_runs R (On M) (plan_step p (ref r.front.event) r.front.arg) (plan_settle p)
      (step_runs p R C (On M) marked_effects c (ref r.front.event) r.front.arg) (settle_runs p R C (On M) marked_effects c))
