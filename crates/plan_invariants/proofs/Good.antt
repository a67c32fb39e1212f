-- What every instruction of a well-formed plan keeps true of all that the plan machine works on: the started mark, the sizes, each
-- clause of the machine's test for 6 but the root's mark, and a trace that names only what the plan has. Assumes nothing.
use Rattle.std.specs.Prelude.{Option, None, Some}
use mathlib.Core.Path.{◌∙◌, ◌≡◌, refl, subst, sym}
use mathlib.Core.Logic.{⊎_elim}
use Prim.Native.Nat.{◌<◌, ◌≤◌, suc, zero, ℕ}
use native.Mathlib.Omega.{arith}
use mathlib.Core.Bool.{Bool, false, not, true}
use mathlib.Core.List.{List, [], ◌∷◌}
use lib.ListN.{length, length-set, set, take}
use lib.Seq.{drop-set-lt}
use lib.IntN.{◌+ℤ◌, negsuc, pos, ℤ}
use lib.Signed.{le_z}
use lib.Dec.{leb}
use borrow.Author.Tests.{le-leb, lt-ltb}
use Rattle.invariants.specs.Good.{Sized}
use Rattle.invariants.proofs.Values.{appended_fits, held_in_row, values_fit_of, values_of, values_set}
use Rattle.laws.proofs.Lists.{and_both, and_left, and_right, each_at, le_or_lt}
use Rattle.meaning.specs.Chart.{no_var}
use Rattle.meaning.specs.Effects.{act_on, act_var, assign, enqueue, held, mark_entered, mark_left, perform, store_in, take_queue}
use Rattle.meaning.specs.Foreign.{event_fits, marks_fit, queue_fits, values_fit}
use Rattle.meaning.specs.Lists.{every}
use Rattle.meaning.specs.Machine.{exec_now, holds_it, plan_slot_fits, plan_slots_fit}
use Rattle.meaning.specs.Plan.{Plan}
use Rattle.meaning.specs.Rules.{row_fits, within_row}
use Rattle.meaning.specs.Steps.{◌then◌, bind, look, require}
use Rattle.meaning.specs.Tree.{var_row}
use Rattle.meaning.specs.Widget.{Ctx, ENTRY, change, emit, is_active, is_empty, is_filled, numbers}
use Rattle.meaning.specs.declared.Entry.{Entry}
use Rattle.meaning.specs.declared.Entry.TheVariants.{Changed as changed, Entered as entered, Left as left, Sent as sent}
use Rattle.meaning.specs.Widget.{set_active, set_queue, set_slot, set_value, slot, value_at, add_numbers}
use Rattle.meaning.specs.declared.Entry.TheVariants.{Taken as taken, Told as told}
use Rattle.meaning.specs.declared.State.{State}
use Rattle.meaning.specs.declared.chart.Act.{Act}
use Rattle.meaning.specs.declared.chart.Act.TheVariants.{AddTo as add_to, Send as send, SetTo as set_to, TakeTo as take_to, Tell as tell}
use Rattle.meaning.specs.declared.plan.Instr.{Instr}
use Rattle.meaning.specs.declared.plan.Instr.TheVariants.{Does as does, In as go_in, Out as go_out, SkipEmpty as skip_empty}
use Rattle.meaning.specs.declared.plan.Instr.TheVariants.{SkipFull as skip_full, SkipNot as skip_not, SkipOut as skip_out}
use Rattle.numbers.specs.Equal.{eq_z}
use Rattle.numbers.specs.Range.{in_range}
use Rattle.invariants.proofs.Naming.{EntryNamed, named_more, numbers_named}
use Rattle.plan_invariants.proofs.Walk.{Effects, Ends, Refusal, Runs, either_way, gone_on, look_runs, then_runs}
use Rattle.plan_invariants.proofs.Well.{InstrNamed, Well, well_rows}
use Rattle.invariants.specs.Named.{all_named}
use Rattle.plan_invariants.specs.Names.{of_plan}
use Rattle.plan_laws.proofs.Fits.{ActFits, SlotFits}
use Rattle.plan_laws.proofs.ReadBack.{counts}
use Rattle.queue.proofs.Tidy.{appended_long}
use Rattle.queue.proofs.Waiting.{appended_full}
use Rattle.queue.specs.Queue.{appended}
use Rattle.queue.specs.declared.Queue.{Queue}
use Rattle.queue.specs.Queue.{Queued}
use Rattle.sizes.specs.Sizes.{QUEUE}

-- ---- what is kept

-- a started state of 01's sizes that passes each clause of the plan machine's test for 6 but the root's mark
pub record Fit (p : Plan) (u : State) : Type 0 where
  pub started : u.started ≡ true
  pub sized : Sized u
  pub marks : marks_fit p.states u ≡ true
  pub values : values_fit p.vars u.vars ≡ true
  pub slots : plan_slots_fit p.states u.slots ≡ true
  pub queue : queue_fits p.events u.queue ≡ true

pub record Good (p : Plan) (k : Ctx) : Type 0 where
  pub state : Fit p k.state
  pub trace : all_named (of_plan p) k.out ≡ true

-- ---- lists

every_taken_set : {A : Type 0} (p : A → Bool) (n : ℕ) (xs : List A) (i : ℕ) (x : A) → p x ≡ true → every p (take n xs) ≡ true
    → every p (take n (set xs i x)) ≡ true
unfolding every
every_taken_set p zero xs i x h e = refl
every_taken_set p (suc n) [] i x h e = e
every_taken_set p (suc n) (y ∷ xs) zero x h e = and_both (p x) _ h (and_right (p y) _ e)
every_taken_set p (suc n) (y ∷ xs) (suc i) x h e = and_both (p y) _ (and_left (p y) _ e)
    (every_taken_set p n xs i x h (and_right (p y) _ e))

-- ---- the few changes of a state

module _ (p : Plan) where
  pub mark_fit : (s : ℕ) (b : Bool) (u : State) → s < p.states → Fit p u → Fit p (set_active s b u)
  unfolding set_active marks_fit
  mark_fit s b u l f = record {
    started = f.started;
    sized = record {
      active = length-set u.active s b ∙ f.sized.active;
      slots = f.sized.slots;
      vars = f.sized.vars;
      items = f.sized.items;
    };
    marks = subst (λ x. every not x ≡ true) (sym (drop-set-lt p.states u.active s b l)) f.marks;
    values = f.values;
    slots = f.slots;
    queue = f.queue;
  }

  pub slot_fit : (q s : ℕ) (u : State) → q < p.states → s < p.states → Fit p u → Fit p (set_slot q s u)
  unfolding set_slot plan_slots_fit plan_slot_fits marks_fit
  slot_fit q s u l m f = record {
    started = f.started;
    sized = record {
      active = f.sized.active;
      slots = length-set u.slots q (pos s) ∙ f.sized.slots;
      vars = f.sized.vars;
      items = f.sized.items;
    };
    marks = f.marks;
    values = f.values;
    slots = and_both (every (plan_slot_fits p.states) (take p.states (set u.slots q (pos s)))) _
        (every_taken_set (plan_slot_fits p.states) p.states u.slots q (pos s) (lt-ltb s p.states m)
        (and_left (every (plan_slot_fits p.states) (take p.states u.slots)) _ f.slots))
        (subst (λ x. every (eq_z (negsuc 0)) x ≡ true) (sym (drop-set-lt p.states u.slots q (pos s) l))
        (and_right (every (plan_slot_fits p.states) (take p.states u.slots)) _ f.slots));
    queue = f.queue;
  }

  pub value_fit : (v : ℕ) (x : ℤ) (u : State) → Well p → v < length p.vars → within_row (var_row p.vars v) x ≡ true → Fit p u
      → Fit p (set_value v x u)
  unfolding set_value marks_fit
  value_fit v x u w l e f =
      let long : length p.vars ≤ length u.vars = omega (arith, f.sized.vars, w.sayable.vars) in
      record {
        started = f.started;
        sized = record {
          active = f.sized.active;
          slots = f.sized.slots;
          vars = length-set u.vars v x ∙ f.sized.vars;
          items = f.sized.items;
        };
        marks = f.marks;
        values = values_fit_of p.vars (set u.vars v x) (omega (arith, long, length-set u.vars v x))
            (values_set p.vars u.vars v x l long e (values_of p.vars u.vars f.values));
        slots = f.slots;
        queue = f.queue;
      }

  pub queue_fit : (q : Queue) (u : State) → queue_fits p.events q ≡ true → length q.items ≡ QUEUE → Fit p u → Fit p (set_queue q u)
  unfolding set_queue marks_fit
  queue_fit q u h l f = record {
    started = f.started;
    sized = record { active = f.sized.active; slots = f.sized.slots; vars = f.sized.vars; items = l };
    marks = f.marks;
    values = f.values;
    slots = f.slots;
    queue = h;
  }

-- ---- the effects, one at a time

module _ (p : Plan) where
  pub change_good : (f : State → State) → ((u : State) → Fit p u → Fit p (f u)) → Runs Refusal (Good p) (change f)
  unfolding change
  change_good f h k g = record { state = h k.state g.state; trace = g.trace }

  pub emit_good : (e : Entry) → EntryNamed (of_plan p) e → Runs Refusal (Good p) (emit e)
  unfolding emit add_numbers ◌then◌ require bind
  emit_good e h k g = go (leb ENTRY k.room)
    where
      go : (b : Bool) → Ends Refusal (bind (require 11 b k) (add_numbers (numbers e))) (Good p)
      go true = record { state = g.state; trace = named_more (of_plan p) k.out (numbers e) g.trace (numbers_named (of_plan p) e h) }
      go false = λ z. omega arith

  pub enqueue_good : (e x : ℤ) → event_fits p.events e x ≡ true → Runs Refusal (Good p) (enqueue e x)
  unfolding enqueue look take_queue ◌then◌ require bind
  enqueue_good e x f k g = ⊎_elim over room (le_or_lt QUEUE k.state.queue.len)
    where
      next : Queued
      next = appended k.state.queue e x

      Done : Queued → Type 0
      Done q = Ends Refusal (bind (require 9 q.done k) (change (set_queue q.queue))) (Good p)

      over : QUEUE ≤ k.state.queue.len → Done next
      over l = subst Done (sym (appended_full k.state.queue e x l)) (λ z. omega arith)

      room : k.state.queue.len < QUEUE → Done next
      room l = on next.done
        where
          fits : queue_fits p.events next.queue ≡ true
          fits = appended_fits p.events k.state.queue g.state.queue g.state.sized.items e x f l

          on : (b : Bool) → Ends Refusal (bind (require 9 b k) (change (set_queue next.queue))) (Good p)
          on true = change_good (set_queue next.queue)
              (λ u. queue_fit p next.queue u fits (appended_long k.state.queue e x ∙ g.state.sized.items)) k g
          on false = λ z. omega arith

module _ (p : Plan) (w : Well p) where
  row_at : (v : ℕ) → v < length p.vars → row_fits (var_row p.vars v) ≡ true
  unfolding var_row
  row_at v l = each_at (λ r. row_fits r ≡ true) p.vars (well_rows p w) v l no_var

  held_at : (v : ℕ) (x : ℤ) → v < length p.vars → within_row (var_row p.vars v) (held (var_row p.vars v) x) ≡ true
  unfolding row_fits
  held_at v x l =
      let r = var_row p.vars v in
      held_in_row r x (and_left (le_z r.low r.first) _ (row_at v l)) (and_right (le_z r.low r.first) _ (row_at v l))

  assign_good : (v : ℕ) (x : ℤ) → v < length p.vars → Runs Refusal (Good p) (assign (var_row p.vars v) v x)
  unfolding assign of_plan
  assign_good v x l =
      let y = held (var_row p.vars v) x in
      then_runs Refusal (Good p) _ _ (emit_good p (changed v y) (l, held_at v x l))
      (change_good p (set_value v y) (λ u. value_fit p v y u w l (held_at v x l)))

  sent_fits : (e : ℕ) (x : ℤ) → 1 ≤ e → e ≤ p.events → in_range x ≡ true → event_fits p.events (pos e) x ≡ true
  unfolding event_fits
  sent_fits e x l m r =
      and_both (le_z (pos 1) (pos e)) _ (le-leb 1 e l) (and_both (le_z (pos e) (pos p.events)) _ (le-leb e p.events m) r)

  act_good : (a : ℤ) (x : Act) → ActFits (counts p) x → Runs Refusal (Good p) (perform p.vars a x)
  unfolding perform act_on act_var of_plan counts
  act_good a (set_to v x) f = assign_good v x f.0
  act_good a (add_to v x) f = look_runs Refusal (Good p) _ (λ k g. assign_good v (value_at k.state v +ℤ x) f.0)
  act_good a (take_to v) f = assign_good v a f
  act_good a (send e x) f =
      let h = sent_fits e x f.0 f.1 f.2 in
      then_runs Refusal (Good p) _ _ (emit_good p (sent e x) h) (enqueue_good p (pos e) x h)
  act_good a (tell x) f = emit_good p (told x) f

  store_fit : (q : Option ℕ) (s : ℕ) (u : State) → SlotFits (counts p) q → s < p.states → Fit p u → Fit p (store_in q s u)
  unfolding store_in counts
  store_fit None s u h l f = f
  store_fit (Some q) s u h l f = slot_fit p q s u h l f

  -- ---- one instruction

  -- OUT s q: the mark goes, and the slot of q, if there is one, takes s
  out_fit : (s : ℕ) (q : Option ℕ) → s < p.states → SlotFits (counts p) q → (u : State) → Fit p u
      → Fit p (store_in q s (set_active s false u))
  out_fit s q l m u f = store_fit q s (set_active s false u) m l (mark_fit p s false u l f)

  pub instr_good : (a : ℤ) (i : Instr) → InstrNamed p i → (k : Ctx) → Good p k
      → Ends Refusal (exec_now p.vars a i k) (λ m. Good p m.ctx)
  unfolding exec_now mark_entered mark_left of_plan counts
  instr_good a (go_in s) h k g = gone_on Refusal (Good p) (mark_entered s k)
      (then_runs Refusal (Good p) _ _ (emit_good p (entered s) h.1)
      (change_good p (set_active s true) (λ u. mark_fit p s true u h.1)) k g)
  instr_good a (go_out s q) h k g = gone_on Refusal (Good p) (mark_left q s k)
      (then_runs Refusal (Good p) _ _ (emit_good p (left s) h.1.0)
      (change_good p (λ u. store_in q s (set_active s false u)) (out_fit s q h.1.0 h.1.1)) k g)
  instr_good a (skip_out s n) h k g = either_way Refusal (Good p) (is_active k.state s) n k g
  instr_good a (skip_empty s n) h k g = either_way Refusal (Good p) (is_filled (slot k.state s)) n k g
  instr_good a (skip_full s n) h k g = either_way Refusal (Good p) (is_empty (slot k.state s)) n k g
  instr_good a (skip_not s d n) h k g = either_way Refusal (Good p) (holds_it d (slot k.state s)) n k g
  instr_good a (does x) h k g = gone_on Refusal (Good p) (perform p.vars a x k) (act_good a x h.1 k g)

  pub good_effects : Effects p Refusal (InstrNamed p) (Good p)
  good_effects = record { unsettled = λ e. omega arith; takes = λ x n. emit_good p (taken x.transition) n; does = instr_good }
