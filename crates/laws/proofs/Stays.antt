-- What a step keeps of all that it works on, where it goes on: one lemma for each word in which steps are written; and what the
-- writing of entries and the changes of a state keep, every step of a reaction keeps. Assumes nothing.
use Rattle.std.specs.Prelude.{Option, None, Some}
use mathlib.Core.Path.{◌≡◌, refl}
use Prim.Native.Nat.{suc, zero, ℕ}
use mathlib.Core.Bool.{Bool, false, true}
use mathlib.Core.List.{List, [], ◌∷◌, reverse}
use lib.IntN.{◌+ℤ◌, pos, ℤ}
use Rattle.laws.specs.Facts.{Each, none_left, one_more}
use Rattle.laws.proofs.Steps.{Holds, holds_bind}
use Rattle.meaning.specs.Calls.{react, start_steps, take_front}
use Rattle.meaning.specs.Chart.{Chart}
use Rattle.meaning.specs.Effects.{act_on, act_var, acts_of, assign, enqueue, enter, leave, mark_entered, mark_left, perform}
use Rattle.meaning.specs.Effects.{perform_all, take_queue}
use Rattle.meaning.specs.Entry.{Visit, all_below, by_default, by_defaults, by_slots, plain, restore, restore_by, revisit, visit}
use Rattle.meaning.specs.Entry.{visit_towards}
use Rattle.meaning.specs.Reaction.{chosen, fire, fire_to, if_any, leave_active, leave_all, settle, settle_in, step}
use Rattle.meaning.specs.Steps.{Step, ◌then◌, each, look, require, skip, when}
use Rattle.meaning.specs.Tree.{var_row}
use Rattle.meaning.specs.Widget.{Ctx, change, emit, slot, value_at}
use Rattle.meaning.specs.declared.Entry.{Entry}
use Rattle.meaning.specs.declared.State.{State}
use Rattle.meaning.specs.declared.chart.Act.{Act}
use Rattle.meaning.specs.declared.chart.Act.TheVariants.{AddTo as add_to, Send as send, SetTo as set_to, TakeTo as take_to, Tell as tell}
use Rattle.meaning.specs.declared.chart.Owner.{Owner}
use Rattle.meaning.specs.declared.chart.Owner.TheVariants.{DefaultOf as default_of, EntryOf as entry_of, ExitOf as exit_of}
use Rattle.meaning.specs.declared.chart.Owner.TheVariants.{TransitionOf as transition_of}
use Rattle.meaning.specs.declared.chart.Target.{Target}
use Rattle.meaning.specs.declared.chart.Target.TheVariants.{History as history, InPlace as in_place, To as to}
use Rattle.meaning.specs.declared.chart.VarRow.{VarRow}
use Rattle.queue.specs.Queue.{Removed}
use Rattle.sizes.specs.Sizes.{NULL_STEPS}

abbrev pub Stays : (Ctx → Type 0) → Step Ctx → Type 0
Stays P F = (k : Ctx) → P k → Holds (F k) P

module _ (P : Ctx → Type 0) where
  pub then_stays : (F G : Step Ctx) → Stays P F → Stays P G → Stays P (F then G)
  unfolding ◌then◌
  then_stays F G f g k h = holds_bind P P (F k) G (f k h) g

  pub each_stays : {A : Type 0} (F : A → Step Ctx) (R : A → Type 0)
      → ((x : A) → R x → Stays P (F x)) → (xs : List A) → Each R xs → Stays P (each F xs)
  unfolding each
  each_stays F R f [] none_left k h = h
  each_stays F R f (x ∷ xs) (one_more r rs) k h = holds_bind P P (F x k) (each F xs) (f x r k h) (each_stays F R f xs rs)

  pub look_stays : (F : Ctx → Step Ctx) → ((k : Ctx) → P k → Stays P (F k)) → Stays P (look F)
  unfolding look
  look_stays F f k h = f k h k h

  pub when_stays : (b : Bool) (F : Step Ctx) → (b ≡ true → Stays P F) → Stays P (when b F)
  unfolding when
  when_stays true F f k h = f refl k h
  when_stays false F f k h = h

  pub each_stays_all : {A : Type 0} (F : A → Step Ctx) → ((x : A) → Stays P (F x)) → (xs : List A) → Stays P (each F xs)
  unfolding each
  each_stays_all F f [] k h = h
  each_stays_all F f (x ∷ xs) k h = holds_bind P P (F x k) (each F xs) (f x k h) (each_stays_all F f xs)

  pub require_stays : (n : ℕ) (b : Bool) → Stays P (require n b)
  unfolding require
  require_stays n true k h = h
  require_stays n false k h = tt

  pub if_any_stays : {A : Type 0} (xs : List A) (F : Step Ctx) → Stays P F → Stays P (if_any xs F)
  unfolding if_any skip
  if_any_stays [] F f k h = h
  if_any_stays (x ∷ xs) F f k h = f k h

-- ---- what every step of a reaction keeps, whatever the chart

-- entries and changes of the state keep P
pub record Plain (P : Ctx → Type 0) : Type 0 where
  pub entries : (e : Entry) → Stays P (emit e)
  pub changes : (f : State → State) → Stays P (change f)

module _ (P : Ctx → Type 0) (p : Plain P) where
  assign_plain : (r : VarRow) (v : ℕ) (x : ℤ) → Stays P (assign r v x)
  unfolding assign
  assign_plain r v x = then_stays P _ _ (p.entries _) (p.changes _)

  pub enqueue_plain : (e x : ℤ) → Stays P (enqueue e x)
  unfolding enqueue take_queue
  enqueue_plain e x = look_stays P _ (λ k h. then_stays P _ _ (require_stays P 9 _) (p.changes _))

  act_plain : (r : VarRow) (a : ℤ) (x : Act) → Stays P (act_on r a x)
  unfolding act_on
  act_plain r a (set_to v x) = assign_plain r v x
  act_plain r a (add_to v x) = look_stays P _ (λ k h. assign_plain r v (value_at k.state v +ℤ x))
  act_plain r a (take_to v) = assign_plain r v a
  act_plain r a (send e x) = then_stays P _ _ (p.entries _) (enqueue_plain (pos e) x)
  act_plain r a (tell x) = p.entries _

  module _ (c : Chart) where
    pub acts_plain : (a : ℤ) (o : Owner) → Stays P (perform_all c a o)
    unfolding perform_all perform
    acts_plain a o = each_stays_all P (perform c.vars a) (λ x. act_plain (var_row c.vars (act_var x)) a x) (acts_of c o)

    pub leave_plain : (a : ℤ) (s : ℕ) → Stays P (leave c a s)
    unfolding leave mark_left
    leave_plain a s = then_stays P _ _ (then_stays P _ _ (p.entries _) (p.changes _)) (acts_plain a (exit_of s))

    pub enter_plain : (a : ℤ) (s : ℕ) → Stays P (enter c a s)
    unfolding enter mark_entered
    enter_plain a s = then_stays P _ _ (then_stays P _ _ (p.entries _) (p.changes _)) (acts_plain a (entry_of s))

    pub visit_plain : (a : ℤ) (v : Visit) → Stays P (visit c a v)
    unfolding visit
    visit_plain a (plain s) = enter_plain a s
    visit_plain a (by_default d s) = then_stays P _ _ (acts_plain a (default_of d)) (enter_plain a s)

    leave_all_plain : (a : ℤ) (ss : List ℕ) → Stays P (leave_all c a ss)
    unfolding leave_all leave_active
    leave_all_plain a ss =
        each_stays_all P (leave_active c a) (λ s. look_stays P _ (λ k h. when_stays P _ _ (λ e. leave_plain a s))) (reverse ss)

    revisit_plain : (a : ℤ) (v : Visit) → Stays P (revisit c a v)
    unfolding revisit
    revisit_plain a v = then_stays P _ _ (visit_plain a v) (look_stays P _ (λ k h. when_stays P _ _ (λ e j g. tt)))

    pub restore_plain : (a : ℤ) (b : ℕ) → Stays P (restore c a b)
    unfolding restore restore_by
    restore_plain a b = look_stays P _ (λ k h. go k (slot k.state b))
      where
        go : (k : Ctx) (x : Option ℕ) → Stays P (restore_by c a b k.state x)
        go k None = each_stays_all P (visit c a) (visit_plain a) (all_below c by_defaults b)
        go k (Some d) = each_stays_all P (revisit c a) (revisit_plain a) (all_below c (by_slots k.state) b)

    towards_plain : (a : ℤ) (b : ℕ) (v : Visit) → Stays P (visit_towards c a b v)
    unfolding visit_towards
    towards_plain a b v = then_stays P _ _ (visit_plain a v) (when_stays P _ _ (λ e. restore_plain a b))

    fire_to_plain : (a : ℤ) (t s : ℕ) (x : Target) → Stays P (fire_to c a t s x)
    unfolding fire_to
    fire_to_plain a t s (to d) = then_stays P _ _ (leave_all_plain a _)
        (then_stays P _ _ (acts_plain a _) (each_stays_all P (visit c a) (visit_plain a) _))
    fire_to_plain a t s (history b) = then_stays P _ _ (leave_all_plain a _)
        (then_stays P _ _ (acts_plain a _) (each_stays_all P (visit_towards c a b) (towards_plain a b) _))
    fire_to_plain a t s in_place = acts_plain a (transition_of t)

    pub fire_plain : (a : ℤ) (t : ℕ) → Stays P (fire c a t)
    unfolding fire
    fire_plain a t = then_stays P _ _ (p.entries _) (fire_to_plain a t _ _)

    pub step_plain : (e : ℕ) (a : ℤ) → Stays P (step c e a)
    unfolding step
    step_plain e a = look_stays P _ (λ k h. each_stays_all P (fire c a) (fire_plain a) (chosen c e k.state))

    settle_in_plain : (n : ℕ) → Stays P (settle_in c n)
    unfolding settle_in
    settle_in_plain zero = look_stays P _ (λ k h. if_any_stays P (chosen c 0 k.state) _ (λ j g. tt))
    settle_in_plain (suc n) = look_stays P _
        (λ k h. if_any_stays P (chosen c 0 k.state) _ (then_stays P _ _ (step_plain 0 (pos 0)) (settle_in_plain n)))

    pub settle_plain : Stays P (settle c)
    unfolding settle
    settle_plain = settle_in_plain NULL_STEPS

    pub start_plain : Stays P (start_steps c)
    unfolding start_steps
    start_plain = then_stays P _ _
        (then_stays P _ _ (enter_plain (pos 0) 0) (each_stays_all P (visit c (pos 0)) (visit_plain (pos 0)) _)) settle_plain

    pub react_plain : (q : Removed) → Stays P (react c q)
    unfolding react take_front
    react_plain q = then_stays P _ _ (then_stays P _ _ (require_stays P 8 _) (p.changes _))
        (then_stays P _ _ (step_plain _ _) settle_plain)
