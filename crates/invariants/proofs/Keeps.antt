-- What a step leads to: from a state with one property to a state with another, where it goes on; where it refuses, the answer is
-- neither 6 nor 14. One lemma for each word in which steps are written. Assumes nothing.
use mathlib.Core.Path.{◌≡◌}
use Prim.Native.Nat.{ℕ}
use native.Mathlib.Omega.{arith}
use mathlib.Core.Bool.{Bool, false, true}
use mathlib.Core.List.{List, [], ◌∷◌}
use lib.Dec.{leb}
use lib.IntN.{◌+ℤ◌, pos, ℤ}
use Rattle.laws.proofs.Steps.{Holds}
use Rattle.meaning.specs.Chart.{Chart}
use Rattle.meaning.specs.Effects.{act_on, act_var, acts_of, assign, enqueue, enter, held, mark_entered, perform, perform_all, take_queue}
use Rattle.meaning.specs.Entry.{Visit, by_default, plain, state_of, visit}
use Rattle.meaning.specs.Steps.{Res, Step, ◌then◌, bind, each, look, ok, refuse, require}
use Rattle.meaning.specs.Tree.{var_row}
use Rattle.meaning.specs.Widget.{Ctx, ENTRY, change, emit, numbers, set_active, set_queue, set_value, value_at, add_numbers}
use Rattle.meaning.specs.declared.Entry.{Entry}
use Rattle.meaning.specs.declared.State.{State}
use Rattle.meaning.specs.declared.chart.Act.{Act}
use Rattle.meaning.specs.declared.chart.Act.TheVariants.{AddTo as add_to, Send as send, SetTo as set_to, TakeTo as take_to, Tell as tell}
use Rattle.meaning.specs.declared.chart.Owner.{Owner}
use Rattle.meaning.specs.declared.chart.Owner.TheVariants.{DefaultOf as default_of, EntryOf as entry_of}
use Rattle.meaning.specs.declared.chart.VarRow.{VarRow}
use Rattle.queue.specs.Queue.{appended}
use Rattle.queue.specs.declared.Queue.{Queue}
use Rattle.queue.specs.Queue.{Queued}

-- no refusal of a started state that is its chart's own: 6, 14, or 0, which is no refusal
abbrev pub Fine : ℕ → Type 0
Fine n = (n ≡ 6 → ⊥) × (n ≡ 14 → ⊥) × (n ≡ 0 → ⊥)

-- what holds where a step goes on, and that it refuses with another number than 6 and 14
abbrev pub Gives : {A : Type 0} → Res A → (A → Type 0) → Type 0
Gives (ok a) P = P a
Gives (refuse n) P = Fine n

pub gives_bind : {A B : Type 0} (P : A → Type 0) (Q : B → Type 0) (r : Res A) (g : A → Res B)
    → Gives r P → ((a : A) → P a → Gives (g a) Q) → Gives (bind r g) Q
unfolding bind
gives_bind P Q (ok a) g h n = n a h
gives_bind P Q (refuse e) g h n = h

pub gives_map : {A : Type 0} (P Q : A → Type 0) (r : Res A) → Gives r P → ((a : A) → P a → Q a) → Gives r Q
gives_map P Q (ok a) h n = n a h
gives_map P Q (refuse e) h n = h

pub gives_holds : {A : Type 0} (P Q : A → Type 0) (r : Res A) → Gives r P → Holds r Q → Gives r (λ a. P a × Q a)
gives_holds P Q (ok a) h g = (h, g)
gives_holds P Q (refuse e) h g = h

pub gives_both : {A : Type 0} (P Q : A → Type 0) (r : Res A) → Gives r P → Gives r Q → Gives r (λ a. P a × Q a)
gives_both P Q (ok a) h g = (h, g)
gives_both P Q (refuse e) h g = h

pub holds_of : {A : Type 0} (P : A → Type 0) (r : Res A) → Gives r P → Holds r P
holds_of P (ok a) h = h
holds_of P (refuse e) h = tt

-- ---- from a state with Q to one with R

abbrev pub Leads : (State → Type 0) → (State → Type 0) → Step Ctx → Type 0
Leads Q R F = (k : Ctx) → Q k.state → Gives (F k) (λ j. R j.state)

abbrev pub Keeps : (State → Type 0) → Step Ctx → Type 0
Keeps Q F = Leads Q Q F

pub then_leads : (Q R S : State → Type 0) (F G : Step Ctx) → Leads Q R F → Leads R S G → Leads Q S (F then G)
unfolding ◌then◌
then_leads Q R S F G f g k h = gives_bind (λ j. R j.state) (λ j. S j.state) (F k) G (f k h) g

pub each_keeps : {A : Type 0} (Q : State → Type 0) (F : A → Step Ctx) → ((x : A) → Keeps Q (F x)) → (xs : List A) → Keeps Q (each F xs)
unfolding each
each_keeps Q F f [] k h = h
each_keeps Q F f (x ∷ xs) k h = gives_bind (λ j. Q j.state) (λ j. Q j.state) (F x k) (each F xs) (f x k h) (each_keeps Q F f xs)

pub emit_keeps : (Q : State → Type 0) (e : Entry) → Keeps Q (emit e)
unfolding emit add_numbers ◌then◌ require bind
emit_keeps Q e k h = go (leb ENTRY k.room)
  where
    go : (b : Bool) → Gives (bind (require 11 b k) (add_numbers (numbers e))) (λ j. Q j.state)
    go true = h
    go false = (λ x. omega arith, λ x. omega arith, λ x. omega arith)

pub change_leads : (Q R : State → Type 0) (f : State → State) → ((u : State) → Q u → R (f u)) → Leads Q R (change f)
unfolding change
change_leads Q R f n k h = n k.state h

-- ---- what acts do not touch

pub record Outside (Q : State → Type 0) : Type 0 where
  pub values : (u : State) (v : ℕ) (x : ℤ) → Q u → Q (set_value v x u)
  pub queue : (u : State) (q : Queue) → Q u → Q (set_queue q u)

module _ (Q : State → Type 0) (o : Outside Q) where
  pub assign_keeps : (r : VarRow) (v : ℕ) (x : ℤ) → Keeps Q (assign r v x)
  unfolding assign
  assign_keeps r v x = then_leads Q Q Q _ _ (emit_keeps Q _) (change_leads Q Q _ (λ u. o.values u v (held r x)))

  pub enqueue_keeps : (e x : ℤ) → Keeps Q (enqueue e x)
  unfolding enqueue look take_queue ◌then◌ require bind
  enqueue_keeps e x k h = go (appended k.state.queue e x)
    where
      go : (q : Queued) → Gives (bind (require 9 q.done k) (change (set_queue q.queue))) (λ j. Q j.state)
      go q = on q.done
        where
          on : (b : Bool) → Gives (bind (require 9 b k) (change (set_queue q.queue))) (λ j. Q j.state)
          on true = change_leads Q Q _ (λ u. o.queue u q.queue) k h
          on false = (λ z. omega arith, λ z. omega arith, λ z. omega arith)

  pub act_keeps : (r : VarRow) (a : ℤ) (x : Act) → Keeps Q (act_on r a x)
  unfolding act_on look
  act_keeps r a (set_to v x) = assign_keeps r v x
  act_keeps r a (add_to v x) = λ k h. assign_keeps r v (value_at k.state v +ℤ x) k h
  act_keeps r a (take_to v) = assign_keeps r v a
  act_keeps r a (send e x) = then_leads Q Q Q _ _ (emit_keeps Q _) (enqueue_keeps (pos e) x)
  act_keeps r a (tell x) = emit_keeps Q _

  pub acts_keep : (c : Chart) (a : ℤ) (w : Owner) → Keeps Q (perform_all c a w)
  unfolding perform_all perform
  acts_keep c a w = each_keeps Q (perform c.vars a) (λ x. act_keeps (var_row c.vars (act_var x)) a x) (acts_of c w)

pub enter_leads : (Q R : State → Type 0)
    → Outside R → (c : Chart) (a : ℤ) (s : ℕ) → ((u : State) → Q u → R (set_active s true u)) → Leads Q R (enter c a s)
unfolding enter mark_entered
enter_leads Q R o c a s h =
    then_leads Q R R _ _ (then_leads Q Q R _ _ (emit_keeps Q _) (change_leads Q R _ h)) (acts_keep R o c a (entry_of s))

pub visit_leads : (Q R : State → Type 0) → Outside Q → Outside R
    → (c : Chart) (a : ℤ) (v : Visit) → ((u : State) → Q u → R (set_active (state_of v) true u)) → Leads Q R (visit c a v)
unfolding visit state_of
visit_leads Q R p o c a (plain s) h = enter_leads Q R o c a s h
visit_leads Q R p o c a (by_default d s) h = then_leads Q Q R _ _ (acts_keep Q p c a (default_of d)) (enter_leads Q R o c a s h)
