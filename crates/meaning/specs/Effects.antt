-- The effects of a reaction, one at a time (01, "One reaction"): the acts, leaving one state, entering one state.
-- The chart's reaction and the plan machine both consist of these. Assumes nothing.
use Rattle.std.specs.Prelude.{ℕ, zero, suc, Bool, true, false, cond, List, [], ◌∷◌, ℤ, pos, ◌+ℤ◌, eqb, Option, None, Some}
use Rattle.numbers.specs.Hold.{hold_z}
use Rattle.queue.specs.Queue.{appended}
use Rattle.queue.specs.Queue.{Queued}
use Rattle.meaning.specs.Answers.{QUEUE_FULL}
use Rattle.meaning.specs.declared.State.{State}
use Rattle.meaning.specs.Steps.{Res, ok, refuse, Step, ◌then◌, require, look, each}
use Rattle.meaning.specs.Lists.{concat_map}
use Rattle.meaning.specs.Chart.{Act, set_to, add_to, take_to, send, tell, Owner, entry_of, exit_of, default_of}
use Rattle.meaning.specs.Chart.{transition_of, VarRow, ActRow, Chart}
use Rattle.meaning.specs.Tree.{parent_of, kind_of, var_row, is_o}
use Rattle.meaning.specs.Widget.{Ctx, value_at, set_active, set_slot, set_value, set_queue, change, emit}
use Rattle.meaning.specs.declared.Entry.{Entry}
use Rattle.meaning.specs.declared.Entry.TheVariants.{Left as left, Entered as entered, Changed as changed, Sent as sent, Told as told}

-- ---- the acts

-- "Set, add and take hold the value at the nearer end of the variable's range"
unfoldable pub held : VarRow → ℤ → ℤ
held r x = hold_z x r.low r.high

-- the variable v, whose row is r, takes the value x
unfoldable pub assign : VarRow → ℕ → ℤ → Step Ctx
assign r v x = emit (changed v (held r x)) then change (set_value v (held r x))

-- the queue after an append, or 9 "queue full at post or send"
unfoldable pub take_queue : Queued → Step Ctx
take_queue q = require QUEUE_FULL q.done then change (set_queue q.queue)

-- "appends an event with an argument": what a post does once its tests are passed, and a send once its entry is written
unfoldable pub enqueue : ℤ → ℤ → Step Ctx
enqueue e x = look (λ k. take_queue (appended k.state.queue e x))

-- an act with the argument a of the event, over the row of its variable; "at a send 11 before 9"
unfoldable pub act_on : VarRow → ℤ → Act → Step Ctx
act_on r a (set_to v x) = assign r v x
act_on r a (add_to v x) = look (λ k. assign r v (value_at k.state v +ℤ x))
act_on r a (take_to v) = assign r v a
act_on r a (send e x) = emit (sent e x) then enqueue (pos e) x
act_on r a (tell x) = emit (told x)

-- the variable of an act; send and tell have none
unfoldable pub act_var : Act → ℕ
act_var (set_to v x) = v
act_var (add_to v x) = v
act_var (take_to v) = v
act_var (send e x) = 0
act_var (tell x) = 0

unfoldable pub perform : List VarRow → ℤ → Act → Step Ctx
perform vs a x = act_on (var_row vs (act_var x)) a x

-- ---- an owner's actions, "in line order"

unfoldable pub same_owner : Owner → Owner → Bool
same_owner (entry_of m) (entry_of n) = eqb m n
same_owner (entry_of m) (exit_of n) = false
same_owner (entry_of m) (default_of n) = false
same_owner (entry_of m) (transition_of n) = false
same_owner (exit_of m) (entry_of n) = false
same_owner (exit_of m) (exit_of n) = eqb m n
same_owner (exit_of m) (default_of n) = false
same_owner (exit_of m) (transition_of n) = false
same_owner (default_of m) (entry_of n) = false
same_owner (default_of m) (exit_of n) = false
same_owner (default_of m) (default_of n) = eqb m n
same_owner (default_of m) (transition_of n) = false
same_owner (transition_of m) (entry_of n) = false
same_owner (transition_of m) (exit_of n) = false
same_owner (transition_of m) (default_of n) = false
same_owner (transition_of m) (transition_of n) = eqb m n

unfoldable pub acts_in : List ActRow → Owner → List Act
acts_in [] o = []
acts_in (r ∷ rs) o = let rest = acts_in rs o in cond (same_owner o r.owner) (r.act ∷ rest) rest

unfoldable pub acts_of : Chart → Owner → List Act
acts_of c o = acts_in c.actions o

unfoldable pub perform_all : Chart → ℤ → Owner → Step Ctx
perform_all c a o = each (perform c.vars a) (acts_of c o)

-- ---- leaving one state

-- the parent of s if that is an o state
unfoldable pub o_parent : Chart → ℕ → Option ℕ
o_parent c zero = None
o_parent c (suc n) = cond (is_o (kind_of c (parent_of c (suc n)))) (Some (parent_of c (suc n))) None

unfoldable pub store_in : Option ℕ → ℕ → State → State
store_in None s u = u
store_in (Some p) s u = set_slot p s u

-- "leaving a state stores it in its o parent's slot"
unfoldable pub mark_left : Option ℕ → ℕ → Step Ctx
mark_left p s = emit (left s) then change (λ u. store_in p s (set_active s false u))

-- "its exit actions follow at once"
unfoldable pub leave : Chart → ℤ → ℕ → Step Ctx
leave c a s = mark_left (o_parent c s) s then perform_all c a (exit_of s)

-- ---- entering one state

unfoldable pub mark_entered : ℕ → Step Ctx
mark_entered s = emit (entered s) then change (set_active s true)

-- "each followed by its entry actions"
unfoldable pub enter : Chart → ℤ → ℕ → Step Ctx
enter c a s = mark_entered s then perform_all c a (entry_of s)

-- everything above, opened: for statements that compute
unfoldable pub effects_open : ℕ
unfolding held assign take_queue enqueue
    act_on act_var perform same_owner acts_in acts_of perform_all o_parent store_in mark_left leave mark_entered enter
effects_open = 0
