-- When a started state is foreign to a chart (01, answer 6), clause by clause. Assumes nothing.
use Rattle.std.specs.Prelude.{ℕ, zero, suc, Bool, true, false, not, cond, ◌&&◌, ◌||◌, List, [], ◌∷◌, map, length, get_or, drop, ℤ, pos, negsuc, eqb, leb, ltb}
use Rattle.std.specs.Int.Signed.{le_z}
use Rattle.sizes.specs.Sizes.{STATES, QUEUE}
use Rattle.numbers.specs.Equal.{eq_z}
use Rattle.numbers.specs.Range.{in_range}
use Rattle.queue.specs.Queue.{waiting}
use Rattle.queue.specs.declared.Item.{Item}
use Rattle.queue.specs.declared.Queue.{Queue}
use Rattle.meaning.specs.declared.State.{State}
use Rattle.meaning.specs.Lists.{keep, every, from}
use Rattle.meaning.specs.Chart.{Kind, kind_o, kind_a, kind_b, VarRow, Chart}
use Rattle.meaning.specs.Tree.{kind_of, is_o, all_states, is_child, children}
use Rattle.meaning.specs.Rules.{within_row}
use Rattle.meaning.specs.Widget.{is_active, slot, is_filled}

-- ---- "illegal configuration"

-- "one child of each o state in it and all children of each a state in it"
unfoldable pub children_legal : Chart → State → Kind → List ℕ → Bool
children_legal c u kind_o ds = eqb (length (keep (is_active u) ds)) 1
children_legal c u kind_a ds = every (is_active u) ds
children_legal c u kind_b ds = true

-- "exactly": below a state that is not in it nothing is
unfoldable pub legal_at : Chart → State → ℕ → Bool
legal_at c u s = elim (is_active u s) [
  | true ↦ children_legal c u (kind_of c s) (children c s)
  | false ↦ every (λ d. not (is_active u d)) (children c s)
]

-- "A legal configuration holds exactly the root, one child of each o state in it and all children of each a state in it"
unfoldable pub legal : Chart → State → Bool
legal c u = is_active u 0 && every (legal_at c u) (all_states c)

-- ---- "value out of range", and unused variables

unfoldable pub values_fit : List VarRow → List ℤ → Bool
values_fit [] xs = every (eq_z (pos 0)) xs
values_fit (r ∷ rs) [] = false
values_fit (r ∷ rs) (x ∷ xs) = within_row r x && values_fit rs xs

-- ---- "a slot neither -1 nor, at an o state, its child", or "a filled slot leading to an empty one"

-- what stands in a slot leads on: an o state's slot is filled, and that of each component of an a state
unfoldable pub leads_on : Chart → State → Kind → ℕ → Bool
leads_on c u kind_o d = is_filled (slot u d)
leads_on c u kind_a d = every (λ x. is_filled (slot u x)) (children c d)
leads_on c u kind_b d = true

unfoldable pub slot_fits : Chart → State → ℕ → ℤ → Bool
slot_fits c u s (pos d) = ltb d (length c.states) && (is_o (kind_of c s) && (is_child c s d && leads_on c u (kind_of c d) d))
slot_fits c u s (negsuc n) = eqb n 0

-- of every place: one that the chart has not holds -1, since it is no o state
unfoldable pub slots_fit : Chart → State → Bool
slots_fit c u = every (λ s. slot_fits c u s (get_or u.slots s (negsuc 0))) (from 0 STATES)

-- ---- "queue over 16 or with a wrong event or argument"

-- an event 1 to the count, and an argument in range
unfoldable pub event_fits : ℕ → ℤ → ℤ → Bool
event_fits events e a = le_z (pos 1) e && (le_z e (pos events) && in_range a)

unfoldable pub item_fits : ℕ → Item → Bool
item_fits events i = event_fits events i.event i.arg

unfoldable pub is_none : Item → Bool
is_none i = eq_z i.event (pos 0) && eq_z i.arg (pos 0)

unfoldable pub queue_fits : ℕ → Queue → Bool
queue_fits events q = leb q.len QUEUE && (every (item_fits events) (waiting q) && every is_none (drop q.len q.items))

-- ---- "an unused place holding something else"

unfoldable pub marks_fit : ℕ → State → Bool
marks_fit states u = every not (drop states u.active)

-- ---- the test

-- the chart's test in full: a started state is its own
unfoldable pub own : Chart → State → Bool
own c u = legal c u &&
    (marks_fit (length c.states) u && (values_fit c.vars u.vars && (slots_fit c u && queue_fits c.events u.queue)))

-- everything above, opened: for statements that compute
unfoldable pub foreign_open : ℕ
unfolding children_legal legal_at legal values_fit leads_on slot_fits slots_fit event_fits item_fits is_none queue_fits marks_fit own
foreign_open = 0
