-- Which states a firing enters, in which order (01, "Firing" and "History"): the itinerary, and entering it. Assumes nothing.
-- An itinerary is a list of visits; the way says with which child an o state goes on.
use Rattle.std.specs.Prelude.{ℕ, zero, suc, Bool, true, false, cond, ◌&&◌, List, [], ◌∷◌, length, ℤ, eqb, Option, None, Some}
use Rattle.meaning.specs.Answers.{SLOT_EMPTY}
use Rattle.meaning.specs.declared.State.{State}
use Rattle.meaning.specs.Steps.{Res, refuse, Step, ◌then◌, when, look, each}
use Rattle.meaning.specs.Lists.{has, first_that, concat_map}
use Rattle.meaning.specs.Chart.{Kind, kind_o, kind_a, kind_b, default_of, Chart}
use Rattle.meaning.specs.Tree.{kind_of, default_child, is_o, ancestors, is_child, children}
use Rattle.meaning.specs.Widget.{Ctx, slot, is_empty}
use Rattle.meaning.specs.Effects.{perform_all, enter}

-- a state entered on the path, as a component or by a slot; or by the default of its parent
pub data Visit : Type 0 where
  plain : ℕ → Visit
  by_default : ℕ → ℕ → Visit

unfoldable pub state_of : Visit → ℕ
state_of (plain s) = s
state_of (by_default p s) = s

-- with which child an o state goes on
pub data Way : Type 0 where
  on_to : ℕ → Way
  defaults : Way
  stops : Way

-- how s goes on: with one child if it is an o state, "in each a state every component"
unfoldable pub goes_on : Chart → (ℕ → List Visit) → ℕ → Kind → Way → List Visit
goes_on c deep s kind_o (on_to d) = plain d ∷ deep d
goes_on c deep s kind_o defaults = by_default s (default_child c s) ∷ deep (default_child c s)
goes_on c deep s kind_o stops = []
goes_on c deep s kind_a way = concat_map (λ d. plain d ∷ deep d) (children c s)
goes_on c deep s kind_b way = []

-- all that is entered below s, which itself is in (f: at least as many as there are states)
unfoldable pub below : Chart → (ℕ → Way) → ℕ → ℕ → List Visit
below c way zero s = []
below c way (suc f) s = goes_on c (below c way f) s (kind_of c s) (way s)

unfoldable pub all_below : Chart → (ℕ → Way) → ℕ → List Visit
all_below c way s = below c way (length c.states) s

-- ---- the ways

-- "the path from below the scope to the target; .. below that, defaults"
unfoldable pub towards : Chart → ℕ → ℕ → Way
towards c t s = cond (has s (ancestors c t)) (on_to (first_that (is_child c s) (t ∷ ancestors c t))) defaults

unfoldable pub by_defaults : ℕ → Way
by_defaults s = defaults

-- the same towards the owner b of a history, and no further; "Components off the path always go by default"
unfoldable pub towards_owner : Chart → ℕ → ℕ → Way
towards_owner c b s = cond (eqb s b) stops (towards c b s)

unfoldable pub slot_way : Option ℕ → Way
slot_way None = stops
slot_way (Some d) = on_to d

-- "and so on down by the slots"
unfoldable pub by_slots : State → ℕ → Way
by_slots u s = slot_way (slot u s)

-- ---- entering them

-- "A state entered by its parent's default has that default's actions run just before it"
unfoldable pub visit : Chart → ℤ → Visit → Step Ctx
visit c a (plain s) = enter c a s
visit c a (by_default p s) = perform_all c a (default_of p) then enter c a s

-- in a restore an o state whose slot is empty has no child to go on with: 14 "a restore meets an empty slot below its owner"
unfoldable pub revisit : Chart → ℤ → Visit → Step Ctx
revisit c a v =
    visit c a v then look (λ k. when (is_o (kind_of c (state_of v)) && is_empty (slot k.state (state_of v))) (λ _. refuse SLOT_EMPTY))

-- "If its slot is filled, its stored child is entered and so on down by the slots, without default actions. If empty, the default is taken"
unfoldable pub restore_by : Chart → ℤ → ℕ → State → Option ℕ → Step Ctx
restore_by c a b u None = each (visit c a) (all_below c by_defaults b)
restore_by c a b u (Some d) = each (revisit c a) (all_below c (by_slots u) b)

-- below the owner b, which itself is in
unfoldable pub restore : Chart → ℤ → ℕ → Step Ctx
restore c a b = look (λ k. restore_by c a b k.state (slot k.state b))

-- "History: the owner is entered", and then what its slot says
unfoldable pub visit_towards : Chart → ℤ → ℕ → Visit → Step Ctx
visit_towards c a b v = visit c a v then when (eqb (state_of v) b) (restore c a b)

-- everything above, opened: for statements that compute
unfoldable pub entry_open : ℕ
unfolding state_of goes_on below all_below
    towards by_defaults towards_owner slot_way by_slots visit revisit restore_by restore visit_towards
entry_open = 0
