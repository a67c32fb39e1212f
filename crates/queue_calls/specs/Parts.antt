-- Parts of the test for answer 6 (01, "Answer numbers") as the functions compute them, and an answer without entries. Assumes nothing.
use Rattle.std.specs.Prelude.{Option, None, Some}
use Rattle.std.specs.Prelude.{◌≡◌, ℕ, ◌<◌, Bool, true, false, cond, ◌&&◌, List, [], length, get_or, ℤ, pos, negsuc, ltb, eqb}
use Rattle.sizes.specs.Sizes.{STATES}
use Rattle.numbers.specs.Equal.{eq_z}
use Rattle.meaning.specs.declared.chart.Kind.{Kind}
use Rattle.meaning.specs.declared.chart.Kind.TheVariants.{O as kind_o, A as kind_a, B as kind_b}
use Rattle.meaning.specs.declared.chart.VarRow.{VarRow}
use Rattle.meaning.specs.Lists.{every, keep, from}
use Rattle.meaning.specs.Chart.{Chart}
use Rattle.meaning.specs.Tree.{parent_of, kind_of, is_o, is_child, var_row, children}
use Rattle.meaning.specs.Rules.{within_row}
use Rattle.meaning.specs.declared.State.{State}
use Rattle.meaning.specs.Widget.{slot, is_filled}
use Rattle.meaning.specs.Foreign.{slots_fit}
use Rattle.meaning.specs.Calls.{Outcome}
use Rattle.queue_calls.specs.declared.own.Tally.{Tally}

-- how many children a state has, and how many of them are marked
unfoldable pub tally_of : Chart → List Bool → ℕ → Tally
tally_of c marks s = record { all = length (children c s); on = length (keep (λ d. get_or marks d false) (children c s)) }

-- before any child is counted
abbrev pub no_children : Tally
no_children = record { all = 0; on = 0 }

-- the same of every state
pub record Tallied (c : Chart) (marks : List Bool) (tallies : List Tally) : Type 0 where
  pub long : length tallies ≡ STATES
  pub told : (s : ℕ) → s < STATES → get_or tallies s no_children ≡ tally_of c marks s

-- "value out of range", or an unused variable that is not 0
unfoldable pub value_fits : List VarRow → ℕ → ℤ → Bool
value_fits rs v x = cond (ltb v (length rs)) (within_row (var_row rs v) x) (eq_z (pos 0) x)

-- ---- "a filled slot leading to an empty one", where `whole` says whether the slots of all components are filled

unfoldable pub leads_if : Bool → State → Kind → ℕ → Bool
leads_if whole u kind_o d = is_filled (slot u d)
leads_if whole u kind_a d = whole
leads_if whole u kind_b d = true

-- "a slot neither -1 nor, at an o state, its child"
unfoldable pub slot_if : Bool → Chart → State → ℕ → ℤ → Bool
slot_if whole c u s (pos d) = ltb d (length c.states) && (is_o (kind_of c s) && (is_child c s d && leads_if whole u (kind_of c d) d))
slot_if whole c u s (negsuc n) = eqb n 0

unfoldable pub slots_if : Bool → Chart → State → Bool
slots_if whole c u = every (λ s. slot_if whole c u s (get_or u.slots s (negsuc 0))) (from 0 STATES)

-- a slot that holds d
unfoldable pub is_at : ℕ → Option ℕ → Bool
is_at d None = false
is_at d (Some e) = eqb e d

unfoldable pub in_slot_as : Chart → State → Kind → ℕ → Bool
in_slot_as c u kind_o p = false
in_slot_as c u kind_a p = is_at p (slot u (parent_of c p))
in_slot_as c u kind_b p = false

-- an a state in the slot of its parent
unfoldable pub in_slot : Chart → State → ℕ → Bool
in_slot c u p = in_slot_as c u (kind_of c p) p

-- what a look at the components alone adds to the test of the slots without one
abbrev pub Completes : Chart → State → Bool → Type 0
Completes c u r = (r && slots_if true c u) ≡ slots_fit c u

-- "0 done", with no trace entry
unfoldable pub quiet : State → Outcome
quiet u = record { number = 0; place = 0; after = u; trace = [] }
