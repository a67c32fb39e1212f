-- The default arm behind the owner of a history does what going down by defaults does, from any context; entering leaves every slot
-- as it was, so that the test after the arm finds what the one before it found. Assumes nothing.
use mathlib.Core.Path.{◌≡◌}
use Prim.Native.Nat.{ℕ}
use mathlib.Core.List.{List}
use lib.IntN.{ℤ}
use Rattle.agreement.proofs.Entered.{visits_do}
use Rattle.agreement.proofs.Running.{Does}
use Rattle.invariants.proofs.Keeps.{Keeps, Outside, each_keeps, visit_leads}
use Rattle.meaning.specs.Chart.{Chart}
use Rattle.meaning.specs.Compile.{default_arm}
use Rattle.meaning.specs.Entry.{Visit, all_below, by_defaults, visit}
use Rattle.meaning.specs.Machine.{run_code}
use Rattle.meaning.specs.Steps.{each}
use Rattle.meaning.specs.Widget.{set_active, set_queue, set_value}
use Rattle.meaning.specs.declared.State.{State}

pub default_arm_does : (c : Chart) (a : ℤ) (b : ℕ)
    → Does (run_code c.vars a (default_arm c b)) (each (visit c a) (all_below c by_defaults b))
unfolding default_arm
default_arm_does c a b = visits_do c a (all_below c by_defaults b)

-- ---- entering keeps the slots

-- the slots are sl
abbrev pub SameSlots : List ℤ → State → Type 0
SameSlots sl u = u.slots ≡ sl

slots_outside : (sl : List ℤ) → Outside (SameSlots sl)
unfolding set_value set_queue
slots_outside sl = record { values = λ u v x h. h; queue = λ u q h. h }

pub visit_slots : (sl : List ℤ) (c : Chart) (a : ℤ) (v : Visit) → Keeps (SameSlots sl) (visit c a v)
unfolding set_active
visit_slots sl c a v = visit_leads (SameSlots sl) (SameSlots sl) (slots_outside sl) (slots_outside sl) c a v (λ u h. h)

pub visits_slots : (sl : List ℤ) (c : Chart) (a : ℤ) (vs : List Visit) → Keeps (SameSlots sl) (each (visit c a) vs)
visits_slots sl c a vs = each_keeps (SameSlots sl) (visit c a) (visit_slots sl c a) vs
