-- A step function that went on leaves a widget that is ready for the next: what its step keeps holds of what it left. Assumes nothing.
use Rattle.std.specs.Prelude.{Some, Ok}
use mathlib.Core.Path.{◌≡◌}
use Prim.Native.Nat.{ℕ, ◌<◌}
use mathlib.Core.Bool.{true}
use mathlib.Core.List.{List}
use lib.ListN.{length, get_or}
use lib.IntN.{ℤ, negsuc}
use Rattle.numbers.specs.Place.{place_of}
use Rattle.meaning.specs.Chart.{Chart}
use Rattle.meaning.specs.declared.State.{State}
use Rattle.meaning.specs.Steps.{Step}
use Rattle.meaning.specs.Tree.{is_child}
use Rattle.meaning.specs.Value.{chart_of}
use Rattle.meaning.specs.Widget.{Ctx}
use Rattle.laws.proofs.Value.{SizedChart, sized_chart}
use Rattle.laws.proofs.Stays.{Stays}
use Rattle.meaning.specs.Rules.{Ruled}
use Rattle.tree.proofs.Passing.{rules_passed}
use Rattle.tree.specs.Courses.{Led}
use Rattle.widget.specs.View.{ctx, Did}
use Rattle.acts.proofs.Marking.{did_keeps}
use Rattle.invariants.specs.Good.{Good}
use Rattle.invariants.proofs.Slots.{slot_child}
use Rattle.reaction.specs.Ready.{Ready}

pub sized : (v : List ℤ) → Ruled v → SizedChart (chart_of v)
sized v r = sized_chart v (rules_passed v r).0

pub ready_next : (c : Chart) {F : Step Ctx} → Stays (Good c) F → {u : State} {t : List ℤ} {at n : ℕ} {u₁ : State} {t₁ : List ℤ}
    → Did F u t at (Ok n) u₁ t₁ → Ready c u t at → Ready c u₁ t₁ n
ready_next c s d h = record { good = did_keeps (Good c) s d h.good; fits = d.fits }

-- the slots of a widget that is ready lead to children
pub ready_led : {c : Chart} {u : State} {t : List ℤ} {at : ℕ} → Ready c u t at → Led c u.slots
ready_led {c} {u} {t} {at} h = record { long = unfold ctx in h.good.sized.slots; holding = holding }
  where
    holding : (s d : ℕ) → place_of (get_or u.slots s (negsuc 0)) ≡ Some d → (is_child c s d ≡ true) × (d < length c.states)
    holding s d e =
        let q = slot_child c u.slots (unfold ctx in h.good.slots) s d e in
        (q.1, q.2)
