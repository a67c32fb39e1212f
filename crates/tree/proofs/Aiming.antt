-- What holds of each form of a target holds of where it leads. Assumes nothing.
use Rattle.std.specs.Prelude.{None, Some}
use Rattle.std.specs.Prelude.{Option, None, Some}
use mathlib.Core.Path.{◌≡◌, refl, sym, ap, subst, ◌∙◌}
use Prim.Native.Nat.{ℕ, ◌<◌}
use native.Mathlib.Omega.{arith}
use mathlib.Core.Bool.{Bool, true, false, cond}
use mathlib.Core.List.{List}
use borrow.Author.Tests.{eq-eqb, ne_eqb}
use lib.Dec.{eqb}
use lib.ListN.{length}
use lib.IntN.{ℤ}
use Rattle.laws.specs.Facts.{TargetFacts}
use Rattle.meaning.specs.Chart.{Chart}
use Rattle.meaning.specs.Entry.{Way}
use Rattle.meaning.specs.declared.chart.Target.{Target}
use Rattle.meaning.specs.declared.chart.Target.TheVariants.{To as to, History as history, InPlace as in_place}
use Rattle.tree.specs.declared.ways.Goal.{Goal}
use Rattle.tree.specs.declared.ways.Goal.TheVariants.{Target as target, Owner as owner}
use Rattle.tree.specs.declared.ways.Course.{Course}
use Rattle.tree.specs.declared.ways.Course.TheVariants.{Defaults as default_course, Slots as slot_course, Towards}
use Rattle.tree.specs.Aims.{aim_by, aimed_at}
use Rattle.tree.specs.Courses.{slot_of, course_way, restored, onward_goal, onward_from, Inside, Owned, Bound}

same_goal : (x y : Goal) → Some x ≡ Some y → x ≡ y
same_goal x y e = cc

goes_not : (x : Goal) → None ≡ Some x → ⊥
goes_not x e = let z : ◌≡◌ {A = ℕ} 0 1 = cc in omega arith

pub goes_by : (P : Target → Goal → Type 0) → ((d : ℕ) → P (to d) (target d)) → ((b : ℕ) → P (history b) (owner b))
    → (g : Target) (goal : Goal) → aim_by g ≡ Some goal → P g goal
goes_by P f h (to d) goal e = subst (P (to d)) (same_goal (target d) goal e) (f d)
goes_by P f h (history b) goal e = subst (P (history b)) (same_goal (owner b) goal e) (h b)
goes_by P f h in_place goal e = absurd (goes_not goal e)

stays_not : (x : Goal) → Some x ≡ None → ⊥
stays_not x e = let z : ◌≡◌ {A = ℕ} 0 1 = cc in omega arith

pub stays_by : (P : Target → Type 0) → P in_place → (g : Target) → aim_by g ≡ None → P g
stays_by P f (to d) e = absurd (stays_not (target d) e)
stays_by P f (history b) e = absurd (stays_not (owner b) e)
stays_by P f in_place e = f

-- R6: the state aimed at is one of the chart, and neither it nor the source is the root
pub goal_facts : (c : Chart) (s : ℕ) (g : Target) (goal : Goal) → aim_by g ≡ Some goal → TargetFacts c s g
    → (aimed_at goal < length c.states) × (0 < aimed_at goal) × (0 < s)
goal_facts c s = goes_by (λ g goal. TargetFacts c s g → (aimed_at goal < length c.states) × (0 < aimed_at goal) × (0 < s))
    (λ d f. (f.0, f.1, f.2)) (λ b f. (f.0, f.1, f.3))

-- and the owner of a history is an o state
pub goal_bound : (c : Chart) (s : ℕ) (g : Target) (goal : Goal) → aim_by g ≡ Some goal → TargetFacts c s g → Inside c goal × Owned c goal
goal_bound c s = goes_by (λ g goal. TargetFacts c s g → Inside c goal × Owned c goal) (λ d f. (f.0, tt)) (λ b f. (f.0, f.2))

-- ---- courses

-- the way of a course, by what the course is
pub course_as : (c : Chart) (sl : List ℤ) (s : ℕ) {course x : Course} → course ≡ x → {w : Way} → w ≡ course_way c sl x s
    → w ≡ course_way c sl course s
course_as c sl s e q = q ∙ ap (λ y. course_way c sl y s) (sym e)

-- how a descent to a goal goes on, by what the goal is
module _ (sl : List ℤ) (s : ℕ) {goal : Goal} where
  pub onward_target : {t : ℕ} → goal ≡ target t → Towards goal ≡ onward_goal sl goal s
  onward_target e = subst (λ g. Towards g ≡ onward_goal sl g s) (sym e) refl

  module _ {b : ℕ} (e : goal ≡ owner b) where
    by_test : {x : Bool} → eqb s b ≡ x → {y : Course} → y ≡ cond x (restored (slot_of sl s)) (Towards (owner b)) → y ≡ onward_goal sl goal s
    by_test q {y} h = subst (λ g. y ≡ onward_goal sl g s) (sym e)
        (h ∙ ap (λ z. cond z (restored (slot_of sl s)) (Towards (owner b))) (sym q))

    pub onward_past : (s ≡ b → ⊥) → Towards (owner b) ≡ onward_goal sl goal s
    onward_past n = by_test (ne_eqb s b n) refl

    pub onward_owner : s ≡ b → {p : Option ℕ} → p ≡ slot_of sl s → {x : Option ℕ} → p ≡ x → restored x ≡ onward_goal sl goal s
    onward_owner n h y = by_test (eq-eqb s b n) (ap restored (sym y ∙ h))

-- how any descent goes on, by what its course is
pub onward_as : (sl : List ℤ) (s : ℕ) {course x : Course} → course ≡ x → {y : Course} → y ≡ onward_from sl x s
    → y ≡ onward_from sl course s
onward_as sl s e q = q ∙ ap (λ z. onward_from sl z s) (sym e)

-- the course that goes on is bound as the one before
pub onward_bound : (c : Chart) (sl : List ℤ) (s : ℕ) (course : Course) → Bound c course → Bound c (onward_from sl course s)
onward_bound c sl s default_course b = tt
onward_bound c sl s slot_course b = tt
onward_bound c sl s (Towards (target t)) b = b
onward_bound c sl s (Towards (owner o)) b = go (eqb s o) (slot_of sl s)
  where
    go : (x : Bool) (p : Option ℕ) → Bound c (cond x (restored p) (Towards (owner o)))
    go true (Some d) = tt
    go true None = tt
    go false p = b
