-- What the code of a descent asks and gives, in the words of the definitions (01, "Firing" and "History"): the ways as the code has them,
-- the children among which it looks, and slots that hold children. Assumes nothing.
use Rattle.std.specs.Prelude.{Option, None, Some}
use Rattle.std.specs.Prelude.{◌≡◌, ℕ, ◌-◌, ◌≤◌, ◌<◌, Bool, true, false, cond, List, ◌∷◌, length, get_or, eqb, ℤ, negsuc}
use Rattle.sizes.specs.Sizes.{STATES}
use Rattle.numbers.specs.Place.{place_of}
use Rattle.laws.specs.Facts.{Sound}
use Rattle.meaning.specs.Chart.{Chart}
use Rattle.meaning.specs.declared.chart.Kind.{Kind}
use Rattle.meaning.specs.declared.chart.Kind.TheVariants.{A as kind_a, B as kind_b, O as kind_o}
use Rattle.meaning.specs.Lists.{concat_map, first_that, from, has, keep}
use Rattle.meaning.specs.Steps.{Step}
use Rattle.meaning.specs.Tree.{ancestors, kind_of, is_child}
use Rattle.meaning.specs.Widget.{Ctx}
use Rattle.meaning.specs.Entry.{Visit, plain, by_default, Way, on_to, defaults, stops, goes_on, all_below, by_defaults, slot_way, towards}
use Rattle.meaning.specs.Entry.{towards_owner, visit, revisit, visit_towards}
use Rattle.tree.specs.declared.ways.Next.{Next}
use Rattle.tree.specs.declared.ways.Next.TheVariants.{OnTo, Defaults, Stops}
use Rattle.tree.specs.declared.ways.Goal.{Goal}
use Rattle.tree.specs.declared.ways.Goal.TheVariants.{Target, Owner}
use Rattle.tree.specs.declared.ways.Course.{Course}
use Rattle.tree.specs.declared.ways.Course.TheVariants.{Defaults as default_course, Slots as slot_course, Towards}

-- "the path from below the scope to the target": the child of s on it, where s is a proper ancestor of t
unfoldable pub path_child : Chart → ℕ → ℕ → Option ℕ
path_child c s t = cond (has s (ancestors c t)) (Some (first_that (is_child c s) (t ∷ ancestors c t))) None

-- how an o state goes on, as the code says it
abbrev pub way_by : Next → Way
way_by (OnTo d) = on_to d
way_by Defaults = defaults
way_by Stops = stops

-- "down by the slots": the way of a list of slots; by-slots of a state is that of its slots
abbrev pub slot_of : List ℤ → ℕ → Option ℕ
slot_of slots s = place_of (get_or slots s (negsuc 0))

unfoldable pub stored_way : List ℤ → ℕ → Way
stored_way slots s = slot_way (slot_of slots s)

-- the ways to a target, and to the owner of a history
abbrev pub goal_way : Chart → Goal → ℕ → Way
goal_way c (Target t) = towards c t
goal_way c (Owner b) = towards_owner c b

-- and how a state on them is entered
abbrev pub goal_visit : Chart → ℤ → Goal → Visit → Step Ctx
goal_visit c a (Target t) = visit c a
goal_visit c a (Owner b) = visit_towards c a b

-- the goal is a state of the chart
abbrev pub Inside : Chart → Goal → Type 0
Inside c (Target t) = t < length c.states
Inside c (Owner b) = b < length c.states

-- the ways of a descent: by default, by the slots, towards a goal
abbrev pub course_way : Chart → List ℤ → Course → ℕ → Way
course_way c slots default_course = by_defaults
course_way c slots slot_course = stored_way slots
course_way c slots (Towards goal) = goal_way c goal

-- how a state on them is entered
abbrev pub course_visit : Chart → ℤ → Course → Visit → Step Ctx
course_visit c a default_course = visit c a
course_visit c a slot_course = revisit c a
course_visit c a (Towards goal) = goal_visit c a goal

-- the same without what follows below the owner of a history
abbrev pub arrival : Chart → ℤ → Course → Visit → Step Ctx
arrival c a default_course = visit c a
arrival c a slot_course = revisit c a
arrival c a (Towards goal) = visit c a

-- whether it goes by the slots
abbrev pub restoring : Course → Bool
restoring default_course = false
restoring slot_course = true
restoring (Towards goal) = false

-- "If its slot is filled, its stored child is entered and so on down by the slots .. If empty, the default is taken"
abbrev pub restored : Option ℕ → Course
restored (Some d) = slot_course
restored None = default_course

-- how a descent goes on below s, which it just entered
abbrev pub onward_goal : List ℤ → Goal → ℕ → Course
onward_goal slots (Target t) s = Towards (Target t)
onward_goal slots (Owner b) s = cond (eqb s b) (restored (slot_of slots s)) (Towards (Owner b))

abbrev pub onward_from : List ℤ → Course → ℕ → Course
onward_from slots default_course s = default_course
onward_from slots slot_course s = slot_course
onward_from slots (Towards goal) s = onward_goal slots goal s

-- a goal is a state of the chart, the owner of a history an o state
abbrev pub Owned : Chart → Goal → Type 0
Owned c (Target t) = Unit {0}
Owned c (Owner b) = kind_of c b ≡ kind_o

abbrev pub Bound : Chart → Course → Type 0
Bound c default_course = Unit {0}
Bound c slot_course = Unit {0}
Bound c (Towards goal) = Inside c goal × Owned c goal

-- whether a state of this kind that goes on this way enters its child by default
unfoldable pub defaulting : Kind → Way → Bool
defaulting kind_o (on_to x) = false
defaulting kind_o defaults = true
defaulting kind_o stops = false
defaulting kind_a way = false
defaulting kind_b way = false

-- how a child d of p is entered
abbrev pub visit_as : Bool → ℕ → ℕ → Visit
visit_as true p d = by_default p d
visit_as false p d = plain d

-- an o state goes on with a child of its own
abbrev pub OnChild : Chart → ℕ → Way → Type 0
OnChild c s way = (d : ℕ) → kind_of c s ≡ kind_o → way ≡ on_to d → (is_child c s d ≡ true) × (d < length c.states)

-- there are as many slots as 01 has, and each is empty or holds a child of its state
pub record Led (c : Chart) (slots : List ℤ) : Type 0 where
  pub long : length slots ≡ STATES
  pub holding : (s d : ℕ) → slot_of slots s ≡ Some d → (is_child c s d ≡ true) × (d < length c.states)

-- what is entered below s, on a way that goes on so there, are those of the numbers from first up to below end that are its children, each
-- with what is below it; level: the same of one level, whatever is entered below the children
pub record Kids (c : Chart) (next : Way) (s first end : ℕ) : Type 0 where
  pub within : end ≤ length c.states
  pub level : (deep : ℕ → List Visit)
      → goes_on c deep s (kind_of c s) next ≡ concat_map
      (λ d. visit_as (defaulting (kind_of c s) next) s d ∷ deep d) (keep (is_child c s) (from first (end - first)))
  pub goes : (way : ℕ → Way) → Sound c way → way s ≡ next
      → all_below c way s ≡ concat_map
      (λ d. visit_as (defaulting (kind_of c s) next) s d ∷ all_below c way d) (keep (is_child c s) (from first (end - first)))
