-- With which children a state goes on, kind by kind and way by way: what `goes_on`, `stored` and `next_of` cite. Assumes nothing.
use Rattle.std.specs.Prelude.{Option, None, Some}
use mathlib.Core.Path.{◌≡◌, refl, sym, ap, subst, ◌∙◌}
use Prim.Native.Nat.{ℕ, zero, suc, ◌+◌, ◌-◌, ◌≤◌, ◌<◌}
use mathlib.Core.Bool.{Bool, true, false, cond, true≢false, false≢true}
use mathlib.Core.List.{List, [], ◌∷◌, append-nil}
use native.Mathlib.Omega.{arith}
use lib.ListN.{length, get_or}
use lib.IntN.{ℤ, pos, negsuc}
use borrow.Author.Tests.{eq-eqb, ne_eqb}
use Rattle.sizes.specs.Sizes.{STATES}
use Rattle.numbers.specs.Place.{place_of}
use Rattle.laws.specs.Facts.{Sound}
use Rattle.laws.proofs.Lists.{is_false}
use Rattle.laws.proofs.Sound.{SoundChart, child_later}
use Rattle.laws.proofs.Tree.{keep_cut}
use Rattle.laws.proofs.Ways.{defaults_sound, towards_sound, owner_sound}
use Rattle.meaning.specs.Chart.{Chart}
use Rattle.meaning.specs.declared.chart.Kind.{Kind}
use Rattle.meaning.specs.declared.chart.Kind.TheVariants.{A as kind_a, B as kind_b, O as kind_o}
use Rattle.meaning.specs.Entry.{Visit, Way, on_to, defaults, stops, plain, goes_on, all_below, by_defaults, slot_way, towards}
use Rattle.meaning.specs.Entry.{towards_owner}
use Rattle.meaning.specs.Lists.{concat_map, from, keep, has, first_that}
use Rattle.meaning.specs.Tree.{kind_of, is_o, default_child, is_child, children, all_states, ancestors}
use Rattle.meaning.specs.Value.{chart_of}
use Rattle.meaning.specs.Rules.{Ruled}
use Rattle.tree.specs.Courses.{path_child}
use Rattle.tree.proofs.Passing.{sound}
use Rattle.tree.proofs.Levels.{all_goes}
use Rattle.tree.specs.Courses.{way_by, slot_of, stored_way, goal_way, course_way, defaulting, visit_as, OnChild, Inside, Bound, Led}
use Rattle.tree.specs.Courses.{Kids}
use Rattle.tree.specs.declared.ways.Next.{Next}
use Rattle.tree.specs.declared.ways.Next.TheVariants.{OnTo, Defaults, Stops}
use Rattle.tree.specs.declared.ways.Goal.{Goal}
use Rattle.tree.specs.declared.ways.Goal.TheVariants.{Target, Owner}
use Rattle.tree.specs.declared.ways.Course.{Course}
use Rattle.tree.specs.declared.ways.Course.TheVariants.{Defaults as default_course, Slots as slot_course, Towards}

-- ---- the children to enter

from_one : {B : Type 0} (g : ℕ → List B) (p : ℕ → Bool) (d : ℕ) → p d ≡ true → concat_map g (keep p (from d ((d + 1) - d))) ≡ g d
unfolding concat_map keep from
from_one g p d e =
    let n : (d + 1) - d ≡ 1 = omega arith in
    rw (n, e) (append-nil (g d))

from_none : {B : Type 0} (g : ℕ → List B) (p : ℕ → Bool) (d : ℕ) → concat_map g (keep p (from d (d - d))) ≡ []
unfolding concat_map keep from
from_none g p d = let n : d - d ≡ 0 = omega arith in rw n

-- one level of what is entered
record Goes (c : Chart) (way : Way) (s first end : ℕ) : Type 0 where
  pub within : end ≤ length c.states
  pub goes : (deep : ℕ → List Visit)
      → goes_on c deep s (kind_of c s) way ≡ concat_map
      (λ d. visit_as (defaulting (kind_of c s) way) s d ∷ deep d) (keep (is_child c s) (from first (end - first)))

-- that level is what is entered first
kids_of : (c : Chart) (next : Way) (s first end : ℕ) → s < length c.states → Goes c next s first end → Kids c next s first end
kids_of c next s first end l g = record {
  within = g.within;
  level = g.goes;
  goes = λ way h q. all_goes c way h s l ∙ ap (goes_on c (all_below c way) s (kind_of c s)) q ∙ g.goes (all_below c way);
}

module _ (c : Chart) (s : ℕ) (way : Way) where
  kids_one : (d : ℕ) → kind_of c s ≡ kind_o → way ≡ on_to d → is_child c s d ≡ true → d < length c.states → Goes c way s d (d + 1)
  unfolding goes_on defaulting
  kids_one d k w t l = record {
    within = omega arith;
    goes = λ deep. ap (λ x. goes_on c deep s x way) k ∙ ap (goes_on c deep s kind_o) w
        ∙ sym (from_one (λ x. visit_as (defaulting (kind_of c s) way) s x ∷ deep x) (is_child c s) d t
        ∙ ap (λ x. visit_as (defaulting x way) s d ∷ deep d) k ∙ ap (λ x. visit_as (defaulting kind_o x) s d ∷ deep d) w);
  }

  kids_default : kind_of c s ≡ kind_o → way ≡ defaults → is_child c s (default_child c s) ≡ true
      → default_child c s < length c.states → Goes c way s (default_child c s) (default_child c s + 1)
  unfolding goes_on defaulting
  kids_default k w t l = record {
    within = omega arith;
    goes = λ deep. ap (λ x. goes_on c deep s x way) k ∙ ap (goes_on c deep s kind_o) w
        ∙ sym (from_one (λ x. visit_as (defaulting (kind_of c s) way) s x ∷ deep x) (is_child c s) (default_child c s) t
        ∙ ap (λ x. visit_as (defaulting x way) s (default_child c s) ∷ deep (default_child c s)) k
        ∙ ap (λ x. visit_as (defaulting kind_o x) s (default_child c s) ∷ deep (default_child c s)) w);
  }

  kids_stop : kind_of c s ≡ kind_o → way ≡ stops → s < length c.states → Goes c way s s s
  unfolding goes_on
  kids_stop k w l = record {
    within = omega arith;
    goes = λ deep. ap (λ x. goes_on c deep s x way) k ∙ ap (goes_on c deep s kind_o) w
        ∙ sym (from_none (λ x. visit_as (defaulting (kind_of c s) way) s x ∷ deep x) (is_child c s) s);
  }

  kids_none : kind_of c s ≡ kind_b → s < length c.states → Goes c way s s s
  unfolding goes_on
  kids_none k l = record {
    within = omega arith;
    goes = λ deep. ap (λ x. goes_on c deep s x way) k
        ∙ sym (from_none (λ x. visit_as (defaulting (kind_of c s) way) s x ∷ deep x) (is_child c s) s);
  }

  children_after : SoundChart c → s < length c.states → children c s ≡ keep (is_child c s) (from (s + 1) (length c.states - (s + 1)))
  unfolding children all_states
  children_after h l =
      let n : length c.states ≡ (s + 1) + (length c.states - (s + 1)) = omega arith in
      ap (λ k. keep (is_child c s) (from 0 k)) n
      ∙ keep_cut (is_child c s) (s + 1) (length c.states - (s + 1)) (λ x m. is_false _
      (λ t. omega (arith, child_later c h.ordered s x t)))

  kids_all : SoundChart c → kind_of c s ≡ kind_a → s < length c.states → Goes c way s (s + 1) (length c.states)
  unfolding goes_on defaulting
  kids_all h k l = record {
    within = omega arith;
    goes = λ deep. ap (λ x. goes_on c deep s x way) k ∙ ap (concat_map (λ d. plain d ∷ deep d)) (children_after h l)
        ∙ ap (λ x. concat_map
        (λ d. visit_as (defaulting x way) s d ∷ deep d) (keep (is_child c s) (from (s + 1) (length c.states - (s + 1))))) (sym k);
  }

-- ---- as `goes_on` has them

module _ (v : List ℤ) (r : Ruled v) (s : ℕ) (l : s < length (chart_of v).states) (next : Next) (f : OnChild (chart_of v) s
    (way_by next)) (kind : Kind) (e : kind ≡ kind_of (chart_of v) s) where
  pub on_inside : (d : ℕ) → kind ≡ kind_o → next ≡ OnTo d → d < length (chart_of v).states
  on_inside d k n = (f d (sym e ∙ k) (ap way_by n)).1

  pub among_one : (d : ℕ) → kind ≡ kind_o → next ≡ OnTo d → Kids (chart_of v) (way_by next) s d (d + 1)
  among_one d k n = let g = f d (sym e ∙ k) (ap way_by n) in kids_of _ _ _ _ _ l (kids_one (chart_of v) s (way_by next) d (sym e
      ∙ k) (ap way_by n) g.0 g.1)

  pub default_inside : (d : ℕ) → kind ≡ kind_o → d ≡ default_child (chart_of v) s → d < length (chart_of v).states
  default_inside d k q = omega (arith, ((sound v r).default s (sym e ∙ k)).1)

  pub among_default : (d : ℕ) → kind ≡ kind_o → next ≡ Defaults → d ≡ default_child (chart_of v) s
      → Kids (chart_of v) (way_by next) s d (d + 1)
  among_default d k n q =
      let g = (sound v r).default s (sym e ∙ k) in
      kids_of _ _ _ _ _ l (subst
      (λ x. Goes (chart_of v) (way_by next) s x (x + 1)) (sym q) (kids_default (chart_of v) s (way_by next) (sym e
      ∙ k) (ap way_by n) g.0 g.1))

  pub among_stop : kind ≡ kind_o → next ≡ Stops → Kids (chart_of v) (way_by next) s s s
  among_stop k n = kids_of _ _ _ _ _ l (kids_stop (chart_of v) s (way_by next) (sym e ∙ k) (ap way_by n) l)

  pub among_all : kind ≡ kind_a → (n : ℕ) → n ≡ length (chart_of v).states → Kids (chart_of v) (way_by next) s (s + 1) n
  among_all k n q = kids_of _ _ _ _ _ l (subst (Goes (chart_of v) (way_by next) s (s + 1)) (sym q) (kids_all (chart_of v) s
      (way_by next) (sound v r) (sym e ∙ k) l))

  pub among_none : kind ≡ kind_b → Kids (chart_of v) (way_by next) s s s
  among_none k = kids_of _ _ _ _ _ l (kids_none (chart_of v) s (way_by next) (sym e ∙ k) l)

-- ---- by default or not

pub defaults_o : (k : Kind) → is_o k ≡ true → true ≡ defaulting k defaults
unfolding is_o defaulting
defaults_o kind_o e = refl
defaults_o kind_a e = absurd (false≢true e)
defaults_o kind_b e = absurd (false≢true e)

pub defaults_no : (k : Kind) (n : Next) → (n ≡ Defaults → ⊥) → false ≡ defaulting k (way_by n)
unfolding defaulting
defaults_no kind_o (OnTo d) e = refl
defaults_no kind_o Defaults e = absurd (e refl)
defaults_no kind_o Stops e = refl
defaults_no kind_a n e = refl
defaults_no kind_b n e = refl

pub defaults_other : (k : Kind) (way : Way) → is_o k ≡ false → false ≡ defaulting k way
unfolding is_o defaulting
defaults_other kind_o way e = absurd (true≢false e)
defaults_other kind_a way e = refl
defaults_other kind_b way e = refl

-- ---- the ways

get_d_any : {A : Type 0} (l : List A) (i : ℕ) (d e : A) → i < length l → get_or l i d ≡ get_or l i e
get_d_any [] i d e h = absurd (omega arith)
get_d_any (x ∷ xs) zero d e h = refl
get_d_any (x ∷ xs) (suc i) d e h = get_d_any xs i d e (omega arith)

-- what the code reads of a slot is what the definition reads
pub slot_read : (slots : List ℤ) (s : ℕ) → s < STATES → length slots ≡ STATES → (z : ℤ) → z ≡ get_or slots s (pos 0) → (p : Option ℕ)
    → p ≡ place_of z → p ≡ place_of (get_or slots s (negsuc 0))
slot_read slots s l n z e p q = q ∙ ap place_of (e ∙ get_d_any slots s (pos 0) (negsuc 0) (omega arith))

pub stored_on : (slots : List ℤ) (s d : ℕ) (p : Option ℕ) → p ≡ place_of (get_or slots s (negsuc 0)) → p ≡ Some d → on_to d ≡ stored_way slots s
unfolding stored_way slot_way
stored_on slots s d p e q = rw (← e, q)

pub stored_stop : (slots : List ℤ) (s : ℕ) (p : Option ℕ) → p ≡ place_of (get_or slots s (negsuc 0)) → p ≡ None → stops ≡ stored_way slots s
unfolding stored_way slot_way
stored_stop slots s p e q = rw (← e, q)

way_of_path : (c : Chart) (t s : ℕ) (p : Option ℕ) → path_child c s t ≡ p → towards c t s ≡ elim p [ None ↦ defaults | Some d ↦ on_to d ]
unfolding path_child towards
way_of_path c t s p e = go (has s (ancestors c t)) (first_that (is_child c s) (t ∷ ancestors c t))
    ∙ ap (λ x. elim x [ None ↦ defaults | Some d ↦ on_to d ]) e
  where
    go : (b : Bool) (x : ℕ) → cond b (on_to x) defaults ≡ elim (cond b (Some x) None) [ None ↦ defaults | Some d ↦ on_to d ]
    go true x = refl
    go false x = refl

pub path_on : (c : Chart) (t s d : ℕ) (p : Option ℕ) → p ≡ path_child c s t → p ≡ Some d → on_to d ≡ towards c t s
path_on c t s d p e q = sym (way_of_path c t s (Some d) (sym e ∙ q))

pub path_off : (c : Chart) (t s : ℕ) (p : Option ℕ) → p ≡ path_child c s t → p ≡ None → defaults ≡ towards c t s
path_off c t s p e q = sym (way_of_path c t s None (sym e ∙ q))

module _ (c : Chart) (goal : Goal) (s : ℕ) where
  pub goal_target : (t : ℕ) (next : Next) → goal ≡ Target t → way_by next ≡ towards c t s → way_by next ≡ goal_way c goal s
  goal_target t next g e = e ∙ sym (ap (λ x. goal_way c x s) g)

  pub goal_here : (b : ℕ) → goal ≡ Owner b → s ≡ b → stops ≡ goal_way c goal s
  unfolding towards_owner
  goal_here b g e = sym (ap (λ x. goal_way c x s) g ∙ ap (λ t. cond t stops (towards c b s)) (eq-eqb s b e))

  pub goal_owner : (b : ℕ) (next : Next) → goal ≡ Owner b → (s ≡ b → ⊥) → way_by next ≡ towards c b s → way_by next ≡ goal_way c goal s
  unfolding towards_owner
  goal_owner b next g n e = e ∙ sym (ap (λ x. goal_way c x s) g ∙ ap (λ t. cond t stops (towards c b s)) (ne_eqb s b n))

-- ---- with which child each way goes on

pub defaults_way : (s : ℕ) → by_defaults s ≡ defaults
unfolding by_defaults
defaults_way s = refl

pub defaults_on : (c : Chart) (s : ℕ) → OnChild c s defaults
defaults_on c s d k e = let z : ◌≡◌ {A = ℕ} 0 1 = cc in absurd (omega arith)

held_on : (p : Option ℕ) (d : ℕ) → slot_way p ≡ on_to d → p ≡ Some d
unfolding slot_way
held_on None d e = let z : ◌≡◌ {A = ℕ} 0 1 = cc in absurd (omega arith)
held_on (Some x) d e = let z : x ≡ d = cc in ap Some z

not_defaults : (p : Option ℕ) → slot_way p ≡ defaults → ⊥
unfolding slot_way
not_defaults None e = let z : ◌≡◌ {A = ℕ} 0 1 = cc in omega arith
not_defaults (Some d) e = let z : ◌≡◌ {A = ℕ} 0 1 = cc in omega arith

pub stored_sound : (v : List ℤ) → Ruled v → (slots : List ℤ) → Led (chart_of v) slots → Sound (chart_of v) (stored_way slots)
unfolding stored_way
stored_sound v r slots h = record {
  ordered = (sound v r).ordered;
  on = λ s d k e. h.holding s d (held_on (slot_of slots s) d e);
  by = λ s k e. absurd (not_defaults (slot_of slots s) e);
  leaf = (sound v r).leaf;
}

pub goal_child : (v : List ℤ) → Ruled v → (goal : Goal) → Inside (chart_of v) goal → (s : ℕ) (next : Next)
    → way_by next ≡ goal_way (chart_of v) goal s → OnChild (chart_of v) s (way_by next)
goal_child v r (Target t) l s next e d k q = (towards_sound (chart_of v) (sound v r) t l).on s d k (sym e ∙ q)
goal_child v r (Owner b) l s next e d k q = (owner_sound (chart_of v) (sound v r) b l).on s d k (sym e ∙ q)

pub goal_sound : (v : List ℤ) → Ruled v → (goal : Goal) → Inside (chart_of v) goal → Sound (chart_of v) (goal_way (chart_of v) goal)
goal_sound v r (Target t) l = towards_sound (chart_of v) (sound v r) t l
goal_sound v r (Owner b) l = owner_sound (chart_of v) (sound v r) b l

-- every course goes on with children
pub course_sound : (v : List ℤ) → Ruled v → (slots : List ℤ) → Led (chart_of v) slots → (course : Course) → Bound (chart_of v) course
    → Sound (chart_of v) (course_way (chart_of v) slots course)
course_sound v r slots l default_course b = defaults_sound (chart_of v) (sound v r)
course_sound v r slots l slot_course b = stored_sound v r slots l
course_sound v r slots l (Towards goal) b = goal_sound v r goal b.0

pub course_child : (v : List ℤ) → Ruled v → (slots : List ℤ) → Led (chart_of v) slots → (course : Course) → Bound (chart_of v) course
    → (s : ℕ) (next : Next) → way_by next ≡ course_way (chart_of v) slots course s → OnChild (chart_of v) s (way_by next)
course_child v r slots l course b s next e d k q = (course_sound v r slots l course b).on s d k (sym e ∙ q)
