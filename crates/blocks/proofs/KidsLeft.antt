-- The children of a descent that counts the states left: one level of what is entered; none where none is left; on the way to a goal.
-- Assumes nothing.
use mathlib.Core.Path.{◌≡◌, refl, ap, subst, ◌∙◌}
use Prim.Native.Nat.{ℕ, zero, suc, ◌-◌, ◌<◌}
use native.Mathlib.Omega.{arith}
use mathlib.Core.List.{◌∷◌}
use lib.ListN.{length}
use Rattle.meaning.specs.Chart.{Chart}
use Rattle.meaning.specs.Entry.{Way, below, goes_on}
use Rattle.meaning.specs.Lists.{concat_map, from, keep}
use Rattle.meaning.specs.Tree.{kind_of, is_child}
use Rattle.tree.specs.Courses.{defaulting, goal_way, visit_as, way_by, Kids}
use Rattle.tree.specs.declared.ways.Next.{Next}
use Rattle.tree.specs.declared.ways.Goal.{Goal}
use Rattle.blocks.specs.Kids.{KidsLeft}

-- with a state left, that level is what is entered first
pub kids_left : (c : Chart) (way : Way) (s left first end : ℕ) → (left ≡ 0 → ⊥) → Kids c way s first end → KidsLeft c way s left first end
unfolding below
kids_left c way s zero first end n g = absurd (n refl)
kids_left c way s (suc f) first end n g =
    let e : f ≡ suc f - 1 = omega arith in
    record {
      within = g.within;
      more = λ l. omega arith;
      goes = λ w q. ap (goes_on c (below c w f) s (kind_of c s)) q ∙ g.level (below c w f)
          ∙ ap (λ k. concat_map (λ d. visit_as (defaulting (kind_of c s) way) s d ∷ below c w k d)
          (keep (is_child c s) (from first (end - first)))) e;
    }

-- with none left nothing is entered
pub kids_none : (c : Chart) (way : Way) (s left : ℕ) → left ≡ 0 → s < length c.states → KidsLeft c way s left s s
unfolding below concat_map keep from
kids_none c way s left z l = record {
  within = omega arith;
  more = λ m. absurd (omega arith);
  goes = λ w q. let n : s - s ≡ 0 = omega arith in rw (z, n);
}

pub goal_kids_left : (c : Chart) (goal : Goal) (s left first end : ℕ) (next : Next) → way_by next ≡ goal_way c goal s
    → KidsLeft c (way_by next) s left first end → KidsLeft c (goal_way c goal s) s left first end
goal_kids_left c goal s left first end next e k = subst (λ w. KidsLeft c w s left first end) e k
