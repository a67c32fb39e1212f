-- The arms, a visit on the way to a goal, a move and a block, put together from their parts; and how long each is. Assumes nothing.
use Rattle.std.specs.Prelude.{Option, None, Some}
use mathlib.Core.Path.{◌≡◌, refl, sym, ap, subst, ◌∙◌}
use Prim.Native.Nat.{ℕ, suc, ◌+◌, ◌<◌}
use mathlib.Core.Bool.{Bool, true, false}
use mathlib.Core.List.{List, [], ◌∷◌, ◌++◌, append-nil}
use native.Mathlib.Omega.{arith}
use borrow.Author.Tests.{eq-eqb, ne_eqb}
use lib.ListN.{length, length-append}
use lib.Dec.{eqb}
use lib.IntN.{ℤ}
use Rattle.laws.proofs.Scope.{scope_facts}
use Rattle.laws.specs.Facts.{TargetFacts}
use Rattle.meaning.specs.Chart.{Chart}
use Rattle.meaning.specs.declared.chart.Owner.TheVariants.{TransitionOf as transition_of}
use Rattle.meaning.specs.declared.chart.Target.{Target}
use Rattle.meaning.specs.declared.chart.TransRow.{TransRow}
use Rattle.meaning.specs.declared.plan.Instr.TheVariants.{SkipEmpty as skip_empty, SkipFull as skip_full}
use Rattle.meaning.specs.Lists.{concat_map}
use Rattle.meaning.specs.Tree.{kind_of, trans_row, descendants, scope}
use Rattle.meaning.specs.Entry.{Visit, state_of, below, all_below, by_defaults, Way}
use Rattle.meaning.specs.Compile.{code_acts, enter_code, visit_code, default_arm, stored_arm, arms_of, arms, towards_code}
use Rattle.meaning.specs.Compile.{exits_code, block_to, block, start_block}
use Rattle.meaning.specs.Value.{chart_of}
use Rattle.meaning.specs.Rules.{Ruled}
use Rattle.tree.proofs.Passing.{sound}
use Rattle.tree.specs.declared.ways.Goal.{Goal}
use Rattle.tree.specs.declared.ways.Goal.TheVariants.{Target as aim, Owner as owner}
use Rattle.tree.specs.Aims.{aim_by, aimed_at}
use Rattle.tree.specs.Courses.{goal_way, defaulting, visit_as, Inside}
use Rattle.tree.proofs.Aiming.{goes_by, stays_by, goal_facts, goal_bound}
use Rattle.emitter.specs.Pen.{Pen, emits, Room}
use Rattle.emitter.proofs.Laws.{put_first, put_both}
use Rattle.blocks.specs.Parts.{goal_code, move_code}
use Rattle.blocks.proofs.Putting.{put_as}

-- ---- the arms

module _ (c : Chart) (b n : ℕ) (e : n ≡ length c.states) where
  pub arm_as : default_arm c b ≡ concat_map (visit_code c) (below c by_defaults n b)
  unfolding default_arm all_below
  arm_as = ap (λ k. concat_map (visit_code c) (below c by_defaults k b)) (sym e)

  pub arms_put : (k m : ℕ) (p : Pen) {p₁ p₂ p₃ p₄ : Pen} → k ≡ length (default_arm c b) → m ≡ length (stored_arm c b)
      → p₁ ≡ emits (skip_full b k ∷ []) p → p₂ ≡ emits (concat_map (visit_code c) (below c by_defaults n b)) p₁
      → p₃ ≡ emits (skip_empty b m ∷ []) p₂ → p₄ ≡ emits (stored_arm c b) p₃ → p₄ ≡ emits (arms c b) p
  unfolding arms arms_of
  arms_put k m p {p₁} {p₂} {p₃} q r f g h j =
      put_first _ _ p (f ∙ ap (λ x. emits (skip_full b x ∷ []) p) q)
      (put_both _ _ p₁ (put_as _ _ p₁ arm_as g) (put_first _ _ p₂ (h ∙ ap (λ x. emits (skip_empty b x ∷ []) p₂) r) j))

pub arms_long : (c : Chart) (b : ℕ) → length (arms c b) ≡ suc (length (default_arm c b) + suc (length (stored_arm c b)))
unfolding arms arms_of
arms_long c b = ap suc (length-append (default_arm c b) (skip_empty b (length (stored_arm c b)) ∷ stored_arm c b))

-- ---- the start block

module _ (c : Chart) (n : ℕ) (e : n ≡ length c.states) where
  pub start_as : start_block c ≡ enter_code c 0 ++ concat_map (visit_code c) (below c by_defaults n 0)
  unfolding start_block all_below
  start_as = ap (λ k. enter_code c 0 ++ concat_map (visit_code c) (below c by_defaults k 0)) (sym e)

-- ---- a visit on the way to a goal

state_entered : (x : Bool) (p s : ℕ) → state_of (visit_as x p s) ≡ s
unfolding state_of
state_entered true p s = refl
state_entered false p s = refl

module _ (c : Chart) (goal : Goal) (p s : ℕ) (w : Way) (e : w ≡ goal_way c goal p) where
  the_visit : visit_as (defaulting (kind_of c p) w) p s ≡ visit_as (defaulting (kind_of c p) (goal_way c goal p)) p s
  the_visit = ap (λ x. visit_as (defaulting (kind_of c p) x) p s) e

  begins : (g : Goal) (v : Visit) → length (visit_code c v) + 0 < suc (length (goal_code c g v))
  unfolding towards_code
  begins (aim t) v = omega arith
  begins (owner b) v = omega (arith, length-append (visit_code c v) (elim (eqb (state_of v) b) [ true ↦ arms c b | false ↦ [] ]))

  pub arrival_room : (at : ℕ) → Room (goal_code c goal (visit_as (defaulting (kind_of c p) (goal_way c goal p)) p s)) at
      → Room (visit_code c (visit_as (defaulting (kind_of c p) w) p s)) at
  arrival_room at r = omega (
    arith,
    ap (λ v. length (visit_code c v)) the_visit,
    begins goal (visit_as (defaulting (kind_of c p) (goal_way c goal p)) p s),
  )

  module _ (q : Pen) {q₁ : Pen} (f : q₁ ≡ emits (visit_code c (visit_as (defaulting (kind_of c p) w) p s)) q) where
    entered : q₁ ≡ emits (visit_code c (visit_as (defaulting (kind_of c p) (goal_way c goal p)) p s)) q
    entered = f ∙ ap (λ v. emits (visit_code c v) q) the_visit

    pub arrival_target : (t : ℕ) → goal ≡ aim t
        → q₁ ≡ emits (goal_code c goal (visit_as (defaulting (kind_of c p) (goal_way c goal p)) p s)) q
    arrival_target t g = entered ∙ ap (λ x. emits (goal_code c x (visit_as (defaulting (kind_of c p) (goal_way c goal p)) p s)) q) (sym g)

    module _ (b : ℕ) (g : goal ≡ owner b) where
      towards_is : (v : Visit) (x : Bool) → eqb (state_of v) b ≡ x
          → towards_code c b v ≡ visit_code c v ++ elim x [ true ↦ arms c b | false ↦ [] ]
      unfolding towards_code
      towards_is v x h = ap (λ y. visit_code c v ++ elim y [ true ↦ arms c b | false ↦ [] ]) h

      here : (x : Bool) → eqb s b ≡ x
          → goal_code c goal (visit_as (defaulting (kind_of c p) (goal_way c goal p)) p s)
          ≡ visit_code c (visit_as (defaulting (kind_of c p) (goal_way c goal p)) p s) ++ elim x [ true ↦ arms c b | false ↦ [] ]
      here x h =
          ap (λ y. goal_code c y (visit_as (defaulting (kind_of c p) (goal_way c goal p)) p s)) g
          ∙ towards_is (visit_as (defaulting (kind_of c p) (goal_way c goal p)) p s) x
          (ap (λ y. eqb y b) (state_entered (defaulting (kind_of c p) (goal_way c goal p)) p s) ∙ h)

      pub arrival_past : (s ≡ b → ⊥) → q₁ ≡ emits (goal_code c goal (visit_as (defaulting (kind_of c p) (goal_way c goal p)) p s)) q
      arrival_past n = put_as _ _ q (here false (ne_eqb s b n) ∙ append-nil _) entered

      pub arrival_long : s ≡ b → length (goal_code c goal (visit_as (defaulting (kind_of c p) (goal_way c goal p)) p s))
          ≡ length (visit_code c (visit_as (defaulting (kind_of c p) w) p s)) + length (arms c b)
      arrival_long n =
          ap length (here true (eq-eqb s b n))
          ∙ length-append (visit_code c (visit_as (defaulting (kind_of c p) (goal_way c goal p)) p s)) (arms c b)
          ∙ ap (λ v. length (visit_code c v) + length (arms c b)) (sym the_visit)

      pub arrival_owner : s ≡ b → {q₂ : Pen} → q₂ ≡ emits (arms c b) q₁
          → q₂ ≡ emits (goal_code c goal (visit_as (defaulting (kind_of c p) (goal_way c goal p)) p s)) q
      arrival_owner n h = put_as _ _ q (here true (eq-eqb s b n)) (put_both _ _ q entered h)

-- ---- a move, and a block

module _ (c : Chart) (t : ℕ) (goal : Goal) (top n : ℕ) (e : n ≡ length c.states) where
  pub move_as : move_code c t goal top
      ≡ exits_code c (descendants c top)
      ++ (code_acts c (transition_of t) ++ concat_map (goal_code c goal) (below c (goal_way c goal) n top))
  unfolding move_code all_below
  move_as = ap (λ k. exits_code c (descendants c top)
      ++ (code_acts c (transition_of t) ++ concat_map (goal_code c goal) (below c (goal_way c goal) k top))) (sym e)

  pub move_long : length (move_code c t goal top)
      ≡ length (exits_code c (descendants c top))
      + (length (code_acts c (transition_of t)) + length (concat_map (goal_code c goal) (below c (goal_way c goal) n top)))
  move_long =
      ap length move_as ∙ length-append (exits_code c (descendants c top))
      (code_acts c (transition_of t) ++ concat_map (goal_code c goal) (below c (goal_way c goal) n top))
      ∙ ap (λ k. length (exits_code c (descendants c top)) + k)
      (length-append (code_acts c (transition_of t)) (concat_map (goal_code c goal) (below c (goal_way c goal) n top)))

block_to_goes : (c : Chart) (t s : ℕ) (g : Target) (goal : Goal) → aim_by g ≡ Some goal
    → block_to c t s g ≡ move_code c t goal (scope c s (aimed_at goal))
unfolding block_to move_code
block_to_goes c t s = goes_by (λ g goal. block_to c t s g ≡ move_code c t goal (scope c s (aimed_at goal))) (λ d. refl) (λ b. refl)

block_to_stays : (c : Chart) (t s : ℕ) (g : Target) → aim_by g ≡ None → block_to c t s g ≡ code_acts c (transition_of t)
unfolding block_to
block_to_stays c t s = stays_by (λ g. block_to c t s g ≡ code_acts c (transition_of t)) refl

module _ (v : List ℤ) (r : Ruled v) (t : ℕ) (l : t < length (chart_of v).transitions) (row : TransRow) (e : row ≡ trans_row (chart_of v) t)
    {x : Option Goal} (q : x ≡ aim_by row.target) {goal : Goal} (o : x ≡ Some goal) {d : ℕ} (m : d ≡ aimed_at goal) where
  facts : TargetFacts (chart_of v) row.source row.target
  facts = subst (λ y. TargetFacts (chart_of v) y.source y.target) (sym e) ((sound v r).transitions t l).target

  pub goes_inside : {top : ℕ} → top ≡ scope (chart_of v) row.source d → Inside (chart_of v) goal × (top < length (chart_of v).states)
  goes_inside h =
      let f = goal_facts (chart_of v) row.source row.target goal (sym q ∙ o) facts in (
        (goal_bound (chart_of v) row.source row.target goal (sym q ∙ o) facts).0,
        omega (
          arith,
          h ∙ ap (scope (chart_of v) row.source) m,
          (scope_facts (chart_of v) (sound v r) row.source (aimed_at goal) f.2 f.1).inside,
        ),
      )

module _ (c : Chart) (t : ℕ) (row : TransRow) (e : row ≡ trans_row c t) {x : Option Goal} (q : x ≡ aim_by row.target) where
  block_of : block c t ≡ block_to c t row.source row.target
  unfolding block
  block_of = ap (λ y. block_to c t y.source y.target) (sym e)

  pub block_goes : {goal : Goal} → x ≡ Some goal → {d : ℕ} → d ≡ aimed_at goal → {top : ℕ} → top ≡ scope c row.source d
      → block c t ≡ move_code c t goal top
  block_goes {goal} o m f = block_of ∙ block_to_goes c t row.source row.target goal (sym q ∙ o)
      ∙ ap (move_code c t goal) (sym (f ∙ ap (scope c row.source) m))

  pub block_stays : x ≡ None → block c t ≡ code_acts c (transition_of t)
  block_stays o = block_of ∙ block_to_stays c t row.source row.target (sym q ∙ o)
