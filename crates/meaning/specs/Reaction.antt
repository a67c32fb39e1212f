-- One reaction over the chart's tree (01, "One reaction"): enabled, chosen, firing, a step, null steps.
-- A step and null steps are defined once, over how transitions are chosen and how one fires. No plan, block or instruction.
-- Assumes nothing.
use Rattle.std.specs.Prelude.{ℕ, zero, suc, Bool, true, false, cond, ◌&&◌, List, [], ◌∷◌, ◌++◌, reverse, ℤ, pos, eqb}
use Rattle.std.specs.Int.Signed.{lt_z}
use Rattle.sizes.specs.Sizes.{NULL_STEPS}
use Rattle.numbers.specs.Equal.{eq_z}
use Rattle.meaning.specs.Answers.{UNSETTLED}
use Rattle.meaning.specs.declared.State.{State}
use Rattle.meaning.specs.Steps.{Res, refuse, Step, ◌then◌, skip, when, look, each}
use Rattle.meaning.specs.Lists.{has, keep, exists, concat_map}
use Rattle.meaning.specs.Chart.{Sign, equal, less, more, Guard, always, compares, Target, to, history, in_place, transition_of}
use Rattle.meaning.specs.Chart.{TransRow, Chart}
use Rattle.meaning.specs.Tree.{trans_row, all_states, all_transitions, descendants, scope, span}
use Rattle.meaning.specs.Widget.{Ctx, is_active, value_at, emit}
use Rattle.meaning.specs.declared.Entry.{Entry}
use Rattle.meaning.specs.declared.Entry.TheVariants.{Taken as taken}
use Rattle.meaning.specs.Effects.{perform_all, leave}
use Rattle.meaning.specs.Entry.{all_below, towards, towards_owner, visit, visit_towards}

-- ---- enabled

unfoldable pub compare_by : Sign → ℤ → ℤ → Bool
compare_by equal x y = eq_z x y
compare_by less x y = lt_z x y
compare_by more x y = lt_z y x

unfoldable pub guard_holds : Guard → State → Bool
guard_holds always u = true
guard_holds (compares v g x) u = compare_by g (value_at u v) x

unfoldable pub enabled_by : TransRow → ℕ → State → Bool
enabled_by r e u = eqb r.trigger e && (is_active u r.source && guard_holds r.guard u)

-- "Enabled: trigger equal, source active, guard true of the values before any firing in this step"
unfoldable pub enabled : Chart → ℕ → State → ℕ → Bool
enabled c e u t = enabled_by (trans_row c t) e u

-- ---- chosen

-- "by falling source then rising transition number"
unfoldable pub choosing_order : Chart → List ℕ → List ℕ
choosing_order c ts = concat_map (λ s. keep (λ t. eqb (trans_row c t).source s) ts) (reverse (all_states c))

unfoldable pub meets : List ℕ → List ℕ → Bool
meets xs ys = exists (λ x. has x ys) xs

-- "less any whose span meets that of one already chosen"; gone: the states of the spans already chosen
unfoldable pub thin : Chart → List ℕ → List ℕ → List ℕ
thin c gone [] = []
thin c gone (t ∷ ts) = elim (meets (span c t) gone) [
  | true ↦ thin c gone ts
  | false ↦ t ∷ thin c (span c t ++ gone) ts
]

-- "Chosen: the enabled, by falling source then rising transition number, less any whose span meets that of one already chosen"
unfoldable pub chosen : Chart → ℕ → State → List ℕ
chosen c e u = thin c [] (choosing_order c (keep (enabled c e u) (all_transitions c)))

-- ---- firing

unfoldable pub leave_active : Chart → ℤ → ℕ → Step Ctx
leave_active c a s = look (λ k. when (is_active k.state s) (leave c a s))

-- "the active states of the span are left, highest number first"
unfoldable pub leave_all : Chart → ℤ → List ℕ → Step Ctx
leave_all c a ss = each (leave_active c a) (reverse ss)

-- "Then the transition's actions. Then states are entered"; "A reaction in place leaves and enters nothing"
unfoldable pub fire_to : Chart → ℤ → ℕ → ℕ → Target → Step Ctx
fire_to c a t s (to d) =
    leave_all c a (descendants c (scope c s d))
    then perform_all c a (transition_of t)
    then each (visit c a) (all_below c (towards c d) (scope c s d))
fire_to c a t s (history b) =
    leave_all c a (descendants c (scope c s b))
    then perform_all c a (transition_of t)
    then each (visit_towards c a b) (all_below c (towards_owner c b) (scope c s b))
fire_to c a t s in_place = perform_all c a (transition_of t)

unfoldable pub fire : Chart → ℤ → ℕ → Step Ctx
fire c a t = emit (taken t) then fire_to c a t (trans_row c t).source (trans_row c t).target

-- ---- steps

-- "They fire in that order"
unfoldable pub step_by : {T : Type 0} → (ℕ → State → List T) → (ℤ → T → Step Ctx) → ℕ → ℤ → Step Ctx
step_by choosing firing e a = look (λ k. each (firing a) (choosing e k.state))

unfoldable pub if_any : {A S : Type 0} → List A → Step S → Step S
if_any [] f = skip
if_any (x ∷ xs) f = f

-- "null steps follow: trigger 0, argument 0, all chosen fire, until none is enabled"; n more are allowed, then 12
unfoldable pub settle_in_by : {T : Type 0} → (ℕ → State → List T) → (ℕ → ℤ → Step Ctx) → ℕ → Step Ctx
settle_in_by choosing one zero = look (λ k. if_any (choosing 0 k.state) (λ _. refuse UNSETTLED))
settle_in_by choosing one (suc n) = look (λ k. if_any (choosing 0 k.state) (one 0 (pos 0) then settle_in_by choosing one n))

unfoldable pub settle_by : {T : Type 0} → (ℕ → State → List T) → (ℕ → ℤ → Step Ctx) → Step Ctx
unfolding settle_in_by
settle_by choosing one = settle_in_by choosing one NULL_STEPS

-- ---- steps over the chart

unfoldable pub step : Chart → ℕ → ℤ → Step Ctx
unfolding step_by
step c e a = step_by (chosen c) (fire c) e a

unfoldable pub settle_in : Chart → ℕ → Step Ctx
unfolding settle_in_by
settle_in c n = settle_in_by (chosen c) (step c) n

unfoldable pub settle : Chart → Step Ctx
unfolding settle_by settle_in
settle c = settle_by (chosen c) (step c)

-- everything above, opened: for statements that compute
unfoldable pub reaction_open : ℕ
unfolding compare_by guard_holds enabled_by enabled choosing_order meets thin chosen leave_active leave_all fire_to fire step_by if_any
    settle_in_by settle_by step settle_in settle
reaction_open = 0
