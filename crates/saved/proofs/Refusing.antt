-- Numbers that state no widget are refused by every run, post and discard on a chart that passes the rules or on a well-formed plan: 7
-- where the first number is 0 or there is none, else 6. Assumes nothing.
use mathlib.Core.Path.{◌≡◌, refl, ap}
use mathlib.Core.Bool.{Bool, true, false, not}
use mathlib.Core.List.{List}
use Prim.Native.Nat.{ℕ}
use lib.IntN.{ℤ, pos}
use lib.ListN.{get_or}
use Rattle.numbers.specs.Equal.{eq_z}
use Rattle.meaning.specs.declared.State.{State}
use Rattle.meaning.specs.Answers.{FOREIGN, NOT_STARTED}
use Rattle.meaning.specs.Chart.{Chart}
use Rattle.meaning.specs.Plan.{Plan}
use Rattle.meaning.specs.Steps.{refuse, Step, ◌then◌, bind, require}
use Rattle.meaning.specs.Widget.{Ctx, is_active}
use Rattle.meaning.specs.Foreign.{own, legal}
use Rattle.meaning.specs.Calls.{outcome, as_found, tests, run, post, discard}
use Rattle.meaning.specs.Machine.{plan_tests, plan_run, plan_post, plan_discard, plan_own}
use Rattle.promises.specs.Saved.{states_widget, no_widget, widget_of}

-- what the calls answer to a widget with no state active
abbrev pub answered : Bool → ℕ
answered true = FOREIGN
answered false = NOT_STARTED

pub no_widget_of : (ns : List ℤ) → states_widget ns ≡ false → widget_of ns ≡ no_widget (not (eq_z (get_or ns 0 (pos 0)) (pos 0)))
unfolding widget_of
no_widget_of ns h = rw h

then_refused : (f g : Step Ctx) (k : Ctx) (n : ℕ) → f k ≡ refuse n → (f then g) k ≡ refuse n
unfolding ◌then◌ bind
then_refused f g k n e = rw e

module _ (started : Bool) where
  abbrev none : State
  none = no_widget started

  tests_refuse : (c : Chart) (k : Ctx) → tests c none k ≡ refuse (answered started)
  unfolding tests ◌then◌ bind require no_widget own legal is_active
  tests_refuse c k = elim started as (λ b. tests c (no_widget b) k ≡ refuse (answered b)) [
    | true ↦ refl
    | false ↦ refl
  ]

  plan_tests_refuse : (p : Plan) (k : Ctx) → plan_tests p none k ≡ refuse (answered started)
  unfolding plan_tests ◌then◌ bind require no_widget plan_own is_active
  plan_tests_refuse p k = elim started as (λ b. plan_tests p (no_widget b) k ≡ refuse (answered b)) [
    | true ↦ refl
    | false ↦ refl
  ]

  pub run_refused : (c : Chart) (n : ℕ) → run c none n ≡ as_found (answered started) 0 none
  unfolding run outcome
  run_refused c n = ap (outcome none) (then_refused (tests c none) _ _ _ (tests_refuse c _))

  pub post_refused : (c : Chart) (e a : ℤ) → post c none e a ≡ as_found (answered started) 0 none
  unfolding post outcome
  post_refused c e a = ap (outcome none) (then_refused (tests c none) _ _ _ (tests_refuse c _))

  pub discard_refused : (c : Chart) → discard c none ≡ as_found (answered started) 0 none
  unfolding discard outcome
  discard_refused c = ap (outcome none) (then_refused (tests c none) _ _ _ (tests_refuse c _))

  pub plan_run_refused : (p : Plan) (n : ℕ) → plan_run p none n ≡ as_found (answered started) 0 none
  unfolding plan_run outcome
  plan_run_refused p n = ap (outcome none) (then_refused (plan_tests p none) _ _ _ (plan_tests_refuse p _))

  pub plan_post_refused : (p : Plan) (e a : ℤ) → plan_post p none e a ≡ as_found (answered started) 0 none
  unfolding plan_post outcome
  plan_post_refused p e a = ap (outcome none) (then_refused (plan_tests p none) _ _ _ (plan_tests_refuse p _))

  pub plan_discard_refused : (p : Plan) → plan_discard p none ≡ as_found (answered started) 0 none
  unfolding plan_discard outcome
  plan_discard_refused p = ap (outcome none) (then_refused (plan_tests p none) _ _ _ (plan_tests_refuse p _))
