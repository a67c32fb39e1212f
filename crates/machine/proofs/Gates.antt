-- The tests of a call in turn (01, "Answer numbers", the order): 5 first, then 7, 6; laws over plain variables. Assumes nothing.
use mathlib.Core.Path.{◌≡◌, refl, sym, ap, subst, ◌∙◌}
use Prim.Native.Nat.{ℕ}
use native.Mathlib.Omega.{arith}
use mathlib.Core.Bool.{Bool, true, false, cond}
use mathlib.Core.List.{List}
use lib.IntN.{ℤ}
use Rattle.meaning.specs.declared.State.{State}
use Rattle.meaning.specs.declared.Answer.{Answer}
use Rattle.meaning.specs.declared.plan.Counts.{Counts}
use Rattle.meaning.specs.Plan.{Plan}
use Rattle.meaning.specs.Steps.{refuse, Step, bind, ◌then◌, require}
use Rattle.meaning.specs.Widget.{Ctx}
use Rattle.meaning.specs.Calls.{as_found}
use Rattle.meaning.specs.Machine.{plan_start, plan_run, plan_post, plan_discard, plan_own}
use Rattle.meaning.specs.Machine.{plan_tests, machine_start, machine_run, machine_post, machine_discard}
use Rattle.meaning.specs.WellFormed.{counts_of, plan_by, well_formed}
use Rattle.examiner.specs.Examined.{examined}
use Rattle.plan_choice.specs.Heads.{Examined}

-- ---- "plan 5 first"

module _ (ns : List ℤ) {a : Answer} (e : a ≡ examined ns) where
  answer_by : (b : Bool) → a ≡ cond b (record { number = 0; place = 0 }) (record { number = 5; place = 0 }) → (a.number ≡ 0) → b ≡ true
  answer_by true f z = refl
  answer_by false f z = let y = ap (λ (x : Answer). x.number) f in absurd (omega (arith, y, z))

  answer_no : (b : Bool) → a ≡ cond b (record { number = 0; place = 0 }) (record { number = 5; place = 0 }) → (a.number ≡ 0
      → ⊥) → b ≡ false
  answer_no true f z = absurd (z (ap (λ (x : Answer). x.number) f))
  answer_no false f z = refl

  pub passed : a.number ≡ 0 → well_formed ns ≡ true
  unfolding examined
  passed z = answer_by (well_formed ns) e z

  pub failed : (a.number ≡ 0 → ⊥) → well_formed ns ≡ false
  unfolding examined
  failed z = answer_no (well_formed ns) e z

  pub was_examined : a.number ≡ 0 → {k : Counts} → k ≡ counts_of ns → Examined ns k
  was_examined z q = record { formed = passed z; counted = q }

  module _ (u : State) where
    by_start : (b : Bool) (n : ℕ) → well_formed ns ≡ b
        → machine_start ns u n ≡ elim b [ true ↦ plan_start (plan_by ns) u n | false ↦ as_found 5 0 u ]
    unfolding machine_start
    by_start b n f = subst (λ d. machine_start ns u n ≡ elim d [ true ↦ plan_start (plan_by ns) u n | false ↦ as_found 5 0 u ]) f refl

    by_run : (b : Bool) (n : ℕ) → well_formed ns ≡ b
        → machine_run ns u n ≡ elim b [ true ↦ plan_run (plan_by ns) u n | false ↦ as_found 5 0 u ]
    unfolding machine_run
    by_run b n f = subst (λ d. machine_run ns u n ≡ elim d [ true ↦ plan_run (plan_by ns) u n | false ↦ as_found 5 0 u ]) f refl

    by_post : (b : Bool) (x y : ℤ) → well_formed ns ≡ b
        → machine_post ns u x y ≡ elim b [ true ↦ plan_post (plan_by ns) u x y | false ↦ as_found 5 0 u ]
    unfolding machine_post
    by_post b x y f = subst (λ d. machine_post ns u x y ≡ elim d [ true ↦ plan_post (plan_by ns) u x y | false ↦ as_found 5 0 u ]) f refl

    by_discard : (b : Bool) → well_formed ns ≡ b
        → machine_discard ns u ≡ elim b [ true ↦ plan_discard (plan_by ns) u | false ↦ as_found 5 0 u ]
    unfolding machine_discard
    by_discard b f = subst (λ d. machine_discard ns u ≡ elim d [ true ↦ plan_discard (plan_by ns) u | false ↦ as_found 5 0 u ]) f refl

    told_by : (b : Bool) → a ≡ cond b (record { number = 0; place = 0 }) (record { number = 5; place = 0 }) → (a.number ≡ 0 → ⊥)
        → as_found 5 0 u ≡ as_found a.number a.place u
    told_by true f z = absurd (z (ap (λ (x : Answer). x.number) f))
    told_by false f z = ap (λ (x : Answer). as_found x.number x.place u) (sym f)

    module _ (z : a.number ≡ 0 → ⊥) where
      as_told : as_found 5 0 u ≡ as_found a.number a.place u
      unfolding examined
      as_told = told_by (well_formed ns) e z

      pub start_5 : (n : ℕ) → machine_start ns u n ≡ as_found a.number a.place u
      start_5 n = by_start false n (failed z) ∙ as_told

      pub run_5 : (n : ℕ) → machine_run ns u n ≡ as_found a.number a.place u
      run_5 n = by_run false n (failed z) ∙ as_told

      pub post_5 : (x y : ℤ) → machine_post ns u x y ≡ as_found a.number a.place u
      post_5 x y = by_post false x y (failed z) ∙ as_told

      pub discard_5 : machine_discard ns u ≡ as_found a.number a.place u
      discard_5 = by_discard false (failed z) ∙ as_told

    module _ (z : a.number ≡ 0) where
      pub start_is : (n : ℕ) → machine_start ns u n ≡ plan_start (plan_by ns) u n
      start_is n = by_start true n (passed z)

      pub run_is : (n : ℕ) → machine_run ns u n ≡ plan_run (plan_by ns) u n
      run_is n = by_run true n (passed z)

      pub post_is : (x y : ℤ) → machine_post ns u x y ≡ plan_post (plan_by ns) u x y
      post_is x y = by_post true x y (passed z)

      pub discard_is : machine_discard ns u ≡ plan_discard (plan_by ns) u
      discard_is = by_discard true (passed z)

-- ---- "then 7, 6"

module _ {s : Bool} (o : Bool) (E : Step Ctx) (k : Ctx) where
  gate_7 : s ≡ false → ((require 7 s then require 6 o) then E) k ≡ refuse 7
  unfolding require ◌then◌ bind
  gate_7 e = rw e

  gate_6 : s ≡ true → o ≡ false → ((require 7 s then require 6 o) then E) k ≡ refuse 6
  unfolding require ◌then◌ bind
  gate_6 e f = rw (e, f)

  gate_on : s ≡ true → o ≡ true → ((require 7 s then require 6 o) then E) k ≡ E k
  unfolding require ◌then◌ bind
  gate_on e f = rw (e, f)

-- the plan machine's own test
abbrev pub owns : Plan → State → Bool
owns p u = plan_own p.states p.vars p.events u

module _ (p : Plan) (u : State) (E : Step Ctx) (k : Ctx) where
  pub tests_7 : u.started ≡ false → (plan_tests p u then E) k ≡ refuse 7
  unfolding plan_tests
  tests_7 e = gate_7 (owns p u) E k e

  pub tests_6 : u.started ≡ true → owns p u ≡ false → (plan_tests p u then E) k ≡ refuse 6
  unfolding plan_tests
  tests_6 e f = gate_6 (owns p u) E k e f

  pub tests_on : u.started ≡ true → owns p u ≡ true → (plan_tests p u then E) k ≡ E k
  unfolding plan_tests
  tests_on e f = gate_on (owns p u) E k e f

-- a test that is met, or not
module _ (n : ℕ) {b : Bool} (E : Step Ctx) (k : Ctx) where
  pub require_no : b ≡ false → (require n b then E) k ≡ refuse n
  unfolding require ◌then◌ bind
  require_no e = rw e

  pub require_on : b ≡ true → (require n b then E) k ≡ E k
  unfolding require ◌then◌ bind
  require_on e = rw e
