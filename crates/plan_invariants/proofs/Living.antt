-- Lists of calls over a well-formed plan that never leaves the root and whose start block begins with IN 0 (01, answer 6): from a widget
-- not yet started no list of starts, posts, runs and discards, with any arguments and rooms, ever gives 6. Assumes nothing.
use mathlib.Core.Path.{◌∙◌, ◌≡◌, ap, refl, subst, sym}
use mathlib.Core.Logic.{◌⊎◌, inl, inr, ⊎_elim}
use Prim.Native.Nat.{ℕ}
use native.Mathlib.Omega.{arith}
use mathlib.Core.Bool.{false, true, true≢false}
use mathlib.Core.List.{List, [], ◌∷◌}
use lib.IntN.{ℤ}
use Rattle.agreement.proofs.Calling.{plan_make}
use Rattle.agreement.specs.PlanCalls.{machine_make}
use Rattle.invariants.specs.CallLists.{Call, answers, to_discard, to_post, to_run, to_start}
use Rattle.invariants.specs.Good.{Sized}
use Rattle.laws.proofs.Lists.{same_or}
use Rattle.laws.specs.Facts.{Each, none_left, one_more}
use Rattle.meaning.specs.Calls.{outcome, as_found, take_front}
use Rattle.meaning.specs.Effects.{enqueue}
use Rattle.meaning.specs.Foreign.{event_fits}
use Rattle.meaning.specs.Lists.{has}
use Rattle.meaning.specs.Machine.{plan_discard, plan_post, plan_react, plan_run, plan_tests, plan_own}
use Rattle.meaning.specs.Plan.{Plan}
use Rattle.meaning.specs.Steps.{Step, ◌then◌, bind, refuse, require}
use Rattle.meaning.specs.WellFormed.{plan_by, well_formed}
use Rattle.meaning.specs.Widget.{Ctx, begin}
use Rattle.meaning.specs.declared.State.{State}
use Rattle.plan_invariants.proofs.Answering.{AnyInstr, OneOf, Whatever, answer_of, each_any, formed, marking, plan_answer}
use Rattle.plan_invariants.proofs.AnyNumbers.{machine_facts, stays_sized}
use Rattle.plan_invariants.proofs.Marks.{On, append_marked, front_marked, react_marked}
use Rattle.plan_invariants.proofs.Root.{Owned, machine_own}
use Rattle.plan_invariants.proofs.Walk.{Runs}
use Rattle.plan_invariants.specs.Answers.{may_give}
use Rattle.plan_invariants.specs.Root.{never_leaves_root, starts_in_root}
use Rattle.queue.specs.Queue.{removed}

-- not started, or started and passing the machine's test
abbrev pub Lived : Plan → State → Type 0
Lived p u = (u.started ≡ false) ⊎ Owned p u

-- ---- a call from such a state

-- what may be given once the tests are passed
abbrev LEFT : List ℕ
LEFT = 0 ∷ 8 ∷ 9 ∷ 10 ∷ 11 ∷ 12 ∷ []

module _ (p : Plan) (u : State) (F : Step Ctx) (k : Ctx) where
  tests_pass : Owned p u → (plan_tests p u then F) k ≡ F k
  unfolding plan_tests ◌then◌ require bind
  tests_pass h =
      ap (λ b. bind (bind (require 7 b k) (require 6 (plan_own p.states p.vars p.events u))) F) h.0
      ∙ ap (λ b. bind (require 6 b k) F) h.1

  tests_7 : u.started ≡ false → (plan_tests p u then F) k ≡ refuse 7
  unfolding plan_tests ◌then◌ require bind
  tests_7 e = ap (λ b. bind (bind (require 7 b k) (require 6 (plan_own p.states p.vars p.events u))) F) e

  tested_not_6 : On Whatever k → Runs (OneOf LEFT) (On Whatever) F → Lived p u → (outcome u ((plan_tests p u then F) k)).number ≡ 6 → ⊥
  unfolding outcome as_found has
  tested_not_6 t f (inl e) q = let z : ◌≡◌ {A = ℕ} 7 6 = sym (ap (λ r. (outcome u r).number) (tests_7 e)) ∙ q in omega (arith, z)
  tested_not_6 t f (inr h) q =
      let a : has (outcome u (F k)).number LEFT ≡ true = answer_of LEFT u (F k) refl (f k t) in
      true≢false (sym a ∙ ap (λ r. has (outcome u r).number LEFT) (sym (tests_pass h)) ∙ ap (λ n. has n LEFT) q)

plan_not_6 : (p : Plan) (u : State) → Lived p u → (x : Call) → (plan_make p x u).number ≡ 6 → ⊥
unfolding plan_make plan_run plan_post plan_discard has may_give
plan_not_6 p u l (to_start n) q = true≢false (sym (plan_answer p u (to_start n)) ∙ ap (λ m. has m (may_give (to_start n))) q)
plan_not_6 p u l (to_run n) q = tested_not_6 p u (plan_react p (removed u.queue)) (begin u n) tt
    (react_marked p (OneOf LEFT) AnyInstr Whatever (marking LEFT refl refl refl) (each_any p.code) (removed u.queue)
    (front_marked (OneOf LEFT) Whatever refl (removed u.queue))) l q
plan_not_6 p u l (to_post e a) q = tested_not_6 p u (require 10 (event_fits p.events e a) then enqueue e a) (begin u 0) tt
    (append_marked (OneOf LEFT) Whatever refl refl (event_fits p.events e a) e a) l q
plan_not_6 p u l to_discard q =
    tested_not_6 p u (take_front (removed u.queue)) (begin u 0) tt (front_marked (OneOf LEFT) Whatever refl (removed u.queue)) l q

-- ---- lists of calls

module _ (ns : List ℤ) (w : well_formed ns ≡ true) (never : never_leaves_root (plan_by ns) ≡ true)
    (starts : starts_in_root (plan_by ns) ≡ true) where
  machine_not_6 : (x : Call) (u : State) → Lived (plan_by ns) u → (machine_make ns x u).number ≡ 6 → ⊥
  machine_not_6 x u l q = plan_not_6 (plan_by ns) u l x (ap (λ o. o.number) (sym (formed ns w x u)) ∙ q)

  machine_lives : (x : Call) (u : State) → Sized u → Lived (plan_by ns) u → Lived (plan_by ns) (machine_make ns x u).after
  machine_lives x u z l =
      ⊎_elim (λ e. inr (machine_own ns w never starts x u z e))
      (λ e. subst (Lived (plan_by ns)) (sym ((machine_facts ns x u z).rolled_back e).0) l)
      (same_or (machine_make ns x u).number 0)

  pub lived_never_6 : (xs : List Call) (u : State) → Sized u → Lived (plan_by ns) u → Each (λ n. n ≡ 6 → ⊥) (answers (machine_make ns) xs u)
  unfolding answers
  lived_never_6 [] u z l = none_left
  lived_never_6 (x ∷ xs) u z l =
      one_more (machine_not_6 x u l) (lived_never_6 xs (machine_make ns x u).after (stays_sized ns x u z) (machine_lives x u z l))

  -- from a widget not yet started
  pub never_6 : (xs : List Call) (u : State) → Sized u → u.started ≡ false → Each (λ n. n ≡ 6 → ⊥) (answers (machine_make ns) xs u)
  never_6 xs u z e = lived_never_6 xs u z (inl e)
