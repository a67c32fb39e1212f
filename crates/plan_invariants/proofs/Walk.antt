-- What every step of the plan machine keeps, where it goes on, and with which numbers it refuses: one lemma for each word in which
-- steps are written, then blocks, firing, steps and null steps, from what single instructions and the taking of a transition do.
-- Assumes nothing.
use mathlib.Core.Path.{◌≡◌, refl}
use Prim.Native.Nat.{suc, zero, ℕ}
use mathlib.Core.Bool.{Bool, false, true}
use mathlib.Core.List.{List, [], ◌∷◌}
use lib.ListN.{drop, take}
use lib.IntN.{pos, ℤ}
use lib.Dec.{eqb}
use borrow.Author.Tests.{eq-eqb}
use Rattle.plan_invariants.specs.Names.{of_plan}
use Rattle.laws.proofs.Lists.{each_kept, each_weaker, or_left, or_right}
use Rattle.laws.specs.Facts.{Each, none_left, one_more}
use Rattle.meaning.specs.Lists.{exists, keep}
use Rattle.meaning.specs.Machine.{Mach, chosen_heads, end_code, exec, exec_at, exec_now, fire_head, go_on, head_block, head_enabled, on_if}
use Rattle.meaning.specs.Machine.{passing, plan_settle, plan_settle_in, plan_step, run_block, run_code, spans_meet, thin_heads}
use Rattle.meaning.specs.Plan.{Plan}
use Rattle.meaning.specs.Reaction.{if_any}
use Rattle.meaning.specs.Steps.{Res, Step, ◌then◌, bind, each, look, ok, refuse, skip}
use Rattle.meaning.specs.Widget.{Ctx, emit}
use Rattle.meaning.specs.declared.Entry.TheVariants.{Taken as taken}
use Rattle.meaning.specs.declared.State.{State}
use Rattle.meaning.specs.declared.chart.VarRow.{VarRow}
use Rattle.meaning.specs.declared.plan.Head.{Head}
use Rattle.meaning.specs.declared.plan.Instr.{Instr}
use Rattle.sizes.specs.Sizes.{NULL_STEPS}

-- any refusal: 0 is none
abbrev pub Refusal : ℕ → Type 0
Refusal n = n ≡ 0 → ⊥

-- P of what a step gives, or R of the number with which it refuses
abbrev pub Ends : {A : Type 0} → (ℕ → Type 0) → Res A → (A → Type 0) → Type 0
Ends R (ok a) P = P a
Ends R (refuse n) P = R n

pub ends_bind : {A B : Type 0} (R : ℕ → Type 0) (P : A → Type 0) (Q : B → Type 0) (r : Res A) (g : A → Res B) → Ends R r P
    → ((a : A) → P a → Ends R (g a) Q) → Ends R (bind r g) Q
unfolding bind
ends_bind R P Q (ok a) g h f = f a h
ends_bind R P Q (refuse n) g h f = h

-- ---- the words in which steps are written

abbrev pub Runs : (ℕ → Type 0) → (Ctx → Type 0) → Step Ctx → Type 0
Runs R P F = (k : Ctx) → P k → Ends R (F k) P

module _ (R : ℕ → Type 0) (P : Ctx → Type 0) where
  pub then_runs : (F G : Step Ctx) → Runs R P F → Runs R P G → Runs R P (F then G)
  unfolding ◌then◌
  then_runs F G f g k h = ends_bind R P P (F k) G (f k h) g

  pub each_runs : {A : Type 0} (F : A → Step Ctx) (C : A → Type 0) → ((x : A) → C x → Runs R P (F x)) → (xs : List A) → Each C xs
      → Runs R P (each F xs)
  unfolding each
  each_runs F C f [] none_left k h = h
  each_runs F C f (x ∷ xs) (one_more c cs) k h = ends_bind R P P (F x k) (each F xs) (f x c k h) (each_runs F C f xs cs)

  pub look_runs : (F : Ctx → Step Ctx) → ((k : Ctx) → P k → Runs R P (F k)) → Runs R P (look F)
  unfolding look
  look_runs F f k h = f k h k h

  pub if_any_runs : {A : Type 0} (xs : List A) (F : Step Ctx) → Runs R P F → Runs R P (if_any xs F)
  unfolding if_any skip
  if_any_runs [] F f k h = h
  if_any_runs (x ∷ xs) F f k h = f k h

  -- ---- one instruction: after an effect nothing is passed over, and a skip changes nothing

  pub gone_on : (r : Res Ctx) → Ends R r P → Ends R (go_on r) (λ m. P m.ctx)
  unfolding go_on passing
  gone_on (ok k) h = h
  gone_on (refuse n) h = h

  pub either_way : (b : Bool) (n : ℕ) (k : Ctx) → P k → Ends R (on_if b n k) (λ m. P m.ctx)
  unfolding on_if passing
  either_way true n k h = h
  either_way false n k h = h

  -- ---- blocks

  module _ (vs : List VarRow) (a : ℤ) (C : Instr → Type 0)
      (f : (i : Instr) → C i → (k : Ctx) → P k → Ends R (exec_now vs a i k) (λ m. P m.ctx)) where
    pub exec_runs : (i : Instr) → C i → (m : Mach) → P m.ctx → Ends R (exec vs a i m) (λ j. P j.ctx)
    unfolding exec exec_at passing
    exec_runs i c m h = at m.over
      where
        at : (n : ℕ) → Ends R (exec_at vs a n i m.ctx) (λ j. P j.ctx)
        at zero = f i c m.ctx h
        at (suc n) = h

    pub code_runs : (is : List Instr) → Each C is → (m : Mach) → P m.ctx → Ends R (run_code vs a is m) (λ j. P j.ctx)
    unfolding run_code each
    code_runs [] none_left m h = h
    code_runs (i ∷ is) (one_more c cs) m h = ends_bind R (λ j. P j.ctx) (λ j. P j.ctx) (exec vs a i m) (each (exec vs a) is)
        (exec_runs i c m h) (code_runs is cs)

  pub code_ends : (r : Res Mach) → Ends R r (λ j. P j.ctx) → Ends R (end_code r) P
  unfolding end_code
  code_ends (ok m) h = h
  code_ends (refuse n) h = h

-- ---- lists

module _ {A : Type 0} (P : A → Type 0) where
  pub each_taken : (n : ℕ) (xs : List A) → Each P xs → Each P (take n xs)
  each_taken zero xs h = none_left
  each_taken (suc n) [] none_left = none_left
  each_taken (suc n) (x ∷ xs) (one_more p ps) = one_more p (each_taken n xs ps)

  pub each_dropped : (n : ℕ) (xs : List A) → Each P xs → Each P (drop n xs)
  each_dropped zero xs h = h
  each_dropped (suc n) [] none_left = none_left
  each_dropped (suc n) (x ∷ xs) (one_more p ps) = each_dropped n xs ps

-- the heads that are chosen are heads of the plan
thinned : (H : Head → Type 0) (gone hs : List Head) → Each H hs → Each H (thin_heads gone hs)
unfolding thin_heads
thinned H gone [] none_left = none_left
thinned H gone (h ∷ hs) (one_more p ps) = go (exists (spans_meet h) gone) (thinned H gone hs ps) (thinned H (h ∷ gone) hs ps)
  where
    go : (b : Bool) → Each H (thin_heads gone hs) → Each H (thin_heads (h ∷ gone) hs)
        → Each H (elim b [ true ↦ thin_heads gone hs | false ↦ h ∷ thin_heads (h ∷ gone) hs ])
    go true less more = less
    go false less more = one_more p more

pub chosen_each : (H : Head → Type 0) (p : Plan) (e : ℕ) (u : State) → Each H p.heads → Each H (chosen_heads p e u)
unfolding chosen_heads
chosen_each H p e u h = thinned H [] (keep (head_enabled e u) p.heads) (each_kept H (head_enabled e u) p.heads h)

-- each head of a plan names a transition of the plan
abbrev pub HeadNamed : Plan → Head → Type 0
HeadNamed p h = (of_plan p).transition h.transition ≡ true

found_in : (hs : List Head) → Each (λ h. exists (λ g. eqb g.transition h.transition) hs ≡ true) hs
unfolding exists
found_in [] = none_left
found_in (h ∷ hs) = one_more (or_left _ _ (eq-eqb h.transition h.transition refl))
    (each_weaker (λ x. exists (λ g. eqb g.transition x.transition) hs ≡ true)
    (λ x. exists (λ g. eqb g.transition x.transition) (h ∷ hs) ≡ true) hs
    (λ x e. or_right (eqb h.transition x.transition) _ e) (found_in hs))

pub heads_named : (p : Plan) → Each (HeadNamed p) p.heads
unfolding of_plan
heads_named p = found_in p.heads

-- ---- the plan machine

-- what is asked of P and R: of the refusal of a 33rd null step, of the taking of a transition, and of each instruction of the plan
pub record Effects (p : Plan) (R : ℕ → Type 0) (C : Instr → Type 0) (P : Ctx → Type 0) : Type 0 where
  pub unsettled : R 12
  pub takes : (h : Head) → HeadNamed p h → Runs R P (emit (taken h.transition))
  pub does : (a : ℤ) (i : Instr) → C i → (k : Ctx) → P k → Ends R (exec_now p.vars a i k) (λ m. P m.ctx)

module _ (p : Plan) (R : ℕ → Type 0) (C : Instr → Type 0) (P : Ctx → Type 0) (w : Effects p R C P) where
  pub block_runs : (a : ℤ) (is : List Instr) → Each C is → Runs R P (run_block p.vars a is)
  unfolding run_block passing
  block_runs a is c k h = code_ends R P (run_code p.vars a is (passing 0 k))
      (code_runs R P p.vars a C (w.does a) is c (passing 0 k) h)

  module _ (c : Each C p.code) where
    pub head_runs : (a : ℤ) (h : Head) → HeadNamed p h → Runs R P (fire_head p a h)
    unfolding fire_head head_block
    head_runs a h n = then_runs R P _ _ (w.takes h n)
        (block_runs a (take h.length (drop h.start p.code)) (each_taken C h.length _ (each_dropped C h.start p.code c)))

    pub step_runs : (e : ℕ) (a : ℤ) → Runs R P (plan_step p e a)
    unfolding plan_step
    step_runs e a = look_runs R P _ (λ k h. each_runs R P (fire_head p a) (HeadNamed p) (head_runs a) (chosen_heads p e k.state)
        (chosen_each (HeadNamed p) p e k.state (heads_named p)))

    settle_in_runs : (n : ℕ) → Runs R P (plan_settle_in p n)
    unfolding plan_settle_in
    settle_in_runs zero = look_runs R P _ (λ k h. if_any_runs R P (chosen_heads p 0 k.state) _ (λ j g. w.unsettled))
    settle_in_runs (suc n) = look_runs R P _ (λ k h. if_any_runs R P (chosen_heads p 0 k.state) _
        (then_runs R P _ _ (step_runs 0 (pos 0)) (settle_in_runs n)))

    pub settle_runs : Runs R P (plan_settle p)
    unfolding plan_settle
    settle_runs = settle_in_runs NULL_STEPS
