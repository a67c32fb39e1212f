-- Steps and null steps of the compiled plan are those of the chart (01, "They fire in that order", "null steps follow"), wherever the
-- block of each transition does what its firing does. In the order: one head; the chosen heads; a step; null steps. Assumes nothing.
use mathlib.Core.Path.{◌∙◌, ◌≡◌, ap, refl, subst, sym}
use Prim.Native.Nat.{suc, zero, ℕ}
use mathlib.Core.List.{List}
use lib.IntN.{pos, ℤ}
use Rattle.agreement.proofs.Choosing.{chosen_alike}
use Rattle.agreement.proofs.Heads.{HeadFor, HeadsFor, no_heads, one_head}
use Rattle.invariants.proofs.Choosing.{Apart, chosen_apart, none_apart, one_apart}
use Rattle.invariants.proofs.Good.{emit_good}
use Rattle.invariants.specs.Good.{Good}
use Rattle.invariants.proofs.Keeps.{emit_keeps, holds_of}
use Rattle.invariants.proofs.Firing.{MovedBy, Standing}
use Rattle.invariants.proofs.Stepping.{Armed, Whole, chosen_armed, fire_stands, rest_armed, step_stands}
use Rattle.laws.specs.Facts.{Each, none_left, one_more}
use Rattle.laws.proofs.Sound.{SoundChart}
use Rattle.laws.proofs.Steps.{Holds, bind_cong_where}
use Rattle.laws.proofs.Value.{SizedChart}
use Rattle.meaning.specs.Chart.{Chart}
use Rattle.meaning.specs.Compile.{block, code_of, head_of, plan_of}
use Rattle.meaning.specs.Machine.{fire_head, head_block, plan_settle, plan_settle_in, plan_step, run_block}
use Rattle.meaning.specs.Reaction.{fire, fire_to, if_any, settle, settle_in, step}
use Rattle.meaning.specs.Steps.{Res, Step, ◌then◌, bind, each, look, ok, refuse}
use Rattle.meaning.specs.Tree.{trans_row}
use Rattle.meaning.specs.Widget.{Ctx, emit}
use Rattle.meaning.specs.declared.Entry.TheVariants.{Taken as taken}
use Rattle.meaning.specs.declared.plan.Head.{Head}
use Rattle.sizes.specs.Sizes.{NULL_STEPS}

-- the block of each transition does what its firing does, from whatever stands between firings
abbrev pub BlocksFire : Chart → Type 0
BlocksFire c = (a : ℤ) (t : ℕ) (k : Ctx) → Whole c k → Armed c k.state t
    → run_block c.vars a (block c t) k ≡ fire_to c a t (trans_row c t).source (trans_row c t).target k

holds_both : {A : Type 0} (P Q R : A → Type 0) (x : Res A) → Holds x P → Holds x Q → ((a : A) → P a → Q a → R a) → Holds x R
holds_both P Q R (ok a) p q f = f a p q
holds_both P Q R (refuse n) p q f = tt

module _ (c : Chart) (r : SoundChart c) (z : SizedChart c) (fires : BlocksFire c) where
  -- the entry of a taken transition changes no state
  entry_stands : (t : ℕ) (k : Ctx) → Whole c k → Armed c k.state t → Holds (emit (taken t) k) (λ j. Whole c j × Armed c j.state t)
  entry_stands t k w e = holds_both (λ j. j.state ≡ k.state) (Good c) (λ j. Whole c j × Armed c j.state t) (emit (taken t) k)
      (holds_of (λ j. j.state ≡ k.state) (emit (taken t) k) (emit_keeps (λ u. u ≡ k.state) (taken t) k refl))
      (emit_good c (taken t) e.0 k w.1)
      (λ j q g. ((subst (Standing c) (sym q) w.0, g), subst (λ u. Armed c u t) (sym q) e))

  -- one head fires as its transition
  head_fires : (a : ℤ) (h : Head) (t : ℕ) → HeadFor c (code_of c) h t → (k : Ctx) → Whole c k → Armed c k.state t
      → fire_head (plan_of c) a h k ≡ fire c a t k
  unfolding fire_head fire ◌then◌ head_block plan_of head_of
  head_fires a h t f k w e =
      ap (λ n. bind (emit (taken n) k) (run_block c.vars a (head_block (plan_of c) h))) (ap (λ g. g.transition) f.says)
      ∙ ap (λ b. bind (emit (taken t) k) (run_block c.vars a b)) f.its_block
      ∙ bind_cong_where (λ j. Whole c j × Armed c j.state t) (emit (taken t) k) (run_block c.vars a (block c t))
      (fire_to c a t (trans_row c t).source (trans_row c t).target) (entry_stands t k w e) (λ j q. fires a t j q.0 q.1)

  -- "They fire in that order"
  heads_fire : (a : ℤ) {hs : List Head} {ts : List ℕ} → HeadsFor c (code_of c) hs ts → Apart c ts → (k : Ctx) → Whole c k
      → Each (Armed c k.state) ts
      → each (fire_head (plan_of c) a) hs k ≡ each (fire c a) ts k
  unfolding each
  heads_fire a no_heads none_apart k w none_left = refl
  heads_fire a (one_head {h} {t} {hs} {ts} f fs) (one_apart p ps) k w (one_more q qs) =
      ap (λ x. bind x (each (fire_head (plan_of c) a) hs)) (head_fires a h t f k w q)
      ∙ bind_cong_where (λ j. Whole c j × MovedBy c k.state j.state (trans_row c t).source (trans_row c t).target) (fire c a t k)
      (each (fire_head (plan_of c) a) hs) (each (fire c a) ts) (holds_of _ (fire c a t k) (fire_stands c r z a t k w q))
      (λ j v. heads_fire a fs ps j v.0 (rest_armed c r z k.state j.state t ts v.1 p qs))

  pub steps_agree : (e : ℕ) (a : ℤ) (k : Ctx) → Whole c k → plan_step (plan_of c) e a k ≡ step c e a k
  unfolding plan_step step look
  steps_agree e a k w =
      heads_fire a (chosen_alike c r e k.state) (chosen_apart c e k.state) k w (chosen_armed c r e k.state w.0.config)

  -- ---- null steps

  any_alike : {hs : List Head} {ts : List ℕ} → HeadsFor c (code_of c) hs ts → (F G : Step Ctx) (k : Ctx) → F k ≡ G k
      → if_any hs F k ≡ if_any ts G k
  unfolding if_any
  any_alike no_heads F G k e = refl
  any_alike (one_head x xs) F G k e = e

  settle_in_agrees : (n : ℕ) (k : Ctx) → Whole c k → plan_settle_in (plan_of c) n k ≡ settle_in c n k
  unfolding plan_settle_in settle_in look ◌then◌
  settle_in_agrees zero k w = any_alike (chosen_alike c r 0 k.state) (λ _. refuse 12) (λ _. refuse 12) k refl
  settle_in_agrees (suc n) k w = any_alike (chosen_alike c r 0 k.state)
      (plan_step (plan_of c) 0 (pos 0) then plan_settle_in (plan_of c) n)
      (step c 0 (pos 0) then settle_in c n) k
      (ap (λ x. bind x (plan_settle_in (plan_of c) n)) (steps_agree 0 (pos 0) k w)
      ∙ bind_cong_where (Whole c) (step c 0 (pos 0) k) (plan_settle_in (plan_of c) n) (settle_in c n)
      (holds_of (Whole c) (step c 0 (pos 0) k) (step_stands c r z 0 (pos 0) k w)) (settle_in_agrees n))

  pub settle_agrees : (k : Ctx) → Whole c k → plan_settle (plan_of c) k ≡ settle c k
  unfolding plan_settle settle
  settle_agrees = settle_in_agrees NULL_STEPS
