-- Null steps, turn by turn, and one step: what is still owed after so many turns. Assumes nothing.
use Rattle.std.specs.Prelude.{Result, Ok, Err}
use mathlib.Core.Path.{◌≡◌, refl, sym, ap, ◌∙◌, subst}
use Prim.Native.Nat.{ℕ, zero, suc, ◌+◌, ◌-◌, ◌≤◌, ◌<◌}
use native.Mathlib.Omega.{arith}
use mathlib.Core.Bool.{Bool}
use mathlib.Core.List.{List, [], ◌∷◌}
use lib.ListN.{length}
use lib.IntN.{ℤ, pos}
use Rattle.sizes.specs.Sizes.{NULL_STEPS}
use Rattle.meaning.specs.Steps.{ok, refuse, Step, bind, ◌then◌, skip, look, each}
use Rattle.meaning.specs.Chart.{Chart}
use Rattle.meaning.specs.Reaction.{fire, chosen, step, if_any, settle_in, settle}
use Rattle.meaning.specs.Widget.{Ctx}
use Rattle.laws.proofs.Lists.{each_weaker}
use Rattle.laws.specs.Facts.{Each}
use Rattle.laws.proofs.Stays.{each_stays}
use Rattle.meaning.specs.declared.State.{State}
use Rattle.meaning.specs.declared.answers.Refusal.{Refusal}
use Rattle.meaning.specs.declared.answers.Refusal.TheVariants.{Unsettled}
use Rattle.widget.specs.View.{ctx, Did, Owes}
use Rattle.widget.proofs.Going as going
use Rattle.invariants.specs.Good.{Good}
use Rattle.invariants.proofs.GoodReaction.{fire_good}
use Rattle.invariants.proofs.Choosing.{chosen_enabled}
use Rattle.choice.specs.declared.Pick.{Pick}
use Rattle.choice.specs.Choice.{seen, picked, Chose}
use Rattle.choice.proofs.Seen.{chosen_seen}
use Rattle.reaction.specs.Ready.{Ready, Fires}
use Rattle.laws.proofs.Sound.{SoundChart}
use Rattle.laws.proofs.Value.{SizedChart}
use Rattle.reaction.proofs.Going.{ready_next}
use Rattle.choice.proofs.Loop.{picked_long}

-- ---- the chosen of a widget

pub chose_fires : {c : Chart} {e : ℕ} {a : List Bool} {vs : List ℤ} {count : ℕ} {picks : List Pick}
    → Chose c e a vs count picks → Fires c count picks
chose_fires {c} {e} {a} {vs} h = record {
  few = h.few;
  named = subst (Each (λ t. t < length c.transitions)) (sym h.is) (each_weaker _ _ _ (λ t q. q.0) (chosen_enabled c e (seen a vs)));
  carried = h.carried;
}

module _ {c : Chart} {e : ℕ} (u : State) {count : ℕ} {picks : List Pick} (h : Chose c e u.active u.vars count picks) where
  pub chose_here : (t : List ℤ) (at : ℕ) → chosen c e (ctx u t at).state ≡ picked count picks
  unfolding ctx
  chose_here t at = chosen_seen c e _ ∙ sym h.is

  -- one step fires them all
  pub step_here : (arg : ℤ) {t : List ℤ} {at : ℕ} {r : Result ℕ Refusal} {u₁ : State} {t₁ : List ℤ}
      → Did (each (fire c arg) (picked count picks)) u t at r u₁ t₁ → Did (step c e arg) u t at r u₁ t₁
  unfolding step look
  step_here arg {t} {at} d =
      going.same_step (step c e arg) (ap (λ ts. each (fire c arg) ts (ctx u t at)) (sym (chose_here t at))) d

-- ---- null steps

any_none : {A S : Type 0} (xs : List A) (f : Step S) (s : S) → length xs ≡ 0 → if_any xs f s ≡ ok s
unfolding if_any skip
any_none [] f s e = refl
any_none (x ∷ xs) f s e = absurd (omega arith)

any_some : {A S : Type 0} (xs : List A) (f : Step S) (s : S) → (length xs ≡ 0 → ⊥) → if_any xs f s ≡ f s
unfolding if_any
any_some [] f s n = absurd (n refl)
any_some (x ∷ xs) f s n = refl

module _ (c : Chart) (k : Ctx) (ps : List ℕ) (e : chosen c 0 k.state ≡ ps) where
  settled : (n : ℕ) → length ps ≡ 0 → settle_in c n k ≡ ok k
  unfolding settle_in look
  settled zero z = any_none (chosen c 0 k.state) _ k (ap length e ∙ z)
  settled (suc n) z = any_none (chosen c 0 k.state) _ k (ap length e ∙ z)

  module _ (z : length ps ≡ 0 → ⊥) where
    too_many : settle_in c 0 k ≡ refuse 12
    unfolding settle_in look
    too_many = any_some (chosen c 0 k.state) _ k (λ q. z (sym (ap length e) ∙ q))

    one_more : (n : ℕ) → settle_in c (suc n) k ≡ (each (fire c (pos 0)) ps then settle_in c n) k
    unfolding settle_in look step ◌then◌
    one_more n = any_some (chosen c 0 k.state) _ k (λ q. z (sym (ap length e) ∙ q))
        ∙ ap (λ ts. bind (each (fire c (pos 0)) ts k) (settle_in c n)) e

pub record Settling (c : Chart) (u : State) (t : List ℤ) (at turns : ℕ) (u₁ : State) (t₁ : List ℤ) (at₁ : ℕ) : Type 0 where
  pub ready : Ready c u₁ t₁ at₁
  pub few : turns ≤ NULL_STEPS
  pub owes : Owes (settle c) u t at (settle_in c (NULL_STEPS - turns)) u₁ t₁ at₁

module _ {c : Chart} {u : State} {t : List ℤ} {at : ℕ} where
  pub settling_begin : Ready c u t at → Settling c u t at 0 u t at
  unfolding settle
  settling_begin h = record { ready = h; few = omega arith; owes = going.owes_all h.fits }

  module _ {turns : ℕ} {u₁ : State} {t₁ : List ℤ} {at₁ : ℕ} (h : Settling c u t at turns u₁ t₁ at₁)
      {count : ℕ} {picks : List Pick} (g : Chose c 0 u₁.active u₁.vars count picks) where
    long : length (picked count picks) ≡ count
    long = picked_long picks count (omega (arith, g.few, g.size))

    here : chosen c 0 (ctx u₁ t₁ at₁).state ≡ picked count picks
    here = chose_here u₁ g t₁ at₁

    pub settling_end : count ≡ 0 → Did (settle c) u t at (Ok at₁) u₁ t₁
    settling_end z =
        going.owes_none h.owes (settled c (ctx u₁ t₁ at₁) (picked count picks) here (NULL_STEPS - turns) (long ∙ z))

    module _ (z : count ≡ 0 → ⊥) where
      pub settling_full : turns ≡ NULL_STEPS → Did (settle c) u t at (Err Unsettled) u₁ t₁
      settling_full e =
          let n : NULL_STEPS - turns ≡ 0 = omega arith in
          going.owes_refused Unsettled h.owes (ap (λ m. settle_in c m (ctx u₁ t₁ at₁)) n
          ∙ too_many c (ctx u₁ t₁ at₁) (picked count picks) here (λ y. z (sym long ∙ y)))

      module _ (m : turns ≡ NULL_STEPS → ⊥) where
        due : Owes (settle c) u t at
            (each (fire c (pos 0)) (picked count picks) then settle_in c (NULL_STEPS - (turns + 1))) u₁ t₁ at₁
        due =
            let l = h.few in
            let n : NULL_STEPS - turns ≡ suc (NULL_STEPS - (turns + 1)) = omega arith in
            going.owes_as _ h.owes (sym (ap (λ x. settle_in c x (ctx u₁ t₁ at₁)) n
            ∙ one_more c (ctx u₁ t₁ at₁) (picked count picks) here (λ y. z (sym long ∙ y)) (NULL_STEPS - (turns + 1))))

        pub settling_stop : {r : Refusal} {u₂ : State} {t₂ : List ℤ}
            → Did (each (fire c (pos 0)) (picked count picks)) u₁ t₁ at₁ (Err r) u₂ t₂
            → Did (settle c) u t at (Err r) u₂ t₂
        settling_stop d = going.owes_stop (settle_in c (NULL_STEPS - (turns + 1))) due d

        pub settling_on : SoundChart c → SizedChart c → {n : ℕ} {u₂ : State} {t₂ : List ℤ}
            → Did (each (fire c (pos 0)) (picked count picks)) u₁ t₁ at₁ (Ok n) u₂ t₂
            → Settling c u t at (turns + 1) u₂ t₂ n
        settling_on h₁ z₁ d =
            let l = h.few in
            record {
              ready = ready_next c (each_stays (Good c) (fire c (pos 0))
                  (λ x. x < length c.transitions) (fire_good c h₁ z₁ (pos 0))
                  (picked count picks) (chose_fires g).named) d h.ready;
              few = omega arith;
              owes = going.owes_on (settle_in c (NULL_STEPS - (turns + 1))) due d;
            }
