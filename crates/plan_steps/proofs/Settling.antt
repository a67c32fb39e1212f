-- One step and null steps, turn by turn, over plain variables: what is still owed after so many turns. Assumes nothing.
use mathlib.Core.Path.{◌≡◌, refl, sym, ap, ◌∙◌, fun_ext}
use Prim.Native.Nat.{ℕ, zero, suc, ◌+◌, ◌-◌, ◌≤◌, ◌<◌}
use native.Mathlib.Omega.{arith}
use mathlib.Core.Bool.{Bool}
use mathlib.Core.List.{List, [], ◌∷◌}
use lib.ListN.{length, get_or, take, replicate, length-replicate}
use lib.Seq.{length-take-le, get_or-take}
use Rattle.std.specs.Prelude.{Result, Ok, Err}
use Rattle.meaning.specs.declared.answers.Refusal.{Refusal}
use Rattle.meaning.specs.declared.answers.Refusal.TheVariants.{Unsettled}
use lib.IntN.{ℤ, pos}
use Rattle.sizes.specs.Sizes.{NULL_STEPS, TRANSITIONS}
use Rattle.meaning.specs.declared.State.{State}
use Rattle.meaning.specs.declared.plan.Counts.{Counts}
use Rattle.meaning.specs.declared.plan.Head.{Head}
use Rattle.meaning.specs.Steps.{ok, refuse, Step, bind, ◌then◌, skip, look, each}
use Rattle.meaning.specs.Lists.{keep}
use Rattle.meaning.specs.Plan.{Plan}
use Rattle.meaning.specs.Reaction.{if_any}
use Rattle.meaning.specs.Widget.{Ctx, is_active}
use Rattle.meaning.specs.Machine.{head_enabled, thin_heads, chosen_heads, fire_head, plan_step, plan_settle_in, plan_settle}
use Rattle.meaning.specs.WellFormed.{heads_at, plan_by}
use Rattle.widget.specs.View.{ctx, Did, Owes}
use Rattle.widget.proofs.Going as going
use Rattle.choice.specs.Choice.{seen}
use Rattle.choice.proofs.Seen.{guard_seen}
use Rattle.plan_choice.specs.Heads.{Examined, Heads, head_of, picked, Chose}
use Rattle.plan_choice.specs.Links.{STARTS, Linked}
use Rattle.plan_choice.proofs.Loop.{picked_long, chose_empty}

-- ---- what is chosen depends on the active marks and the values alone

enabled_seen : (e : ℕ) (u : State) (h : Head) → head_enabled e u h ≡ head_enabled e (seen u.active u.vars) h
unfolding head_enabled is_active
enabled_seen e u h = rw (guard_seen h.guard u (seen u.active u.vars) refl)

chosen_seen : (p : Plan) (e : ℕ) (u : State) → chosen_heads p e u ≡ chosen_heads p e (seen u.active u.vars)
unfolding chosen_heads
chosen_seen p e u = ap (λ f. thin_heads [] (keep f p.heads)) (fun_ext (enabled_seen e u))

-- ---- the chosen of a widget

module _ {ns : List ℤ} {k : Counts} {e : ℕ} (u : State) {count : ℕ} {picks : List ℕ}
    (h : Chose ns k e u.active u.vars count picks) where
  pub chose_here : chosen_heads (plan_by ns) e u ≡ picked ns (heads_at k) count picks
  chose_here = chosen_seen (plan_by ns) e u ∙ sym h.is

  -- they are heads of the plan
  pub all_heads : Heads k.heads (take count picks)
  all_heads j l =
      let n = length-take-le count picks (omega (arith, h.stands.few, h.stands.size)) in
      let q : j < count = omega (arith, n) in
      omega (arith, get_or-take count picks j 0 q, h.stands.named j q)

  -- one step fires them all
  pub step_here : (arg : ℤ) {t : List ℤ} {at : ℕ} {r : Result ℕ Refusal} {u' : State} {t' : List ℤ}
      → Did (each (fire_head (plan_by ns) arg) (picked ns (heads_at k) count picks)) u t at r u' t'
      → Did (plan_step (plan_by ns) e arg) u t at r u' t'
  unfolding plan_step look ctx
  step_here arg {t} {at} d =
      going.same_step (plan_step (plan_by ns) e arg)
      (ap (λ hs. each (fire_head (plan_by ns) arg) hs (ctx u t at)) (sym chose_here)) d

-- ---- null steps

any_none : {A S : Type 0} (xs : List A) (f : Step S) (s : S) → length xs ≡ 0 → if_any xs f s ≡ ok s
unfolding if_any skip
any_none [] f s e = refl
any_none (x ∷ xs) f s e = absurd (omega arith)

any_some : {A S : Type 0} (xs : List A) (f : Step S) (s : S) → (length xs ≡ 0 → ⊥) → if_any xs f s ≡ f s
unfolding if_any
any_some [] f s n = absurd (n refl)
any_some (x ∷ xs) f s n = refl

module _ (p : Plan) (k : Ctx) (hs : List Head) (e : chosen_heads p 0 k.state ≡ hs) where
  settled : (n : ℕ) → length hs ≡ 0 → plan_settle_in p n k ≡ ok k
  unfolding plan_settle_in look
  settled zero z = any_none (chosen_heads p 0 k.state) _ k (ap length e ∙ z)
  settled (suc n) z = any_none (chosen_heads p 0 k.state) _ k (ap length e ∙ z)

  module _ (z : length hs ≡ 0 → ⊥) where
    too_many : plan_settle_in p 0 k ≡ refuse 12
    unfolding plan_settle_in look
    too_many = any_some (chosen_heads p 0 k.state) _ k (λ q. z (sym (ap length e) ∙ q))

    one_more : (n : ℕ) → plan_settle_in p (suc n) k ≡ (each (fire_head p (pos 0)) hs then plan_settle_in p n) k
    unfolding plan_settle_in look plan_step ◌then◌
    one_more n =
        any_some (chosen_heads p 0 k.state) _ k (λ q. z (sym (ap length e) ∙ q))
        ∙ ap (λ ts. bind (each (fire_head p (pos 0)) ts k) (plan_settle_in p n)) e

pub record Settling (p : Plan) (u : State) (t : List ℤ) (at turns : ℕ) (u' : State) (t' : List ℤ) (next : ℕ) : Type 0 where
  pub owes : Owes (plan_settle p) u t at (plan_settle_in p (NULL_STEPS - turns)) u' t' next
  pub few : turns ≤ NULL_STEPS

pub settling_begin : {p : Plan} {u : State} {t : List ℤ} {at : ℕ} → at ≤ length t → Settling p u t at 0 u t at
unfolding plan_settle
settling_begin h = record { owes = going.owes_all h; few = omega arith }

module _ {ns : List ℤ} {k : Counts} {u : State} {t : List ℤ} {at turns : ℕ} {u₁ : State} {t₁ : List ℤ} {next : ℕ}
    (w : Settling (plan_by ns) u t at turns u₁ t₁ next)
    {count : ℕ} {picks : List ℕ} (g : Chose ns k 0 u₁.active u₁.vars count picks) where
  long : length (picked ns (heads_at k) count picks) ≡ count
  long = picked_long (head_of ns (heads_at k)) picks count (omega (arith, g.stands.few, g.stands.size))

  chosen_now : chosen_heads (plan_by ns) 0 (ctx u₁ t₁ next).state ≡ picked ns (heads_at k) count picks
  unfolding ctx
  chosen_now = chose_here u₁ g

  pub settling_end : count ≡ 0 → Did (plan_settle (plan_by ns)) u t at (Ok next) u₁ t₁
  settling_end z =
      going.owes_none w.owes
      (settled (plan_by ns) (ctx u₁ t₁ next) (picked ns (heads_at k) count picks) chosen_now (NULL_STEPS - turns) (long ∙ z))

  module _ (z : count ≡ 0 → ⊥) where
    pub settling_full : turns ≡ NULL_STEPS → Did (plan_settle (plan_by ns)) u t at (Err Unsettled) u₁ t₁
    settling_full e =
        let n : NULL_STEPS - turns ≡ 0 = omega arith in
        going.owes_refused Unsettled w.owes
        (ap (λ m. plan_settle_in (plan_by ns) m (ctx u₁ t₁ next)) n
        ∙ too_many (plan_by ns) (ctx u₁ t₁ next) (picked ns (heads_at k) count picks) chosen_now (λ y. z (sym long ∙ y)))

    module _ (m : turns ≡ NULL_STEPS → ⊥) where
      due : Owes (plan_settle (plan_by ns)) u t at
          (each (fire_head (plan_by ns) (pos 0)) (picked ns (heads_at k) count picks) then plan_settle_in (plan_by ns)
          (NULL_STEPS - (turns + 1))) u₁ t₁ next
      due =
          let l = w.few in
          let n : NULL_STEPS - turns ≡ suc (NULL_STEPS - (turns + 1)) = omega arith in
          going.owes_as _ w.owes
          (sym (ap (λ x. plan_settle_in (plan_by ns) x (ctx u₁ t₁ next)) n
          ∙ one_more (plan_by ns) (ctx u₁ t₁ next) (picked ns (heads_at k) count picks) chosen_now (λ y. z (sym long
          ∙ y)) (NULL_STEPS - (turns + 1))))

      pub settling_stop : {e : Refusal} {u₂ : State} {t₂ : List ℤ}
          → Did (each (fire_head (plan_by ns) (pos 0)) (picked ns (heads_at k) count picks)) u₁ t₁ next (Err e) u₂ t₂
          → Did (plan_settle (plan_by ns)) u t at (Err e) u₂ t₂
      settling_stop d = going.owes_stop (plan_settle_in (plan_by ns) (NULL_STEPS - (turns + 1))) due d

      pub settling_on : {n : ℕ} {u₂ : State} {t₂ : List ℤ}
          → Did (each (fire_head (plan_by ns) (pos 0)) (picked ns (heads_at k) count picks)) u₁ t₁ next (Ok n) u₂ t₂
          → Settling (plan_by ns) u t at (turns + 1) u₂ t₂ n
      settling_on d =
          let l = w.few in
          record {
            owes = going.owes_on (plan_settle_in (plan_by ns) (NULL_STEPS - (turns + 1))) due d;
            few = omega arith;
          }

-- no head has trigger 0: there is no null step
pub settles_none : {ns : List ℤ} {k : Counts} {links : List ℕ} → Examined ns k → Linked ns k links
    → get_or links (STARTS + 1) 0 ≤ get_or links STARTS 0 → {u : State} {t : List ℤ} {at : ℕ} → at ≤ length t
    → Did (plan_settle (plan_by ns)) u t at (Ok at) u t
settles_none x v l g =
    settling_end (settling_begin g) {count = 0} {picks = replicate TRANSITIONS 0}
    (chose_empty x {picks = replicate TRANSITIONS 0} (length-replicate {A = ℕ} TRANSITIONS 0) v (omega arith) l) refl
