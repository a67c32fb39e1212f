-- The stored arm behind the owner of a history is one forward pass over the states below it (01: "SKIPOUT p past all of d; SKIPNOT p d
-- k+1 if p is kind o; IN d; its actions"): the code does what the steps `scan` do, from any context; and these steps enter just the
-- states that the slots lead to, where the owner is in and no state below it is. Assumes nothing.
use Rattle.std.specs.Prelude.{Option, None, Some}
use mathlib.Core.Path.{◌∙◌, ◌≡◌, ap, refl, subst, sym}
use mathlib.Core.Logic.{◌⊎◌, ⊎_elim}
use Prim.Native.Nat.{◌+◌, ◌<◌, ◌≤◌, suc, ℕ, zero}
use native.Mathlib.Omega.{arith}
use native.Mathlib.Nat.{eq-or-lt_of_le}
use mathlib.Core.Bool.{Bool, ◌&&◌, cond, false, true}
use mathlib.Core.List.{List, ◌∷◌}
use lib.ListN.{length, length-set}
use lib.Seq.{get_or-set_other, get_or-set_same}
use lib.IntN.{ℤ}
use Rattle.agreement.proofs.Entered.{enter_does}
use Rattle.agreement.proofs.Running.{Does, code_does, test_does}
use Rattle.invariants.proofs.Keeps.{Outside, enter_leads, holds_of}
use Rattle.invariants.proofs.Slots.{slot_at}
use Rattle.laws.proofs.Descent.{Reached, picks}
use Rattle.laws.proofs.Steps.{bind_cong_where}
use Rattle.laws.specs.Facts.{Under}
use Rattle.meaning.specs.Chart.{Chart}
use Rattle.meaning.specs.Compile.{enter_code, held_code, past_if_out, stored_arm, stored_code}
use Rattle.meaning.specs.Effects.{enter}
use Rattle.meaning.specs.Entry.{slot_way}
use Rattle.meaning.specs.Lists.{from, keep}
use Rattle.meaning.specs.Machine.{exec, exec_at, exec_now, holds_it, passing, run_code}
use Rattle.meaning.specs.Steps.{Step, bind, each, look, when}
use Rattle.meaning.specs.Tree.{descendants, kind_of, parent_of}
use Rattle.meaning.specs.Widget.{Ctx, is_active, set_active, set_queue, set_value, slot}
use Rattle.meaning.specs.declared.State.{State}
use Rattle.meaning.specs.declared.chart.Kind.{Kind}
use Rattle.meaning.specs.declared.chart.Kind.TheVariants.{A as kind_a, B as kind_b, O as kind_o}

-- ---- the code and the steps

-- d is entered if it is what the slot of its o parent p holds, or if p is no o state
unfoldable pub held_step : Chart → ℤ → Kind → ℕ → ℕ → Step Ctx
held_step c a kind_o p d = look (λ k. when (holds_it d (slot k.state p)) (enter c a d))
held_step c a kind_a p d = enter c a d
held_step c a kind_b p d = enter c a d

-- and only if p is in
unfoldable pub scan : Chart → ℤ → ℕ → Step Ctx
scan c a d = look (λ k. when (is_active k.state (parent_of c d)) (held_step c a (kind_of c (parent_of c d)) (parent_of c d) d))

module _ (c : Chart) (a : ℤ) where
  held_does : (x : Kind) (p d : ℕ) → Does (run_code c.vars a (held_code c x p d)) (held_step c a x p d)
  unfolding held_code held_step exec exec_at exec_now passing
  held_does kind_o p d = test_does c.vars a _ (enter_code c d) (λ k. holds_it d (slot k.state p)) (enter c a d) (λ k. refl)
      (enter_does c a d)
  held_does kind_a p d = enter_does c a d
  held_does kind_b p d = enter_does c a d

  stored_does : (d : ℕ) → Does (run_code c.vars a (stored_code c d)) (scan c a d)
  unfolding stored_code past_if_out scan exec exec_at exec_now passing
  stored_does d = test_does c.vars a _ (held_code c (kind_of c (parent_of c d)) (parent_of c d) d)
      (λ k. is_active k.state (parent_of c d))
      (held_step c a (kind_of c (parent_of c d)) (parent_of c d) d) (λ k. refl) (held_does (kind_of c (parent_of c d)) (parent_of c d) d)

  pub stored_arm_does : (b : ℕ) → Does (run_code c.vars a (stored_arm c b)) (each (scan c a) (descendants c b))
  unfolding stored_arm
  stored_arm_does b = code_does c.vars a (stored_code c) (scan c a) stored_does (descendants c b)

-- ---- in the midst of the pass

-- the slots are sl; from b up to below d the active states are those that r names; from d up to below e none is
pub record Upto (sl : List ℤ) (r : ℕ → Bool) (b d e : ℕ) (u : State) : Type 0 where
  pub slots : u.slots ≡ sl
  pub wide : e ≤ length u.active
  pub done : (x : ℕ) → b ≤ x → x < d → is_active u x ≡ r x
  pub rest : (x : ℕ) → d ≤ x → x < e → is_active u x ≡ false

module _ (sl : List ℤ) (r : ℕ → Bool) (b : ℕ) where
  upto_outside : (d e : ℕ) → Outside (Upto sl r b d e)
  unfolding set_value set_queue is_active
  upto_outside d e = record {
    values = λ u v x h. record { slots = h.slots; wide = h.wide; done = h.done; rest = h.rest };
    queue = λ u q h. record { slots = h.slots; wide = h.wide; done = h.done; rest = h.rest };
  }

  at_last : (d x : ℕ) → x < suc d → (x ≡ d) ⊎ (x < d)
  at_last d x l = eq-or-lt_of_le (omega arith)

  upto_entered : (d e : ℕ) → d < e → r d ≡ true → (u : State) → Upto sl r b d e u → Upto sl r b (suc d) e (set_active d true u)
  unfolding set_active is_active
  upto_entered d e l q u h = record {
    slots = h.slots;
    wide = rw length-set h.wide;
    done = λ x m z. ⊎_elim
        (λ s. rw s (get_or-set_same u.active d true false (omega (arith, h.wide)) ∙ sym q))
        (λ s. get_or-set_other u.active d x true false (λ n. omega arith) ∙ h.done x m (omega arith))
        (at_last d x z);
    rest = λ x m z. get_or-set_other u.active d x true false (λ n. omega arith) ∙ h.rest x (omega arith) z;
  }

  upto_passed : (d e : ℕ) → d < e → r d ≡ false → (u : State) → Upto sl r b d e u → Upto sl r b (suc d) e u
  upto_passed d e l q u h = record {
    slots = h.slots;
    wide = h.wide;
    done = λ x m z. ⊎_elim (λ s. rw s (h.rest d (omega arith) l ∙ sym q)) (λ s. h.done x m s) (at_last d x z);
    rest = λ x m z. h.rest x (omega arith) z;
  }

-- ---- one turn of the pass

-- the two tests are those of the way by slots
held_when : (c : Chart) (a : ℤ) (x : Kind) (p d : ℕ) (k : Ctx)
    → held_step c a x p d k ≡ when (picks c x (slot_way (slot k.state p)) p d) (enter c a d) k
unfolding held_step picks look when holds_it slot_way
held_when c a kind_o p d k = go (slot k.state p)
  where
    go : (y : Option ℕ) → when (holds_it d y) (enter c a d) k ≡ when (picks c kind_o (slot_way y) p d) (enter c a d) k
    go None = refl
    go (Some y) = refl
held_when c a kind_a p d k = refl
held_when c a kind_b p d k = refl

when_when : (x y : Bool) (F : Step Ctx) (k : Ctx) → when x (when y F) k ≡ when (y && x) F k
unfolding when
when_when true true F k = refl
when_when true false F k = refl
when_when false true F k = refl
when_when false false F k = refl

when_same : (x : Bool) (F G : Step Ctx) (k : Ctx) → F k ≡ G k → when x F k ≡ when x G k
unfolding when
when_same true F G k e = e
when_same false F G k e = refl

module _ (c : Chart) (a : ℤ) (sl : List ℤ) (r : ℕ → Bool) (b : ℕ) (h : Reached c (λ s. slot_way (slot_at sl s)) b r) where
  scan_one : (n e : ℕ) (k : Ctx) → Under c b (suc n) → b ≤ parent_of c (suc n) → parent_of c (suc n) ≤ n → Upto sl r b (suc n) e k.state
      → scan c a (suc n) k ≡ when (r (suc n)) (enter c a (suc n)) k
  unfolding scan look slot
  scan_one n e k u lo hi q =
      when_same (is_active k.state p) (held_step c a (kind_of c p) p (suc n))
      (when (picks c (kind_of c p) (slot_way (slot_at k.state.slots p)) p (suc n)) (enter c a (suc n))) k
      (held_when c a (kind_of c p) p (suc n) k)
      ∙ ap (λ z. when z (when (picks c (kind_of c p) (slot_way (slot_at k.state.slots p)) p (suc n)) (enter c a (suc n))) k)
      (q.done p lo (omega arith))
      ∙ ap (λ l. when (r p) (when (picks c (kind_of c p) (slot_way (slot_at l p)) p (suc n)) (enter c a (suc n))) k) q.slots
      ∙ when_when (r p) _ (enter c a (suc n)) k ∙ ap (λ z. when z (enter c a (suc n)) k) (sym (h.step n u))
    where
      p : ℕ
      p = parent_of c (suc n)

  -- the whole pass enters the states that r names
  pub scan_all : (m n : ℕ) (k : Ctx) → ((x : ℕ) → suc n ≤ suc x → suc x < suc n + m
      → Under c b (suc x) × (b ≤ parent_of c (suc x)) × (parent_of c (suc x) ≤ x))
      → Upto sl r b (suc n) (suc n + m) k.state → each (scan c a) (from (suc n) m) k ≡ each (enter c a) (keep r (from (suc n) m)) k
  unfolding each from keep when bind
  scan_all zero n k t q = refl
  scan_all (suc m) n k t q =
      rw (scan_one n (suc n + suc m) k (t n (omega arith) (omega arith)).0 (t n (omega arith) (omega arith)).1
      (t n (omega arith) (omega arith)).2 q)
      (go (r (suc n)) refl (λ j w. scan_all m (suc n) j (λ x l g. t x (omega arith) (omega arith))
      (subst (λ e. Upto sl r b (suc (suc n)) e j.state) (omega arith) w)))
    where
      rest : List ℕ
      rest = from (suc (suc n)) m

      go : (x : Bool) → r (suc n) ≡ x → ((j : Ctx) → Upto sl r b (suc (suc n)) (suc n + suc m) j.state
          → each (scan c a) rest j ≡ each (enter c a) (keep r rest) j)
          → bind (when x (enter c a (suc n)) k) (each (scan c a) rest) ≡ each (enter c a) (cond x (suc n ∷ keep r rest) (keep r rest)) k
      go true e ih = bind_cong_where (λ j. Upto sl r b (suc (suc n)) (suc n + suc m) j.state) (enter c a (suc n) k)
          (each (scan c a) rest) (each (enter c a) (keep r rest))
          (holds_of (λ j. Upto sl r b (suc (suc n)) (suc n + suc m) j.state) (enter c a (suc n) k)
          (enter_leads (Upto sl r b (suc n) (suc n + suc m)) (Upto sl r b (suc (suc n)) (suc n + suc m))
          (upto_outside sl r b (suc (suc n)) (suc n + suc m)) c a (suc n)
          (upto_entered sl r b (suc n) (suc n + suc m) (omega arith) e) k q)) ih
      go false e ih = ih k (upto_passed sl r b (suc n) (suc n + suc m) (omega arith) e k.state q)
