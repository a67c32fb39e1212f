-- Leaving a span (01, "Firing"): from a legal configuration the active states of the span are left, highest number first, and each
-- is stored where its o parent's slot then leads on. Afterwards no state below the scope is active. Assumes nothing.
use Rattle.std.specs.Prelude.{None, Some}
use mathlib.Core.Path.{◌∙◌, ◌≡◌, ap, refl, subst, sym}
use mathlib.Core.Logic.{◌⊎◌, inl, inr, ⊎_elim}
use Prim.Native.Nat.{◌+◌, ◌<◌, ◌≤◌, suc, zero, ℕ}
use native.Mathlib.Omega.{arith}
use native.Mathlib.Nat.{add-suc, eq-or-lt_of_le, suc-add}
use native.Mathlib.Numerals.{add-one}
use mathlib.Core.Bool.{Bool, cond, false, true, true≢false}
use mathlib.Core.List.{List, [], ◌∷◌, reverse, reverse-append}
use lib.ListN.{get_or, length, length-set, set}
use lib.Seq.{get_or-set_other, get_or-set_same}
use lib.IntN.{negsuc, pos, ℤ}
use Rattle.invariants.proofs.Config.{Config, no_hole}
use Rattle.invariants.proofs.Keeps.{Gives, Leads, Outside, acts_keep, change_leads, emit_keeps, gives_bind, then_leads}
use Rattle.invariants.proofs.Slots.{Goes, Lead, same_held, slot_at}
use Rattle.laws.proofs.Lists.{same_or}
use Rattle.laws.proofs.Rules.{not_o_of_a, not_o_of_b}
use Rattle.laws.proofs.Sound.{SoundChart, child_later, child_parent, no_root_child}
use Rattle.laws.proofs.Tree.{from_add}
use Rattle.laws.specs.Facts.{Under, child, deeper}
use Rattle.meaning.specs.Chart.{Chart}
use Rattle.meaning.specs.Effects.{leave, mark_left, o_parent, store_in}
use Rattle.meaning.specs.Lists.{from}
use Rattle.meaning.specs.Reaction.{leave_active}
use Rattle.meaning.specs.Steps.{each, look, when}
use Rattle.meaning.specs.Tree.{is_child, is_o, kind_of, parent_of}
use Rattle.meaning.specs.Widget.{is_active, is_filled, set_active, set_queue, set_slot, set_value}
use Rattle.meaning.specs.declared.State.{State}
use Rattle.meaning.specs.declared.chart.Kind.{Kind}
use Rattle.meaning.specs.declared.chart.Kind.TheVariants.{A as kind_a, B as kind_b, O as kind_o}
use Rattle.meaning.specs.declared.chart.Owner.TheVariants.{ExitOf as exit_of}
use Rattle.numbers.specs.Place.{place_of as as_slot}

-- the n numbers above s, falling
unfoldable pub falling : ℕ → ℕ → List ℕ
falling s zero = []
falling s (suc n) = suc (s + n) ∷ falling s n

pub reverse_range : (s n : ℕ) → reverse (from (suc s) n) ≡ falling s n
unfolding from falling
reverse_range s zero = refl
reverse_range s (suc n) =
    let e : suc n ≡ n + 1 = sym (add-one n) in
    ap (λ i. reverse (from (suc s) i)) e ∙ ap reverse (from_add (suc s) n 1) ∙ reverse-append (from (suc s) n) (from (suc s + n) 1)
    ∙ ap (λ i. i ∷ reverse (from (suc s) n)) (suc-add s n) ∙ ap (λ l. suc (s + n) ∷ l) (reverse_range s n)

-- ---- slots that are filled stay so

stays_filled : (sl : List ℤ) (p x s : ℕ) → is_filled (slot_at sl s) ≡ true → is_filled (slot_at (set sl p (pos x)) s) ≡ true
unfolding is_filled
stays_filled [] p x s e = e
stays_filled (z ∷ zs) zero x zero e = refl
stays_filled (z ∷ zs) zero x (suc s) e = e
stays_filled (z ∷ zs) (suc p) x zero e = e
stays_filled (z ∷ zs) (suc p) x (suc s) e = stays_filled zs p x s e

filled_now : (sl : List ℤ) (p x : ℕ) → p < length sl → slot_at (set sl p (pos x)) p ≡ Some x
filled_now sl p x l = ap as_slot (get_or-set_same sl p (pos x) (negsuc 0) l)

other_slot : (sl : List ℤ) (p x s : ℕ) → (s ≡ p → ⊥) → slot_at (set sl p (pos x)) s ≡ slot_at sl s
other_slot sl p x s n = ap as_slot (get_or-set_other sl p s (pos x) (negsuc 0) n)

goes_still : (c : Chart) (sl : List ℤ) (p x d : ℕ) → Goes c sl d → Goes c (set sl p (pos x)) d
goes_still c sl p x d g = record {
  child = λ e. stays_filled sl p x d (g.child e);
  components = λ k y t. stays_filled sl p x y (g.components k y t);
}

-- ---- while the states under s from m on have been left

pub record Leaving (c : Chart) (on : ℕ → Bool) (s m : ℕ) (u : State) : Type 0 where
  pub lead : Lead c u.slots
  pub stored : (y : ℕ) → m ≤ suc y → Under c s (suc y)
      → on (suc y) ≡ true → kind_of c (parent_of c (suc y)) ≡ kind_o → is_filled (slot_at u.slots (parent_of c (suc y))) ≡ true
  pub same : (y : ℕ) → y < m → is_active u y ≡ on y
  pub off : (y : ℕ) → m ≤ y → Under c s y → is_active u y ≡ false
  pub kept : (y : ℕ) → (Under c s y → ⊥) → is_active u y ≡ on y
  pub wide : length c.states ≤ length u.slots

leaving_outside : (c : Chart) (on : ℕ → Bool) (s m : ℕ) → Outside (Leaving c on s m)
unfolding set_value set_queue is_active
leaving_outside c on s m = record {
  values = λ u v x h. record { lead = h.lead; stored = h.stored; same = h.same; off = h.off; kept = h.kept; wide = h.wide };
  queue = λ u q h. record { lead = h.lead; stored = h.stored; same = h.same; off = h.off; kept = h.kept; wide = h.wide };
}

-- the mark of a state that is left
off_now : (l : List Bool) (s : ℕ) → get_or (set l s false) s false ≡ false
off_now [] s = refl
off_now (x ∷ l) zero = refl
off_now (x ∷ l) (suc s) = off_now l s

module _ (c : Chart) (r : SoundChart c) (on : ℕ → Bool) (g : Config c on no_hole) (s : ℕ) where
  -- an active o state of the span whose child was left has a filled slot
  filled_o : (x m : ℕ) (u : State) → Leaving c on s m u
      → Under c s x → m ≤ suc x → on x ≡ true → kind_of c x ≡ kind_o → is_filled (slot_at u.slots x) ≡ true
  filled_o x m u h v l e k = by (g.one x k e (λ z. z))
    where
      by : (y : ℕ) × (is_child c x y ≡ true) × (on y ≡ true) → is_filled (slot_at u.slots x) ≡ true
      by (zero, t, o) = absurd (no_root_child c x t)
      by (suc y, t, o) =
          let q : parent_of c (suc y) ≡ x = child_parent c x y t in
          subst (λ p. is_filled (slot_at u.slots p) ≡ true) q
          (h.stored y (omega (arith, r.ordered.falls y, q))
          (deeper (subst (Under c s) (sym q) v)) o (subst (λ p. kind_of c p ≡ kind_o) (sym q) k))

  -- so an active state of the span, when it is left, leads on
  goes_left : (x m : ℕ) (u : State) → Leaving c on s m u → Under c s x → m ≤ suc x → on x ≡ true → Goes c u.slots x
  goes_left x m u h v l e = record { child = filled_o x m u h v l e; components = component }
    where
      component : kind_of c x ≡ kind_a → (y : ℕ) → is_child c x y ≡ true → is_filled (slot_at u.slots y) ≡ true
      component k zero t = absurd (no_root_child c x t)
      component k (suc y) t = filled_o (suc y) m u h (deeper (subst (Under c s) (sym (child_parent c x y t)) v))
          (omega (arith, child_later c r.ordered x (suc y) t)) (g.all x (suc y) k e t) (r.components x (suc y) k t)

  at_or_past : (y z : ℕ) → suc z ≤ suc y → (z ≡ y) ⊎ (suc (suc z) ≤ suc y)
  at_or_past y z l = ⊎_elim (λ q. inl q) (λ q. inr (omega arith)) (eq-or-lt_of_le {n = z} {m = y} (omega arith))

  here_or_past : (y z : ℕ) → z ≤ y → (z ≡ y) ⊎ (suc z ≤ y)
  here_or_past y z l = eq-or-lt_of_le l

  skipped : (z : ℕ) (u : State) → Leaving c on s (suc (suc z)) u → on (suc z) ≡ false → Leaving c on s (suc z) u
  skipped z u h e = record {
    lead = h.lead;
    stored = λ y l v t k. ⊎_elim (λ q. absurd (true≢false (sym t ∙ ap (λ i. on (suc i)) (sym q) ∙ e))) (λ q. h.stored y q v t k)
        (at_or_past y z l);
    same = λ y l. h.same y (omega arith);
    off = λ y l v. ⊎_elim (λ q. h.same y (omega arith) ∙ ap on (sym q) ∙ e) (λ q. h.off y q v) (here_or_past y (suc z) l);
    kept = h.kept;
    wide = h.wide;
  }

  -- the marks once suc z is left
  marks_off : (z : ℕ) (u : State) → Leaving c on s (suc (suc z)) u
      → (y : ℕ) → suc z ≤ y → Under c s y → get_or (set u.active (suc z) false) y false ≡ false
  unfolding is_active
  marks_off z u h y l v = ⊎_elim
      (λ q. subst (λ i. get_or (set u.active (suc z) false) i false ≡ false) q (off_now u.active (suc z)))
      (λ q. get_or-set_other u.active (suc z) y false false (λ r₁. omega arith) ∙ h.off y q v)
      (here_or_past y (suc z) l)

  marks_kept : (z : ℕ) (u : State) → Leaving c on s (suc (suc z)) u
      → Under c s (suc z) → (y : ℕ) → (Under c s y → ⊥) → get_or (set u.active (suc z) false) y false ≡ on y
  unfolding is_active
  marks_kept z u h v y n = get_or-set_other u.active (suc z) y false false (λ q. n (subst (Under c s) (sym q) v)) ∙ h.kept y n

  put_away : (z : ℕ) (u : State) → Leaving c on s (suc (suc z)) u → Under c s (suc z) → on (suc z) ≡ true → suc z < length c.states
      → (k : Kind) → kind_of c (parent_of c (suc z)) ≡ k
      → Leaving c on s (suc z) (store_in (cond (is_o k) (Some (parent_of c (suc z))) None) (suc z) (set_active (suc z) false u))
  unfolding store_in set_slot set_active is_o is_filled is_active
  put_away z u h v e l kind_o k = record {
    lead = λ x d q. ⊎_elim
        (λ i. subst (Goes c (set u.slots p (pos (suc z))))
        (same_held (suc z) d (sym (filled_now u.slots p (suc z) fits) ∙ ap (slot_at (set u.slots p (pos (suc z)))) (sym i)
        ∙ q)) (goes_still c u.slots p (suc z) (suc z) (goes_left (suc z) (suc (suc z)) u h v (omega arith) e)))
        (λ i. goes_still c u.slots p (suc z) d (h.lead x d (sym (other_slot u.slots p (suc z) x i) ∙ q)))
        (same_or x p);
    stored = λ y m w t ky. ⊎_elim
        (λ i. ap is_filled
        (ap (λ j. slot_at (set u.slots p (pos (suc z))) (parent_of c (suc j))) (sym i) ∙ filled_now u.slots p (suc z) fits))
        (λ i. stays_filled u.slots p (suc z) (parent_of c (suc y)) (h.stored y i w t ky))
        (at_or_past y z m);
    same = λ y m. get_or-set_other u.active (suc z) y false false (λ i. omega arith) ∙ h.same y (omega arith);
    off = marks_off z u h;
    kept = marks_kept z u h v;
    wide = rw length-set h.wide;
  }
    where
      p : ℕ
      p = parent_of c (suc z)

      fits : p < length u.slots
      fits = omega (arith, r.ordered.falls z, h.wide)
  put_away z u h v e l kind_a k = record {
    lead = h.lead;
    stored = λ y m w t ky. ⊎_elim (λ i. absurd (not_o_of_a _ k (subst (λ j. kind_of c (parent_of c (suc j)) ≡ kind_o) (sym i) ky)))
        (λ i. h.stored y i w t ky) (at_or_past y z m);
    same = λ y m. get_or-set_other u.active (suc z) y false false (λ i. omega arith) ∙ h.same y (omega arith);
    off = marks_off z u h;
    kept = marks_kept z u h v;
    wide = h.wide;
  }
  put_away z u h v e l kind_b k = record {
    lead = h.lead;
    stored = λ y m w t ky. ⊎_elim (λ i. absurd (not_o_of_b _ k (subst (λ j. kind_of c (parent_of c (suc j)) ≡ kind_o) (sym i) ky)))
        (λ i. h.stored y i w t ky) (at_or_past y z m);
    same = λ y m. get_or-set_other u.active (suc z) y false false (λ i. omega arith) ∙ h.same y (omega arith);
    off = marks_off z u h;
    kept = marks_kept z u h v;
    wide = h.wide;
  }

  -- leaving one state, and all of the span
  leave_leads : (a : ℤ) (z : ℕ) → Under c s (suc z) → on (suc z) ≡ true
      → suc z < length c.states → Leads (Leaving c on s (suc (suc z))) (Leaving c on s (suc z)) (leave c a (suc z))
  unfolding leave mark_left o_parent
  leave_leads a z v e l = then_leads (Leaving c on s (suc (suc z))) (Leaving c on s (suc z)) (Leaving c on s (suc z)) _ _
      (then_leads (Leaving c on s (suc (suc z)))
      (Leaving c on s (suc (suc z))) (Leaving c on s (suc z)) _ _ (emit_keeps (Leaving c on s (suc (suc z))) _)
      (change_leads (Leaving c on s (suc (suc z)))
      (Leaving c on s (suc z)) _ (λ u h. put_away z u h v e l (kind_of c (parent_of c (suc z))) refl)))
      (acts_keep (Leaving c on s (suc z)) (leaving_outside c on s (suc z)) c a (exit_of (suc z)))

  leave_active_leads : (a : ℤ) (z : ℕ) → Under c s (suc z)
      → suc z < length c.states → Leads (Leaving c on s (suc (suc z))) (Leaving c on s (suc z)) (leave_active c a (suc z))
  unfolding leave_active look when
  leave_active_leads a z v l k h = subst (λ b. Gives (when b (leave c a (suc z)) k) (λ j. Leaving c on s (suc z) j.state))
      (sym (h.same (suc z) (omega arith))) (go (on (suc z)) refl)
    where
      go : (b : Bool) → on (suc z) ≡ b → Gives (when b (leave c a (suc z)) k) (λ j. Leaving c on s (suc z) j.state)
      go true e = leave_leads a z v e l k h
      go false e = skipped z k.state h e

  pub leaves : (a : ℤ) (n : ℕ) → ((z : ℕ) → s ≤ z → z < s + n → Under c s (suc z) × (suc z < length c.states))
      → Leads (Leaving c on s (suc (s + n))) (Leaving c on s (suc (s + 0))) (each (leave_active c a) (falling s n))
  unfolding falling each
  leaves a zero t k h = h
  leaves a (suc n) t k h = gives_bind (λ j. Leaving c on s (suc (s + n)) j.state)
      (λ j. Leaving c on s (suc (s + 0)) j.state) (leave_active c a (suc (s + n)) k) (each (leave_active c a) (falling s n))
      (leave_active_leads a (s + n) (t (s + n) (omega arith) (omega arith)).0
      (t (s + n) (omega arith) (omega arith)).1 k (subst (λ i. Leaving c on s (suc i) k.state) (add-suc s n) h))
      (leaves a n (λ z l m. t z l (omega arith)))
