-- A firing to a history leads from a legal configuration to a legal one: first with a hole at the owner, then the restore fills it.
-- Assumes nothing.
use Rattle.std.specs.Prelude.{Option, None, Some}
use mathlib.Core.Path.{◌∙◌, ◌≡◌, ap, refl, subst, sym}
use mathlib.Core.Logic.{◌⊎◌, ⊎_elim}
use Prim.Native.Nat.{◌<◌, suc, ℕ}
use native.Mathlib.Omega.{arith}
use mathlib.Core.Bool.{Bool, ◌&&◌, ◌||◌, cond, false, false≢true, true}
use mathlib.Core.List.{List, ◌∷◌, map}
use lib.ListN.{length}
use lib.IntN.{ℤ}
use borrow.Author.Tests.{eq-eqb, eqb-true, ne_eqb}
use Rattle.invariants.proofs.Config.{Config, no_hole}
use Rattle.invariants.proofs.Entering.{filled_not_empty, goes_component}
use Rattle.invariants.proofs.Enters.{entered_fired, entered_not_under, entered_under, owner_reached}
use Rattle.invariants.proofs.Fired.{fired, legal_stays}
use Rattle.invariants.proofs.Left.{left_on}
use Rattle.invariants.proofs.Restoring.{no_child_of_b, owner_goes, restore_sound, restore_way}
use Rattle.invariants.proofs.Slots.{Goes, Lead, slot_at}
use Rattle.invariants.specs.Good.{SlotsOk}
use Rattle.laws.proofs.Descent.{Reached, picks}
use Rattle.laws.proofs.Lists.{and_left, and_right, same_or}
use Rattle.laws.proofs.Reach.{reach, reached}
use Rattle.laws.proofs.Sound.{SoundChart, parent_child}
use Rattle.laws.proofs.Tree.{has_under, under_has, under_trans}
use Rattle.laws.specs.Facts.{Ordered, Under, child, deeper}
use Rattle.laws.proofs.Ways.{owner_sound}
use Rattle.meaning.specs.Chart.{Chart}
use Rattle.meaning.specs.Entry.{Way, all_below, defaults, on_to, slot_way, state_of, stops, towards, towards_owner}
use Rattle.meaning.specs.Lists.{first_that, has}
use Rattle.meaning.specs.Steps.{ok}
use Rattle.meaning.specs.Tree.{ancestors, is_child, kind_of, parent_of}
use Rattle.meaning.specs.declared.chart.Kind.{Kind}
use Rattle.meaning.specs.declared.chart.Kind.TheVariants.{A as kind_a, B as kind_b, O as kind_o}

-- ---- what the slots reach below an owner that leads on

module _ (c : Chart) (r : SoundChart c) (sl : List ℤ) (lead : Lead c sl) where
  next_goes : (p n : ℕ) → parent_of c (suc n) ≡ p → Goes c sl p
      → (k : Kind) → kind_of c p ≡ k → (x : Option ℕ) → slot_at sl p ≡ x → picks c k (slot_way x) p (suc n) ≡ true → Goes c sl (suc n)
  unfolding picks slot_way
  next_goes p n e g kind_o kx None sx t = absurd (false≢true t)
  next_goes p n e g kind_o kx (Some d) sx t = subst (Goes c sl) (sym (eqb-true (suc n) d t)) (lead p d sx)
  next_goes p n e g kind_a kx x sx t = goes_component c r sl lead p (suc n) kx (parent_child c p n e) g
  next_goes p n e g kind_b kx x sx t = absurd (no_child_of_b c r p (suc n) kx (parent_child c p n e))

  reached_goes : (b : ℕ) (f : ℕ → Bool) → Reached c (λ x. slot_way (slot_at sl x)) b f
      → Goes c sl b → (x : ℕ) → Under c b x → f x ≡ true → Goes c sl x
  reached_goes b f h g x (child {n} e) t =
      next_goes (parent_of c (suc n)) n refl (subst (Goes c sl) (sym e) g)
      (kind_of c (parent_of c (suc n))) refl (slot_at sl (parent_of c (suc n))) refl
      (and_left (picks c (kind_of c (parent_of c (suc n))) (slot_way (slot_at sl (parent_of c (suc n))))
      (parent_of c (suc n)) (suc n)) (f (parent_of c (suc n))) (sym (h.step n (child e)) ∙ t))
  reached_goes b f h g x (deeper {n} u) t =
      let q = sym (h.step n (deeper u)) ∙ t in
      next_goes (parent_of c (suc n)) n refl
      (reached_goes b f h g (parent_of c (suc n)) u (and_right (picks c (kind_of c (parent_of c (suc n)))
      (slot_way (slot_at sl (parent_of c (suc n)))) (parent_of c (suc n)) (suc n)) (f (parent_of c (suc n))) q))
      (kind_of c (parent_of c (suc n))) refl (slot_at sl (parent_of c (suc n))) refl
      (and_left (picks c (kind_of c (parent_of c (suc n)))
      (slot_way (slot_at sl (parent_of c (suc n)))) (parent_of c (suc n)) (suc n)) (f (parent_of c (suc n))) q)

-- ---- the two ways, one after the other

pub fired_under : (c : Chart) → Ordered c → (on r : ℕ → Bool) (s x : ℕ) → Under c s x → fired c on r s x ≡ r x
unfolding fired
fired_under c o on r s x u = rw (under_has c o s x u)

pub fired_elsewhere : (c : Chart) (on r : ℕ → Bool) (s x : ℕ) → has s (ancestors c x) ≡ false → fired c on r s x ≡ on x
unfolding fired
fired_elsewhere c on r s x e = rw e

pub towards_goes : (c : Chart) (b x : ℕ) → towards c b x ≡ stops → ⊥
unfolding towards
towards_goes c b x e = go (has x (ancestors c b)) e
  where
    go : (t : Bool) → cond t (on_to (first_that (is_child c x) (b ∷ ancestors c b))) defaults ≡ stops → ⊥
    go true q = let z : ◌≡◌ {A = ℕ} 0 1 = cc in omega arith
    go false q = let z : ◌≡◌ {A = ℕ} 0 1 = cc in omega arith

owner_stops : (c : Chart) (b x : ℕ) → towards_owner c b x ≡ stops → x ≡ b
unfolding towards_owner
owner_stops c b x e = ⊎_elim (λ q. q)
    (λ q. absurd (towards_goes c b x (sym (ap (λ t. cond t stops (towards c b x)) (ne_eqb x b q)) ∙ e))) (same_or x b)

default_way : (sl : List ℤ) (x : ℕ) → restore_way None sl x ≡ stops → ⊥
unfolding restore_way
default_way sl x e = let z : ◌≡◌ {A = ℕ} 0 1 = cc in omega arith

held_way : (sl : List ℤ) (d x : ℕ) → restore_way (Some d) sl x ≡ stops → slot_way (slot_at sl x) ≡ stops
unfolding restore_way
held_way sl d x e = e

held_reached : (c : Chart) (sl : List ℤ) (d b : ℕ) (f : ℕ → Bool)
    → Reached c (restore_way (Some d) sl) b f → Reached c (λ x. slot_way (slot_at sl x)) b f
unfolding restore_way
held_reached c sl d b f h = h

module _ (c : Chart) (r : SoundChart c)
    (sl : List ℤ) (ok : SlotsOk c sl) (lead : Lead c sl) (b : ℕ) (l : b < length c.states) (kb : kind_of c b ≡ kind_o)
    (on : ℕ → Bool) (g : Config c on no_hole) (s : ℕ) (ls : s < length c.states) (us : Under c s b) (top : on s ≡ true) where
  abbrev way_1 : ℕ → Way
  way_1 = towards_owner c b

  abbrev way_2 : ℕ → Way
  way_2 = restore_way (slot_at sl b) sl

  abbrev reach_1 : ℕ → Bool
  reach_1 x = reach c way_1 s x x

  abbrev reach_2 : ℕ → Bool
  reach_2 x = reach c way_2 b x x

  abbrev on_1 : ℕ → Bool
  on_1 = fired c on reach_1 s

  abbrev pub on_2 : ℕ → Bool
  on_2 = fired c on_1 reach_2 b

  h1 : Reached c way_1 s reach_1
  h1 = reached c way_1 r.ordered s

  h2 : Reached c way_2 b reach_2
  h2 = reached c way_2 r.ordered b

  config_1 : Config c on_1 (λ x. x ≡ b)
  config_1 = legal_stays c r way_1 reach_1
      on s no_hole (owner_sound c r b l) h1 g top (λ x. x ≡ b) (λ x i e k w. owner_stops c b x w) (λ x i w. absurd w)

  owner_in : on_1 b ≡ true
  owner_in = fired_under c r.ordered on reach_1 s b us ∙ owner_reached c r b l s us

  -- below the owner the first way enters nothing
  dead : (x : ℕ) → Under c b x → reach_1 x ≡ false
  unfolding picks towards_owner
  dead x (child {n} e) = h1.step n (under_trans us (child e)) ∙ off
    where
      off : (picks c (kind_of c (parent_of c (suc n))) (towards_owner c b (parent_of c (suc n))) (parent_of c (suc n)) (suc n)
          && reach_1 (parent_of c (suc n))) ≡ false
      off = subst (λ p. (picks c (kind_of c p) (towards_owner c b p) p (suc n) && reach_1 p) ≡ false) (sym e) (rw (kb, eq-eqb b b refl))
  dead x (deeper {n} u) = h1.step n (under_trans us (deeper u)) ∙ ap (λ t. picks c (kind_of c (parent_of c (suc n)))
      (towards_owner c b (parent_of c (suc n))) (parent_of c (suc n)) (suc n) && t) (dead (parent_of c (suc n)) u)
      ∙ go (picks c (kind_of c (parent_of c (suc n))) (towards_owner c b (parent_of c (suc n))) (parent_of c (suc n)) (suc n))
    where
      go : (t : Bool) → (t && false) ≡ false
      go true = refl
      go false = refl

  stops_empty : (x : Option ℕ) → slot_way x ≡ stops → x ≡ None
  unfolding slot_way
  stops_empty None e = refl
  stops_empty (Some d) e = let z : ◌≡◌ {A = ℕ} 0 1 = cc in absurd (omega arith)

  -- what the second way reaches goes on
  goes_2 : (x : ℕ) → (x ≡ b) ⊎ Under c b x → on_2 x ≡ true → kind_of c x ≡ kind_o → way_2 x ≡ stops → ⊥
  goes_2 x i e k w = by_slot (slot_at sl b) refl
    where
      by_slot : (z : Option ℕ) → slot_at sl b ≡ z → ⊥
      by_slot None q = never (subst (λ z. restore_way z sl x ≡ stops) q w)
        where
          never : restore_way None sl x ≡ stops → ⊥
          never p = default_way sl x p
      by_slot (Some d) q = filled_not_empty c r sl lead (slot_at sl x)
          (goes_x.child k) (stops_empty (slot_at sl x) (held_way sl d x (subst (λ z. restore_way z sl x ≡ stops) q w)))
        where
          goes_x : Goes c sl x
          goes_x = ⊎_elim
              (λ p. subst (Goes c sl) (sym p) (owner_goes c r sl ok lead b l kb d q))
              (λ u. reached_goes c r sl lead b reach_2
              (held_reached c sl d b reach_2 (subst (λ z. Reached c (restore_way z sl) b reach_2) q h2))
              (owner_goes c r sl ok lead b l kb d q) x u (sym (fired_under c r.ordered on_1 reach_2 b x u) ∙ e))
              i

  pub history_legal : Config c on_2 no_hole
  history_legal = legal_stays c r way_2 reach_2
      on_1 b (λ x. x ≡ b) (restore_sound c r sl ok lead (slot_at sl b)) h2 config_1 owner_in no_hole goes_2 (λ x i w. i.1 w)

  -- ---- the marks

  or_move : (p q o : Bool) → (p || (q || o)) ≡ (q || (p || o))
  or_move true true o = refl
  or_move true false o = refl
  or_move false true o = refl
  or_move false false o = refl

  or_none : (p : Bool) → (p || false) ≡ p
  or_none true = refl
  or_none false = refl

  abbrev entered_1 : List ℕ
  entered_1 = map state_of (all_below c way_1 s)

  abbrev entered_2 : List ℕ
  entered_2 = map state_of (all_below c way_2 b)

  -- after the exits, the visits towards the owner and the restore, what is in is the legal configuration
  pub history_marks : (y : ℕ) → (has y entered_1 || ((has b entered_1 && has y entered_2) || left_on c on s y)) ≡ on_2 y
  history_marks y =
      ap (λ t. has y entered_1 || ((t && has y entered_2) || left_on c on s y))
      (entered_under c r way_1 (owner_sound c r b l) s ls b us ∙ owner_reached c r b l s us)
      ∙ or_move (has y entered_1) (has y entered_2) (left_on c on s y)
      ∙ ap (λ t. has y entered_2 || t) (entered_fired c r way_1 (owner_sound c r b l) s ls on y)
      ∙ go (has b (ancestors c y)) refl
    where
      go : (t : Bool) → has b (ancestors c y) ≡ t → (has y entered_2 || on_1 y) ≡ on_2 y
      go true e =
          let u = has_under c b y e in
          ap (λ t. has y entered_2 || t) (fired_under c r.ordered on reach_1 s y (under_trans us u) ∙ dead y u)
          ∙ or_none (has y entered_2)
          ∙ entered_under c r way_2 (restore_sound c r sl ok lead (slot_at sl b)) b l y u
          ∙ sym (fired_under c r.ordered on_1 reach_2 b y u)
      go false e =
          ap (λ t. t || on_1 y) (entered_not_under c r way_2 (restore_sound c r sl ok lead (slot_at sl b)) b l y e)
          ∙ sym (fired_elsewhere c on_1 reach_2 b y e)
