-- A step and null steps (01, "They fire in that order", "null steps follow"): the chosen transitions keep each other's scopes active,
-- so that every one fires from a state of the chart's own. Assumes nothing.
use mathlib.Core.Path.{◌∙◌, ◌≡◌, refl, subst, sym}
use Prim.Native.Nat.{◌<◌, suc, zero, ℕ}
use native.Mathlib.Omega.{arith}
use mathlib.Core.Bool.{Bool, ◌&&◌, false, true}
use mathlib.Core.List.{List, [], ◌∷◌}
use lib.ListN.{length}
use lib.Dec.{eqb}
use lib.IntN.{pos, ℤ}
use borrow.Author.Tests.{eq-eqb}
use Rattle.invariants.proofs.Choosing.{Apart, apart_lists, chosen_apart, chosen_enabled, none_apart, one_apart}
use Rattle.invariants.proofs.Config.{Config, no_hole}
use Rattle.invariants.proofs.Enters.{has_kept}
use Rattle.invariants.proofs.Firing.{ArmedBy, MovedBy, Standing, fire_to_stands}
use Rattle.invariants.proofs.Good.{emit_good}
use Rattle.invariants.specs.Good.{Good}
use Rattle.invariants.proofs.GoodReaction.{fire_good}
use Rattle.invariants.proofs.Keeps.{Gives, emit_keeps, gives_bind, gives_holds, gives_map}
use Rattle.laws.proofs.Lists.{and_both, and_left, and_right, each_weaker, or_left}
use Rattle.laws.specs.Facts.{Each, TargetFacts, Under, child, deeper, none_left, one_more}
use Rattle.laws.proofs.Ranges.{has_in}
use Rattle.laws.proofs.Scope.{scope_facts}
use Rattle.laws.proofs.Sound.{SoundChart}
use Rattle.laws.proofs.Tree.{under_has, under_trans}
use Rattle.laws.proofs.Value.{SizedChart}
use Rattle.meaning.specs.Chart.{Chart}
use Rattle.meaning.specs.Lists.{from, has}
use Rattle.meaning.specs.Reaction.{chosen, enabled, enabled_by, fire, fire_to, guard_holds, if_any, meets, settle, settle_in, step}
use Rattle.meaning.specs.Steps.{Step, ◌then◌, each, look, refuse, skip}
use Rattle.meaning.specs.Tree.{all_states, ancestors, descendants, parent_of, scope, span, span_of, trans_row}
use Rattle.meaning.specs.Widget.{Ctx, emit, is_active}
use Rattle.meaning.specs.declared.Entry.TheVariants.{Taken as taken}
use Rattle.meaning.specs.declared.State.{State}
use Rattle.meaning.specs.declared.chart.Target.{Target}
use Rattle.meaning.specs.declared.chart.Target.TheVariants.{History as history, InPlace as in_place, To as to}
use Rattle.sizes.specs.Sizes.{NULL_STEPS}

-- all that is kept between firings
abbrev pub Whole : Chart → Ctx → Type 0
Whole c k = Standing c k.state × Good c k

abbrev pub Armed : Chart → State → ℕ → Type 0
Armed c u t = (t < length c.transitions) × ArmedBy c u (trans_row c t).source (trans_row c t).target

-- above an active state all are active
pub active_above : (c : Chart) (on : ℕ → Bool) (hole : ℕ → Type 0) → Config c on hole → (p s : ℕ) → Under c p s → on s ≡ true → on p ≡ true
active_above c on hole g p s (child {n} e) o = subst (λ x. on x ≡ true) e (g.up n o)
active_above c on hole g p s (deeper {n} u) o = active_above c on hole g p (parent_of c (suc n)) u (g.up n o)

module _ (c : Chart) (r : SoundChart c) where
  pub descendant_has : (s y : ℕ) → Under c s y → y < length c.states → has y (descendants c s) ≡ true
  unfolding descendants all_states
  descendant_has s y u l = has_kept y (λ d. has s (ancestors c d)) (from 0 (length c.states))
      ∙ and_both (has s (ancestors c y)) (has y (from 0 (length c.states)))
      (under_has c r.ordered s y u) (has_in y 0 (length c.states) (omega arith) (omega arith))

  -- the source of a transition lies in its span
  source_in_span : (s : ℕ) (x : Target) → s < length c.states → TargetFacts c s x → has s (span_of c s x) ≡ true
  unfolding span_of has
  source_in_span s (to d) l f = descendant_has (scope c s d) s (scope_facts c r s d f.2 f.1).above_source l
  source_in_span s (history b) l f = descendant_has (scope c s b) s (scope_facts c r s b f.3 f.1).above_source l
  source_in_span s in_place l f = or_left (eqb s s) (has s (descendants c s)) (eq-eqb s s refl)

  -- a firing moves nothing above the source of one whose span lies apart
  unmoved : (u v : State) (s x : ℕ) (y : Target) (z : List ℕ)
      → x < length c.states → has x z ≡ true → meets z (span_of c s y) ≡ false → MovedBy c u v s y
      → (p : ℕ) → Under c p x → is_active v p ≡ is_active u p
  unfolding span_of
  unmoved u v s x (to d) z l h m f p i =
      f p (λ w. apart_lists z (descendants c (scope c s d)) x m h (descendant_has (scope c s d) x (under_trans w i) l))
  unmoved u v s x (history b) z l h m f p i =
      f p (λ w. apart_lists z (descendants c (scope c s b)) x m h (descendant_has (scope c s b) x (under_trans w i) l))
  unmoved u v s x in_place z l h m f p i = f p

  still_armed : (u v : State) (s x : ℕ) (y w : Target) → x < length c.states → TargetFacts c x w
      → meets (span_of c x w) (span_of c s y) ≡ false → MovedBy c u v s y → ArmedBy c u x w → ArmedBy c v x w
  still_armed u v s x y (to d) l f m q e = unmoved u v s x y
      (span_of c x (to d)) l (source_in_span x (to d) l f) m q (scope c x d) (scope_facts c r x d f.2 f.1).above_source ∙ e
  still_armed u v s x y (history b) l f m q e = unmoved u v s x y (span_of c x (history b)) l
      (source_in_span x (history b) l f) m q (scope c x b) (scope_facts c r x b f.3 f.1).above_source ∙ e
  still_armed u v s x y in_place l f m q e = tt

  -- ---- what is enabled is armed

  enabled_source : (e : ℕ) (u : State) (t : ℕ) → enabled c e u t ≡ true → is_active u (trans_row c t).source ≡ true
  unfolding enabled enabled_by
  enabled_source e u t h =
      let x = trans_row c t in
      and_left (is_active u x.source) (guard_holds x.guard u)
      (and_right (eqb x.trigger e) (is_active u x.source && guard_holds x.guard u) h)

  armed_by : (u : State) → Config c (is_active u) no_hole
      → (s : ℕ) (x : Target) → TargetFacts c s x → is_active u s ≡ true → ArmedBy c u s x
  armed_by u g s (to d) f e = active_above c (is_active u) no_hole g (scope c s d) s (scope_facts c r s d f.2 f.1).above_source e
  armed_by u g s (history b) f e =
      active_above c (is_active u) no_hole g (scope c s b) s (scope_facts c r s b f.3 f.1).above_source e
  armed_by u g s in_place f e = tt

  pub chosen_armed : (e : ℕ) (u : State) → Config c (is_active u) no_hole → Each (Armed c u) (chosen c e u)
  chosen_armed e u g = each_weaker _ _ _ (λ t q. (
    q.0,
    armed_by u g (trans_row c t).source
        (trans_row c t).target (r.transitions t q.0).target (enabled_source e u t q.1),
  )) (chosen_enabled c e u)

-- ---- firing them one after the other

module _ (c : Chart) (r : SoundChart c) (z : SizedChart c) where
  pub fire_stands : (a : ℤ) (t : ℕ) (k : Ctx) → Whole c k → Armed c k.state t
      → Gives (fire c a t k) (λ j. Whole c j × MovedBy c k.state j.state (trans_row c t).source (trans_row c t).target)
  unfolding fire ◌then◌
  fire_stands a t k w e =
      gives_map {A = Ctx} (λ j. (Standing c j.state × MovedBy c k.state j.state s x) × Good c j)
      (λ j. Whole c j × MovedBy c k.state j.state s x) (fire c a t k)
      (gives_holds (λ j. Standing c j.state × MovedBy c k.state j.state s x) (Good c) (fire c a t k)
      (gives_bind (λ j. (j.state ≡ k.state) × Good c j)
      (λ j. Standing c j.state × MovedBy c k.state j.state s x) (emit (taken t) k) (fire_to c a t s x)
      (gives_holds (λ j. j.state ≡ k.state) (Good c)
      (emit (taken t) k) (emit_keeps (λ u. u ≡ k.state) (taken t) k refl) (emit_good c (taken t) e.0 k w.1))
      (λ j p. subst (λ u. Gives (fire_to c a t s x j) (λ i. Standing c i.state × MovedBy c u i.state s x)) p.0
      (fire_to_stands c r z a t s x (r.transitions t e.0).target j
      p.1 (subst (Standing c) (sym p.0) w.0) (subst (λ u. ArmedBy c u s x) (sym p.0) e.1))))
      (fire_good c r z a t e.0 k w.1))
      (λ j q. ((q.0.0, q.1), q.0.1))
    where
      s : ℕ
      s = (trans_row c t).source

      x : Target
      x = (trans_row c t).target

  pub rest_armed : (u v : State) (t : ℕ) (ts : List ℕ) → MovedBy c u v (trans_row c t).source (trans_row c t).target
      → Each (λ y. meets (span c y) (span c t) ≡ false) ts → Each (Armed c u) ts → Each (Armed c v) ts
  unfolding span
  rest_armed u v t [] m none_left none_left = none_left
  rest_armed u v t (y ∷ ts) m (one_more p ps) (one_more q qs) =
      one_more (
        q.0,
        still_armed c r u v (trans_row c t).source (trans_row c y).source (trans_row c t).target
            (trans_row c y).target (r.transitions y q.0).source (r.transitions y q.0).target p m q.1,
      )
      (rest_armed u v t ts m ps qs)

  fires_stand : (a : ℤ) (ts : List ℕ) → Apart c ts
      → (k : Ctx) → Whole c k → Each (Armed c k.state) ts → Gives (each (fire c a) ts k) (Whole c)
  unfolding each
  fires_stand a [] none_apart k w none_left = w
  fires_stand a (t ∷ ts) (one_apart p ps) k w (one_more q qs) =
      gives_bind (λ j. Whole c j × MovedBy c k.state j.state (trans_row c t).source (trans_row c t).target)
      (Whole c) (fire c a t k) (each (fire c a) ts) (fire_stands a t k w q)
      (λ j v. fires_stand a ts ps j v.0 (rest_armed k.state j.state t ts v.1 p qs))

  pub step_stands : (e : ℕ) (a : ℤ) (k : Ctx) → Whole c k → Gives (step c e a k) (Whole c)
  unfolding step look
  step_stands e a k w =
      fires_stand a (chosen c e k.state) (chosen_apart c e k.state) k w (chosen_armed c r e k.state w.0.config)

  -- ---- null steps

  any_stands : {A : Type 0} (xs : List A) (F : Step Ctx) (k : Ctx) → Whole c k → Gives (F k) (Whole c) → Gives (if_any xs F k) (Whole c)
  unfolding if_any skip
  any_stands [] F k w f = w
  any_stands (x ∷ xs) F k w f = f

  settle_in_stands : (n : ℕ) (k : Ctx) → Whole c k → Gives (settle_in c n k) (Whole c)
  unfolding settle_in look ◌then◌
  settle_in_stands zero k w = any_stands (chosen c 0 k.state) (λ _. refuse 12) k w (λ x. omega arith, λ x. omega arith, λ x. omega arith)
  settle_in_stands (suc n) k w = any_stands (chosen c 0 k.state) (step c 0 (pos 0) then settle_in c n) k w
      (gives_bind (Whole c) (Whole c) (step c 0 (pos 0) k) (settle_in c n) (step_stands 0 (pos 0) k w) (settle_in_stands n))

  pub settle_stands : (k : Ctx) → Whole c k → Gives (settle c k) (Whole c)
  unfolding settle
  settle_stands = settle_in_stands NULL_STEPS
