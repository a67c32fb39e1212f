-- Which states under b a way enters, asked of each state by itself; and the law that going down level by level enters exactly
-- these, in one forward pass over the numbers after b, each by its own visit. Assumes nothing.
use mathlib.Core.Path.{◌∙◌, ◌≡◌, ap, refl, sym}
use mathlib.Core.Logic.{inl}
use Prim.Native.Nat.{◌<◌, ◌≤◌, suc, zero, ℕ}
use native.Mathlib.Omega.{arith}
use mathlib.Core.Bool.{Bool, ◌&&◌, ◌||◌, cond, false, true}
use mathlib.Core.List.{List, [], ◌++◌, ◌∷◌, map}
use lib.ListN.{length}
use lib.Dec.{eqb}
use borrow.Author.Tests.{eq-eqb, ne_eqb}
use Rattle.laws.proofs.Descent.{Reached, descent, map_append, picks}
use Rattle.laws.specs.Facts.{Ordered, Sound, Under}
use Rattle.laws.proofs.Sound.{child_parent, no_root_child}
use Rattle.laws.proofs.Tree.{under_lt}
use Rattle.meaning.specs.Chart.{Chart}
use Rattle.meaning.specs.Entry.{Visit, Way, all_below, below, by_default, defaults, goes_on, on_to, plain, state_of, stops}
use Rattle.meaning.specs.Lists.{concat_map, keep}
use Rattle.meaning.specs.Reaction.{step}
use Rattle.meaning.specs.Tree.{all_states, children, default_child, descendants, is_child, kind_of, parent_of}
use Rattle.meaning.specs.declared.chart.Kind.{Kind}
use Rattle.meaning.specs.declared.chart.Kind.TheVariants.{A as kind_a, B as kind_b, O as kind_o}

-- ---- which states under b are reached

unfoldable pub reach : Chart → (ℕ → Way) → ℕ → ℕ → ℕ → Bool
reach c way b zero x = eqb x b
reach c way b (suc f) zero = eqb 0 b
reach c way b (suc f) (suc n) = eqb (suc n) b || (picks c (kind_of c (parent_of c (suc n)))
    (way (parent_of c (suc n))) (parent_of c (suc n)) (suc n) && reach c way b f (parent_of c (suc n)))

reach_fuel : (c : Chart) (way : ℕ → Way) → Ordered c → (b f g x : ℕ) → x ≤ f → x ≤ g → reach c way b f x ≡ reach c way b g x
unfolding reach
reach_fuel c way o b zero zero x l m = refl
reach_fuel c way o b zero (suc g) zero l m = refl
reach_fuel c way o b zero (suc g) (suc n) l m = absurd (omega arith)
reach_fuel c way o b (suc f) zero zero l m = refl
reach_fuel c way o b (suc f) zero (suc n) l m = absurd (omega arith)
reach_fuel c way o b (suc f) (suc g) zero l m = refl
reach_fuel c way o b (suc f) (suc g) (suc n) l m =
    rw (reach_fuel c way o b f g (parent_of c (suc n)) (omega (arith, o.falls n)) (omega (arith, o.falls n)))

pub reached : (c : Chart) (way : ℕ → Way) → Ordered c → (b : ℕ) → Reached c way b (λ x. reach c way b x x)
unfolding reach
reached c way o b = record { top = top b; step = step }
  where
    top : (x : ℕ) → reach c way x x x ≡ true
    top zero = eq-eqb 0 0 refl
    top (suc n) = rw (eq-eqb (suc n) (suc n) refl)

    step : (n : ℕ) → Under c b (suc n) → reach c way b (suc n) (suc n) ≡ (picks c (kind_of c (parent_of c (suc n)))
        (way (parent_of c (suc n))) (parent_of c (suc n)) (suc n) && reach c way b (parent_of c (suc n)) (parent_of c (suc n)))
    step n u = rw (
      ne_eqb (suc n) b (λ e. omega (arith, under_lt c o u, e)),
      reach_fuel c way o b n (parent_of c (suc n)) (parent_of c (suc n)) (o.falls n) (omega arith),
    )

-- ---- how a state is entered, asked of the state by itself

unfoldable pub visit_by : Kind → Way → ℕ → ℕ → Visit
visit_by kind_o (on_to d) p x = plain x
visit_by kind_o defaults p x = by_default p x
visit_by kind_o stops p x = plain x
visit_by kind_a way p x = plain x
visit_by kind_b way p x = plain x

-- by its parent's default where the way goes by defaults there, else plainly
unfoldable pub visit_of : Chart → (ℕ → Way) → ℕ → Visit
visit_of c way x = visit_by (kind_of c (parent_of c x)) (way (parent_of c x)) (parent_of c x) x

module _ (c : Chart) (way : ℕ → Way) (g : Sound c way) where
  child_visit : (s y : ℕ) → is_child c s y ≡ true → visit_of c way y ≡ visit_by (kind_of c s) (way s) s y
  unfolding visit_of
  child_visit s zero e = absurd (no_root_child c s e)
  child_visit s (suc n) e = ap (λ p. visit_by (kind_of c p) (way p) p (suc n)) (child_parent c s n e)

  visits_append : (vs ws : List Visit) → map (λ v. visit_of c way (state_of v)) vs ≡ vs
      → map (λ v. visit_of c way (state_of v)) ws ≡ ws → map (λ v. visit_of c way (state_of v)) (vs ++ ws) ≡ vs ++ ws
  visits_append vs ws p q = map_append (λ v. visit_of c way (state_of v)) vs ws ∙ rw (p, q)

  visits_each : (deep : ℕ → List Visit) (p : ℕ → Bool) (xs : List ℕ)
      → ((x : ℕ) → p x ≡ true → map (λ v. visit_of c way (state_of v)) (deep x) ≡ deep x)
      → map (λ v. visit_of c way (state_of v)) (concat_map deep (keep p xs)) ≡ concat_map deep (keep p xs)
  unfolding concat_map keep
  visits_each deep p [] h = refl
  visits_each deep p (x ∷ xs) h = go (p x) refl (visits_each deep p xs h)
    where
      go : (b : Bool) → p x ≡ b → map (λ v. visit_of c way (state_of v)) (concat_map deep (keep p xs)) ≡ concat_map deep (keep p xs)
          → map (λ v. visit_of c way (state_of v)) (concat_map deep (cond b (x ∷ keep p xs) (keep p xs)))
          ≡ concat_map deep (cond b (x ∷ keep p xs) (keep p xs))
      go true e ih = visits_append (deep x) (concat_map deep (keep p xs)) (h x e) ih
      go false e ih = ih

  goes_visits : (deep : ℕ → List Visit) (s : ℕ) → ((y : ℕ) → map (λ v. visit_of c way (state_of v)) (deep y) ≡ deep y)
      → (x : Kind) → kind_of c s ≡ x → (w : Way)
      → way s ≡ w → map (λ v. visit_of c way (state_of v)) (goes_on c deep s x w) ≡ goes_on c deep s x w
  unfolding goes_on state_of visit_by children
  goes_visits deep s ih kind_o kx (on_to d) wx = rw (child_visit s d (g.on s d kx wx).0, kx, wx, ih d)
  goes_visits deep s ih kind_o kx defaults wx = rw (child_visit s (default_child c s) (g.by s kx wx).0, kx, wx, ih (default_child c s))
  goes_visits deep s ih kind_o kx stops wx = refl
  goes_visits deep s ih kind_a kx w wx =
      visits_each (λ d. plain d ∷ deep d) (is_child c s) (all_states c) (λ y t. rw (child_visit s y t, kx, ih y))
  goes_visits deep s ih kind_b kx w wx = refl

  below_visits : (f s : ℕ) → map (λ v. visit_of c way (state_of v)) (below c way f s) ≡ below c way f s
  unfolding below
  below_visits zero s = refl
  below_visits (suc f) s = goes_visits (below c way f) s (λ y. below_visits f y) (kind_of c s) refl (way s) refl

  -- ---- one forward pass

  -- the states that are entered below b, in order: those of its descendants that the way reaches
  pub pass_states : (b : ℕ) → b < length c.states → map state_of (all_below c way b) ≡ keep (λ x. reach c way b x x) (descendants c b)
  unfolding all_below
  pass_states b l =
      let h = reached c way g.ordered b in
      descent c way b (λ x. reach c way b x x) g h (length c.states) b (omega arith) l (inl refl) h.top

  map_map : {A B C : Type 0} (f : B → C) (h : A → B) (xs : List A) → map f (map h xs) ≡ map (λ x. f (h x)) xs
  map_map f h [] = refl
  map_map f h (x ∷ xs) = ap (λ l. f (h x) ∷ l) (map_map f h xs)

  -- and how each is entered: the whole itinerary is one forward pass over the descendants
  pub pass : (b : ℕ) → b < length c.states → all_below c way b ≡ map (visit_of c way) (keep (λ x. reach c way b x x) (descendants c b))
  unfolding all_below
  pass b l = sym (below_visits (length c.states) b)
      ∙ sym (map_map (visit_of c way) state_of (below c way (length c.states) b)) ∙ ap (map (visit_of c way)) (pass_states b l)
