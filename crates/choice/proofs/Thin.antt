-- Laws of thinning, one transition at a time: what another source, a transition that is not enabled, one that clashes and one that is
-- taken make of the rest. Assumes nothing.
use mathlib.Core.Path.{◌≡◌, refl, sym, ◌∙◌, subst}
use Prim.Native.Nat.{ℕ, suc, ◌+◌, ◌-◌, ◌≤◌, ◌<◌}
use native.Mathlib.Omega.{arith}
use native.Mathlib.Numerals.{add-one}
use mathlib.Core.Bool.{Bool, true, false, cond, true≢false}
use mathlib.Core.List.{List, [], ◌∷◌, ◌++◌, append-nil, append_assoc}
use lib.ListN.{length, length-append}
use lib.Dec.{eqb}
use borrow.Author.Tests.{eq-eqb, ne_eqb}
use Rattle.meaning.specs.declared.State.{State}
use Rattle.meaning.specs.Lists.{keep, from}
use Rattle.meaning.specs.Chart.{Chart}
use Rattle.meaning.specs.Tree.{trans_row, span}
use Rattle.meaning.specs.Reaction.{enabled_by, enabled, meets, thin}
use Rattle.laws.proofs.Lists.{same_or, and_both}
use mathlib.Core.Logic.{⊎_elim}
use Rattle.choice.specs.Choice.{meant}

-- the states of the spans already chosen
unfoldable pub gone_after : Chart → List ℕ → List ℕ → List ℕ
gone_after c gone [] = gone
gone_after c gone (t ∷ ts) = gone_after c (span c t ++ gone) ts

-- the enabled transitions of one source from t on, n of them at most
unfoldable pub candidates_from : Chart → ℕ → State → ℕ → ℕ → ℕ → List ℕ
candidates_from c e u s t n = keep (λ x. eqb (trans_row c x).source s) (keep (enabled c e u) (from t n))

-- the chosen so far with what the enabled transitions of the source s from t on, n at most, add to them
unfoldable pub with_rest : Chart → ℕ → State → ℕ → ℕ → ℕ → List ℕ → List ℕ
with_rest c e u s t n ps = ps ++ thin c (gone_after c [] ps) (candidates_from c e u s t n)

pub gone_snoc : (c : Chart) (g : List ℕ) (ts : List ℕ) (t : ℕ) → gone_after c g (ts ++ (t ∷ [])) ≡ span c t ++ gone_after c g ts
unfolding gone_after
gone_snoc c g [] t = refl
gone_snoc c g (x ∷ ts) t = gone_snoc c (span c x ++ g) ts t

module _ (c : Chart) (g : List ℕ) (t : ℕ) (ts : List ℕ) where
  by_meeting : (b : Bool) → meets (span c t) g ≡ b → thin c g (t ∷ ts) ≡ elim b [
    | true ↦ thin c g ts
    | false ↦ t ∷ thin c (span c t ++ g) ts
  ]
  unfolding thin
  by_meeting b e = subst (λ d. thin c g (t ∷ ts) ≡ elim d [
    | true ↦ thin c g ts
    | false ↦ t ∷ thin c (span c t ++ g) ts
  ]) e refl

  pub thin_clash : meets (span c t) g ≡ true → thin c g (t ∷ ts) ≡ thin c g ts
  thin_clash e = by_meeting true e

  pub thin_take : meets (span c t) g ≡ false → thin c g (t ∷ ts) ≡ t ∷ thin c (span c t ++ g) ts
  thin_take e = by_meeting false e

module _ (c : Chart) (e : ℕ) (u : State) (s t n : ℕ) (l : t < n) (ps : List ℕ) where
  one_more : from t (n - t) ≡ t ∷ from (t + 1) (n - (t + 1))
  unfolding from
  one_more = let q : n - t ≡ suc (n - (t + 1)) = omega arith in rw (q, add-one t)

  next : Bool → Bool → List ℕ → List ℕ
  next o f r = cond f (cond o (t ∷ r) r) r

  candidates_next : (o f : Bool) → eqb (trans_row c t).source s ≡ o → enabled c e u t ≡ f
      → candidates_from c e u s t (n - t) ≡ next o f (candidates_from c e u s (t + 1) (n - (t + 1)))
  unfolding candidates_from keep next
  candidates_next true true p q = rw (one_more, q, p)
  candidates_next true false p q = rw (one_more, q)
  candidates_next false true p q = rw (one_more, q, p)
  candidates_next false false p q = rw (one_more, q)

  pub rest_other : ((trans_row c t).source ≡ s → ⊥) → with_rest c e u s (t + 1) (n - (t + 1)) ps ≡ with_rest c e u s t (n - t) ps
  unfolding with_rest next
  rest_other o = go (enabled c e u t) refl
    where
      go : (f : Bool) → enabled c e u t ≡ f → ps ++ thin c (gone_after c [] ps)
          (candidates_from c e u s (t + 1) (n - (t + 1))) ≡ ps ++ thin c (gone_after c [] ps) (candidates_from c e u s t (n - t))
      go true f = rw (candidates_next false true (ne_eqb _ s o) f)
      go false f = rw (candidates_next false false (ne_eqb _ s o) f)

  pub rest_off : enabled c e u t ≡ false → with_rest c e u s (t + 1) (n - (t + 1)) ps ≡ with_rest c e u s t (n - t) ps
  unfolding with_rest next
  rest_off f = go (eqb (trans_row c t).source s) refl
    where
      go : (o : Bool) → eqb (trans_row c t).source s ≡ o → ps ++ thin c (gone_after c [] ps)
          (candidates_from c e u s (t + 1) (n - (t + 1))) ≡ ps ++ thin c (gone_after c [] ps) (candidates_from c e u s t (n - t))
      go true o = rw (candidates_next true false o f)
      go false o = rw (candidates_next false false o f)

  -- a row of another source or trigger
  pub rest_passed : meant (trans_row c t) s e ≡ false → with_rest c e u s (t + 1) (n - (t + 1)) ps ≡ with_rest c e u s t (n - t) ps
  unfolding meant enabled enabled_by
  rest_passed m = ⊎_elim
      (λ o. rest_off (rw (ne_eqb (trans_row c t).trigger e (λ z. true≢false
      (sym (and_both _ _ (eq-eqb (trans_row c t).source s o) (eq-eqb (trans_row c t).trigger e z)) ∙ m)))))
      rest_other (same_or (trans_row c t).source s)

  module _ (o : (trans_row c t).source ≡ s) (f : enabled c e u t ≡ true) where
    pub rest_clash : meets (span c t) (gone_after c [] ps) ≡ true → with_rest c e u s (t + 1) (n - (t + 1)) ps ≡ with_rest c e u s t
        (n - t) ps
    unfolding with_rest next
    rest_clash m = rw (
      candidates_next true true (eq-eqb _ s o) f,
      thin_clash c (gone_after c [] ps) t
          (candidates_from c e u s (t + 1) (n - (t + 1))) m,
    )

    pub rest_take : meets (span c t) (gone_after c [] ps) ≡ false → with_rest c e u s (t + 1) (n - (t + 1))
        (ps ++ (t ∷ [])) ≡ with_rest c e u s t (n - t) ps
    unfolding with_rest next
    rest_take m = rw (
      candidates_next true true (eq-eqb _ s o) f,
      thin_take c (gone_after c [] ps) t
          (candidates_from c e u s (t + 1) (n - (t + 1))) m,
      gone_snoc c [] ps t,
      append_assoc,
    )

    -- one more is chosen, so there is room for it
    pub rest_longer : meets (span c t) (gone_after c [] ps) ≡ false → length ps < length (with_rest c e u s t (n - t) ps)
    unfolding with_rest
    rest_longer m = rw (← rest_take m) (unfold with_rest in simp (length-append) (omega arith))

pub rest_end : (c : Chart) (e : ℕ) (u : State) (s t n : ℕ) (ps : List ℕ) → n ≤ t → with_rest c e u s t (n - t) ps ≡ ps
unfolding with_rest candidates_from from keep thin
rest_end c e u s t n ps l = let q : n - t ≡ 0 = omega arith in rw q (append-nil ps)
