-- Laws of choosing by heads, one head at a time, over plain variables: what a head that is not enabled, one that clashes and one that is
-- taken make of the rest; and one more pick in the array. Assumes nothing.
use mathlib.Core.Path.{◌≡◌, refl, ap, ◌∙◌, subst}
use Prim.Native.Nat.{ℕ, zero, suc, ◌+◌, ◌≤◌, ◌<◌}
use native.Mathlib.Omega.{arith}
use native.Mathlib.Numerals.{add-one}
use mathlib.Core.Bool.{Bool, true, false}
use mathlib.Core.List.{List, [], ◌∷◌, ◌++◌, map, append-nil, append_assoc}
use mathlib.Core.Logic.{⊎_elim}
use lib.ListN.{length, get_or, take, drop, set, drop_of_length-le}
use lib.Seq.{drop-cons, take-suc-set, get_or-set_same, get_or-set_other}
use Rattle.meaning.specs.Lists.{keep, exists}
use Rattle.meaning.specs.declared.State.{State}
use Rattle.meaning.specs.declared.plan.Head.{Head}
use Rattle.meaning.specs.Machine.{head_enabled, spans_meet, thin_heads}
use Rattle.laws.proofs.Lists.{le_or_lt, or_left, or_right}

-- ---- the heads already chosen, newest first

unfoldable pub gone_after : List Head → List Head → List Head
gone_after gone [] = gone
gone_after gone (h ∷ hs) = gone_after (h ∷ gone) hs

gone_snoc : (g hs : List Head) (h : Head) → gone_after g (hs ++ (h ∷ [])) ≡ h ∷ gone_after g hs
unfolding gone_after
gone_snoc g [] h = refl
gone_snoc g (x ∷ hs) h = gone_snoc (x ∷ g) hs h

module _ (p : Head → Bool) where
  still : (g hs : List Head) → exists p g ≡ true → exists p (gone_after g hs) ≡ true
  unfolding gone_after exists
  still g [] e = e
  still g (h ∷ hs) e = still (h ∷ g) hs (or_right (p h) (exists p g) e)

  -- one of them clashes
  pub gone_hit : (g hs : List Head) (j : ℕ) (d : Head) → j < length hs → p (get_or hs j d) ≡ true → exists p (gone_after g hs) ≡ true
  unfolding gone_after exists
  gone_hit g [] j d l e = absurd (omega arith)
  gone_hit g (h ∷ hs) zero d l e = still (h ∷ g) hs (or_left (p h) (exists p g) e)
  gone_hit g (h ∷ hs) (suc j) d l e = gone_hit (h ∷ g) hs j d (omega arith) e

  -- none does
  pub gone_none : (g hs : List Head) (d : Head) → exists p g ≡ false → ((j : ℕ) → j < length hs → p (get_or hs j d) ≡ false)
      → exists p (gone_after g hs) ≡ false
  unfolding gone_after exists
  gone_none g [] d e f = e
  gone_none g (h ∷ hs) d e f =
      gone_none (h ∷ g) hs d (rw (f 0 (omega arith), e)) (λ j l. f (suc j) (omega arith))

-- ---- what the rest adds to the chosen so far

unfoldable pub with_rest : ℕ → State → List Head → List Head → List Head
with_rest e u hs ps = ps ++ thin_heads (gone_after [] ps) (keep (head_enabled e u) hs)

module _ (g : List Head) (h : Head) (hs : List Head) where
  by_meeting : (b : Bool) → exists (spans_meet h) g ≡ b → thin_heads g (h ∷ hs) ≡ elim b [
    | true ↦ thin_heads g hs
    | false ↦ h ∷ thin_heads (h ∷ g) hs
  ]
  unfolding thin_heads
  by_meeting b e = subst (λ d. thin_heads g (h ∷ hs) ≡ elim d [
    | true ↦ thin_heads g hs
    | false ↦ h ∷ thin_heads (h ∷ g) hs
  ]) e refl

-- the heads of a plan from i on, of which head i is h
module _ (e : ℕ) (u : State) (all : List Head) (i : ℕ) (d h : Head) (l : i < length all) (q : get_or all i d ≡ h) (ps : List Head) where
  here : drop i all ≡ h ∷ drop (i + 1) all
  here = rw (add-one i) (drop-cons all i d l ∙ ap (λ x. x ∷ drop (suc i) all) q)

  pub rest_off : head_enabled e u h ≡ false → with_rest e u (drop (i + 1) all) ps ≡ with_rest e u (drop i all) ps
  unfolding with_rest keep
  rest_off f = rw (here, f)

  module _ (f : head_enabled e u h ≡ true) where
    pub rest_clash : exists (spans_meet h) (gone_after [] ps) ≡ true → with_rest e u (drop (i + 1) all) ps ≡ with_rest e u (drop i all) ps
    unfolding with_rest keep
    rest_clash m = rw (here, f, by_meeting (gone_after [] ps) h (keep (head_enabled e u) (drop (i + 1) all)) true m)

    pub rest_take : exists (spans_meet h) (gone_after [] ps) ≡ false
        → with_rest e u (drop (i + 1) all) (ps ++ (h ∷ [])) ≡ with_rest e u (drop i all) ps
    unfolding with_rest keep
    rest_take m =
        rw (
          here,
          f,
          by_meeting (gone_after [] ps) h (keep (head_enabled e u) (drop
              (i + 1) all)) false m,
          gone_snoc [] ps h,
          append_assoc,
        )

pub rest_end : (e : ℕ) (u : State) (all : List Head) (i : ℕ) (ps : List Head) → length all ≤ i → with_rest e u (drop i all) ps ≡ ps
unfolding with_rest keep thin_heads
rest_end e u all i ps l = rw (drop_of_length-le all l) (append-nil ps)

-- ---- one more pick in the array

module _ {A : Type 0} (f : ℕ → A) (ps : List ℕ) (n x : ℕ) (l : n < length ps) where
  pub picked_more : map f (take (n + 1) (set ps n x)) ≡ map f (take n ps) ++ (f x ∷ [])
  picked_more = rw (add-one n, take-suc-set ps n x l) (map_snoc (take n ps))
    where
      map_snoc : (qs : List ℕ) → map f (qs ++ (x ∷ [])) ≡ map f qs ++ (f x ∷ [])
      map_snoc [] = refl
      map_snoc (q ∷ qs) = ap (λ r. f q ∷ r) (map_snoc qs)

pub named_more : (ps : List ℕ) (n x m : ℕ) → n < length ps → ((j : ℕ) → j < n → get_or ps j 0 < m) → x < m
    → (j : ℕ) → j < n + 1 → get_or (set ps n x) j 0 < m
named_more ps n x m l h g j b =
    ⊎_elim (λ q. let z : n ≡ j = omega arith in rw (← z, get_or-set_same ps n x 0 l) g)
    (λ q. rw (get_or-set_other ps n j x 0 (λ z. omega arith)) (h j q)) (le_or_lt n j)
