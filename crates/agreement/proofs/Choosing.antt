-- The machine chooses as the chart does (01, "The machine chooses by heads alone, in their order"): the chosen heads are those of the
-- chosen transitions. In the order: a head is enabled as its transition; two heads' spans meet as their transitions' spans; thinning;
-- the choice. Assumes nothing.
use mathlib.Core.Path.{◌∙◌, ◌≡◌, ap, refl, subst, sym}
use Prim.Native.Nat.{◌+◌, suc, ℕ}
use mathlib.Core.Bool.{Bool, ◌&&◌, ◌||◌, cond, false, true}
use mathlib.Core.List.{List, [], ◌++◌, ◌∷◌, reverse}
use lib.ListN.{length}
use lib.Dec.{eqb, leb}
use Rattle.agreement.proofs.Heads.{HeadFor, HeadsFor, heads_kept, no_heads, one_head, plan_heads}
use Rattle.agreement.proofs.Ranges.{ranges_meet}
use Rattle.laws.proofs.Ranges.{has_joined}
use Rattle.laws.proofs.Sound.{SoundChart}
use Rattle.laws.proofs.Tree.{keep_append}
use Rattle.meaning.specs.Chart.{Chart}
use Rattle.meaning.specs.Compile.{code_of, first_of, head_of, head_order, last_of, plan_of}
use Rattle.meaning.specs.Lists.{concat_map, exists, from, has, keep}
use Rattle.meaning.specs.Machine.{chosen_heads, head_enabled, spans_meet, thin_heads}
use Rattle.meaning.specs.Reaction.{choosing_order, chosen, enabled, enabled_by, meets, thin}
use Rattle.meaning.specs.Tree.{all_states, all_transitions, span, trans_row}
use Rattle.meaning.specs.declared.State.{State}
use Rattle.meaning.specs.declared.plan.Head.{Head}
use Rattle.meaning.specs.declared.plan.Instr.{Instr}
use Rattle.plan_laws.proofs.Spans.{Range, first_of_range, last_of_range, span_range}

-- ---- a head is enabled as its transition

pub enabled_alike : (c : Chart) (code : List Instr) (e : ℕ) (u : State) (h : Head) (t : ℕ) → HeadFor c code h t
    → head_enabled e u h ≡ enabled c e u t
unfolding head_enabled enabled enabled_by head_of
enabled_alike c code e u h t f = ap (head_enabled e u) f.says

-- ---- what a list meets

or_four : (a b x y : Bool) → ((a || b) || (x || y)) ≡ ((a || x) || (b || y))
or_four true b x y = refl
or_four false true true y = refl
or_four false true false y = refl
or_four false false x y = refl

meets_joined : (xs ys zs : List ℕ) → meets xs (ys ++ zs) ≡ (meets xs ys || meets xs zs)
unfolding meets exists
meets_joined [] ys zs = refl
meets_joined (x ∷ xs) ys zs =
    ap (λ b. b || meets xs (ys ++ zs)) (has_joined x ys zs) ∙ ap (λ b. (has x ys || has x zs) || b) (meets_joined xs ys zs)
    ∙ or_four (has x ys) (has x zs) (meets xs ys) (meets xs zs)

meets_nothing : (xs : List ℕ) → meets xs [] ≡ false
unfolding meets exists has
meets_nothing [] = refl
meets_nothing (x ∷ xs) = meets_nothing xs

-- ---- two spans

ends_meet : (a n b m : ℕ)
    → (leb (first_of (from a (suc n))) (last_of (from b (suc m))) && leb (first_of (from b (suc m))) (last_of (from a (suc n))))
    ≡ meets (from a (suc n)) (from b (suc m))
ends_meet a n b m =
    ap (λ x. leb x (last_of (from b (suc m))) && leb (first_of (from b (suc m))) (last_of (from a (suc n)))) (first_of_range a n)
    ∙ ap (λ x. leb a x && leb (first_of (from b (suc m))) (last_of (from a (suc n)))) (last_of_range b m)
    ∙ ap (λ x. leb a (b + m) && leb x (last_of (from a (suc n)))) (first_of_range b m)
    ∙ ap (λ x. leb a (b + m) && leb b x) (last_of_range a n) ∙ sym (ranges_meet a n b m)

module _ (c : Chart) (r : SoundChart c) (code : List Instr) where
  -- two lists that are ranges meet where their ends say so
  by_ends : (xs ys : List ℕ) → Range xs → Range ys → (leb (first_of xs) (last_of ys) && leb (first_of ys) (last_of xs)) ≡ meets xs ys
  by_ends xs ys f g = subst (λ l. (leb (first_of l) (last_of ys) && leb (first_of ys) (last_of l)) ≡ meets l ys) (sym f.is)
      (subst (λ l. (leb (first_of (from f.first (suc f.more))) (last_of l)
      && leb (first_of l) (last_of (from f.first (suc f.more))))
      ≡ meets (from f.first (suc f.more)) l) (sym g.is) (ends_meet f.first f.more g.first g.more))

  spans_alike : (h g : Head) (t x : ℕ) → HeadFor c code h t → HeadFor c code g x → spans_meet h g ≡ meets (span c t) (span c x)
  unfolding spans_meet head_of
  spans_alike h g t x p q =
      ap (λ k. spans_meet k g) p.says ∙ ap (spans_meet (head_of c h.start h.length t)) q.says
      ∙ by_ends (span c t) (span c x) (span_range c r t p.inside) (span_range c r x q.inside)

  -- the heads already chosen stand for the states of their spans
  clash_alike : (h : Head) (t : ℕ) → HeadFor c code h t → {gs : List Head} {xs : List ℕ} → HeadsFor c code gs xs
      → exists (spans_meet h) gs ≡ meets (span c t) (concat_map (span c) xs)
  unfolding exists concat_map
  clash_alike h t p no_heads = sym (meets_nothing (span c t))
  clash_alike h t p (one_head {h = g} {t = x} {hs = gs} {ts = xs} q qs) =
      ap (λ b. b || exists (spans_meet h) gs) (spans_alike h g t x p q) ∙ ap (λ b. meets (span c t) (span c x) || b) (clash_alike h t p qs)
      ∙ sym (meets_joined (span c t) (span c x) (concat_map (span c) xs))

  thinned : {gs : List Head} {xs : List ℕ} → HeadsFor c code gs xs → {hs : List Head} {ts : List ℕ} → HeadsFor c code hs ts
      → HeadsFor c code (thin_heads gs hs) (thin c (concat_map (span c) xs) ts)
  unfolding thin_heads thin concat_map
  thinned g no_heads = no_heads
  thinned {gs} {xs} g (one_head {h} {t} {hs} {ts} p ps) = subst
      (λ b. HeadsFor c code (elim b [ true ↦ thin_heads gs hs | false ↦ h ∷ thin_heads (h ∷ gs) hs ])
      (thin c (concat_map (span c) xs) (t ∷ ts)))
      (sym (clash_alike h t p g)) (go (meets (span c t) (concat_map (span c) xs)) (thinned g ps) (thinned (one_head p g) ps))
    where
      go : (b : Bool) → HeadsFor c code (thin_heads gs hs) (thin c (concat_map (span c) xs) ts)
          → HeadsFor c code (thin_heads (h ∷ gs) hs) (thin c (span c t ++ concat_map (span c) xs) ts)
          → HeadsFor c code (elim b [ true ↦ thin_heads gs hs | false ↦ h ∷ thin_heads (h ∷ gs) hs ])
          (elim b [ true ↦ thin c (concat_map (span c) xs) ts | false ↦ t ∷ thin c (span c t ++ concat_map (span c) xs) ts ])
      go true i j = i
      go false i j = one_head p j

-- ---- the enabled of all in choosing order are all the enabled in choosing order

keep_swap : (p q : ℕ → Bool) (xs : List ℕ) → keep p (keep q xs) ≡ keep q (keep p xs)
unfolding keep
keep_swap p q [] = refl
keep_swap p q (x ∷ xs) = go (p x) (q x) refl refl (keep_swap p q xs)
  where
    one : (f : ℕ → Bool) (ys : List ℕ) → f x ≡ true → keep f (x ∷ ys) ≡ x ∷ keep f ys
    one f ys e = ap (λ b. cond b (x ∷ keep f ys) (keep f ys)) e

    not_one : (f : ℕ → Bool) (ys : List ℕ) → f x ≡ false → keep f (x ∷ ys) ≡ keep f ys
    not_one f ys e = ap (λ b. cond b (x ∷ keep f ys) (keep f ys)) e

    go : (a b : Bool) → p x ≡ a → q x ≡ b → keep p (keep q xs) ≡ keep q (keep p xs)
        → keep p (cond (q x) (x ∷ keep q xs) (keep q xs)) ≡ keep q (cond (p x) (x ∷ keep p xs) (keep p xs))
    go true true e f ih = ap (keep p) (one q xs f) ∙ one p (keep q xs) e ∙ ap (λ l. x ∷ l) ih
        ∙ sym (ap (keep q) (one p xs e) ∙ one q (keep p xs) f)
    go true false e f ih = ap (keep p) (not_one q xs f) ∙ ih ∙ sym (ap (keep q) (one p xs e) ∙ not_one q (keep p xs) f)
    go false true e f ih = ap (keep p) (one q xs f) ∙ not_one p (keep q xs) e ∙ ih ∙ sym (ap (keep q) (not_one p xs e))
    go false false e f ih = ap (keep p) (not_one q xs f) ∙ ih ∙ sym (ap (keep q) (not_one p xs e))

keep_each : (p : ℕ → Bool) (f g : ℕ → List ℕ) (xs : List ℕ) → ((x : ℕ) → keep p (f x) ≡ g x) → keep p (concat_map f xs) ≡ concat_map g xs
unfolding concat_map keep
keep_each p f g [] h = refl
keep_each p f g (x ∷ xs) h = keep_append p (f x) (concat_map f xs) ∙ ap (λ l. l ++ keep p (concat_map f xs)) (h x)
    ∙ ap (λ l. g x ++ l) (keep_each p f g xs h)

order_kept : (c : Chart) (p : ℕ → Bool) (ts : List ℕ) → keep p (choosing_order c ts) ≡ choosing_order c (keep p ts)
unfolding choosing_order
order_kept c p ts = keep_each p (λ s. keep (λ t. eqb (trans_row c t).source s) ts)
    (λ s. keep (λ t. eqb (trans_row c t).source s) (keep p ts))
    (reverse (all_states c)) (λ s. keep_swap p (λ t. eqb (trans_row c t).source s) ts)

-- ---- the choice

-- the chosen heads of the compiled plan are those of the chosen transitions, in one order
pub chosen_alike : (c : Chart) → SoundChart c → (e : ℕ) (u : State) → HeadsFor c (code_of c) (chosen_heads (plan_of c) e u) (chosen c e u)
unfolding chosen_heads chosen head_order concat_map
chosen_alike c r e u = subst (λ l. HeadsFor c (code_of c) (chosen_heads (plan_of c) e u) (thin c [] l))
    (order_kept c (enabled c e u) (all_transitions c))
    (thinned c r (code_of c) no_heads (heads_kept c (code_of c) (head_enabled e u) (enabled c e u) (enabled_alike c (code_of c) e u)
    (plan_heads c)))
