-- The chooser's loop over the sources, falling: what one source adds, and that all there is fits. Assumes nothing.
use mathlib.Core.Path.{◌≡◌, refl, sym, ap, ◌∙◌}
use Prim.Native.Nat.{ℕ, zero, suc, ◌+◌, ◌-◌, ◌≤◌, ◌<◌}
use native.Mathlib.Omega.{arith}
use native.Mathlib.Nat.{zero-add, sub-zero}
use native.Mathlib.Numerals.{add-one}
use mathlib.Core.Bool.{Bool, true, false, cond, true≢false}
use mathlib.Core.List.{List, [], ◌∷◌, ◌++◌, reverse, reverse-append, append-nil, append_assoc}
use lib.ListN.{length, get_or, length-append}
use lib.Dec.{eqb}
use borrow.Author.Tests.{eq-eqb, ne_eqb, eqb-true}
use mathlib.Core.Logic.{⊎_elim}
use Rattle.laws.proofs.Lists.{same_or, and_left, and_right}
use Rattle.sizes.specs.Sizes.{TRANSITIONS}
use Rattle.meaning.specs.declared.State.{State}
use Rattle.meaning.specs.Lists.{keep, concat_map, from}
use Rattle.meaning.specs.Widget.{is_active}
use Rattle.meaning.specs.Chart.{Chart}
use Rattle.meaning.specs.Tree.{trans_row, span, all_states, all_transitions}
use Rattle.meaning.specs.Reaction.{enabled_by, enabled, meets, thin, choosing_order, chosen}
use Rattle.laws.proofs.Tree.{from_add}
use Rattle.choice.specs.Choice.{Sources}
use Rattle.choice.proofs.Thin.{gone_after, candidates_from, with_rest, thin_clash, thin_take, rest_longer, rest_end}

-- ---- the sources, falling

falls : (n : ℕ) → reverse (from 0 (suc n)) ≡ n ∷ reverse (from 0 n)
falls n = rw (← add-one n, from_add 0 n 1, zero-add, reverse-append (from 0 n) (from n 1)) (unfold from in refl)

-- ---- how many there can be

module _ (src : ℕ → ℕ) where
  unfoldable pub of_source : List ℕ → ℕ → List ℕ
  of_source ts s = keep (λ t. eqb (src t) s) ts

  unfoldable pub all_of : List ℕ → ℕ → List ℕ
  all_of ts n = concat_map (of_source ts) (reverse (from 0 n))

  pub all_next : (ts : List ℕ) (n : ℕ) → all_of ts (suc n) ≡ of_source ts n ++ all_of ts n
  unfolding all_of concat_map
  all_next ts n = rw (falls n)

  nothing_of : (n : ℕ) → of_source [] n ≡ []
  unfolding of_source keep
  nothing_of n = refl

  none_of : (n : ℕ) → all_of [] n ≡ []
  none_of zero = unfold all_of concat_map from in refl
  none_of (suc n) = rw (all_next [] n, nothing_of n) (none_of n)

  length_here : (t : ℕ) (ts : List ℕ) (n : ℕ) → src t ≡ n → length (of_source (t ∷ ts) n) ≡ suc (length (of_source ts n))
  unfolding of_source keep
  length_here t ts n e = rw (eq-eqb (src t) n e)

  length_other : (t : ℕ) (ts : List ℕ) (n : ℕ) → (src t ≡ n → ⊥) → length (of_source (t ∷ ts) n) ≡ length (of_source ts n)
  unfolding of_source keep
  length_other t ts n e = rw (ne_eqb (src t) n e)

  length_next : (ts : List ℕ) (n : ℕ) → length (all_of ts (suc n)) ≡ length (of_source ts n) + length (all_of ts n)
  length_next ts n = rw (all_next ts n) (length-append (of_source ts n) (all_of ts n))

  -- a transition is of one source at most
  past_source : (t : ℕ) (ts : List ℕ) (n : ℕ) → n ≤ src t → length (all_of (t ∷ ts) n) ≡ length (all_of ts n)
  past_source t ts zero l = unfold all_of concat_map from in refl
  past_source t ts (suc n) l = omega (
    arith,
    length_next (t ∷ ts) n,
    length_next ts n,
    past_source t ts n
        (omega arith),
    length_other t ts n (λ e. omega arith),
  )

  one_source : (t : ℕ) (ts : List ℕ) (n : ℕ) → length (all_of (t ∷ ts) n) ≤ suc (length (all_of ts n))
  one_source t ts zero = unfold all_of concat_map from in omega arith
  one_source t ts (suc n) = ⊎_elim
      (λ e. omega (arith, length_next (t ∷ ts) n, length_next ts n, past_source t ts n (omega arith), length_here t ts n e))
      (λ e. omega (arith, length_next (t ∷ ts) n, length_next ts n, one_source t ts n, length_other t ts n e))
      (same_or (src t) n)

  pub all_few : (ts : List ℕ) (n : ℕ) → length (all_of ts n) ≤ length ts
  all_few [] n = rw (none_of n) (omega arith)
  all_few (t ∷ ts) n = omega (arith, one_source t ts n, all_few ts n)

pub keep_few : (p : ℕ → Bool) (xs : List ℕ) → length (keep p xs) ≤ length xs
unfolding keep
keep_few p [] = omega arith
keep_few p (x ∷ xs) = go (p x) (keep_few p xs)
  where
    go : (b : Bool) → length (keep p xs) ≤ length xs → length (cond b (x ∷ keep p xs) (keep p xs)) ≤ suc (length xs)
    go true ih = omega arith
    go false ih = omega arith

keep_none : (p q : ℕ → Bool) (a n : ℕ) → ((x : ℕ) → a ≤ x → x < a + n → q x ≡ true → p x ≡ false) → keep p (keep q (from a n)) ≡ []
unfolding keep from
keep_none p q a zero h = refl
keep_none p q a (suc n) h = go (q a) refl (keep_none p q (suc a) n (λ x l m. h x (omega arith) (omega arith)))
  where
    go : (b : Bool) → q a ≡ b → keep p (keep q (from (suc a) n)) ≡ [] → keep p
        (cond b (a ∷ keep q (from (suc a) n)) (keep q (from (suc a) n))) ≡ []
    go true e ih = rw (h a (omega arith) (omega arith) e) ih
    go false e ih = ih

length_from : (a n : ℕ) → length (from a n) ≡ n
unfolding from
length_from a zero = refl
length_from a (suc n) = ap suc (length_from (suc a) n)

-- ---- thinning one part after another

module _ (c : Chart) where
  thin_few : (g xs : List ℕ) → length (thin c g xs) ≤ length xs
  thin_few g [] = unfold thin in omega arith
  thin_few g (x ∷ xs) = go (meets (span c x) g) refl (thin_few g xs) (thin_few (span c x ++ g) xs)
    where
      go : (b : Bool) → meets (span c x) g ≡ b → length (thin c g xs) ≤ length xs → length (thin c (span c x ++ g) xs) ≤ length xs
          → length (thin c g (x ∷ xs)) ≤ suc (length xs)
      go true e p q = rw (thin_clash c g x xs e) (omega arith)
      go false e p q = rw (thin_take c g x xs e) (omega arith)

  gone_append : (g xs ys : List ℕ) → gone_after c g (xs ++ ys) ≡ gone_after c (gone_after c g xs) ys
  unfolding gone_after
  gone_append g [] ys = refl
  gone_append g (x ∷ xs) ys = gone_append (span c x ++ g) xs ys

  thin_append : (g xs ys : List ℕ) → thin c g (xs ++ ys) ≡ thin c g xs ++ thin c (gone_after c g (thin c g xs)) ys
  thin_append g [] ys = unfold thin gone_after in refl
  thin_append g (x ∷ xs) ys = go (meets (span c x) g) refl (thin_append g xs ys) (thin_append (span c x ++ g) xs ys)
    where
      go : (b : Bool) → meets (span c x) g ≡ b → thin c g (xs ++ ys) ≡ thin c g xs ++ thin c (gone_after c g (thin c g xs)) ys
          → thin c (span c x ++ g) (xs ++ ys) ≡ thin c (span c x ++ g) xs ++ thin c
          (gone_after c (span c x ++ g) (thin c (span c x ++ g) xs)) ys
          → thin c g (x ∷ (xs ++ ys)) ≡ thin c g (x ∷ xs) ++ thin c (gone_after c g (thin c g (x ∷ xs))) ys
      go true e p q = rw (thin_clash c g x (xs ++ ys) e, thin_clash c g x xs e) p
      go false e p q = rw (thin_take c g x (xs ++ ys) e, thin_take c g x xs e) (unfold gone_after in ap (λ r. x ∷ r) q)

  module _ (e : ℕ) (u : State) where
    sources : ℕ → List ℕ
    sources n = all_of (λ t. (trans_row c t).source) (keep (enabled c e u) (all_transitions c)) n

    -- the chosen so far, with what the sources below n add
    pub with_sources : ℕ → List ℕ → List ℕ
    with_sources n ps = ps ++ thin c (gone_after c [] ps) (sources n)

    pub chosen_all : with_sources (length c.states) [] ≡ chosen c e u
    unfolding with_sources gone_after sources all_of of_source chosen choosing_order all_states
    chosen_all = refl

    pub none_left : (ps : List ℕ) (n : ℕ) → n ≤ 0 → with_sources n ps ≡ ps
    unfolding with_sources sources all_of from concat_map thin
    none_left ps zero l = append-nil ps
    none_left ps (suc n) l = absurd (omega arith)

    pub next_source : (n s : ℕ) (ps : List ℕ) → n ≡ suc s → with_sources n ps ≡ with_sources s
        (with_rest c e u s 0 (length c.transitions) ps)
    unfolding with_sources sources with_rest candidates_from of_source all_transitions
    next_source n s ps q =
        rw (
          q,
          all_next (λ t. (trans_row c t).source) (keep (enabled c e u)
              (from 0 (length c.transitions))) s,
          thin_append,
          gone_append,
          append_assoc,
        )

    pub chosen_few : length (chosen c e u) ≤ length c.transitions
    chosen_few =
        let ts = keep (enabled c e u) (all_transitions c) in
        let a : length (chosen c e u) ≤ length (sources (length c.states)) = rw (← chosen_all)
        (unfold with_sources gone_after in thin_few [] (sources (length c.states))) in
        let b : length (sources (length c.states)) ≤ length ts = unfold sources in all_few (λ t. (trans_row c t).source) ts
        (length c.states) in
        let d : length ts ≤ length (from 0 (length c.transitions)) = unfold all_transitions in keep_few (enabled c e u)
        (from 0 (length c.transitions)) in
        omega (arith, length_from 0 (length c.transitions))

    longer : (n : ℕ) (qs : List ℕ) → length qs ≤ length (with_sources n qs)
    unfolding with_sources
    longer n qs = rw length-append (omega arith)

    -- there is room for one more where one more is chosen
    pub take_room : (s t n : ℕ) (ps : List ℕ) → with_sources s (with_rest c e u s t (n - t) ps) ≡ chosen c e u → t < n
        → (trans_row c t).source ≡ s
        → enabled c e u t ≡ true → meets (span c t) (gone_after c [] ps) ≡ false → length c.transitions ≤ TRANSITIONS
        → length ps < TRANSITIONS
    take_room s t n ps i l o f m k =
        omega (arith, chosen_few, longer s (with_rest c e u s t (n - t) ps), ap length i, rest_longer c e u s t n l ps o f m)

    -- a source begins, ends, or adds nothing
    pub source_begins : (n s m : ℕ) (ps : List ℕ) → n ≡ suc s → m ≡ length c.transitions → with_sources n ps ≡ chosen c e u
        → with_sources s (with_rest c e u s 0 (m - 0) ps) ≡ chosen c e u
    source_begins n s m ps q z i = rw (z, sub-zero) (sym (next_source n s ps q) ∙ i)

    pub source_ends : (s t n : ℕ) (ps : List ℕ) → n ≤ t → with_sources s (with_rest c e u s t (n - t) ps) ≡ chosen c e u
        → with_sources s ps ≡ chosen c e u
    source_ends s t n ps l i = ap (with_sources s) (sym (rest_end c e u s t n ps l)) ∙ i

    pub source_off : (n s : ℕ) (marks : List Bool) (ps : List ℕ) → Sources c e u.active marks → get_or marks s false ≡ false → n ≡ suc s
        → with_sources n ps ≡ chosen c e u → with_sources s ps ≡ chosen c e u
    unfolding enabled enabled_by is_active with_rest candidates_from thin
    source_off n s marks ps h g q i = ap (with_sources s) (sym idle) ∙ sym (next_source n s ps q) ∙ i
      where
        other : (t : ℕ) → t < length c.transitions → enabled c e u t ≡ true → eqb (trans_row c t).source s ≡ false
        other t l f = ne_eqb (trans_row c t).source s (λ z. true≢false (
            sym (and_left (get_or u.active (trans_row c t).source false) _ (and_right (eqb (trans_row c t).trigger e) _ f))
            ∙ sym (h t l (eqb-true _ _ (and_left (eqb (trans_row c t).trigger e) _ f))) ∙ ap (λ x. get_or marks x false) z ∙ g))

        idle : with_rest c e u s 0 (length c.transitions) ps ≡ ps
        idle = rw (keep_none (λ x. eqb (trans_row c x).source s) (enabled c e u) 0 (length c.transitions)
            (λ x l m. other x (omega arith))) (append-nil ps)
