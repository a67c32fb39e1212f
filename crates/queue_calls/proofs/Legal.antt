-- A legal configuration by counts: at each state, how many children it has and how many of them are active. Assumes nothing.
use mathlib.Core.Path.{◌≡◌, refl, sym, ap, ◌∙◌, subst}
use mathlib.Core.Logic.{◌⊎◌, inl, inr, ⊎_elim}
use Prim.Native.Nat.{ℕ, ◌+◌, ◌≤◌, ◌<◌}
use native.Mathlib.Omega.{arith}
use mathlib.Core.Bool.{Bool, true, false, not}
use mathlib.Core.List.{List}
use lib.Dec.{eqb}
use mir.Val.{bool_byte}
use lib.ListN.{length, get_or, set, replicate, length-set, length-replicate, get_or-replicate}
use lib.Seq.{get_or-set_same, get_or-set_other}
use borrow.Author.Tests.{eq-eqb, ne_eqb, eqb-true, eqb-false}
use Rattle.sizes.specs.Sizes.{STATES}
use Rattle.tree.proofs.Climb.{child_root, child_below}
use Rattle.meaning.specs.declared.State.{State}
use Rattle.meaning.specs.declared.chart.Kind.{Kind}
use Rattle.meaning.specs.declared.chart.Kind.TheVariants.{O as kind_o, A as kind_a, B as kind_b}
use Rattle.meaning.specs.Lists.{every, keep, from}
use Rattle.meaning.specs.Chart.{Chart}
use Rattle.meaning.specs.Tree.{parent_of, kind_of, all_states, is_child, children}
use Rattle.meaning.specs.Widget.{is_active}
use Rattle.meaning.specs.Foreign.{children_legal, legal_at, legal}
use Rattle.queue_calls.specs.declared.own.Tally.{Tally}
use Rattle.queue_calls.specs.Parts.{tally_of, no_children, Tallied}
use Rattle.queue_calls.proofs.Kept.{Counted, counted_start, counted_skip, counted_on, counted_off, counted_all}
use Rattle.queue_calls.proofs.Kept.{counted_on_all, none_counted, all_counted}

same_or : (a b : ℕ) → (a ≡ b) ⊎ (a ≡ b → ⊥)
same_or a b = go (eqb a b) refl
  where
    go : (t : Bool) → eqb a b ≡ t → (a ≡ b) ⊎ (a ≡ b → ⊥)
    go true e = inl (eqb-true a b e)
    go false e = inr (eqb-false a b e)

abbrev pub marked : List Bool → ℕ → Bool
marked marks d = get_or marks d false

-- the counts are done
pub tallied : (c : Chart) (marks : List Bool) (s : ℕ) {n d all on : ℕ} → n ≡ length c.states → Counted (is_child c s)
    (marked marks) n d all on → n ≤ d
    → record { all = all; on = on } ≡ tally_of c marks s
unfolding tally_of children all_states
tallied c marks s {n} e k h =
    rw (counted_all (is_child c s) (marked marks) n k h, counted_on_all (is_child c s) (marked marks) n k h, e)

-- ---- the pass: after d of n states, at each place the counts of that state's children

pub record Tallying (c : Chart) (marks : List Bool) (n d : ℕ) (ts : List Tally) : Type 0 where
  pub long : length ts ≡ STATES
  pub counted : (s : ℕ) → s < STATES → Counted (is_child c s) (marked marks) n d (get_or ts s no_children).all (get_or ts s no_children).on

pub tally_none : (c : Chart) (marks : List Bool) (n : ℕ) → Tallying c marks n 0 (replicate STATES no_children)
tally_none c marks n = record {
  long = length-replicate {A = Tally} STATES no_children;
  counted = λ s l. rw (get_or-replicate {A = Tally} STATES s no_children no_children l) (counted_start _ _ n);
}

module _ (c : Chart) (marks : List Bool) {n d : ℕ} {ts : List Tally} (h : Tallying c marks n d ts) where
  tally_skip : d < n → ((s : ℕ) → s < STATES → is_child c s d ≡ false) → Tallying c marks n (d + 1) ts
  tally_skip l e = record {
    long = h.long;
    counted = λ s k. counted_skip _ _ n (h.counted s k) l (e s k);
  }

  pub tally_root : d < n → d ≡ 0 → Tallying c marks n (d + 1) ts
  tally_root l e = tally_skip l (λ s k. child_root c s d e)

  pub tally_far : d < n → {p : ℕ} → (d ≡ 0 → ⊥) → p ≡ parent_of c d → STATES ≤ p → Tallying c marks n (d + 1) ts
  tally_far l z e far = tally_skip l (λ s k. child_below c s d z ∙ ne_eqb (parent_of c d) s (λ q. omega arith))

  -- a child is counted at its parent p
  module _ (l : d < n) {p : ℕ} (z : d ≡ 0 → ⊥) (e : p ≡ parent_of c d) (k : p < STATES) where
    mine : is_child c p d ≡ true
    mine = child_below c p d z ∙ eq-eqb (parent_of c d) p (sym e)

    other : (s : ℕ) → (s ≡ p → ⊥) → is_child c s d ≡ false
    other s q = child_below c s d z ∙ ne_eqb (parent_of c d) s (λ y. q (sym (e ∙ y)))

    abbrev pub there : Tally
    there = get_or ts p no_children

    tally_set : (t : Tally) → Counted (is_child c p) (marked marks) n (d + 1) t.all t.on → Tallying c marks n (d + 1) (set ts p t)
    tally_set t f = record {
      long = length-set ts p t ∙ h.long;
      counted = λ s b. ⊎_elim
          (λ q. subst (λ y. Counted (is_child c y) (marked marks) n (d + 1) (get_or (set ts p t) y no_children).all
          (get_or (set ts p t) y no_children).on) (sym q)
          (rw (get_or-set_same ts p t no_children (rw h.long k)) f))
          (λ q. rw (get_or-set_other ts p s t no_children q) (counted_skip _ _ n (h.counted s b) l (other s q)))
          (same_or s p);
    }

    counted_more : (b : Bool) → marked marks d ≡ b → Counted (is_child c p) (marked marks) n (d + 1) (there.all + 1) (there.on + bool_byte b)
    counted_more true m = counted_on _ _ n (h.counted p k) l mine m
    counted_more false m = let y : there.on + 0 ≡ there.on = omega arith in rw y (counted_off _ _ n (h.counted p k) l mine m)

    pub tally_more : {x : ℕ} → x ≡ bool_byte (marked marks d)
        → Tallying c marks n (d + 1) (set ts p record { all = there.all + 1; on = there.on + x })
    tally_more m = rw m (tally_set _ (counted_more (marked marks d) refl))

pub tally_end : (c : Chart) (marks : List Bool) {n d : ℕ} {ts : List Tally} → n ≡ length c.states → Tallying c marks n d ts → n ≤ d
    → Tallied c marks ts
tally_end c marks e h l = record { long = h.long; told = λ s k. tallied c marks s e (h.counted s k) l }

module _ (c : Chart) (u : State) (s : ℕ) {marks : List Bool} {t : Tally} (e : u.active ≡ marks) (f : t ≡ tally_of c marks s) where
  counts : t ≡ tally_of c u.active s
  counts = f ∙ ap (λ m. tally_of c m s) (sym e)

  on_of : t.on ≡ length (keep (is_active u) (children c s))
  unfolding tally_of is_active
  on_of = ap (λ x. x.on) counts

  all_of : t.all ≡ length (children c s)
  unfolding tally_of
  all_of = ap (λ x. x.all) counts

  in_it : {b : Bool} → get_or marks s false ≡ b → is_active u s ≡ b
  unfolding is_active
  in_it g = ap (λ m. get_or m s false) e ∙ g

  by_mark : Bool → Bool
  by_mark true = children_legal c u (kind_of c s) (children c s)
  by_mark false = every (λ d. not (is_active u d)) (children c s)

  at_mark : {b : Bool} → get_or marks s false ≡ b → by_mark b ≡ legal_at c u s
  unfolding legal_at is_active by_mark
  at_mark g = sym (ap by_mark (in_it g))

  pub legal_out : get_or marks s false ≡ false → eqb t.on 0 ≡ legal_at c u s
  unfolding by_mark
  legal_out g = rw on_of (none_counted (is_active u) (children c s)) ∙ at_mark g

  module _ {k : Kind} (g : get_or marks s false ≡ true) (l : k ≡ kind_of c s) where
    pub legal_o : k ≡ kind_o → eqb t.on 1 ≡ legal_at c u s
    unfolding children_legal by_mark
    legal_o m = ap (λ x. eqb x 1) on_of ∙ ap (λ x. children_legal c u x (children c s)) (sym m ∙ l) ∙ at_mark g

    pub legal_a : k ≡ kind_a → eqb t.on t.all ≡ legal_at c u s
    unfolding children_legal by_mark
    legal_a m = rw (on_of, all_of) (all_counted (is_active u) (children c s)) ∙ ap (λ x. children_legal c u x (children c s)) (sym m ∙ l)
        ∙ at_mark g

    pub legal_b : k ≡ kind_b → true ≡ legal_at c u s
    unfolding children_legal by_mark
    legal_b m = ap (λ x. children_legal c u x (children c s)) (sym m ∙ l) ∙ at_mark g

-- ---- the whole configuration

module _ (c : Chart) (u : State) {marks : List Bool} (e : u.active ≡ marks) where
  root_in : {b : Bool} → get_or marks 0 false ≡ b → is_active u 0 ≡ b
  unfolding is_active
  root_in g = ap (λ m. get_or m 0 false) e ∙ g

  pub legal_rootless : get_or marks 0 false ≡ false → false ≡ legal c u
  unfolding legal
  legal_rootless g = rw (root_in g)

  pub legal_rooted : {b : Bool} {n : ℕ} → n ≡ length c.states → get_or marks 0 false ≡ true → b ≡ every (legal_at c u) (from 0 n)
      → b ≡ legal c u
  unfolding legal all_states
  legal_rooted l g h = h ∙ rw (root_in g, l)
