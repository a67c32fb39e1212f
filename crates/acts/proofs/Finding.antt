-- The index of actions: how it is made from the last row up, and that going from row to row by it meets an owner's actions, all of them
-- and in line order. Assumes nothing.
use mathlib.Core.Path.{◌≡◌, refl, sym, ap, subst, ◌∙◌}
use Prim.Native.Nat.{ℕ, zero, suc, ◌+◌, ◌*◌, ◌-◌, ◌≤◌, ◌<◌}
use mathlib.Core.Bool.{Bool, true, false, false≢true, cond}
use mathlib.Core.List.{List, [], ◌∷◌}
use mathlib.Core.Logic.{◌⊎◌, inl, inr, ⊎_elim}
use native.Mathlib.Omega.{arith}
use lib.ListN.{length, get_or, set, drop, replicate, get_or-replicate, length-replicate, length-set, length-drop}
use lib.Seq.{drop-cons, drop-drop, get_or-set_same, get_or-set_other}
use lib.IntN.{ℤ, pos}
use borrow.Author.Tests.{eqb-true, eq-eqb}
use Rattle.sizes.specs.Sizes.{ACTIONS}
use Rattle.laws.proofs.Lists.{same_or}
use Rattle.laws.proofs.Rules.{OwnerFacts}
use Rattle.chart_rows.proofs.Rows.{action_at, num_first, num_at, states_most, transitions_most, actions_most}
use Rattle.meaning.specs.Chart.{Chart, no_action}
use Rattle.meaning.specs.declared.chart.Owner.{Owner}
use Rattle.meaning.specs.declared.chart.Owner.TheVariants.{EntryOf as entry_of, ExitOf as exit_of}
use Rattle.meaning.specs.declared.chart.Owner.TheVariants.{DefaultOf as default_of, TransitionOf as transition_of}
use Rattle.meaning.specs.declared.chart.ActRow.{ActRow}
use Rattle.meaning.specs.Effects.{same_owner, acts_in}
use Rattle.meaning.specs.Value.{chart_of, owner_by, action_by, ACTIONS_AT, ACT_ROW}
use Rattle.meaning.specs.Rules.{Ruled}
use Rattle.tree.proofs.Passing.{sound}
use Rattle.acts.specs.Index.{OWNERS, key, Fits, before_first, row_from, Indexed}

-- ---- owners and their places

pub key_within : (o : Owner) → Fits o → key o < OWNERS
key_within (entry_of s) f = omega arith
key_within (exit_of s) f = omega arith
key_within (default_of s) f = omega arith
key_within (transition_of t) f = omega arith

key_one : (o w : Owner) → Fits o → Fits w → key o ≡ key w → o ≡ w
key_one (entry_of m) (entry_of n) f g e = ap entry_of e
key_one (entry_of m) (exit_of n) f g e = absurd (omega arith)
key_one (entry_of m) (default_of n) f g e = absurd (omega arith)
key_one (entry_of m) (transition_of n) f g e = absurd (omega arith)
key_one (exit_of m) (entry_of n) f g e = absurd (omega arith)
key_one (exit_of m) (exit_of n) f g e = let q : m ≡ n = omega arith in ap exit_of q
key_one (exit_of m) (default_of n) f g e = absurd (omega arith)
key_one (exit_of m) (transition_of n) f g e = absurd (omega arith)
key_one (default_of m) (entry_of n) f g e = absurd (omega arith)
key_one (default_of m) (exit_of n) f g e = absurd (omega arith)
key_one (default_of m) (default_of n) f g e = let q : m ≡ n = omega arith in ap default_of q
key_one (default_of m) (transition_of n) f g e = absurd (omega arith)
key_one (transition_of m) (entry_of n) f g e = absurd (omega arith)
key_one (transition_of m) (exit_of n) f g e = absurd (omega arith)
key_one (transition_of m) (default_of n) f g e = absurd (omega arith)
key_one (transition_of m) (transition_of n) f g e = let q : m ≡ n = omega arith in ap transition_of q

owner_itself : (o : Owner) → same_owner o o ≡ true
unfolding same_owner
owner_itself (entry_of n) = eq-eqb n n refl
owner_itself (exit_of n) = eq-eqb n n refl
owner_itself (default_of n) = eq-eqb n n refl
owner_itself (transition_of n) = eq-eqb n n refl

pub owner_one : (o w : Owner) → same_owner o w ≡ true → o ≡ w
unfolding same_owner
owner_one (entry_of m) (entry_of n) e = ap entry_of (eqb-true m n e)
owner_one (entry_of m) (exit_of n) e = absurd (false≢true e)
owner_one (entry_of m) (default_of n) e = absurd (false≢true e)
owner_one (entry_of m) (transition_of n) e = absurd (false≢true e)
owner_one (exit_of m) (entry_of n) e = absurd (false≢true e)
owner_one (exit_of m) (exit_of n) e = ap exit_of (eqb-true m n e)
owner_one (exit_of m) (default_of n) e = absurd (false≢true e)
owner_one (exit_of m) (transition_of n) e = absurd (false≢true e)
owner_one (default_of m) (entry_of n) e = absurd (false≢true e)
owner_one (default_of m) (exit_of n) e = absurd (false≢true e)
owner_one (default_of m) (default_of n) e = ap default_of (eqb-true m n e)
owner_one (default_of m) (transition_of n) e = absurd (false≢true e)
owner_one (transition_of m) (entry_of n) e = absurd (false≢true e)
owner_one (transition_of m) (exit_of n) e = absurd (false≢true e)
owner_one (transition_of m) (default_of n) e = absurd (false≢true e)
owner_one (transition_of m) (transition_of n) e = ap transition_of (eqb-true m n e)

fits_named : (v : List ℤ) (o : Owner) → OwnerFacts (chart_of v) o → Fits o
fits_named v (entry_of s) f = omega (arith, states_most v)
fits_named v (exit_of s) f = omega (arith, states_most v)
fits_named v (default_of s) f = omega (arith, states_most v, f.0)
fits_named v (transition_of t) f = omega (arith, transitions_most v)

-- R7: the owner of a row has a place
pub owner_fits : (v : List ℤ) → Ruled v → (i : ℕ) → i < length (chart_of v).actions → (w : Owner)
    → w ≡ (get_or (chart_of v).actions i no_action).owner → Fits w
owner_fits v r i h w e = subst Fits (sym e) (fits_named v (get_or (chart_of v).actions i no_action).owner ((sound v r).owners i h))

-- the two numbers that name it, where they stand
pub owner_said : (v : List ℤ) (i : ℕ) → i < length (chart_of v).actions
    → owner_by (get_or v (ACTIONS_AT + i * ACT_ROW) (pos 0)) (get_or v (ACTIONS_AT + i * ACT_ROW + 1) (pos 0))
    ≡ (get_or (chart_of v).actions i no_action).owner
unfolding action_by
owner_said v i l = sym (ap (λ r. r.owner) (action_at v i l)
    ∙ rw (num_first ACT_ROW (ACTIONS_AT + i * ACT_ROW) v (omega arith), num_at ACT_ROW (ACTIONS_AT + i * ACT_ROW) v 1 (omega arith)))

-- ---- the first row of an owner

module _ (o : Owner) where
  first_here : (r : ActRow) (rs : List ActRow) → same_owner o r.owner ≡ true → before_first o (r ∷ rs) ≡ 0
  unfolding before_first
  first_here r rs e = ap (λ t. cond t 0 (suc (before_first o rs))) e

  first_later : (r : ActRow) (rs : List ActRow) → same_owner o r.owner ≡ false → before_first o (r ∷ rs) ≡ suc (before_first o rs)
  unfolding before_first
  first_later r rs e = ap (λ t. cond t 0 (suc (before_first o rs))) e

  pub acts_here : (r : ActRow) (rs : List ActRow) → same_owner o r.owner ≡ true → acts_in (r ∷ rs) o ≡ r.act ∷ acts_in rs o
  unfolding acts_in
  acts_here r rs e = ap (λ t. cond t (r.act ∷ acts_in rs o) (acts_in rs o)) e

  acts_later : (r : ActRow) (rs : List ActRow) → same_owner o r.owner ≡ false → acts_in (r ∷ rs) o ≡ acts_in rs o
  unfolding acts_in
  acts_later r rs e = ap (λ t. cond t (r.act ∷ acts_in rs o) (acts_in rs o)) e

  acts_first : (rows : List ActRow) → acts_in (drop (before_first o rows) rows) o ≡ acts_in rows o
  unfolding before_first
  acts_first [] = refl
  acts_first (r ∷ rs) = go (same_owner o r.owner) refl (acts_first rs)
    where
      go : (b : Bool) → same_owner o r.owner ≡ b → acts_in (drop (before_first o rs) rs) o ≡ acts_in rs o
          → acts_in (drop (before_first o (r ∷ rs)) (r ∷ rs)) o ≡ acts_in (r ∷ rs) o
      go true e h = ap (λ k. acts_in (drop k (r ∷ rs)) o) (first_here r rs e)
      go false e h = ap (λ k. acts_in (drop k (r ∷ rs)) o) (first_later r rs e) ∙ h ∙ sym (acts_later r rs e)

  first_first : (rows : List ActRow) → before_first o (drop (before_first o rows) rows) ≡ 0
  unfolding before_first
  first_first [] = refl
  first_first (r ∷ rs) = go (same_owner o r.owner) refl (first_first rs)
    where
      go : (b : Bool) → same_owner o r.owner ≡ b → before_first o (drop (before_first o rs) rs) ≡ 0
          → before_first o (drop (before_first o (r ∷ rs)) (r ∷ rs)) ≡ 0
      go true e h = ap (λ k. before_first o (drop k (r ∷ rs))) (first_here r rs e) ∙ first_here r rs e
      go false e h = ap (λ k. before_first o (drop k (r ∷ rs))) (first_later r rs e) ∙ h

  -- a row that is its owner's first from itself on
  pub first_own : (r : ActRow) (rs : List ActRow) → before_first o (r ∷ rs) ≡ 0 → same_owner o r.owner ≡ true
  first_own r rs z = go (same_owner o r.owner) refl
    where
      go : (b : Bool) → same_owner o r.owner ≡ b → b ≡ true
      go true e = refl
      go false e = let q = first_later r rs e in absurd (omega arith)

  first_within : (rows : List ActRow) → before_first o rows ≤ length rows
  unfolding before_first
  first_within [] = omega arith
  first_within (r ∷ rs) = go (same_owner o r.owner) (first_within rs)
    where
      go : (b : Bool) → before_first o rs ≤ length rs → cond b 0 (suc (before_first o rs)) ≤ suc (length rs)
      go true h = omega arith
      go false h = omega arith

  module _ (c : Chart) where
    dropped : (i : ℕ) → drop (row_from c o i) c.actions ≡ drop (before_first o (drop i c.actions)) (drop i c.actions)
    unfolding row_from
    dropped i = sym (drop-drop (before_first o (drop i c.actions)) i c.actions)

    pub acts_onward : (i : ℕ) → acts_in (drop (row_from c o i) c.actions) o ≡ acts_in (drop i c.actions) o
    acts_onward i = ap (λ l. acts_in l o) (dropped i) ∙ acts_first (drop i c.actions)

    pub first_from : (i : ℕ) → before_first o (drop (row_from c o i) c.actions) ≡ 0
    first_from i = ap (before_first o) (dropped i) ∙ first_first (drop i c.actions)

    pub later_from : (i : ℕ) → i ≤ row_from c o i
    unfolding row_from
    later_from i = omega arith

    pub row_within : (i : ℕ) → i ≤ length c.actions → row_from c o i ≤ length c.actions
    unfolding row_from
    row_within i h = omega (arith, first_within (drop i c.actions), length-drop i c.actions)

-- ---- making the index

pub record Building (c : Chart) (i : ℕ) (index : List ℕ) : Type 0 where
  pub size : length index ≡ OWNERS + ACTIONS
  pub within : i ≤ length c.actions
  pub first : (o : Owner) → Fits o → get_or index (key o) 0 ≡ length c.actions - row_from c o i
  pub next : (j : ℕ) → i ≤ j → j < length c.actions
      → get_or index (OWNERS + j) 0 ≡ length c.actions - row_from c (get_or c.actions j no_action).owner (suc j)

pub building_begin : (c : Chart) (n : ℕ) → n ≡ length c.actions → Building c n (replicate (OWNERS + ACTIONS) 0)
unfolding row_from
building_begin c n e = record {
  size = length-replicate {A = ℕ} (OWNERS + ACTIONS) 0;
  within = omega arith;
  first = λ o f.
      let none : 0 ≡ length c.actions - (n + before_first o (drop n c.actions)) = omega arith in
      get_or-replicate {A = ℕ} (OWNERS + ACTIONS) (key o) 0 0 (omega (arith, key_within o f)) ∙ none;
  next = λ j l h. absurd (omega arith);
}

-- one more row: what was its owner's first stands behind it, and it is the first
module _ (c : Chart) (m : ℕ) (index : List ℕ) (h : Building c (suc m) index) (few : length c.actions ≤ ACTIONS) (w : Owner) (fw : Fits w)
    (ew : w ≡ (get_or c.actions m no_action).owner) (left : ℕ) (el : left ≡ length c.actions - m) where
  abbrev linked : List ℕ
  linked = set index (OWNERS + m) (get_or index (key w) 0)

  abbrev after : List ℕ
  after = set linked (key w) left

  at_row : drop m c.actions ≡ get_or c.actions m no_action ∷ drop (suc m) c.actions
  at_row = drop-cons c.actions m no_action (omega (arith, h.within))

  row_here : (o : Owner) → same_owner o w ≡ true → m ≡ row_from c o m
  unfolding row_from
  row_here o e =
      let z : before_first o (drop m c.actions) ≡ 0 =
      ap (before_first o) at_row
      ∙ first_here o (get_or c.actions m no_action) (drop (suc m) c.actions) (ap (same_owner o) (sym ew) ∙ e) in
      omega arith

  row_later : (o : Owner) → same_owner o w ≡ false → row_from c o (suc m) ≡ row_from c o m
  unfolding row_from
  row_later o e =
      let z : before_first o (drop m c.actions) ≡ suc (before_first o (drop (suc m) c.actions)) =
      ap (before_first o) at_row
      ∙ first_later o (get_or c.actions m no_action) (drop (suc m) c.actions) (ap (same_owner o) (sym ew) ∙ e) in
      omega arith

  after_first : (o : Owner) → Fits o → (b : Bool) → same_owner o w ≡ b → get_or after (key o) 0 ≡ length c.actions - row_from c o m
  after_first o f true e =
      let long : length linked ≡ length index = length-set index (OWNERS + m) (get_or index (key w) 0) in
      ap (λ k. get_or after k 0) (ap key (owner_one o w e))
      ∙ get_or-set_same linked (key w) left 0 (omega (arith, h.size, key_within w fw))
      ∙ el
      ∙ ap (λ k. length c.actions - k) (row_here o e)
  after_first o f false e =
      let other : key o ≡ key w → ⊥ = λ q. false≢true (sym e ∙ ap (same_owner o) (sym (key_one o w f fw q)) ∙ owner_itself o) in
      let apart : key o ≡ OWNERS + m → ⊥ = λ q. omega (arith, key_within o f) in
      get_or-set_other linked (key w) (key o) left 0 other
      ∙ get_or-set_other index (OWNERS + m) (key o) (get_or index (key w) 0) 0 apart
      ∙ h.first o f
      ∙ ap (λ k. length c.actions - k) (row_later o e)

  after_next : (j : ℕ) → m ≤ j → j < length c.actions → (m ≡ j) ⊎ (m ≡ j → ⊥)
      → get_or after (OWNERS + j) 0 ≡ length c.actions - row_from c (get_or c.actions j no_action).owner (suc j)
  after_next j a l (inl e) =
      let apart : OWNERS + m ≡ key w → ⊥ = λ q. omega (arith, key_within w fw) in
      ap (λ k. get_or after (OWNERS + k) 0) (sym e)
      ∙ get_or-set_other linked (key w) (OWNERS + m) left 0 apart
      ∙ get_or-set_same index (OWNERS + m) (get_or index (key w) 0) 0 (omega (arith, h.size, few, h.within))
      ∙ h.first w fw
      ∙ ap (λ o. length c.actions - row_from c o (suc m)) ew
      ∙ ap (λ k. length c.actions - row_from c (get_or c.actions k no_action).owner (suc k)) e
  after_next j a l (inr n) =
      let apart : OWNERS + j ≡ key w → ⊥ = λ q. omega (arith, key_within w fw) in
      let other : OWNERS + j ≡ OWNERS + m → ⊥ = λ q. n (omega arith) in
      get_or-set_other linked (key w) (OWNERS + j) left 0 apart
      ∙ get_or-set_other index (OWNERS + m) (OWNERS + j) (get_or index (key w) 0) 0 other
      ∙ h.next j (⊎_elim (λ q. absurd (n q)) (λ q. q) (le_split m j a)) l
    where
      le_split : (x y : ℕ) → x ≤ y → (x ≡ y) ⊎ (suc x ≤ y)
      le_split x y le = ⊎_elim (λ q. inl q) (λ q. inr (omega arith)) (same_or x y)

  built : Building c m after
  built = record {
    size = length-set linked (key w) left ∙ length-set index (OWNERS + m) (get_or index (key w) 0) ∙ h.size;
    within = omega (arith, h.within);
    first = λ o f. after_first o f (same_owner o w) refl;
    next = λ j a l. after_next j a l (same_or m j);
  }

-- the same as the loop has it
pub building_on : (v : List ℤ) → Ruled v → (i : ℕ) → 0 < i → (index : List ℕ) → Building (chart_of v) i index
    → (w : Owner) → w ≡ (get_or (chart_of v).actions (i - 1) no_action).owner → (k : ℕ) → k ≡ key w
    → (left : ℕ) → left ≡ length (chart_of v).actions - (i - 1)
    → Building (chart_of v) (i - 1) (set (set index (OWNERS + (i - 1)) (get_or index k 0)) k left)
building_on v r zero p index h w e k q left el = absurd (omega arith)
building_on v r (suc m) p index h w e k q left el =
    let z : m ≡ suc m - 1 = omega arith in
    let e' : w ≡ (get_or (chart_of v).actions m no_action).owner = e ∙ ap (λ x. (get_or (chart_of v).actions x no_action).owner) (sym z) in
    let el' : left ≡ length (chart_of v).actions - m = el ∙ ap (λ x. length (chart_of v).actions - x) (sym z) in
    subst (λ x. Building (chart_of v) x (set (set index (OWNERS + x) (get_or index k 0)) k left)) z
    (subst (λ x. Building (chart_of v) m (set (set index (OWNERS + m) (get_or index x 0)) x left)) (sym q)
    (built (chart_of v) m index h (actions_most v) w (owner_fits v r m (omega (arith, h.within)) w e') e' left el'))

pub building_end : (c : Chart) (i : ℕ) (index : List ℕ) → i ≤ 0 → Building c i index → Indexed c index
building_end c i index z h = record {
  size = h.size;
  first = λ o f. let e : i ≡ 0 = omega arith in h.first o f ∙ ap (λ k. length c.actions - row_from c o k) e;
  next = λ j l. h.next j (omega arith) l;
}

-- ---- what is read from it

module _ (c : Chart) (index : List ℕ) (h : Indexed c index) (n : ℕ) (e : n ≡ length c.actions) where
  pub first_read : (o : Owner) → Fits o → (k : ℕ) → k ≡ key o → (get_or index k 0 ≤ n) × (n - get_or index k 0 ≡ row_from c o 0)
  first_read o f k q =
      let z : get_or index k 0 ≡ length c.actions - row_from c o 0 = ap (λ x. get_or index x 0) q ∙ h.first o f in
      let l : row_from c o 0 ≤ length c.actions = row_within o c 0 (omega arith) in
      (omega arith, omega arith)

  pub next_read : (i : ℕ) → i < length c.actions
      → (get_or index (OWNERS + i) 0 ≤ n) × (n - get_or index (OWNERS + i) 0 ≡ row_from c (get_or c.actions i no_action).owner (suc i))
  next_read i l =
      let z : get_or index (OWNERS + i) 0 ≡ length c.actions - row_from c (get_or c.actions i no_action).owner (suc i) = h.next i l in
      let m : row_from c (get_or c.actions i no_action).owner (suc i) ≤ length c.actions =
      row_within (get_or c.actions i no_action).owner c (suc i) (omega arith) in
      (omega arith, omega arith)
