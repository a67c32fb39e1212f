-- A chart that passes the rules, as one record of plain facts: others cite its fields. Assumes nothing.
use mathlib.Core.Path.{◌≡◌, refl, subst}
use mathlib.Core.Logic.{⊎_elim}
use Prim.Native.Nat.{◌<◌, ◌≤◌, suc, zero, ℕ}
use native.Mathlib.Omega.{arith}
use mathlib.Core.Bool.{Bool, cond, false, false≢true, true}
use mathlib.Core.List.{List, [], ◌∷◌}
use mathlib.Core.Option.{none}
use lib.ListN.{get_or, length}
use lib.Dec.{leb}
use lib.Signed.{le_z}
use borrow.Author.Tests.{eq-eqb, eqb-true, leb-true, ltb-true}
use Rattle.laws.proofs.Lists.{and_left, and_right, every_at, every_kept, every_range, is_false, kept_every, le_or_lt}
use Rattle.laws.specs.Facts.{Each, Ordered, none_left, one_more}
use Rattle.laws.proofs.Rules.{ActFacts, OwnerFacts, RulesHold, TransitionFacts, a_inside, act_facts, not_o_of_a}
use Rattle.laws.proofs.Rules.{o_inside, o_of, ordered_2}
use Rattle.laws.proofs.Rules.{outside_parent, owner_facts, rules_hold, transition_facts}
use Rattle.laws.proofs.Tree.{keep_none}
use Rattle.meaning.specs.Chart.{Chart, no_action, no_trans, no_var}
use Rattle.meaning.specs.Effects.{acts_in, acts_of, same_owner}
use Rattle.meaning.specs.Lists.{every}
use Rattle.meaning.specs.Rules.{act_fits, action_fits, children_fit, default_fits, failing_rule, is_state, owner_fits, row_fits}
use Rattle.meaning.specs.Rules.{rule_1, rule_3}
use Rattle.meaning.specs.Rules.{rule_4, rule_5, rule_6, rule_7, transition_fits}
use Rattle.meaning.specs.Tree.{all_states, children, default_child, is_child, is_o, kind_of, parent_of, trans_row, var_row}
use Rattle.meaning.specs.declared.chart.Act.{Act}
use Rattle.meaning.specs.declared.chart.ActRow.{ActRow}
use Rattle.meaning.specs.declared.chart.Kind.{Kind}
use Rattle.meaning.specs.declared.chart.Kind.TheVariants.{A as kind_a, B as kind_b, O as kind_o}
use Rattle.meaning.specs.declared.chart.Owner.{Owner}

-- ---- children

pub child_parent : (c : Chart) (s n : ℕ) → is_child c s (suc n) ≡ true → parent_of c (suc n) ≡ s
unfolding is_child
child_parent c s n e = eqb-true _ _ e

pub parent_child : (c : Chart) (s n : ℕ) → parent_of c (suc n) ≡ s → is_child c s (suc n) ≡ true
unfolding is_child
parent_child c s n e = eq-eqb _ _ e

pub no_root_child : (c : Chart) (s : ℕ) → is_child c s 0 ≡ true → ⊥
unfolding is_child
no_root_child c s e = false≢true e

-- a parent comes before its child
pub child_later : (c : Chart) → Ordered c → (s y : ℕ) → is_child c s y ≡ true → s < y
child_later c o s zero e = absurd (no_root_child c s e)
child_later c o s (suc n) e = omega (arith, child_parent c s n e, o.falls n)

-- a child of another state than the root is one of the chart's
pub child_inside : (c : Chart) (s y : ℕ) → 0 < s → is_child c s y ≡ true → y < length c.states
child_inside c s zero h e = absurd (no_root_child c s e)
child_inside c s (suc n) h e = ⊎_elim (λ l. absurd (omega (arith, outside_parent c (suc n) l, child_parent c s n e)))
    (λ l. l) (le_or_lt (length c.states) (suc n))

pub no_children : (c : Chart) (s : ℕ) → ((y : ℕ) → y < length c.states → is_child c s y ≡ true → ⊥) → children c s ≡ []
unfolding children all_states
no_children c s h = keep_none (is_child c s) 0 (length c.states) (λ y l u. is_false _ (h y (omega arith)))

pub every_child : (c : Chart) (p : ℕ → Bool) (s : ℕ)
    → every p (children c s) ≡ true → (y : ℕ) → y < length c.states → is_child c s y ≡ true → p y ≡ true
unfolding children all_states
every_child c p s e y l t = every_kept p (is_child c s) 0 (length c.states) e y (omega arith) (omega arith) t

pub child_every : (c : Chart) (p : ℕ → Bool) (s : ℕ)
    → ((y : ℕ) → y < length c.states → is_child c s y ≡ true → p y ≡ true) → every p (children c s) ≡ true
unfolding children all_states
child_every c p s h = kept_every p (is_child c s) 0 (length c.states) (λ y l u t. h y (omega arith) t)

-- ---- the record

pub record SoundChart (c : Chart) : Type 0 where
  -- R1
  pub two : 2 ≤ length c.states
  pub root_o : kind_of c 0 ≡ kind_o
  -- R2
  pub ordered : Ordered c
  -- R3
  pub leaf : (s : ℕ) → kind_of c s ≡ kind_b → children c s ≡ []
  pub o_has : (s : ℕ) → kind_of c s ≡ kind_o → 1 ≤ length (children c s)
  pub a_has : (s : ℕ) → kind_of c s ≡ kind_a → 2 ≤ length (children c s)
  pub components : (s y : ℕ) → kind_of c s ≡ kind_a → is_child c s y ≡ true → kind_of c y ≡ kind_o
  -- R4
  pub default : (s : ℕ) → kind_of c s ≡ kind_o → (is_child c s (default_child c s) ≡ true) × (default_child c s < length c.states)
  -- R5
  pub rows : (v : ℕ) → v < length c.vars
      → (le_z (var_row c.vars v).low (var_row c.vars v).first ≡ true)
      × (le_z (var_row c.vars v).first (var_row c.vars v).high ≡ true)
  -- R6
  pub transitions : (t : ℕ) → t < length c.transitions → TransitionFacts c (trans_row c t)
  -- R7
  pub owners : (i : ℕ) → i < length c.actions → OwnerFacts c (get_or c.actions i no_action).owner
  pub acts : (i : ℕ) → i < length c.actions → ActFacts c (get_or c.actions i no_action).act

-- ---- from the rules

nothing_of : (l : List ℕ) → length l ≡ 0 → l ≡ []
nothing_of [] e = refl
nothing_of (x ∷ l) e = absurd (omega arith)

module _ (c : Chart) (r : RulesHold c) where
  order : Ordered c
  order = ordered_2 c r.r2

  fits_1 : (2 ≤ length c.states) × (kind_of c 0 ≡ kind_o)
  unfolding rule_1
  fits_1 = (
    leb-true _ _ (and_left (leb 2 (length c.states)) (is_o (kind_of c 0)) r.r1),
    o_of _ (and_right (leb 2 (length c.states)) (is_o (kind_of c 0)) r.r1),
  )

  fits_3 : (s : ℕ) → s < length c.states → (k : Kind) → kind_of c s ≡ k → children_fit c k (children c s) ≡ true
  unfolding rule_3 all_states
  fits_3 s l k e = subst (λ x. children_fit c x (children c s) ≡ true) e
      (every_range (λ x. children_fit c (kind_of c x) (children c x)) 0 (length c.states) r.r3 s (omega arith) (omega arith))

  fits_4 : (s : ℕ) → s < length c.states → (k : Kind) → kind_of c s ≡ k → default_fits c s k ≡ true
  unfolding rule_4 all_states
  fits_4 s l k e = subst (λ x. default_fits c s x ≡ true) e
      (every_range (λ x. default_fits c x (kind_of c x)) 0 (length c.states) r.r4 s (omega arith) (omega arith))

  leaf_3 : (s : ℕ) → kind_of c s ≡ kind_b → children c s ≡ []
  unfolding children_fit
  leaf_3 s k = ⊎_elim
      (λ l. no_children c s (λ y u t. omega (arith, child_later c order s y t)))
      (λ l. nothing_of _ (eqb-true _ _ (fits_3 s l kind_b k)))
      (le_or_lt (length c.states) s)

  o_3 : (s : ℕ) → kind_of c s ≡ kind_o → 1 ≤ length (children c s)
  unfolding children_fit
  o_3 s k = leb-true _ _ (fits_3 s (o_inside c s k) kind_o k)

  a_3 : (s : ℕ) → kind_of c s ≡ kind_a → (2 ≤ length (children c s)) × (every (λ d. is_o (kind_of c d)) (children c s) ≡ true)
  unfolding children_fit
  a_3 s k = (
    leb-true _ _ (and_left (leb 2 (length (children c s)))
        (every (λ d. is_o (kind_of c d)) (children c s)) (fits_3 s (a_inside c s k) kind_a k)),
    and_right (leb 2 (length (children c s))) (every (λ d. is_o (kind_of c d)) (children c s)) (fits_3 s (a_inside c s k) kind_a k),
  )

  not_root : (s : ℕ) → kind_of c s ≡ kind_a → 0 < s
  not_root zero k = absurd (not_o_of_a _ k fits_1.1)
  not_root (suc s) k = omega arith

  components_3 : (s y : ℕ) → kind_of c s ≡ kind_a → is_child c s y ≡ true → kind_of c y ≡ kind_o
  components_3 s y k t = o_of _ (every_child c (λ d. is_o (kind_of c d)) s (a_3 s k).1 y (child_inside c s y (not_root s k) t) t)

  default_4 : (s : ℕ) → kind_of c s ≡ kind_o → (is_child c s (default_child c s) ≡ true) × (default_child c s < length c.states)
  unfolding default_fits
  default_4 s k =
      let e = fits_4 s (o_inside c s k) kind_o k in (
        and_right (is_state c (default_child c s)) (is_child c s (default_child c s)) e,
        ltb-true _ _ (and_left (is_state c (default_child c s)) (is_child c s (default_child c s)) e),
      )

  rows_5 : (v : ℕ) → v < length c.vars
      → (le_z (var_row c.vars v).low (var_row c.vars v).first ≡ true)
      × (le_z (var_row c.vars v).first (var_row c.vars v).high ≡ true)
  unfolding rule_5 row_fits var_row
  rows_5 v l =
      let e = every_at row_fits c.vars r.r5 v l no_var in
      let x = get_or c.vars v no_var in
      (and_left (le_z x.low x.first) (le_z x.first x.high) e, and_right (le_z x.low x.first) (le_z x.first x.high) e)

  transitions_6 : (t : ℕ) → t < length c.transitions → TransitionFacts c (trans_row c t)
  unfolding rule_6 trans_row
  transitions_6 t l = transition_facts c (get_or c.transitions t no_trans)
      (every_at (transition_fits c) c.transitions r.r6 t l no_trans)

  actions_7 : (i : ℕ) → i < length c.actions → action_fits c (get_or c.actions i no_action) ≡ true
  unfolding rule_7
  actions_7 i l = every_at (action_fits c) c.actions r.r7 i l no_action

  rules_sound : SoundChart c
  unfolding action_fits
  rules_sound = record {
    two = fits_1.0;
    root_o = fits_1.1;
    ordered = order;
    leaf = leaf_3;
    o_has = o_3;
    a_has = λ s k. (a_3 s k).0;
    components = components_3;
    default = default_4;
    rows = rows_5;
    transitions = transitions_6;
    owners = λ i l. let x = get_or c.actions i no_action in
        owner_facts c x.owner (and_left (owner_fits c x.owner) (act_fits c x.act) (actions_7 i l));
    acts = λ i l. let x = get_or c.actions i no_action in
        act_facts c x.act (and_right (owner_fits c x.owner) (act_fits c x.act) (actions_7 i l));
  }

-- a chart that passes the rules is sound
pub sound_chart : (c : Chart) → failing_rule c ≡ none → SoundChart c
sound_chart c e = rules_sound c (rules_hold c e)

-- ---- what follows

-- an a state is not the root
pub a_not_root : (c : Chart) → SoundChart c → (s : ℕ) → kind_of c s ≡ kind_a → 0 < s
a_not_root c h zero k = absurd (not_o_of_a _ k h.root_o)
a_not_root c h (suc s) k = omega arith

-- what holds of the acts of every row holds of each act that an owner has
acts_in_each : (P : Act → Type 0) (o : Owner) (rs : List ActRow)
    → ((i : ℕ) → i < length rs → P (get_or rs i no_action).act) → Each P (acts_in rs o)
unfolding acts_in
acts_in_each P o [] h = none_left
acts_in_each P o (r ∷ rs) h = go (same_owner o r.owner) (acts_in_each P o rs (λ i l. h (suc i) (omega arith)))
  where
    go : (b : Bool) → Each P (acts_in rs o) → Each P (cond b (r.act ∷ acts_in rs o) (acts_in rs o))
    go true ih = one_more (h 0 (omega arith)) ih
    go false ih = ih

pub acts_each : (P : Act → Type 0) (c : Chart)
    → ((i : ℕ) → i < length c.actions → P (get_or c.actions i no_action).act) → (o : Owner) → Each P (acts_of c o)
unfolding acts_of
acts_each P c h o = acts_in_each P o c.actions h

-- each act that an owner has keeps R7
pub acts_sound : (c : Chart) → SoundChart c → (o : Owner) → Each (ActFacts c) (acts_of c o)
acts_sound c h o = acts_each (ActFacts c) c h.acts o
