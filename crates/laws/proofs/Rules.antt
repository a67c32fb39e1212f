-- What the rules R1 to R7 say of a chart that passes them (01, "Chart rules, in order"): plain facts of each state, variable,
-- transition and action, for others to cite. Assumes nothing.
use mathlib.Core.Path.{◌≡◌, ap, refl}
use mathlib.Core.Logic.{◌⊎◌, inl, inr, ⊎_elim}
use Prim.Native.Nat.{◌<◌, ◌≤◌, suc, zero, ℕ}
use native.Mathlib.Omega.{arith}
use mathlib.Core.Bool.{Bool, ◌&&◌, false, false≢true, not, true}
use mathlib.Core.List.{List, [], ◌∷◌}
use mathlib.Core.Option.{none}
use lib.ListN.{get_or-eq_default, get_or, length}
use lib.Dec.{eqb, leb}
use borrow.Author.Tests.{eqb-false, eqb-true, leb-true, ltb-true, not-true}
use Rattle.laws.proofs.Lists.{and_left, and_right, every_at, every_range, le_or_lt, or_cases, same_or}
use Rattle.laws.proofs.Tree.{has_under}
use Rattle.laws.specs.Facts.{Ordered, TargetFacts}
use Rattle.meaning.specs.Chart.{Chart, no_state}
use Rattle.meaning.specs.Lists.{every, has}
use Rattle.meaning.specs.Rules.{act_fits, failing_rule, first_failing, guard_fits, is_state, is_var, owner_fits, parent_fits}
use Rattle.meaning.specs.Rules.{rule_1, rule_2, rule_3}
use Rattle.meaning.specs.Rules.{rule_4, rule_5, rule_6, rule_7, target_fits, transition_fits, within_row}
use Rattle.meaning.specs.Tree.{all_states, ancestors, climb, is_o, kind_of, parent_of, state_row, var_row}
use Rattle.meaning.specs.declared.chart.Act.{Act}
use Rattle.meaning.specs.declared.chart.Act.TheVariants.{AddTo as add_to, Send as send, SetTo as set_to, TakeTo as take_to, Tell as tell}
use Rattle.meaning.specs.declared.chart.Guard.{Guard}
use Rattle.meaning.specs.declared.chart.Guard.TheVariants.{Always as always, Compares as compares}
use Rattle.meaning.specs.declared.chart.Kind.{Kind}
use Rattle.meaning.specs.declared.chart.Kind.TheVariants.{A as kind_a, B as kind_b, O as kind_o}
use Rattle.meaning.specs.declared.chart.Owner.{Owner}
use Rattle.meaning.specs.declared.chart.Owner.TheVariants.{DefaultOf as default_of, EntryOf as entry_of, ExitOf as exit_of}
use Rattle.meaning.specs.declared.chart.Owner.TheVariants.{TransitionOf as transition_of}
use Rattle.meaning.specs.declared.chart.Target.{Target}
use Rattle.meaning.specs.declared.chart.Target.TheVariants.{History as history, InPlace as in_place, To as to}
use Rattle.meaning.specs.declared.chart.TransRow.{TransRow}

-- ---- each rule holds

first_failing_none : (n : ℕ) (bs : List Bool) → first_failing n bs ≡ none → every (λ b. b) bs ≡ true
unfolding first_failing every
first_failing_none n [] e = refl
first_failing_none n (true ∷ bs) e = first_failing_none (suc n) bs e
first_failing_none n (false ∷ bs) e = let z : ◌≡◌ {A = ℕ} 0 1 = cc in absurd (omega arith)

pub record RulesHold (c : Chart) : Type 0 where
  pub r1 : rule_1 c ≡ true
  pub r2 : rule_2 c ≡ true
  pub r3 : rule_3 c ≡ true
  pub r4 : rule_4 c ≡ true
  pub r5 : rule_5 c ≡ true
  pub r6 : rule_6 c ≡ true
  pub r7 : rule_7 c ≡ true

pub rules_hold : (c : Chart) → failing_rule c ≡ none → RulesHold c
unfolding failing_rule
rules_hold c e = record {
  r1 = each_holds 0 (omega arith);
  r2 = each_holds 1 (omega arith);
  r3 = each_holds 2 (omega arith);
  r4 = each_holds 3 (omega arith);
  r5 = each_holds 4 (omega arith);
  r6 = each_holds 5 (omega arith);
  r7 = each_holds 6 (omega arith);
}
  where
    all : List Bool
    all = rule_1 c ∷ rule_2 c ∷ rule_3 c ∷ rule_4 c ∷ rule_5 c ∷ rule_6 c ∷ rule_7 c ∷ []

    each_holds : (i : ℕ) → i < 7 → get_or all i true ≡ true
    each_holds i l = every_at (λ b. b) all (first_failing_none 1 all e) i l true

-- ---- kinds

pub o_of : (k : Kind) → is_o k ≡ true → k ≡ kind_o
unfolding is_o
o_of kind_o e = refl
o_of kind_a e = absurd (false≢true e)
o_of kind_b e = absurd (false≢true e)

pub of_o : (k : Kind) → k ≡ kind_o → is_o k ≡ true
unfolding is_o
of_o k e = rw e refl

pub not_o_of_a : (k : Kind) → k ≡ kind_a → k ≡ kind_o → ⊥
not_o_of_a k p q = let z : ◌≡◌ {A = ℕ} 0 1 = cc in omega arith

pub not_o_of_b : (k : Kind) → k ≡ kind_b → k ≡ kind_o → ⊥
not_o_of_b k p q = let z : ◌≡◌ {A = ℕ} 0 1 = cc in omega arith

pub not_a_of_b : (k : Kind) → k ≡ kind_b → k ≡ kind_a → ⊥
not_a_of_b k p q = let z : ◌≡◌ {A = ℕ} 0 1 = cc in omega arith

-- a place that the chart does not have is of kind b, under the root
module _ (c : Chart) (s : ℕ) (h : length c.states ≤ s) where
  pub outside_kind : kind_of c s ≡ kind_b
  unfolding kind_of state_row
  outside_kind = ap (λ r. r.kind) (get_or-eq_default c.states no_state h)

  pub outside_parent : parent_of c s ≡ 0
  unfolding parent_of state_row
  outside_parent = ap (λ r. r.parent) (get_or-eq_default c.states no_state h)

-- a state that is no b state is one of the chart's
pub o_inside : (c : Chart) (s : ℕ) → kind_of c s ≡ kind_o → s < length c.states
o_inside c s k = ⊎_elim (λ l. absurd (not_o_of_b _ (outside_kind c s l) k)) (λ l. l) (le_or_lt (length c.states) s)

pub a_inside : (c : Chart) (s : ℕ) → kind_of c s ≡ kind_a → s < length c.states
a_inside c s k = ⊎_elim (λ l. absurd (not_a_of_b _ (outside_kind c s l) k)) (λ l. l) (le_or_lt (length c.states) s)

-- ---- R2: parents come first, and in preorder

-- what climbing meets lies below, where parents do so far
climb_lt : (c : Chart) (p f d : ℕ) → ((m : ℕ) → m < d → parent_of c (suc m) ≤ m) → has p (climb c f d) ≡ true → p < d
unfolding climb has
climb_lt c p zero d h e = absurd (false≢true e)
climb_lt c p (suc f) zero h e = absurd (false≢true e)
climb_lt c p (suc f) (suc n) h e = ⊎_elim
    (λ q. omega (arith, eqb-true p (parent_of c (suc n)) q, h n (omega arith)))
    (λ q. omega (arith, h n (omega arith), climb_lt c p f (parent_of c (suc n)) (λ m l. h m (omega (arith, h n (omega arith)))) q))
    (or_cases (eqb p (parent_of c (suc n))) (has p (climb c f (parent_of c (suc n)))) e)

module _ (c : Chart) (r : rule_2 c ≡ true) where
  fits_2 : (n : ℕ) → n < length c.states → parent_fits c n ≡ true
  unfolding rule_2 all_states
  fits_2 n l = every_range (parent_fits c) 0 (length c.states) r n (omega arith) (omega arith)

  parent_2 : (n : ℕ) → suc n < length c.states → (parent_of c (suc n) ≡ n) ⊎ (has (parent_of c (suc n)) (ancestors c n) ≡ true)
  unfolding parent_fits has
  parent_2 n l = ⊎_elim (λ q. inl (eqb-true _ _ q)) (λ q. inr q)
      (or_cases (eqb (parent_of c (suc n)) n) (has (parent_of c (suc n)) (ancestors c n)) (fits_2 (suc n) l))

  falls_below : (b n : ℕ) → n < b → parent_of c (suc n) ≤ n
  unfolding ancestors
  falls_below zero n l = absurd (omega arith)
  falls_below (suc b) n l = ⊎_elim
      (λ q. omega (arith, outside_parent c (suc n) q))
      (λ q. ⊎_elim (λ e. omega arith)
      (λ e. omega (arith, climb_lt c (parent_of c (suc n)) n n (λ m k. falls_below b m (omega arith)) e)) (parent_2 n q))
      (le_or_lt (length c.states) (suc n))

  pub ordered_2 : Ordered c
  ordered_2 = record {
    falls = λ n. falls_below (suc n) n (omega arith);
    follows = λ n l. ⊎_elim (λ e. inl e) (λ e. inr (has_under c (parent_of c (suc n)) n e)) (parent_2 n l);
  }

-- ---- R6 and R7: what is named exists

-- a guard names a variable
abbrev pub GuardFacts : Chart → Guard → Type 0
GuardFacts c always = Unit {0}
GuardFacts c (compares v g x) = v < length c.vars

pub record TransitionFacts (c : Chart) (r : TransRow) : Type 0 where
  pub source : r.source < length c.states
  pub trigger : r.trigger ≤ c.events
  pub guard : GuardFacts c r.guard
  pub target : TargetFacts c r.source r.target

abbrev pub OwnerFacts : Chart → Owner → Type 0
OwnerFacts c (entry_of s) = s < length c.states
OwnerFacts c (exit_of s) = s < length c.states
OwnerFacts c (default_of s) = (s < length c.states) × (kind_of c s ≡ kind_o)
OwnerFacts c (transition_of t) = t < length c.transitions

abbrev pub ActFacts : Chart → Act → Type 0
ActFacts c (set_to v x) = (v < length c.vars) × (within_row (var_row c.vars v) x ≡ true)
ActFacts c (add_to v x) = v < length c.vars
ActFacts c (take_to v) = v < length c.vars
ActFacts c (send e x) = (1 ≤ e) × (e ≤ c.events)
ActFacts c (tell x) = Unit {0}

positive : (n : ℕ) → not (eqb n 0) ≡ true → 0 < n
positive n e = ⊎_elim (λ q. absurd (eqb-false n 0 (not-true (eqb n 0) e) q)) (λ q. omega arith) (same_or n 0)

pub guard_facts : (c : Chart) (g : Guard) → guard_fits c g ≡ true → GuardFacts c g
unfolding guard_fits
guard_facts c always e = tt
guard_facts c (compares v g x) e = ltb-true _ _ e

pub target_facts : (c : Chart) (s : ℕ) (t : Target) → target_fits c s t ≡ true → TargetFacts c s t
unfolding target_fits
target_facts c s (to d) e =
    let f = and_right (is_state c d) (not (eqb d 0) && not (eqb s 0)) e in (
      ltb-true _ _ (and_left (is_state c d) (not (eqb d 0) && not (eqb s 0)) e),
      positive d (and_left (not (eqb d 0)) (not (eqb s 0)) f),
      positive s (and_right (not (eqb d 0)) (not (eqb s 0)) f),
    )
target_facts c s (history b) e =
    let f = and_right (is_state c b) (not (eqb b 0) && (is_o (kind_of c b) && not (eqb s 0))) e in
    let g = and_right (not (eqb b 0)) (is_o (kind_of c b) && not (eqb s 0)) f in (
      ltb-true _ _ (and_left (is_state c b) (not (eqb b 0) && (is_o (kind_of c b) && not (eqb s 0))) e),
      positive b (and_left (not (eqb b 0)) (is_o (kind_of c b) && not (eqb s 0)) f),
      o_of _ (and_left (is_o (kind_of c b)) (not (eqb s 0)) g),
      positive s (and_right (is_o (kind_of c b)) (not (eqb s 0)) g),
    )
target_facts c s in_place e = tt

pub transition_facts : (c : Chart) (r : TransRow) → transition_fits c r ≡ true → TransitionFacts c r
unfolding transition_fits
transition_facts c r e =
    let f = and_right (is_state c r.source)
    (leb r.trigger c.events && (guard_fits c r.guard && target_fits c r.source r.target)) e in
    let g = and_right (leb r.trigger c.events) (guard_fits c r.guard && target_fits c r.source r.target) f in
    record {
      source = ltb-true _ _ (and_left (is_state c r.source)
          (leb r.trigger c.events && (guard_fits c r.guard && target_fits c r.source r.target)) e);
      trigger = leb-true _ _ (and_left (leb r.trigger c.events) (guard_fits c r.guard && target_fits c r.source r.target) f);
      guard = guard_facts c r.guard (and_left (guard_fits c r.guard) (target_fits c r.source r.target) g);
      target = target_facts c r.source r.target (and_right (guard_fits c r.guard) (target_fits c r.source r.target) g);
    }

pub owner_facts : (c : Chart) (o : Owner) → owner_fits c o ≡ true → OwnerFacts c o
unfolding owner_fits
owner_facts c (entry_of s) e = ltb-true _ _ e
owner_facts c (exit_of s) e = ltb-true _ _ e
owner_facts c (default_of s) e =
    (ltb-true _ _ (and_left (is_state c s) (is_o (kind_of c s)) e), o_of _ (and_right (is_state c s) (is_o (kind_of c s)) e))
owner_facts c (transition_of t) e = ltb-true _ _ e

pub act_facts : (c : Chart) (x : Act) → act_fits c x ≡ true → ActFacts c x
unfolding act_fits
act_facts c (set_to v x) e = (
  ltb-true _ _ (and_left (is_var c v) (within_row (var_row c.vars v) x) e),
  and_right (is_var c v) (within_row (var_row c.vars v) x) e,
)
act_facts c (add_to v x) e = ltb-true _ _ e
act_facts c (take_to v) e = ltb-true _ _ e
act_facts c (send n x) e =
    (leb-true _ _ (and_left (leb 1 n) (leb n c.events) e), leb-true _ _ (and_right (leb 1 n) (leb n c.events) e))
act_facts c (tell x) e = tt
