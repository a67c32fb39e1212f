-- The chart rules R1 to R7 (01, "Chart rules, in order"), each as one test, and the first that fails. R0 is in Value. Assumes nothing.
use Rattle.std.specs.Prelude.{◌≡◌, ℕ, zero, suc, ◌+◌, Bool, true, false, not, cond, ◌&&◌, List, [], ◌∷◌, length, get_or, ℤ, eqb, leb, ltb}
use Rattle.std.proofs.Math.Option.{Option, none, some}
use Rattle.std.specs.Int.Signed.{le_z}
use Rattle.sizes.specs.Sizes.{LEAST_STATES}
use Rattle.meaning.specs.declared.Answer.{Answer}
use Rattle.meaning.specs.Lists.{has, every, from}
use Rattle.meaning.specs.Chart.{Kind, kind_o, kind_a, kind_b, Guard, always, compares, Target, to, history, in_place}
use Rattle.meaning.specs.Chart.{Act, set_to, add_to, take_to, send, tell, Owner, entry_of, exit_of, default_of, transition_of}
use Rattle.meaning.specs.Chart.{VarRow, TransRow, ActRow, Chart}
use Rattle.meaning.specs.Tree.{parent_of, kind_of, default_child, var_row, is_o, all_states, ancestors, is_child, children}
use Rattle.meaning.specs.Value.{rule_0, chart_of}

-- a number that names one of n
abbrev pub names : ℕ → ℕ → Bool
names n x = ltb x n

abbrev pub is_state : Chart → ℕ → Bool
is_state c s = ltb s (length c.states)

abbrev pub is_var : Chart → ℕ → Bool
is_var c v = ltb v (length c.vars)

-- R1 "at least two states; state 0, the root, is kind o"
unfoldable pub rule_1 : Chart → Bool
rule_1 c = leb LEAST_STATES (length c.states) && is_o (kind_of c 0)

-- R2 "the parent of state n > 0 is n-1 or an ancestor of n-1"
unfoldable pub parent_fits : Chart → ℕ → Bool
parent_fits c zero = true
parent_fits c (suc n) = has (parent_of c (suc n)) (n ∷ ancestors c n)

unfoldable pub rule_2 : Chart → Bool
rule_2 c = every (parent_fits c) (all_states c)

-- R3 "b has no child, o at least one, a at least two, all of them o"
unfoldable pub children_fit : Chart → Kind → List ℕ → Bool
children_fit c kind_o ds = leb 1 (length ds)
children_fit c kind_a ds = leb 2 (length ds) && every (λ d. is_o (kind_of c d)) ds
children_fit c kind_b ds = eqb (length ds) 0

unfoldable pub rule_3 : Chart → Bool
rule_3 c = every (λ s. children_fit c (kind_of c s) (children c s)) (all_states c)

-- R4 "an o state's default is its direct child"
unfoldable pub default_fits : Chart → ℕ → Kind → Bool
default_fits c s kind_o = is_state c (default_child c s) && is_child c s (default_child c s)
default_fits c s kind_a = true
default_fits c s kind_b = true

unfoldable pub rule_4 : Chart → Bool
rule_4 c = every (λ s. default_fits c s (kind_of c s)) (all_states c)

-- R5 "low ≤ first ≤ high"
unfoldable pub row_fits : VarRow → Bool
row_fits r = le_z r.low r.first && le_z r.first r.high

unfoldable pub rule_5 : Chart → Bool
rule_5 c = every row_fits c.vars

-- R6 "source, trigger, guard variable and target exist; the target is never the root; a history belongs to an o state other than the root;
-- the root is a source only of reactions in place"
unfoldable pub guard_fits : Chart → Guard → Bool
guard_fits c always = true
guard_fits c (compares v g x) = is_var c v

unfoldable pub target_fits : Chart → ℕ → Target → Bool
target_fits c s (to t) = is_state c t && (not (eqb t 0) && not (eqb s 0))
target_fits c s (history b) = is_state c b && (not (eqb b 0) && (is_o (kind_of c b) && not (eqb s 0)))
target_fits c s in_place = true

unfoldable pub transition_fits : Chart → TransRow → Bool
transition_fits c r = is_state c r.source
    && (leb r.trigger c.events && (guard_fits c r.guard && target_fits c r.source r.target))

unfoldable pub rule_6 : Chart → Bool
rule_6 c = every (transition_fits c) c.transitions

-- R7 "owners, variables and events of actions exist (a sent event is 1 or more); a d owner is an o state; a set constant is in
-- its variable's range"
unfoldable pub owner_fits : Chart → Owner → Bool
owner_fits c (entry_of s) = is_state c s
owner_fits c (exit_of s) = is_state c s
owner_fits c (default_of s) = is_state c s && is_o (kind_of c s)
owner_fits c (transition_of t) = ltb t (length c.transitions)

unfoldable pub within_row : VarRow → ℤ → Bool
within_row r x = le_z r.low x && le_z x r.high

unfoldable pub act_fits : Chart → Act → Bool
act_fits c (set_to v x) = is_var c v && within_row (var_row c.vars v) x
act_fits c (add_to v x) = is_var c v
act_fits c (take_to v) = is_var c v
act_fits c (send e x) = leb 1 e && leb e c.events
act_fits c (tell x) = true

unfoldable pub action_fits : Chart → ActRow → Bool
action_fits c r = owner_fits c r.owner && act_fits c r.act

unfoldable pub rule_7 : Chart → Bool
rule_7 c = every (action_fits c) c.actions

-- ---- the first failing one named

unfoldable pub first_failing : ℕ → List Bool → Option ℕ
first_failing n [] = none
first_failing n (true ∷ bs) = first_failing (suc n) bs
first_failing n (false ∷ bs) = some n

-- R1 to R7, in order
abbrev pub rules_of : Chart → List Bool
rules_of c = rule_1 c ∷ rule_2 c ∷ rule_3 c ∷ rule_4 c ∷ rule_5 c ∷ rule_6 c ∷ rule_7 c ∷ []

-- the first of R1 to R7 that fails
unfoldable pub failing_rule : Chart → Option ℕ
failing_rule c = first_failing 1 (rules_of c)

abbrev pub after_rule_0 : Bool → Chart → Option ℕ
after_rule_0 true c = failing_rule c
after_rule_0 false c = some 0

-- for a chart handed over as a value: R0 to R7
unfoldable pub failing_rule_of : List ℤ → Option ℕ
failing_rule_of v = after_rule_0 (rule_0 v) (chart_of v)

-- a chart value that passes the rules
abbrev pub Ruled : List ℤ → Type 0
Ruled v = failing_rule_of v ≡ none

-- answer 3 "a rule fails, the first named", with the rule's number as its place; else 0
unfoldable pub verdict : Option ℕ → Answer
verdict none = record { number = 0; place = 0 }
verdict (some r) = record { number = 3; place = r }

-- everything above, opened: for statements that compute
unfoldable pub rules_open : ℕ
unfolding rule_1 parent_fits rule_2 children_fit rule_3 default_fits rule_4 row_fits rule_5 guard_fits target_fits
    transition_fits rule_6 owner_fits within_row act_fits action_fits rule_7 first_failing failing_rule failing_rule_of verdict
rules_open = 0
