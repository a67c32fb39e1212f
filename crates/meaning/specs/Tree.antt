-- The tree of a chart (01, "One reaction"; 000 section 2): parents, ancestors, descendants, children, scope and span.
-- Each is said as 01 says it; that the proper descendants are one range of numbers is a law of the crate laws. Assumes nothing.
use Rattle.std.specs.Prelude.{ℕ, zero, suc, Bool, true, false, cond, ◌&&◌, List, [], ◌∷◌, length, get_or, eqb}
use Rattle.meaning.specs.Lists.{has, keep, first_that, from}
use Rattle.meaning.specs.Chart.{Kind, kind_o, kind_a, kind_b, Target, to, history, in_place}
use Rattle.meaning.specs.Chart.{StateRow, VarRow, TransRow, Chart, no_state, no_var, no_trans}

-- ---- the rows of a chart

unfoldable pub state_row : Chart → ℕ → StateRow
state_row c s = get_or c.states s no_state

unfoldable pub parent_of : Chart → ℕ → ℕ
unfolding state_row
parent_of c s = (state_row c s).parent

unfoldable pub kind_of : Chart → ℕ → Kind
unfolding state_row
kind_of c s = (state_row c s).kind

unfoldable pub default_child : Chart → ℕ → ℕ
unfolding state_row
default_child c s = (state_row c s).default

unfoldable pub var_row : List VarRow → ℕ → VarRow
var_row vs v = get_or vs v no_var

unfoldable pub trans_row : Chart → ℕ → TransRow
trans_row c t = get_or c.transitions t no_trans

unfoldable pub is_o : Kind → Bool
is_o kind_o = true
is_o kind_a = false
is_o kind_b = false

unfoldable pub all_states : Chart → List ℕ
all_states c = from 0 (length c.states)

unfoldable pub all_transitions : Chart → List ℕ
all_transitions c = from 0 (length c.transitions)

-- ---- ancestors, descendants, children

-- the proper ancestors of s, the nearest first (f: at least as many as there can be)
unfoldable pub climb : Chart → ℕ → ℕ → List ℕ
climb c zero s = []
climb c (suc f) zero = []
climb c (suc f) (suc n) = parent_of c (suc n) ∷ climb c f (parent_of c (suc n))

unfoldable pub ancestors : Chart → ℕ → List ℕ
ancestors c s = climb c s s

-- the proper descendants of s, rising: the states that s is an ancestor of
unfoldable pub descendants : Chart → ℕ → List ℕ
descendants c s = keep (λ d. has s (ancestors c d)) (all_states c)

unfoldable pub is_child : Chart → ℕ → ℕ → Bool
is_child c s zero = false
is_child c s (suc n) = eqb (parent_of c (suc n)) s

unfoldable pub children : Chart → ℕ → List ℕ
children c s = keep (is_child c s) (all_states c)

-- ---- scope and span

-- "Scope (000 section 6): the lowest o state that is a proper ancestor of source and target"
unfoldable pub scope : Chart → ℕ → ℕ → ℕ
scope c s t = first_that (λ x. is_o (kind_of c x) && has x (ancestors c t)) (ancestors c s)

-- "Span: all proper descendants of the scope; for a reaction in place, the source and its descendants"; for a history, its owner
-- is the target
unfoldable pub span_of : Chart → ℕ → Target → List ℕ
span_of c s (to t) = descendants c (scope c s t)
span_of c s (history b) = descendants c (scope c s b)
span_of c s in_place = s ∷ descendants c s

unfoldable pub span : Chart → ℕ → List ℕ
span c t = span_of c (trans_row c t).source (trans_row c t).target

-- everything above, opened: for statements that compute
unfoldable pub tree_open : ℕ
unfolding state_row parent_of kind_of default_child
    var_row trans_row is_o all_states all_transitions climb ancestors descendants is_child children scope span_of span
tree_open = 0
