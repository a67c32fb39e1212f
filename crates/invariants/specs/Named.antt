-- What the numbers of a trace name (01, "Trace"): a plain test that walks them three by three, over what there is to be named; what a
-- chart has; and the traces of a list of calls. Assumes nothing.
use Rattle.std.specs.Prelude.{ℕ, Bool, true, false, ◌&&◌, ◌||◌, List, [], ◌∷◌, length, ℤ, pos, ltb}
use Rattle.std.specs.Int.Signed.{le_z, lt_z}
use Rattle.numbers.specs.Equal.{eq_z}
use Rattle.numbers.specs.Range.{in_range}
use Rattle.numbers.specs.Reference.{ref}
use Rattle.meaning.specs.Calls.{Outcome}
use Rattle.meaning.specs.Chart.{Chart}
use Rattle.meaning.specs.Foreign.{event_fits}
use Rattle.meaning.specs.Rules.{within_row}
use Rattle.meaning.specs.Tree.{var_row}
use Rattle.meaning.specs.declared.State.{State}
use Rattle.meaning.specs.declared.chart.VarRow.{VarRow}

-- so many states, the variables with their ranges, so many events, and which numbers are transitions
pub record Names : Type 0 where
  pub states : ℕ
  pub vars : List VarRow
  pub events : ℕ
  pub transition : ℕ → Bool

-- a chart's are numbered 0, 1, 2 in turn
unfoldable pub of_chart : Chart → Names
of_chart c = record {
  states = length c.states;
  vars = c.vars;
  events = c.events;
  transition = λ t. ltb t (length c.transitions);
}

-- one of n things that are numbered 0, 1, 2 in turn
unfoldable pub one_of : ℕ → ℤ → Bool
one_of n x = le_z (pos 0) x && lt_z x (pos n)

-- "1 transition taken; 2 state left; 3 state entered; 4 variable and its new value; 5 event sent and its argument; 6 number told ..
-- An unused third .. 0": a new value is in its variable's range, an argument and a told number in the range of all numbers
unfoldable pub entry_named : Names → ℤ → ℤ → ℤ → Bool
entry_named w kind x y =
    (eq_z kind (pos 1) && ((le_z (pos 0) x && w.transition (ref x)) && eq_z y (pos 0)))
    || ((eq_z kind (pos 2) && (one_of w.states x && eq_z y (pos 0)))
    || ((eq_z kind (pos 3) && (one_of w.states x && eq_z y (pos 0)))
    || ((eq_z kind (pos 4) && (one_of (length w.vars) x && within_row (var_row w.vars (ref x)) y))
    || ((eq_z kind (pos 5) && event_fits w.events x y)
    || (eq_z kind (pos 6) && (in_range x && eq_z y (pos 0)))))))

-- "three signed 32-bit numbers an entry": so each three, and nothing is left over
unfoldable pub all_named : Names → List ℤ → Bool
all_named w [] = true
all_named w (kind ∷ []) = false
all_named w (kind ∷ x ∷ []) = false
all_named w (kind ∷ x ∷ y ∷ rest) = entry_named w kind x y && all_named w rest

-- the traces of a list of calls, each from the state that the one before left
unfoldable pub traces : {A : Type 0} → (A → State → Outcome) → List A → State → List (List ℤ)
traces m [] u = []
traces m (x ∷ xs) u = (m x u).trace ∷ traces m xs (m x u).after
