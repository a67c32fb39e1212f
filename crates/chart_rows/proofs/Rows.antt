-- Where the rows of a chart stand among the numbers of its value: element i of `map f (chunks n k (drop a v))` is f of the numbers
-- at a + i * k and on. From that one law, what each field of each row is, and how long the lists of the chart are. Assumes nothing.
use Prim.Native.Nat.{ℕ, zero, suc, ◌+◌, ◌*◌, ◌<◌, ◌≤◌}
use mathlib.Core.Path.{◌≡◌, refl, sym, ap, ◌∙◌}
use mathlib.Core.Bool.{Bool, true, false, cond}
use mathlib.Core.List.{List, [], ◌∷◌, map}
use native.Mathlib.Omega.{arith}
use borrow.Author.Tests.{leb-true}
use lib.Dec.{leb}
use lib.IntN.{ℤ, pos}
use lib.ListN.{length, get_or, take, drop, length-map, get_or-eq_default}
use lib.Seq.{get_or-take, get_or-drop, drop-drop}
use Rattle.sizes.specs.Sizes.{STATES, VARIABLES, TRANSITIONS, ACTIONS}
use Rattle.numbers.specs.Reference.{ref}
use Rattle.meaning.specs.Lists.{chunks}
use Rattle.meaning.specs.declared.chart.Kind.TheVariants.{B as kind_b}
use Rattle.meaning.specs.declared.chart.Guard.{Guard}
use Rattle.meaning.specs.declared.chart.Target.{Target}
use Rattle.meaning.specs.declared.chart.Owner.{Owner}
use Rattle.meaning.specs.declared.chart.Act.{Act}
use Rattle.meaning.specs.Chart.{Chart, no_state, no_var, no_trans, no_action}
use Rattle.meaning.specs.Tree.{state_row, parent_of, kind_of, default_child, var_row, trans_row}
use Rattle.meaning.specs.Value.{num, STATE_ROW, VAR_ROW, TRANS_ROW, ACT_ROW, STATES_AT, VARS_AT, TRANSITIONS_AT, ACTIONS_AT}
use Rattle.meaning.specs.Value.{ref_or_none, kind_by, state_by, var_by, guard_by, target_by, trans_by, owner_by, act_by, action_by}
use Rattle.meaning.specs.Grammar.{s_record, v_record, t_record, a_record}
use Rattle.meaning.specs.Value.{counted, place, chart_by, size_by, rows_of, chart_of}

-- ---- chunks

pub length_chunks : (n k : ℕ) (l : List ℤ) → length (chunks n k l) ≡ n
unfolding chunks
length_chunks zero k l = refl
length_chunks (suc n) k l = ap suc (length_chunks n k (drop k l))

-- row i of n rows
pub chunk_at : (n k : ℕ) (l : List ℤ) (i : ℕ) → i < n → get_or (chunks n k l) i [] ≡ take k (drop (i * k) l)
unfolding chunks
chunk_at zero k l i h = absurd (omega arith)
chunk_at (suc n) k l zero h = let z : 0 * k ≡ 0 = omega arith in rw z
chunk_at (suc n) k l (suc i) h =
    let z : k + i * k ≡ suc i * k = omega arith in
    chunk_at n k (drop k l) i (omega arith) ∙ ap (take k) (drop-drop (i * k) k l ∙ ap (λ j. drop j l) z)

get_d_any : {A : Type 0} (l : List A) (i : ℕ) (d e : A) → i < length l → get_or l i d ≡ get_or l i e
get_d_any [] i d e h = absurd (omega arith)
get_d_any (x ∷ xs) zero d e h = refl
get_d_any (x ∷ xs) (suc i) d e h = get_d_any xs i d e (omega arith)

get_d_map : {A B : Type 0} (f : A → B) (l : List A) (i : ℕ) (d : A) (e : B) → i < length l → get_or (map f l) i e ≡ f (get_or l i d)
get_d_map f [] i d e h = absurd (omega arith)
get_d_map f (x ∷ xs) zero d e h = refl
get_d_map f (x ∷ xs) (suc i) d e h = get_d_map f xs i d e (omega arith)

module _ {A : Type 0} (f : List ℤ → A) (n k a : ℕ) (v : List ℤ) (i : ℕ) (d : A) where
  -- THE law of the layout
  pub row_at : i < n → get_or (map f (chunks n k (drop a v))) i d ≡ f (take k (drop (a + i * k) v))
  row_at h =
      let l : length (chunks n k (drop a v)) ≡ n = length_chunks n k (drop a v) in
      get_d_map f (chunks n k (drop a v)) i [] d (omega arith)
      ∙ ap f (chunk_at n k (drop a v) i h ∙ ap (take k) (drop-drop (i * k) a v))

  pub row_none : n ≤ i → get_or (map f (chunks n k (drop a v))) i d ≡ d
  row_none h = get_or-eq_default (map f (chunks n k (drop a v))) d (rw (length-map, length_chunks) h)

pub length_rows : {A : Type 0} (f : List ℤ → A) (n k : ℕ) (l : List ℤ) → length (map f (chunks n k l)) ≡ n
length_rows f n k l = length-map (chunks n k l) f ∙ length_chunks n k l

-- number j of a row
pub num_at : (k b : ℕ) (v : List ℤ) (j : ℕ) → j < k → num (take k (drop b v)) j ≡ get_or v (b + j) (pos 0)
num_at k b v j h = get_or-take k (drop b v) j (pos 0) h ∙ get_or-drop b v j (pos 0)

pub num_first : (k b : ℕ) (v : List ℤ) → 0 < k → num (take k (drop b v)) 0 ≡ get_or v b (pos 0)
num_first k b v h = let z : b + 0 ≡ b = omega arith in num_at k b v 0 h ∙ ap (λ n. get_or v n (pos 0)) z

-- ---- the counts

pub size_most : (most : ℕ) (z : ℤ) → size_by most z ≤ most
unfolding size_by
size_most most z = go (leb (ref z) most) refl
  where
    go : (t : Bool) → leb (ref z) most ≡ t → cond t (ref z) 0 ≤ most
    go true e = leb-true (ref z) most e
    go false e = omega arith

module _ (v : List ℤ) where
  pub states_count : length (chart_of v).states ≡ size_by STATES (num v (place (counted s_record)))
  unfolding chart_of chart_by rows_of
  states_count = length_rows state_by _ _ _

  pub vars_count : length (chart_of v).vars ≡ size_by VARIABLES (num v (place (counted v_record)))
  unfolding chart_of chart_by rows_of
  vars_count = length_rows var_by _ _ _

  pub transitions_count : length (chart_of v).transitions ≡ size_by TRANSITIONS (num v (place (counted t_record)))
  unfolding chart_of chart_by rows_of
  transitions_count = length_rows trans_by _ _ _

  pub actions_count : length (chart_of v).actions ≡ size_by ACTIONS (num v (place (counted a_record)))
  unfolding chart_of chart_by rows_of
  actions_count = length_rows action_by _ _ _

  pub events_count : (chart_of v).events ≡ ref (num v 2)
  unfolding chart_of chart_by rows_of chunks
  events_count = ap ref (num_first 1 2 v (omega arith))

  -- what a value states is never more than its size
  pub states_most : length (chart_of v).states ≤ STATES
  states_most = rw states_count (size_most STATES (num v (place (counted s_record))))

  pub vars_most : length (chart_of v).vars ≤ VARIABLES
  vars_most = rw vars_count (size_most VARIABLES (num v (place (counted v_record))))

  pub transitions_most : length (chart_of v).transitions ≤ TRANSITIONS
  transitions_most = rw transitions_count (size_most TRANSITIONS (num v (place (counted t_record))))

  pub actions_most : length (chart_of v).actions ≤ ACTIONS
  actions_most = rw actions_count (size_most ACTIONS (num v (place (counted a_record))))

-- ---- the rows

-- a place that a chart does not have
module _ (c : Chart) where
  state_none : (s : ℕ) → length c.states ≤ s → state_row c s ≡ no_state
  unfolding state_row
  state_none s h = get_or-eq_default c.states no_state h

  pub parent_none : (s : ℕ) → length c.states ≤ s → parent_of c s ≡ 0
  unfolding parent_of
  parent_none s h = ap (λ r. r.parent) (state_none s h)

  pub kind_none : (s : ℕ) → length c.states ≤ s → kind_of c s ≡ kind_b
  unfolding kind_of
  kind_none s h = ap (λ r. r.kind) (state_none s h)

  pub default_none : (s : ℕ) → length c.states ≤ s → default_child c s ≡ 0
  unfolding default_child
  default_none s h = ap (λ r. r.default) (state_none s h)

  pub var_none : (i : ℕ) → length c.vars ≤ i → var_row c.vars i ≡ no_var
  unfolding var_row
  var_none i h = get_or-eq_default c.vars no_var h

  pub trans_none : (i : ℕ) → length c.transitions ≤ i → trans_row c i ≡ no_trans
  unfolding trans_row
  trans_none i h = get_or-eq_default c.transitions no_trans h

  pub action_none : (i : ℕ) → length c.actions ≤ i → get_or c.actions i no_action ≡ no_action
  action_none i h = get_or-eq_default c.actions no_action h

-- a place that it has: what its row of numbers says
module _ (v : List ℤ) (i : ℕ) where
  pub state_at : i < length (chart_of v).states → state_row (chart_of v) i ≡ state_by (take STATE_ROW (drop (STATES_AT + i * STATE_ROW) v))
  unfolding state_row chart_of chart_by rows_of
  state_at h =
      row_at state_by (size_by STATES (num v (place (counted s_record)))) STATE_ROW STATES_AT v i no_state (rw (states_count v) at h)

  pub parent_at : i < length (chart_of v).states → parent_of (chart_of v) i ≡ ref_or_none (get_or v (STATES_AT + i * STATE_ROW) (pos 0))
  unfolding parent_of state_by
  parent_at h =
      ap (λ r. r.parent) (state_at h) ∙ ap ref_or_none (num_first STATE_ROW (STATES_AT + i * STATE_ROW) v (omega arith))

  pub kind_at : i < length (chart_of v).states → kind_of (chart_of v) i ≡ kind_by (get_or v (STATES_AT + i * STATE_ROW + 1) (pos 0))
  unfolding kind_of state_by
  kind_at h = ap (λ r. r.kind) (state_at h) ∙ ap kind_by (num_at STATE_ROW (STATES_AT + i * STATE_ROW) v 1 (omega arith))

  pub default_at : i < length (chart_of v).states
      → default_child (chart_of v) i ≡ ref_or_none (get_or v (STATES_AT + i * STATE_ROW + 2) (pos 0))
  unfolding default_child state_by
  default_at h =
      ap (λ r. r.default) (state_at h) ∙ ap ref_or_none (num_at STATE_ROW (STATES_AT + i * STATE_ROW) v 2 (omega arith))

  pub var_at : i < length (chart_of v).vars → var_row (chart_of v).vars i ≡ var_by (take VAR_ROW (drop (VARS_AT + i * VAR_ROW) v))
  unfolding var_row chart_of chart_by rows_of
  var_at h = row_at var_by (size_by VARIABLES (num v (place (counted v_record)))) VAR_ROW VARS_AT v i no_var (rw (vars_count v) at h)

  pub trans_at : i < length (chart_of v).transitions
      → trans_row (chart_of v) i ≡ trans_by (take TRANS_ROW (drop (TRANSITIONS_AT + i * TRANS_ROW) v))
  unfolding trans_row chart_of chart_by rows_of
  trans_at h =
      row_at trans_by (size_by TRANSITIONS (num v (place (counted t_record)))) TRANS_ROW TRANSITIONS_AT v i no_trans
      (rw (transitions_count v) at h)

  pub action_at : i < length (chart_of v).actions
      → get_or (chart_of v).actions i no_action ≡ action_by (take ACT_ROW (drop (ACTIONS_AT + i * ACT_ROW) v))
  unfolding chart_of chart_by rows_of
  action_at h =
      row_at action_by (size_by ACTIONS (num v (place (counted a_record)))) ACT_ROW ACTIONS_AT v i no_action (rw (actions_count v) at h)

-- a row field by field, from the place where it begins
module _ (v : List ℤ) (b : ℕ) where
  pub var_said : {x y z : ℤ} → x ≡ get_or v b (pos 0) → y ≡ get_or v (b + 1) (pos 0) → z ≡ get_or v (b + 2) (pos 0)
      → record { low = x; high = y; first = z } ≡ var_by (take VAR_ROW (drop b v))
  unfolding var_by
  var_said p q r =
      rw (
        p,
        q,
        r,
        num_first VAR_ROW b v (omega arith),
        num_at VAR_ROW b v 1 (omega arith),
        num_at VAR_ROW b v 2 (omega arith),
      )

  pub trans_said : {s e : ℕ} {g : Guard} {t : Target}
      → s ≡ ref (get_or v b (pos 0))
      → e ≡ ref (get_or v (b + 1) (pos 0))
      → g ≡ guard_by (get_or v (b + 2) (pos 0)) (get_or v (b + 3) (pos 0)) (get_or v (b + 4) (pos 0))
      → t ≡ target_by (get_or v (b + 5) (pos 0)) (get_or v (b + 6) (pos 0))
      → record { source = s; trigger = e; guard = g; target = t } ≡ trans_by (take TRANS_ROW (drop b v))
  unfolding trans_by
  trans_said p q r t =
      rw (
        p,
        q,
        r,
        t,
        num_first TRANS_ROW b v (omega arith),
        num_at TRANS_ROW b v 1 (omega arith),
        num_at TRANS_ROW b v 2 (omega arith),
        num_at TRANS_ROW b v 3 (omega arith),
        num_at TRANS_ROW b v 4 (omega arith),
        num_at TRANS_ROW b v 5 (omega arith),
        num_at TRANS_ROW b v 6 (omega arith),
      )

  pub action_said : {o : Owner} {a : Act}
      → o ≡ owner_by (get_or v b (pos 0)) (get_or v (b + 1) (pos 0))
      → a ≡ act_by (get_or v (b + 2) (pos 0)) (get_or v (b + 3) (pos 0)) (get_or v (b + 4) (pos 0))
      → record { owner = o; act = a } ≡ action_by (take ACT_ROW (drop b v))
  unfolding action_by
  action_said p q =
      rw (
        p,
        q,
        num_first ACT_ROW b v (omega arith),
        num_at ACT_ROW b v 1 (omega arith),
        num_at ACT_ROW b v 2 (omega arith),
        num_at ACT_ROW b v 3 (omega arith),
        num_at ACT_ROW b v 4 (omega arith),
      )

-- each field of a transition and of an action, where it stands
module _ (v : List ℤ) (i : ℕ) (l : i < length (chart_of v).transitions) where
  abbrev row_begins : ℕ
  row_begins = TRANSITIONS_AT + i * TRANS_ROW

  pub source_said : ref (get_or v row_begins (pos 0)) ≡ (trans_row (chart_of v) i).source
  unfolding trans_by
  source_said = sym (ap (λ r. r.source) (trans_at v i l) ∙ rw (num_first TRANS_ROW row_begins v (omega arith)))

  pub trigger_said : ref (get_or v (row_begins + 1) (pos 0)) ≡ (trans_row (chart_of v) i).trigger
  unfolding trans_by
  trigger_said = sym (ap (λ r. r.trigger) (trans_at v i l) ∙ rw (num_at TRANS_ROW row_begins v 1 (omega arith)))

  pub guard_said : guard_by (get_or v (row_begins + 2) (pos 0)) (get_or v (row_begins + 3) (pos 0)) (get_or v (row_begins + 4) (pos 0))
      ≡ (trans_row (chart_of v) i).guard
  unfolding trans_by
  guard_said = sym (ap (λ r. r.guard) (trans_at v i l) ∙ rw (
    num_at TRANS_ROW row_begins v 2 (omega arith),
    num_at TRANS_ROW row_begins v 3 (omega arith),
    num_at TRANS_ROW row_begins v 4 (omega arith),
  ))

  pub target_said : target_by (get_or v (row_begins + 5) (pos 0)) (get_or v (row_begins + 6) (pos 0)) ≡ (trans_row (chart_of v) i).target
  unfolding trans_by
  target_said = sym (ap (λ r. r.target) (trans_at v i l) ∙ rw (
    num_at TRANS_ROW row_begins v 5 (omega arith),
    num_at TRANS_ROW row_begins v 6 (omega arith),
  ))

module _ (v : List ℤ) (i : ℕ) (l : i < length (chart_of v).actions) where
  abbrev act_begins : ℕ
  act_begins = ACTIONS_AT + i * ACT_ROW

  pub owner_said : owner_by (get_or v act_begins (pos 0)) (get_or v (act_begins + 1) (pos 0)) ≡ (get_or (chart_of v).actions i no_action).owner
  unfolding action_by
  owner_said = sym (ap (λ r. r.owner) (action_at v i l) ∙ rw (
    num_first ACT_ROW act_begins v (omega arith),
    num_at ACT_ROW act_begins v 1 (omega arith),
  ))

  pub act_said : act_by (get_or v (act_begins + 2) (pos 0)) (get_or v (act_begins + 3) (pos 0)) (get_or v (act_begins + 4) (pos 0))
      ≡ (get_or (chart_of v).actions i no_action).act
  unfolding action_by
  act_said = sym (ap (λ r. r.act) (action_at v i l) ∙ rw (
    num_at ACT_ROW act_begins v 2 (omega arith),
    num_at ACT_ROW act_begins v 3 (omega arith),
    num_at ACT_ROW act_begins v 4 (omega arith),
  ))
