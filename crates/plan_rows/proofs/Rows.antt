-- Where the rows of a plan stand among its numbers: row i of the variables, heads and instructions is the numbers from one place on, and
-- says what the definitions say of it. In the order: the counts; the lists of a plan, row by row; a row, number by number; a block.
-- Assumes nothing.
use Prim.Native.Nat.{ℕ, ◌+◌, ◌*◌, ◌<◌, ◌≤◌}
use mathlib.Core.Path.{◌≡◌, refl, ap, ◌∙◌}
use mathlib.Core.List.{List, []}
use native.Mathlib.Omega.{arith}
use lib.IntN.{ℤ, pos}
use lib.ListN.{length, get_or, take, drop, length-drop}
use lib.Seq.{drop-drop, get_or-take, get_or-drop, length-take-le}
use Rattle.sizes.specs.Sizes.{STATES, VARIABLES, EVENTS, TRANSITIONS, INSTRUCTIONS}
use Rattle.numbers.specs.Reference.{ref}
use Rattle.meaning.specs.Lists.{chunks}
use Rattle.meaning.specs.declared.plan.Counts.{Counts}
use Rattle.meaning.specs.declared.chart.VarRow.{VarRow}
use Rattle.meaning.specs.declared.chart.Guard.{Guard}
use Rattle.meaning.specs.declared.plan.Head.{Head}
use Rattle.meaning.specs.declared.plan.Instr.{Instr}
use Rattle.meaning.specs.Value.{num, size_by, VAR_ROW, var_by}
use Rattle.meaning.specs.WellFormed.{SIX, HEAD_ROW, INSTR_ROW, counts_of, heads_at, code_at, plan_end, var_rows, head_rows, code_rows}
use Rattle.meaning.specs.WellFormed.{head_guard_by, head_by, instr_of, instr_by, plan_by}
use Rattle.chart_rows.proofs.Rows.{length_chunks, chunk_at, row_at, length_rows, num_at, size_most}
use Rattle.plan_rows.specs.Rows.{row, Sized}

-- ---- the counts

-- whatever the numbers are, what they count keeps its size
pub sized : (ns : List ℤ) → Sized (counts_of ns)
unfolding counts_of
sized ns = record {
  states = size_most STATES (num ns 0);
  vars = size_most VARIABLES (num ns 1);
  events = size_most EVENTS (num ns 2);
  heads = size_most TRANSITIONS (num ns 3);
  instructions = size_most INSTRUCTIONS (num ns 4);
}

pub counts_said : (ns : List ℤ) {a b c d e f : ℕ} → a ≡ size_by STATES (num ns 0) → b ≡ size_by VARIABLES (num ns 1)
    → c ≡ size_by EVENTS (num ns 2) → d ≡ size_by TRANSITIONS (num ns 3) → e ≡ size_by INSTRUCTIONS (num ns 4) → f ≡ ref (num ns 5)
    → record { states = a; vars = b; events = c; heads = d; instructions = e; start = f } ≡ counts_of ns
unfolding counts_of
counts_said ns p q r s t u = rw (p, q, r, s, t, u)

-- ---- the lists of a plan

row_of : (n k a : ℕ) (ns : List ℤ) (i : ℕ) → i < n → get_or (chunks n k (drop a ns)) i [] ≡ row k a i ns
row_of n k a ns i h = chunk_at n k (drop a ns) i h ∙ ap (take k) (drop-drop (i * k) a ns)

module _ (ns : List ℤ) (k : Counts) where
  pub var_rows_length : length (var_rows ns k) ≡ k.vars
  unfolding var_rows
  var_rows_length = length_chunks k.vars VAR_ROW (drop SIX ns)

  pub head_rows_length : length (head_rows ns k) ≡ k.heads
  unfolding head_rows
  head_rows_length = length_chunks k.heads HEAD_ROW (drop (heads_at k) ns)

  pub code_rows_length : length (code_rows ns k) ≡ k.instructions
  unfolding code_rows
  code_rows_length = length_chunks k.instructions INSTR_ROW (drop (code_at k) ns)

  pub var_rows_at : (v : ℕ) → v < k.vars → get_or (var_rows ns k) v [] ≡ row VAR_ROW SIX v ns
  unfolding var_rows
  var_rows_at v h = row_of k.vars VAR_ROW SIX ns v h

  pub head_rows_at : (h : ℕ) → h < k.heads → get_or (head_rows ns k) h [] ≡ row HEAD_ROW (heads_at k) h ns
  unfolding head_rows
  head_rows_at h l = row_of k.heads HEAD_ROW (heads_at k) ns h l

  pub code_rows_at : (i : ℕ) → i < k.instructions → get_or (code_rows ns k) i [] ≡ row INSTR_ROW (code_at k) i ns
  unfolding code_rows
  code_rows_at i h = row_of k.instructions INSTR_ROW (code_at k) ns i h

-- the plan that the numbers state: its counts, and row by row what `var_row`, `head_row` and `instr` give
module _ (ns : List ℤ) where
  pub states_of_plan : (plan_by ns).states ≡ (counts_of ns).states
  unfolding plan_by
  states_of_plan = refl

  pub events_of_plan : (plan_by ns).events ≡ (counts_of ns).events
  unfolding plan_by
  events_of_plan = refl

  pub start_of_plan : (plan_by ns).start_length ≡ (counts_of ns).start
  unfolding plan_by
  start_of_plan = refl

  pub vars_length : length (plan_by ns).vars ≡ (counts_of ns).vars
  unfolding plan_by var_rows
  vars_length = length_rows var_by _ _ _

  pub heads_length : length (plan_by ns).heads ≡ (counts_of ns).heads
  unfolding plan_by head_rows
  heads_length = length_rows head_by _ _ _

  pub code_length : length (plan_by ns).code ≡ (counts_of ns).instructions
  unfolding plan_by code_rows
  code_length = length_rows instr_by _ _ _

  pub var_of_plan : (v : ℕ) (d : VarRow) → v < (counts_of ns).vars → get_or (plan_by ns).vars v d ≡ var_by (row VAR_ROW SIX v ns)
  unfolding plan_by var_rows
  var_of_plan v d h = row_at var_by (counts_of ns).vars VAR_ROW SIX ns v d h

  pub head_of_plan : (h : ℕ) (d : Head) → h < (counts_of ns).heads
      → get_or (plan_by ns).heads h d ≡ head_by (row HEAD_ROW (heads_at (counts_of ns)) h ns)
  unfolding plan_by head_rows
  head_of_plan h d l = row_at head_by (counts_of ns).heads HEAD_ROW (heads_at (counts_of ns)) ns h d l

  pub instr_of_plan : (i : ℕ) (d : Instr) → i < (counts_of ns).instructions
      → get_or (plan_by ns).code i d ≡ instr_by (row INSTR_ROW (code_at (counts_of ns)) i ns)
  unfolding plan_by code_rows
  instr_of_plan i d h = row_at instr_by (counts_of ns).instructions INSTR_ROW (code_at (counts_of ns)) ns i d h

-- each row of a whole plan is there: what the accessors require
module _ (ns : List ℤ) (k : Counts) (whole : plan_end k ≤ length ns) where
  pub var_there : (v : ℕ) → v < k.vars → SIX + (v + 1) * VAR_ROW ≤ length ns
  unfolding plan_end code_at heads_at
  var_there v h = omega arith

  pub head_there : (h : ℕ) → h < k.heads → heads_at k + (h + 1) * HEAD_ROW ≤ length ns
  unfolding plan_end code_at
  head_there h l = omega arith

  pub instr_there : (i : ℕ) → i < k.instructions → code_at k + (i + 1) * INSTR_ROW ≤ length ns
  unfolding plan_end
  instr_there i h = omega arith

-- ---- a row, number by number, from the place b where it begins

module _ (ns : List ℤ) (b : ℕ) where
  pub var_said : {x y z : ℤ} → x ≡ get_or ns (b + 0) (pos 0) → y ≡ get_or ns (b + 1) (pos 0) → z ≡ get_or ns (b + 2) (pos 0)
      → record { low = x; high = y; first = z } ≡ var_by (take VAR_ROW (drop b ns))
  unfolding var_by
  var_said p q r =
      rw (p, q, r, num_at VAR_ROW b ns 0 (omega arith), num_at VAR_ROW b ns 1 (omega arith), num_at VAR_ROW b ns 2 (omega arith))

  pub guard_of : (head_by (take HEAD_ROW (drop b ns))).guard
      ≡ head_guard_by (get_or ns (b + 3) (pos 0)) (get_or ns (b + 4) (pos 0)) (get_or ns (b + 5) (pos 0))
  unfolding head_by
  guard_of = rw (num_at HEAD_ROW b ns 3 (omega arith), num_at HEAD_ROW b ns 4 (omega arith), num_at HEAD_ROW b ns 5 (omega arith))

  pub start_of : (head_by (take HEAD_ROW (drop b ns))).start ≡ ref (get_or ns (b + 8) (pos 0))
  unfolding head_by
  start_of = ap ref (num_at HEAD_ROW b ns 8 (omega arith))

  pub length_of : (head_by (take HEAD_ROW (drop b ns))).length ≡ ref (get_or ns (b + 9) (pos 0))
  unfolding head_by
  length_of = ap ref (num_at HEAD_ROW b ns 9 (omega arith))

  pub head_said : {t s e f l a n : ℕ} {g : Guard}
      → t ≡ ref (get_or ns (b + 0) (pos 0))
      → s ≡ ref (get_or ns (b + 1) (pos 0))
      → e ≡ ref (get_or ns (b + 2) (pos 0))
      → g ≡ (head_by (take HEAD_ROW (drop b ns))).guard
      → f ≡ ref (get_or ns (b + 6) (pos 0))
      → l ≡ ref (get_or ns (b + 7) (pos 0))
      → a ≡ (head_by (take HEAD_ROW (drop b ns))).start
      → n ≡ (head_by (take HEAD_ROW (drop b ns))).length
      → record { transition = t; source = s; trigger = e; guard = g; first = f; last = l; start = a; length = n }
      ≡ head_by (take HEAD_ROW (drop b ns))
  unfolding head_by
  head_said p₀ p₁ p₂ p₃ p₆ p₇ p₈ p₉ =
      rw (
        p₀,
        p₁,
        p₂,
        p₃,
        p₆,
        p₇,
        p₈,
        p₉,
        num_at HEAD_ROW b ns 0 (omega arith),
        num_at HEAD_ROW b ns 1 (omega arith),
        num_at HEAD_ROW b ns 2 (omega arith),
        num_at HEAD_ROW b ns 6 (omega arith),
        num_at HEAD_ROW b ns 7 (omega arith),
      )

  pub instr_said : {i : Instr}
      → i ≡ instr_of (get_or ns (b + 0) (pos 0)) (get_or ns (b + 1) (pos 0)) (get_or ns (b + 2) (pos 0)) (get_or ns (b + 3) (pos 0))
      → i ≡ instr_by (take INSTR_ROW (drop b ns))
  unfolding instr_by
  instr_said p =
      p ∙ rw (
        num_at INSTR_ROW b ns 0 (omega arith),
        num_at INSTR_ROW b ns 1 (omega arith),
        num_at INSTR_ROW b ns 2 (omega arith),
        num_at INSTR_ROW b ns 3 (omega arith),
      )

-- ---- a block of the plan: n instructions from the given one on

module _ (ns : List ℤ) (start n : ℕ) (within : start + n ≤ (counts_of ns).instructions) where
  pub block_length : length (take n (drop start (plan_by ns).code)) ≡ n
  block_length =
      let l = code_length ns in
      length-take-le n (drop start (plan_by ns).code) (rw (length-drop start (plan_by ns).code) (omega arith))

  pub block_at : (j : ℕ) (d : Instr) → j < n
      → get_or (take n (drop start (plan_by ns).code)) j d ≡ instr_by (row INSTR_ROW (code_at (counts_of ns)) (start + j) ns)
  block_at j d h =
      get_or-take n (drop start (plan_by ns).code) j d h ∙ get_or-drop start (plan_by ns).code j d
      ∙ instr_of_plan ns (start + j) d (omega arith)
