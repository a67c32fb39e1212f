-- A well-formed plan as plain facts, for whoever runs one: counts within their sizes, each row there, each head's and each instruction's
-- numbers in bounds, blocks within the instructions, skips within their block. Assumes nothing.
use Prim.Native.Nat.{ℕ, suc, ◌+◌, ◌-◌, ◌*◌, ◌<◌, ◌≤◌}
use mathlib.Core.Path.{◌≡◌, refl, sym, ap, ◌∙◌}
use mathlib.Core.Bool.{true, ◌&&◌}
use mathlib.Core.List.{List, [], ◌++◌, map}
use native.Mathlib.Omega.{arith}
use lib.IntN.{ℤ}
use lib.ListN.{length, get_or, drop}
use Rattle.sizes.specs.Sizes.{STATES}
use Rattle.numbers.specs.Range.{in_range}
use Rattle.numbers.specs.Reference.{ref}
use Rattle.laws.proofs.Lists.{and_left, and_right, every_at}
use Rattle.laws.proofs.Value.{RowInRange}
use Rattle.meaning.specs.Lists.{concat_map}
use Rattle.meaning.specs.declared.chart.VarRow.{VarRow}
use Rattle.meaning.specs.declared.plan.Head.{Head}
use Rattle.meaning.specs.declared.plan.Instr.{Instr}
use Rattle.meaning.specs.Rules.{row_fits}
use Rattle.meaning.specs.Value.{num, count_fits, VAR_ROW, var_by, statable}
use Rattle.meaning.specs.WellFormed.{SIX, HEAD_ROW, INSTR_ROW, counts_of, heads_at, code_at, plan_end, head_rows, head_by, instr_by}
use Rattle.meaning.specs.WellFormed.{counts_keep, var_keeps, head_fits, blocks_fill, left_after_each, left_in_blocks}
use Rattle.meaning.specs.WellFormed.{code_fits, well_formed}
use Rattle.plan_rows.specs.Rows.{row, Sized}
use Rattle.plan_rows.proofs.Rows.{sized, var_rows_length, var_rows_at, head_rows_length, head_rows_at}
use Rattle.plan_rows.proofs.Blocks.{fills_start, fills_within, code_block, block_instr}
use Rattle.plan_rows.proofs.Blocks.{block_within, block_fits}
use Rattle.plan_rows.proofs.Verdict.{well_counted, well_whole, well_vars, well_heads, well_blocks, well_code}
use Rattle.plan_rows.proofs.Kept.{HeadKept, InstrKept, count_kept, head_kept, instr_kept}

-- ---- the rows that a plan's numbers state

abbrev pub var_at : List ℤ → ℕ → VarRow
var_at ns v = var_by (row VAR_ROW SIX v ns)

abbrev pub head_at : List ℤ → ℕ → Head
head_at ns h = head_by (row HEAD_ROW (heads_at (counts_of ns)) h ns)

abbrev pub instr_at : List ℤ → ℕ → Instr
instr_at ns i = instr_by (row INSTR_ROW (code_at (counts_of ns)) i ns)

-- "each variable row keeps R5 and the number range"
pub record VarKept (r : VarRow) : Type 0 where
  pub ordered : row_fits r ≡ true
  pub ranged : RowInRange r

-- a block of n instructions from the given one on: each is kept, with what follows it in the block
abbrev pub BlockKept : List ℤ → ℕ → ℕ → Type 0
BlockKept ns start n = (j : ℕ) → j < n → InstrKept (counts_of ns) (n - suc j) (instr_at ns (start + j))

pub record Well (ns : List ℤ) : Type 0 where
  pub two : 2 ≤ (counts_of ns).states
  pub sizes : Sized (counts_of ns)
  pub whole : plan_end (counts_of ns) ≤ length ns
  pub vars : (v : ℕ) → v < (counts_of ns).vars → VarKept (var_at ns v)
  pub heads : (h : ℕ) → h < (counts_of ns).heads → HeadKept (counts_of ns) (head_at ns h)
  -- the start block, and the block of each head, lie within the instructions
  pub start : (counts_of ns).start ≤ (counts_of ns).instructions
  pub blocks : (h : ℕ) → h < (counts_of ns).heads → (head_at ns h).start + (head_at ns h).length ≤ (counts_of ns).instructions
  pub start_code : BlockKept ns 0 (counts_of ns).start
  pub head_code : (h : ℕ) → h < (counts_of ns).heads → BlockKept ns (head_at ns h).start (head_at ns h).length

-- ---- a well-formed plan is one

started : (ns : List ℤ) → (counts_of ns).start ≡ ref (num ns 5)
unfolding counts_of
started ns = refl

module _ (ns : List ℤ) (e : well_formed ns ≡ true) where
  two_states : 2 ≤ (counts_of ns).states
  unfolding counts_of counts_keep
  two_states = count_kept 2 STATES (num ns 0) (and_left (count_fits 2 STATES (num ns 0)) _ (well_counted ns e))

  var_kept : (v : ℕ) → v < (counts_of ns).vars → VarKept (var_at ns v)
  unfolding var_keeps statable var_by
  var_kept v h =
      let k = counts_of ns in
      let l = row VAR_ROW SIX v ns in
      let f : var_keeps l ≡ true
      = rw (var_rows_at ns k v h) at (every_at var_keeps _ (well_vars ns e) v (rw (var_rows_length ns k) h) []) in
      let r = and_right (row_fits (var_by l)) (in_range (num l 0) && (in_range (num l 1) && in_range (num l 2))) f in
      let s = and_right (in_range (num l 0)) (in_range (num l 1) && in_range (num l 2)) r in
      record {
        ordered = and_left (row_fits (var_by l)) (in_range (num l 0) && (in_range (num l 1) && in_range (num l 2))) f;
        ranged = record {
          low = and_left (in_range (num l 0)) (in_range (num l 1) && in_range (num l 2)) r;
          high = and_left (in_range (num l 1)) (in_range (num l 2)) s;
          first = and_right (in_range (num l 1)) (in_range (num l 2)) s;
        };
      }

  head_is_kept : (h : ℕ) → h < (counts_of ns).heads → HeadKept (counts_of ns) (head_at ns h)
  head_is_kept h l =
      let k = counts_of ns in
      head_kept k (row HEAD_ROW (heads_at k) h ns) (sized ns).states
      (rw (head_rows_at ns k h l) at (every_at (head_fits k) _ (well_heads ns e) h (rw (head_rows_length ns k) l) []))

  -- the blocks fill the instructions, the start block first
  filled : blocks_fill (counts_of ns).instructions (counts_of ns).start (head_rows ns (counts_of ns)) ≡ true
  filled = let s = sized ns in fills_start ns (counts_of ns) (started ns) (omega arith) ∙ well_blocks ns e

  -- the start block fits, and so do the others
  code_parts : (code_fits (counts_of ns) (left_after_each (counts_of ns).start) (drop (code_at (counts_of ns) + 0 * INSTR_ROW) ns)
      ≡ true)
      × (code_fits (counts_of ns) (concat_map left_after_each (map (λ r. ref (num r 9)) (head_rows ns (counts_of ns))))
      (drop (code_at (counts_of ns) + (0 + (counts_of ns).start) * INSTR_ROW) ns) ≡ true)
  unfolding left_in_blocks concat_map
  code_parts =
      let k = counts_of ns in
      let z : code_at k + 0 * INSTR_ROW ≡ code_at k = omega arith in
      let ys = concat_map left_after_each (map (λ r. ref (num r 9)) (head_rows ns k)) in
      let f = sym (code_block k (code_at k) 0 k.start ys ns)
      ∙ ap (λ m. code_fits k (left_after_each k.start ++ ys) (drop m ns)) z ∙ well_code ns e in (
        and_left (code_fits k (left_after_each k.start) (drop (code_at k + 0 * INSTR_ROW) ns)) _ f,
        and_right (code_fits k (left_after_each k.start) (drop (code_at k + 0 * INSTR_ROW) ns)) _ f,
      )

  head_of : (h : ℕ) → h < (counts_of ns).heads → get_or (head_rows ns (counts_of ns)) h [] ≡ row HEAD_ROW (heads_at (counts_of ns)) h ns
  head_of h l = head_rows_at ns (counts_of ns) h l

  within : (h : ℕ) → h < (counts_of ns).heads → (head_at ns h).start + (head_at ns h).length ≤ (counts_of ns).instructions
  unfolding head_by
  within h l =
      rw (head_of h l)
      at (block_within (counts_of ns).instructions (counts_of ns).start (head_rows ns (counts_of ns)) filled h
      (rw (head_rows_length ns (counts_of ns)) l))

  -- a block whose instructions fit is kept
  block_kept : (start n : ℕ) → code_fits (counts_of ns) (left_after_each n) (drop (code_at (counts_of ns) + start * INSTR_ROW) ns) ≡ true
      → BlockKept ns start n
  block_kept start n f j h =
      let k = counts_of ns in
      instr_kept k (n - suc j) (drop (code_at k + (start + j) * INSTR_ROW) ns) (block_instr k n (code_at k) start ns f j h)

  head_block_kept : (h : ℕ) → h < (counts_of ns).heads → BlockKept ns (head_at ns h).start (head_at ns h).length
  unfolding head_by
  head_block_kept h l =
      let k = counts_of ns in
      let z : (0 + k.start) ≡ k.start = omega arith in
      block_kept (head_at ns h).start (head_at ns h).length
      (rw (head_of h l)
      at (block_fits k k.instructions (code_at k) k.start ns (head_rows ns k) filled (rw z at code_parts.1) h
      (rw (head_rows_length ns k) l)))

  pub well : Well ns
  well = record {
    two = two_states;
    sizes = sized ns;
    whole = well_whole ns e;
    vars = var_kept;
    heads = head_is_kept;
    start = fills_within (counts_of ns).instructions (counts_of ns).start (head_rows ns (counts_of ns)) filled;
    blocks = within;
    start_code = block_kept 0 (counts_of ns).start code_parts.0;
    head_code = head_block_kept;
  }
