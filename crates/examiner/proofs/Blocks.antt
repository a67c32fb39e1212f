-- The loop over the blocks, the start block first: the blocks of the heads left say as much as all. Assumes nothing.
use Prim.Native.Nat.{ℕ, ◌+◌, ◌-◌, ◌*◌, ◌<◌, ◌≤◌}
use mathlib.Core.Path.{◌≡◌, ap, ◌∙◌}
use mathlib.Core.Bool.{Bool, true, false, ◌&&◌}
use mathlib.Core.List.{List, [], ◌++◌, map}
use lib.IntN.{ℤ}
use lib.ListN.{take, drop}
use lib.Seq.{drop-drop}
use Rattle.numbers.specs.Reference.{ref}
use Rattle.meaning.specs.Lists.{concat_map, chunks}
use Rattle.meaning.specs.declared.plan.Counts.{Counts}
use Rattle.meaning.specs.Value.{num}
use Rattle.meaning.specs.WellFormed.{HEAD_ROW, INSTR_ROW, heads_at, code_at, head_rows, head_by, blocks_fill, left_after_each}
use Rattle.meaning.specs.WellFormed.{left_in_blocks, code_fits}
use Rattle.plan_rows.proofs.Blocks.{rows_cons, rows_none, fills_rest, fills_within, left_length, code_joined, code_block}

-- how many of its block follow each instruction, in the blocks of so many heads from a place on
abbrev pub lefts_of : ℕ → ℕ → List ℤ → List ℕ
lefts_of left head ns = concat_map left_after_each (map (λ row. ref (num row 9)) (chunks left HEAD_ROW (drop head ns)))

-- the instructions of those blocks fit, after so many that are done
abbrev pub rest_fits : Counts → ℕ → ℕ → ℕ → ℕ → List ℤ → Bool
rest_fits k base done left head ns = code_fits k (lefts_of left head ns) (drop (base + done * INSTR_ROW) ns)

-- the start block, then the others
pub blocks_start : (k : Counts) (ns : List ℤ)
    → code_fits k (left_in_blocks ns k) (drop (code_at k) ns)
    ≡ code_fits k (left_after_each k.start) (drop (code_at k) ns) && rest_fits k (code_at k) k.start k.heads (heads_at k) ns
unfolding left_in_blocks concat_map head_rows
blocks_start k ns =
    code_joined k (left_after_each k.start) (lefts_of k.heads (heads_at k) ns) (drop (code_at k) ns)
    ∙ ap (λ m. code_fits k (left_after_each k.start) (drop (code_at k) ns) && code_fits k (lefts_of k.heads (heads_at k) ns) m)
    (ap (λ m. drop (m * INSTR_ROW) (drop (code_at k) ns)) (left_length k.start) ∙ drop-drop (k.start * INSTR_ROW) (code_at k) ns)

lefts_cons : (left head : ℕ) (ns : List ℤ) (n : ℕ) → n ≡ (head_by (take HEAD_ROW (drop head ns))).length → 0 < left
    → lefts_of left head ns ≡ left_after_each n ++ lefts_of (left - 1) (head + HEAD_ROW) ns
unfolding concat_map head_by
lefts_cons left head ns n e h = rw (rows_cons left HEAD_ROW head ns h, e)

lefts_none : (left head : ℕ) (ns : List ℤ) → left ≡ 0 → lefts_of left head ns ≡ []
unfolding concat_map
lefts_none left head ns h = rw (rows_none left HEAD_ROW head ns h)

module _ (k : Counts) (base done left head : ℕ) (ns : List ℤ) (n : ℕ) (e : n ≡ (head_by (take HEAD_ROW (drop head ns))).length)
    (h : 0 < left) where
  step : rest_fits k base done left head ns
      ≡ code_fits k (left_after_each n) (drop (base + done * INSTR_ROW) ns) && rest_fits k base (done + n) (left - 1) (head + HEAD_ROW) ns
  step =
      ap (λ m. code_fits k m (drop (base + done * INSTR_ROW) ns)) (lefts_cons left head ns n e h)
      ∙ code_block k base done n (lefts_of (left - 1) (head + HEAD_ROW) ns) ns

  pub blocks_stop : {b : Bool} → code_fits k (left_after_each n) (drop (base + done * INSTR_ROW) ns) ≡ false
      → rest_fits k base done left head ns ≡ b → false ≡ b
  blocks_stop f g = rw (step, f) at g

  pub blocks_next : {b : Bool} → code_fits k (left_after_each n) (drop (base + done * INSTR_ROW) ns) ≡ true
      → rest_fits k base done left head ns ≡ b → rest_fits k base (done + n) (left - 1) (head + HEAD_ROW) ns ≡ b
  blocks_next f g = rw (step, f) at g

  -- where the blocks fill m instructions, this one lies within them, and the rest fill what is left
  pub filled_on : (m : ℕ) → blocks_fill m done (chunks left HEAD_ROW (drop head ns)) ≡ true
      → blocks_fill m (done + n) (chunks (left - 1) HEAD_ROW (drop (head + HEAD_ROW) ns)) ≡ true
  unfolding head_by
  filled_on m g =
      ap (λ q. blocks_fill m (done + q) (chunks (left - 1) HEAD_ROW (drop (head + HEAD_ROW) ns))) e
      ∙ fills_rest m done (take HEAD_ROW (drop head ns)) (chunks (left - 1) HEAD_ROW (drop (head + HEAD_ROW) ns))
      (rw (rows_cons left HEAD_ROW head ns h) at g)

  pub filled_within : (m : ℕ) → blocks_fill m done (chunks left HEAD_ROW (drop head ns)) ≡ true → done + n ≤ m
  filled_within m g = fills_within m (done + n) (chunks (left - 1) HEAD_ROW (drop (head + HEAD_ROW) ns)) (filled_on m g)

pub blocks_done : (k : Counts) (base done left head : ℕ) (ns : List ℤ) {b : Bool} → left ≡ 0 → rest_fits k base done left head ns ≡ b
    → true ≡ b
unfolding code_fits
blocks_done k base done left head ns h g = rw (lefts_none left head ns h) at g
