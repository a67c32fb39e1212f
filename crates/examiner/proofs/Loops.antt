-- The loops over rows: a test of every row by its number is one of all rows; and where block follows block, what is left to try says as
-- much as the whole, in three laws: a block that fails ends the loop, one that fits goes on, and no head left is the end. Assumes nothing.
use Prim.Native.Nat.{ℕ, zero, suc, ◌+◌, ◌-◌, ◌*◌, ◌<◌, ◌≤◌}
use mathlib.Core.Path.{◌≡◌, refl, sym, ap, ◌∙◌}
use mathlib.Core.Bool.{Bool, true, false, ◌&&◌}
use mathlib.Core.List.{List, ◌∷◌}
use native.Mathlib.Omega.{arith}
use borrow.Author.Tests.{eqb-true, eqb-false}
use lib.Dec.{eqb}
use lib.IntN.{ℤ}
use lib.ListN.{take, drop}
use lib.Seq.{drop-drop}
use Rattle.std.proofs.Math.Nat.{suc-mul}
use Rattle.numbers.specs.Reference.{NOWHERE}
use Rattle.meaning.specs.Lists.{every, chunks, from}
use Rattle.meaning.specs.declared.plan.Counts.{Counts}
use Rattle.meaning.specs.WellFormed.{HEAD_ROW, INSTR_ROW, head_by, blocks_fill, instr_fits, left_after_each, code_fits}
use Rattle.plan_rows.proofs.Blocks.{rows_cons, rows_none, fills_past, fills_gap, fills_on, code_stop, code_next}

-- ---- each of so many rows from a place on

-- a number of rows further on
module _ (w at : ℕ) (ns : List ℤ) where
  further : (a n : ℕ) → chunks n w (drop w (drop (at + a * w) ns)) ≡ chunks n w (drop (at + suc a * w) ns)
  further a n =
      let z : (at + a * w) + w ≡ at + suc a * w = omega (arith, suc-mul a w) in
      ap (chunks n w) (drop-drop w (at + a * w) ns ∙ ap (λ m. drop m ns) z)

  rows_from : (p : List ℤ → Bool) (a n : ℕ) → every (λ i. p (take w (drop (at + i * w) ns))) (from a n) ≡ every p (chunks n w (drop (at + a * w) ns))
  unfolding every from chunks
  rows_from p a zero = refl
  rows_from p a (suc n) =
      ap (λ b. p (take w (drop (at + a * w) ns)) && b) (rows_from p (suc a) n ∙ sym (ap (every p) (further a n)))

  pub each_row : (p : List ℤ → Bool) (n : ℕ) → every (λ i. p (take w (drop (at + i * w) ns))) (from 0 n) ≡ every p (chunks n w (drop at ns))
  each_row p n = let z : at + 0 * w ≡ at = omega arith in rows_from p 0 n ∙ ap (λ m. every p (chunks n w (drop m ns))) z

-- ---- the heads left before and after a step

module _ (f : ℕ → ℕ → Bool) (base heads : ℕ) where
  pub heads_first : f (heads - 0) (base + 0 * HEAD_ROW) ≡ f heads base
  heads_first =
      let z : heads - 0 ≡ heads = omega arith in
      let y : base + 0 * HEAD_ROW ≡ base = omega arith in
      ap (λ m. f m (base + 0 * HEAD_ROW)) z ∙ ap (f heads) y

  pub heads_step : (h : ℕ) → f (heads - (h + 1)) (base + (h + 1) * HEAD_ROW) ≡ f ((heads - h) - 1) ((base + h * HEAD_ROW) + HEAD_ROW)
  heads_step h =
      let z : heads - (h + 1) ≡ (heads - h) - 1 = omega arith in
      let y : base + (h + 1) * HEAD_ROW ≡ (base + h * HEAD_ROW) + HEAD_ROW = omega arith in
      ap (λ m. f m (base + (h + 1) * HEAD_ROW)) z ∙ ap (f ((heads - h) - 1)) y

-- ---- the blocks of the heads left fill n instructions from `end` on

module _ (n end at left : ℕ) (ns : List ℤ) {b : Bool} where
  pub fill_gap : 0 < left → eqb (head_by (take HEAD_ROW (drop at ns))).start end ≡ false
      → blocks_fill n end (chunks left HEAD_ROW (drop at ns)) ≡ b → false ≡ b
  unfolding head_by
  fill_gap h e g =
      sym (fills_gap n end (take HEAD_ROW (drop at ns)) (chunks (left - 1) HEAD_ROW (drop (at + HEAD_ROW) ns))
      (eqb-false (head_by (take HEAD_ROW (drop at ns))).start end e))
      ∙ rw (rows_cons left HEAD_ROW at ns h) at g

  -- a block that begins at `end` and has m instructions
  module _ (h : 0 < left) (few : n < NOWHERE) (inside : end ≤ n) (here : eqb (head_by (take HEAD_ROW (drop at ns))).start end ≡ true) where
    pub fill_next : (m : ℕ) → m ≡ (head_by (take HEAD_ROW (drop at ns))).length → blocks_fill n end (chunks left HEAD_ROW (drop at ns)) ≡ b
        → blocks_fill n (end + m) (chunks (left - 1) HEAD_ROW (drop (at + HEAD_ROW) ns)) ≡ b
    unfolding head_by
    fill_next m l g =
        ap (λ q. blocks_fill n (end + q) (chunks (left - 1) HEAD_ROW (drop (at + HEAD_ROW) ns))) l
        ∙ sym (fills_on n end (take HEAD_ROW (drop at ns)) (chunks (left - 1) HEAD_ROW (drop (at + HEAD_ROW) ns)) few inside
        (eqb-true (head_by (take HEAD_ROW (drop at ns))).start end here))
        ∙ rw (rows_cons left HEAD_ROW at ns h) at g

    -- it ends past the last instruction
    pub fill_long : (m : ℕ) → m ≡ (head_by (take HEAD_ROW (drop at ns))).length → n - end < m
        → blocks_fill n end (chunks left HEAD_ROW (drop at ns)) ≡ b → false ≡ b
    fill_long m l v g =
        sym (fills_past n (end + m) (chunks (left - 1) HEAD_ROW (drop (at + HEAD_ROW) ns)) (omega arith)) ∙ fill_next m l g

  pub fill_done : left ≡ 0 → blocks_fill n end (chunks left HEAD_ROW (drop at ns)) ≡ b → eqb end n ≡ b
  unfolding blocks_fill
  fill_done h g = rw (rows_none left HEAD_ROW at ns h) at g

-- ---- the instructions of a block of n, one by one: of instruction i as many follow as are left

module _ (k : Counts) (base n : ℕ) (ns : List ℤ) where
  one_block : (m : ℕ) (lefts : List ℕ) (l : List ℤ) → code_fits k (m ∷ lefts) l ≡ instr_fits k m l && code_fits k lefts (drop INSTR_ROW l)
  one_block m lefts l = go (instr_fits k m l) refl
    where
      go : (b : Bool) → instr_fits k m l ≡ b → code_fits k (m ∷ lefts) l ≡ b && code_fits k lefts (drop INSTR_ROW l)
      go true e = code_next k m lefts l e
      go false e = code_stop k m lefts l e

  left_from : (a m : ℕ) → a + m ≡ n
      → every (λ i. instr_fits k ((n - 1) - i) (drop (base + i * INSTR_ROW) ns)) (from a m)
      ≡ code_fits k (left_after_each m) (drop (base + a * INSTR_ROW) ns)
  unfolding every from left_after_each code_fits
  left_from a zero e = refl
  left_from a (suc m) e =
      let z : (n - 1) - a ≡ m = omega arith in
      let y : (base + a * INSTR_ROW) + INSTR_ROW ≡ base + suc a * INSTR_ROW = omega arith in
      ap (λ q. instr_fits k q (drop (base + a * INSTR_ROW) ns)
      && every (λ i. instr_fits k ((n - 1) - i) (drop (base + i * INSTR_ROW) ns)) (from (suc a) m)) z
      ∙ ap (λ b. instr_fits k m (drop (base + a * INSTR_ROW) ns) && b)
      (left_from (suc a) m (omega arith)
      ∙ sym (ap (code_fits k (left_after_each m)) (drop-drop INSTR_ROW (base + a * INSTR_ROW) ns ∙ ap (λ q. drop q ns) y)))
      ∙ sym (one_block m (left_after_each m) (drop (base + a * INSTR_ROW) ns))

  pub each_instr : every (λ i. instr_fits k ((n - 1) - i) (drop (base + i * INSTR_ROW) ns)) (from 0 n)
      ≡ code_fits k (left_after_each n) (drop base ns)
  each_instr = let z : base + 0 * INSTR_ROW ≡ base = omega arith in
      left_from 0 n (omega arith) ∙ ap (λ m. code_fits k (left_after_each n) (drop m ns)) z
