-- The blocks of a plan, one by one (01, "the start block, then the blocks in head order, no gaps"): heads row by row, what it says that
-- blocks fill the instructions, and what it says that the instructions of all blocks fit. For loops over heads and blocks, and for
-- whoever has a well-formed plan. Assumes nothing.
use Prim.Native.Nat.{ℕ, zero, suc, ◌+◌, ◌-◌, ◌*◌, ◌<◌, ◌≤◌}
use mathlib.Core.Path.{◌≡◌, refl, sym, ap, ◌∙◌}
use mathlib.Core.Bool.{Bool, true, false, ◌&&◌, false≢true}
use mathlib.Core.List.{List, [], ◌∷◌, ◌++◌, map}
use mathlib.Core.Logic.{◌⊎◌, inl, inr}
use native.Mathlib.Omega.{arith}
use borrow.Author.Tests.{ne_eqb, le-leb}
use lib.IntN.{ℤ, pos, negsuc}
use lib.Signed.{le_z}
use lib.ListN.{length, get_or, take, drop}
use lib.Seq.{drop-drop}
use Rattle.numbers.specs.Equal.{eq_z}
use Rattle.numbers.specs.Reference.{ref, NOWHERE}
use Rattle.numbers.proofs.Laws.{eq_z_refl, eq_z_true}
use Rattle.laws.proofs.Lists.{and_left, and_right, le_or_lt}
use Rattle.meaning.specs.Lists.{concat_map, chunks}
use Rattle.meaning.specs.declared.plan.Counts.{Counts}
use Rattle.meaning.specs.Value.{num}
use Rattle.meaning.specs.WellFormed.{INSTR_ROW, head_rows, blocks_fill, all_blocks_fill, instr_fits, left_after_each}
use Rattle.meaning.specs.WellFormed.{code_fits}
use Rattle.plan_rows.proofs.Codes.{names, names_other}

-- ---- rows one by one

pub rows_cons : (n w at : ℕ) (ns : List ℤ) → 0 < n → chunks n w (drop at ns) ≡ take w (drop at ns) ∷ chunks (n - 1) w (drop (at + w) ns)
unfolding chunks
rows_cons zero w at ns h = absurd (omega arith)
rows_cons (suc n) w at ns h = let z : suc n - 1 ≡ n = omega arith in rw (z, drop-drop w at ns)

pub rows_none : (n w at : ℕ) (ns : List ℤ) → n ≡ 0 → chunks n w (drop at ns) ≡ []
unfolding chunks
rows_none n w at ns h = rw h

-- ---- blocks that fill n instructions from a place on

and_false : (a b : Bool) → a && (b && false) ≡ false
and_false true true = refl
and_false true false = refl
and_false false b = refl

-- a block that begins past the last instruction
pub fills_past : (n at : ℕ) (rows : List (List ℤ)) → n < at → blocks_fill n at rows ≡ false
unfolding blocks_fill
fills_past n at [] h = ne_eqb at n (λ e. omega arith)
fills_past n at (row ∷ rows) h =
    rw (fills_past n (at + ref (num row 9)) rows (omega arith)) (and_false (eq_z (num row 8) (pos at)) (le_z (pos 0) (num row 9)))

pub fills_within : (n at : ℕ) (rows : List (List ℤ)) → blocks_fill n at rows ≡ true → at ≤ n
fills_within n at rows e = go (le_or_lt at n)
  where
    go : (at ≤ n) ⊎ (n < at) → at ≤ n
    go (inl h) = h
    go (inr h) = absurd (false≢true (sym (fills_past n at rows h) ∙ e))

module _ (n at : ℕ) (row : List ℤ) (rows : List (List ℤ)) where
  -- a head whose block begins elsewhere
  pub fills_gap : (ref (num row 8) ≡ at → ⊥) → blocks_fill n at (row ∷ rows) ≡ false
  unfolding blocks_fill
  fills_gap h = rw (names_other (num row 8) at h)

  -- a head whose block begins here: a length below 0 is past every count
  length_test : (z : ℤ) → n < NOWHERE → le_z (pos 0) z && blocks_fill n (at + ref z) rows ≡ blocks_fill n (at + ref z) rows
  length_test (pos m) h = rw (le-leb 0 m (omega arith))
  length_test (negsuc m) h = sym (fills_past n (at + NOWHERE) rows (omega arith))

  pub fills_on : n < NOWHERE → at ≤ n → ref (num row 8) ≡ at → blocks_fill n at (row ∷ rows) ≡ blocks_fill n (at + ref (num row 9)) rows
  unfolding blocks_fill
  fills_on h l e =
      let z : eq_z (num row 8) (pos at) ≡ true = rw (names (num row 8) at (omega arith) e) (eq_z_refl (pos at)) in
      rw z (length_test (num row 9) h)

  -- what a head whose block fills says
  pub fills_first : blocks_fill n at (row ∷ rows) ≡ true → ref (num row 8) ≡ at
  unfolding blocks_fill
  fills_first e = ap ref (eq_z_true (num row 8) (pos at) (and_left (eq_z (num row 8) (pos at)) _ e))

  pub fills_rest : blocks_fill n at (row ∷ rows) ≡ true → blocks_fill n (at + ref (num row 9)) rows ≡ true
  unfolding blocks_fill
  fills_rest e = and_right (le_z (pos 0) (num row 9)) _ (and_right (eq_z (num row 8) (pos at)) _ e)

-- a start block of a length below 0 is past every count, too
pub fills_start : (ns : List ℤ) (k : Counts) → k.start ≡ ref (num ns 5) → k.instructions < NOWHERE
    → blocks_fill k.instructions k.start (head_rows ns k) ≡ all_blocks_fill ns k
unfolding all_blocks_fill
fills_start ns k e h = go (num ns 5) e
  where
    go : (z : ℤ) → k.start ≡ ref z
        → blocks_fill k.instructions k.start (head_rows ns k) ≡ le_z (pos 0) z
        && blocks_fill k.instructions k.start (head_rows ns k)
    go (pos m) f = rw (le-leb 0 m (omega arith))
    go (negsuc m) f = fills_past k.instructions k.start (head_rows ns k) (omega arith)

-- ---- the instructions of blocks

pub left_length : (n : ℕ) → length (left_after_each n) ≡ n
unfolding left_after_each
left_length zero = refl
left_length (suc n) = ap suc (left_length n)

pub left_cons : (n : ℕ) → 0 < n → left_after_each n ≡ (n - 1) ∷ left_after_each (n - 1)
unfolding left_after_each
left_cons zero h = absurd (omega arith)
left_cons (suc n) h = let z : suc n - 1 ≡ n = omega arith in rw z

module _ (k : Counts) where
  pub code_stop : (left : ℕ) (lefts : List ℕ) (l : List ℤ) → instr_fits k left l ≡ false → code_fits k (left ∷ lefts) l ≡ false
  unfolding code_fits
  code_stop left lefts l e = rw (e, code_fits)

  pub code_next : (left : ℕ) (lefts : List ℕ) (l : List ℤ) → instr_fits k left l ≡ true
      → code_fits k (left ∷ lefts) l ≡ code_fits k lefts (drop INSTR_ROW l)
  unfolding code_fits
  code_next left lefts l e = rw (e, code_fits)

  pub code_first : (left : ℕ) (lefts : List ℕ) (l : List ℤ) → code_fits k (left ∷ lefts) l ≡ true → instr_fits k left l ≡ true
  code_first left lefts l e = go (instr_fits k left l) refl
    where
      go : (b : Bool) → instr_fits k left l ≡ b → b ≡ true
      go true f = refl
      go false f = absurd (false≢true (sym (code_stop left lefts l f) ∙ e))

  -- one block after another
  pub code_joined : (xs ys : List ℕ) (l : List ℤ)
      → code_fits k (xs ++ ys) l ≡ code_fits k xs l && code_fits k ys (drop (length xs * INSTR_ROW) l)
  unfolding code_fits
  code_joined [] ys l = refl
  code_joined (x ∷ xs) ys l = go (instr_fits k x l) refl (code_joined xs ys (drop INSTR_ROW l))
    where
      go : (b : Bool) → instr_fits k x l ≡ b
          → code_fits k (xs ++ ys) (drop INSTR_ROW l)
          ≡ code_fits k xs (drop INSTR_ROW l) && code_fits k ys (drop (length xs * INSTR_ROW) (drop INSTR_ROW l))
          → code_fits k (x ∷ (xs ++ ys)) l ≡ code_fits k (x ∷ xs) l && code_fits k ys (drop (length (x ∷ xs) * INSTR_ROW) l)
      go false e rest = rw (code_stop x (xs ++ ys) l e, code_stop x xs l e)
      go true e rest =
          let z : INSTR_ROW + length xs * INSTR_ROW ≡ length (x ∷ xs) * INSTR_ROW = omega arith in
          rw (code_next x (xs ++ ys) l e, code_next x xs l e)
          (rest
          ∙ ap (λ m. code_fits k xs (drop INSTR_ROW l) && code_fits k ys m)
          (drop-drop (length xs * INSTR_ROW) INSTR_ROW l ∙ ap (λ m. drop m l) z))

  -- a block of n instructions and what follows it, where b instructions from a place on are done
  pub code_block : (base b n : ℕ) (ys : List ℕ) (ns : List ℤ)
      → code_fits k (left_after_each n ++ ys) (drop (base + b * INSTR_ROW) ns)
      ≡ code_fits k (left_after_each n) (drop (base + b * INSTR_ROW) ns) && code_fits k ys (drop (base + (b + n) * INSTR_ROW) ns)
  code_block base b n ys ns =
      let z : (base + b * INSTR_ROW) + n * INSTR_ROW ≡ base + (b + n) * INSTR_ROW = omega arith in
      code_joined (left_after_each n) ys (drop (base + b * INSTR_ROW) ns)
      ∙ ap (λ m. code_fits k (left_after_each n) (drop (base + b * INSTR_ROW) ns) && code_fits k ys m)
      (ap (λ m. drop (m * INSTR_ROW) (drop (base + b * INSTR_ROW) ns)) (left_length n)
      ∙ drop-drop (n * INSTR_ROW) (base + b * INSTR_ROW) ns ∙ ap (λ m. drop m ns) z)

  -- instruction j of a block of n that fits, where b instructions from a place on come before the block
  pub block_instr : (n base b : ℕ) (ns : List ℤ) → code_fits k (left_after_each n) (drop (base + b * INSTR_ROW) ns) ≡ true → (j : ℕ)
      → j < n
      → instr_fits k (n - suc j) (drop (base + (b + j) * INSTR_ROW) ns) ≡ true
  unfolding left_after_each
  block_instr zero base b ns e j h = absurd (omega arith)
  block_instr (suc n) base b ns e zero h =
      let z : suc n - 1 ≡ n = omega arith in
      let o : b + 0 ≡ b = omega arith in
      rw (z, o) (code_first n (left_after_each n) (drop (base + b * INSTR_ROW) ns) e)
  block_instr (suc n) base b ns e (suc j) h =
      let z : suc n - suc (suc j) ≡ n - suc j = omega arith in
      let o : b + suc j ≡ (b + 1) + j = omega arith in
      let m : (base + b * INSTR_ROW) + INSTR_ROW ≡ base + (b + 1) * INSTR_ROW = omega arith in
      rw (z, o)
      (block_instr n base (b + 1) ns
      (ap (code_fits k (left_after_each n)) (sym (drop-drop INSTR_ROW (base + b * INSTR_ROW) ns ∙ ap (λ q. drop q ns) m))
      ∙ sym (code_next n (left_after_each n) (drop (base + b * INSTR_ROW) ns)
      (code_first n (left_after_each n) (drop (base + b * INSTR_ROW) ns) e))
      ∙ e)
      j (omega arith))

-- ---- the block of one head among those that fill n instructions from a place on

-- it lies within the instructions
pub block_within : (n at : ℕ) (rows : List (List ℤ)) → blocks_fill n at rows ≡ true → (h : ℕ) → h < length rows
    → ref (num (get_or rows h []) 8) + ref (num (get_or rows h []) 9) ≤ n
block_within n at [] e h l = absurd (omega arith)
block_within n at (row ∷ rows) e zero l =
    let s = fills_first n at row rows e in
    let w = fills_within n (at + ref (num row 9)) rows (fills_rest n at row rows e) in
    omega arith
block_within n at (row ∷ rows) e (suc h) l = block_within n (at + ref (num row 9)) rows (fills_rest n at row rows e) h (omega arith)

-- and its instructions fit if all do
pub block_fits : (k : Counts) (n base at : ℕ) (ns : List ℤ) (rows : List (List ℤ)) → blocks_fill n at rows ≡ true
    → code_fits k (concat_map left_after_each (map (λ row. ref (num row 9)) rows)) (drop (base + at * INSTR_ROW) ns) ≡ true
    → (h : ℕ) → h < length rows
    → code_fits k (left_after_each (ref (num (get_or rows h []) 9))) (drop (base + ref (num (get_or rows h []) 8) * INSTR_ROW) ns) ≡ true
unfolding concat_map
block_fits k n base at ns [] e f h l = absurd (omega arith)
block_fits k n base at ns (row ∷ rows) e f zero l =
    ap (λ m. code_fits k (left_after_each (ref (num row 9))) (drop (base + m * INSTR_ROW) ns)) (fills_first n at row rows e)
    ∙ and_left (code_fits k (left_after_each (ref (num row 9))) (drop (base + at * INSTR_ROW) ns))
    (code_fits k (concat_map left_after_each (map (λ r. ref (num r 9)) rows)) (drop (base + (at + ref (num row 9)) * INSTR_ROW) ns))
    (sym (code_block k base at (ref (num row 9)) (concat_map left_after_each (map (λ r. ref (num r 9)) rows)) ns) ∙ f)
block_fits k n base at ns (row ∷ rows) e f (suc h) l =
    block_fits k n base (at + ref (num row 9)) ns rows (fills_rest n at row rows e)
    (and_right (code_fits k (left_after_each (ref (num row 9))) (drop (base + at * INSTR_ROW) ns))
    (code_fits k (concat_map left_after_each (map (λ r. ref (num r 9)) rows)) (drop (base + (at + ref (num row 9)) * INSTR_ROW) ns))
    (sym (code_block k base at (ref (num row 9)) (concat_map left_after_each (map (λ r. ref (num r 9)) rows)) ns) ∙ f))
    h (omega arith)
