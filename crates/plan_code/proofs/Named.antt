-- What the instructions of a plan that was examined name
-- (01, "The plan"): from the test of their numbers, for each instruction of a block;
-- and that the start block and the block of each head are blocks of the plan. Assumes nothing.
use mathlib.Core.Path.{◌∙◌, ◌≡◌, ap, refl, subst, sym}
use Prim.Native.Nat.{◌+◌, ◌-◌, ◌*◌, ◌<◌, ◌≤◌, suc, zero, ℕ}
use native.Mathlib.Omega.{arith}
use mathlib.Core.Bool.{◌&&◌, ◌||◌, false≢true, true}
use mathlib.Core.List.{List, [], ◌++◌, ◌∷◌, map}
use lib.ListN.{get_or-eq_default, drop, get_or, length, take}
use lib.Seq.{drop-drop}
use lib.IntN.{negsuc, pos, ℤ}
use lib.Signed.{le_z}
use lib.Dec.{leb, ltb}
use borrow.Author.Tests.{leb-true, ltb-true}
use Rattle.sizes.specs.Sizes.{EVENTS, INSTRUCTIONS, STATES, TRANSITIONS, VARIABLES}
use Rattle.numbers.specs.Equal.{eq_z}
use Rattle.numbers.specs.Place.{place_of as as_slot}
use Rattle.numbers.specs.Reference.{NOWHERE, ref}
use Rattle.laws.proofs.Lists.{and_left, and_right}
use Rattle.meaning.specs.Lists.{concat_map}
use Rattle.meaning.specs.Value.{VAR_ROW, count_fits, num}
use Rattle.meaning.specs.declared.plan.Counts.{Counts}
use Rattle.meaning.specs.declared.plan.Instr.{Instr}
use Rattle.meaning.specs.WellFormed.{SHAPES, Operand, SIX, HEAD_ROW, INSTR_ROW, a_parent, a_skip}
use Rattle.meaning.specs.WellFormed.{a_state, shape, unused, counts_of, heads_at, code_at, head_rows}
use Rattle.meaning.specs.WellFormed.{head_by, instr_of, instr_act_by, instr_by, plan_by}
use Rattle.meaning.specs.WellFormed.{all_blocks_fill, blocks_fill, operand_fits, shape_fits, instr_fits}
use Rattle.meaning.specs.WellFormed.{left_after_each, left_in_blocks, code_fits, no_shape}
use Rattle.plan_rows.specs.Rows.{Sized}
use Rattle.plan_rows.proofs.Rows.{code_length, head_rows_length, head_rows_at, instr_of_plan, instr_there}
use Rattle.plan_rows.proofs.Blocks.{fills_within, fills_first, fills_rest, code_next, code_first, code_block}
use Rattle.widget.specs.Acts.{Below}
use Rattle.plan_choice.specs.Heads.{Examined, head_of}
use Rattle.plan_choice.proofs.Facts.{passes, counts_sized}
use Rattle.plan_code.specs.Code.{Runs, instr_at, Block}

-- ---- the numbers of one instruction

below : (n m : ℕ) (z : ℤ) → n ≤ m → ltb (ref z) n ≡ true → ref z < m
below n m z l e = let q = ltb-true (ref z) n e in omega arith

parent : (n : ℕ) (z : ℤ) → n ≤ STATES → (eq_z z (negsuc 0) || ltb (ref z) n) ≡ true → Below STATES (as_slot z)
parent n (pos x) l e = let q = ltb-true x n e in omega arith
parent n (negsuc x) l e = tt

skip : (left : ℕ) (z : ℤ) → left ≤ INSTRUCTIONS → count_fits 0 left z ≡ true → ref z ≤ INSTRUCTIONS
skip left (pos x) l e = let q = leb-true x left (and_right (leb 0 x) (leb x left) e) in omega arith
skip left (negsuc x) l e = absurd (false≢true e)

event : (n : ℕ) (z : ℤ) → n ≤ EVENTS → count_fits 1 n z ≡ true → ref z < NOWHERE
event n (pos x) l e = let q = leb-true x n (and_right (leb 1 x) (leb x n) e) in omega arith
event n (negsuc x) l e = absurd (false≢true e)

module _ (k : Counts) (sized : Sized k) (left : ℕ) (near : left ≤ INSTRUCTIONS) (row : List ℤ) where
  abbrev says : ℤ → Instr
  says z = instr_of z (num row 1) (num row 2) (num row 3)

  -- the second and the third of an instruction's three numbers
  second : (f g h : Operand) → shape_fits k left (shape f g h) row ≡ true → operand_fits k left g (num row 2) ≡ true
  unfolding shape_fits
  second f g h e = and_left (operand_fits k left g (num row 2)) _ (and_right (operand_fits k left f (num row 1)) _ e)

  third : (f g h : Operand) → shape_fits k left (shape f g h) row ≡ true → operand_fits k left h (num row 3) ≡ true
  unfolding shape_fits
  third f g h e = and_right (operand_fits k left g (num row 2)) _ (and_right (operand_fits k left f (num row 1)) _ e)

  state : ltb (ref (num row 1)) k.states ≡ true → ref (num row 1) < STATES
  state e = below k.states STATES (num row 1) sized.states e

  skips : (f : Operand) → shape_fits k left (shape f a_skip unused) row ≡ true → ref (num row 2) ≤ INSTRUCTIONS
  unfolding operand_fits
  skips f e = skip left (num row 2) near (second f a_skip unused e)

  code_named : (c : ℕ) → shape_fits k left (get_or SHAPES c no_shape) row ≡ true → Runs k.vars (says (pos c))
  unfolding shape_fits operand_fits instr_of instr_act_by
  code_named zero e = absurd (false≢true e)
  code_named (suc zero) e = state (and_left _ _ e)
  code_named (suc (suc zero)) e = (
    state (and_left _ _ e),
    parent k.states (num row 2) sized.states
        (second a_state a_parent unused e),
  )
  code_named (suc (suc (suc zero))) e = (state (and_left _ _ e), skips a_state e)
  code_named (suc (suc (suc (suc zero)))) e = (state (and_left _ _ e), skips a_state e)
  code_named (suc (suc (suc (suc (suc zero))))) e = (state (and_left _ _ e), skips a_state e)
  code_named (suc (suc (suc (suc (suc (suc zero)))))) e = (
    state (and_left _ _ e),
    below k.states STATES (num row 2) sized.states (second a_state a_state a_skip e),
    skip left (num row 3) near
        (third a_state a_state a_skip e),
  )
  code_named (suc (suc (suc (suc (suc (suc (suc zero))))))) e = ltb-true (ref (num row 1)) k.vars (and_left _ _ e)
  code_named (suc (suc (suc (suc (suc (suc (suc (suc zero)))))))) e = ltb-true (ref (num row 1)) k.vars (and_left _ _ e)
  code_named (suc (suc (suc (suc (suc (suc (suc (suc (suc zero))))))))) e = ltb-true (ref (num row 1)) k.vars (and_left _ _ e)
  code_named (suc (suc (suc (suc (suc (suc (suc (suc (suc (suc zero)))))))))) e = event k.events (num row 1) sized.events
      (and_left _ _ e)
  code_named (suc (suc (suc (suc (suc (suc (suc (suc (suc (suc (suc zero))))))))))) e = tt
  code_named (suc (suc (suc (suc (suc (suc (suc (suc (suc (suc (suc (suc c)))))))))))) e = absurd (false≢true e)

  -- a code below 0 has no form
  any_code_named : (z : ℤ) → shape_fits k left (get_or SHAPES (ref z) no_shape) row ≡ true → Runs k.vars (says z)
  unfolding shape_fits
  any_code_named (pos c) e = code_named c e
  any_code_named (negsuc c) e =
      let past : length SHAPES ≤ NOWHERE = omega arith in
      absurd (false≢true (subst (λ f. shape_fits k left f row ≡ true) (get_or-eq_default SHAPES no_shape past) e))

-- the row of four numbers, and the numbers that begin with it
in_row : (n i : ℕ) (l : List ℤ) → i < n → num (take n l) i ≡ num l i
in_row zero i l h = absurd (omega arith)
in_row (suc n) i [] h = refl
in_row (suc n) zero (x ∷ l) h = refl
in_row (suc n) (suc i) (x ∷ l) h = in_row n i l (omega arith)

row_named : (k : Counts) → Sized k → (left : ℕ) → left ≤ INSTRUCTIONS → (l : List ℤ) → instr_fits k left l ≡ true
    → Runs k.vars (instr_by (take INSTR_ROW l))
unfolding instr_fits instr_by
row_named k s left near l e =
    rw (
      in_row INSTR_ROW 0 l (omega arith),
      in_row INSTR_ROW 1 l (omega arith),
      in_row INSTR_ROW 2 l
          (omega arith),
      in_row INSTR_ROW 3 l (omega arith),
    )
    (any_code_named k s left near l (num l 0) e)

-- ---- the instructions of a block, one by one

-- of each it is known how many of the block follow it
in_block : (k : Counts) (n : ℕ) (l : List ℤ) → code_fits k (left_after_each n) l ≡ true → (j : ℕ) → j < n
    → instr_fits k (n - j - 1) (drop (j * INSTR_ROW) l) ≡ true
unfolding left_after_each
in_block k zero l e j h = absurd (omega arith)
in_block k (suc n) l e zero h = let z : suc n - 0 - 1 ≡ n = omega arith in rw z (code_first k n (left_after_each n) l e)
in_block k (suc n) l e (suc j) h =
    let z : suc n - suc j - 1 ≡ n - j - 1 = omega arith in
    let y : INSTR_ROW + j * INSTR_ROW ≡ suc j * INSTR_ROW = omega arith in
    let f = sym (code_next k n (left_after_each n) l (code_first k n (left_after_each n) l e)) ∙ e in
    rw z (subst (λ m. instr_fits k (n - j - 1) m ≡ true) (drop-drop (j * INSTR_ROW) INSTR_ROW l ∙ ap (λ m. drop m l) y)
    (in_block k n (drop INSTR_ROW l) f j (omega arith)))

-- no plan is so long that the place where its block ends were past 64 bits
pub block_near : {ns : List ℤ} {k : Counts} {start len : ℕ} → Block ns k start len → {base : ℕ} → base ≡ code_at k
    → base + (start + len) * INSTR_ROW ≤ SIX + VARIABLES * VAR_ROW + TRANSITIONS * HEAD_ROW + INSTRUCTIONS * INSTR_ROW
unfolding code_at heads_at
block_near b p =
    let s = counts_sized b.examined in
    omega (arith, s.vars, s.heads, s.instructions, b.within, p)

module _ {ns : List ℤ} {k : Counts} {start len : ℕ} (b : Block ns k start len) {base : ℕ} (p : base ≡ code_at k) (i : ℕ) (l : start ≤ i)
    (h : i < start + len) where
  pub instr_whole : base + (i + 1) * INSTR_ROW ≤ length ns
  instr_whole = subst (λ a. a + (i + 1) * INSTR_ROW ≤ length ns) (sym p)
      (instr_there ns k (passes b.examined).whole i (omega (arith, b.within, h)))

  pub in_code : i < length (plan_by ns).code
  in_code =
      let q : length (plan_by ns).code ≡ k.instructions =
      subst (λ c. length (plan_by ns).code ≡ c.instructions) (sym b.examined.counted) (code_length ns) in
      omega (arith, q, b.within, h)

  pub instr_is : {ins : Instr} → ins ≡ instr_at ns base i → get_or (plan_by ns).code i ins ≡ ins
  instr_is {ins} e =
      subst (λ c. i < c.instructions → get_or (plan_by ns).code i ins ≡ instr_at ns (code_at c) i) (sym b.examined.counted)
      (instr_of_plan ns i ins) (omega (arith, b.within, h))
      ∙ ap (λ a. instr_at ns a i) (sym p) ∙ sym e

  pub instr_runs : {ins : Instr} → ins ≡ instr_at ns base i → Runs (counts_of ns).vars ins
  instr_runs {ins} e =
      let x = b.examined in
      let j = i - start in
      let q : j < len = omega arith in
      let z : (code_at k + start * INSTR_ROW) + j * INSTR_ROW ≡ base + i * INSTR_ROW = omega (arith, p, l) in
      let f = in_block k len (drop (code_at k + start * INSTR_ROW) ns) b.fits j q in
      let g : instr_fits k (len - j - 1) (drop (base + i * INSTR_ROW) ns) ≡ true =
      subst (λ m. instr_fits k (len - j - 1) m ≡ true) (drop-drop (j * INSTR_ROW) (code_at k + start * INSTR_ROW) ns
      ∙ ap (λ m. drop m ns) z) f in
      subst (λ c. Runs c.vars ins) x.counted
      (subst (Runs k.vars) (sym e) (row_named k (counts_sized x) (len - j - 1) (omega
      (arith, b.within, (counts_sized x).instructions)) _ g))

-- ---- the blocks of a plan

lengths : List (List ℤ) → List ℕ
lengths rows = concat_map left_after_each (map (λ r. ref (num r 9)) rows)

heads_blocks : (k : Counts) (ns : List ℤ) (n at : ℕ) (rows : List (List ℤ)) → blocks_fill n at rows ≡ true
    → code_fits k (lengths rows) (drop (code_at k + at * INSTR_ROW) ns) ≡ true → (h : ℕ) → h < length rows
    → (code_fits k (left_after_each (ref (num (get_or rows h []) 9))) (drop (code_at k + ref (num
    (get_or rows h []) 8) * INSTR_ROW) ns) ≡ true)
    × (ref (num (get_or rows h []) 8) + ref (num (get_or rows h []) 9) ≤ n)
unfolding lengths concat_map
heads_blocks k ns n at [] e f h l = absurd (omega arith)
heads_blocks k ns n at (r ∷ rows) e f zero l =
    let q = fills_first n at r rows e in
    let g = sym (code_block k (code_at k) at (ref (num r 9)) (lengths rows) ns) ∙ f in (
      rw q (and_left (code_fits k (left_after_each (ref (num r 9))) (drop (code_at k + at * INSTR_ROW) ns)) _ g),
      rw q (fills_within n (at + ref (num r 9)) rows (fills_rest n at r rows e)),
    )
heads_blocks k ns n at (r ∷ rows) e f (suc h) l =
    let g = sym (code_block k (code_at k) at (ref (num r 9)) (lengths rows) ns) ∙ f in
    heads_blocks k ns n (at + ref (num r 9)) rows (fills_rest n at r rows e)
    (and_right (code_fits k (left_after_each (ref (num r 9))) (drop (code_at k + at * INSTR_ROW) ns)) _ g) h (omega arith)

module _ {ns : List ℤ} {k : Counts} (x : Examined ns k) where
  filled : blocks_fill k.instructions k.start (head_rows ns k) ≡ true
  unfolding all_blocks_fill
  filled = and_right (le_z (pos 0) (num ns 5)) _ (passes x).blocks

  both : code_fits k (left_after_each k.start) (drop (code_at k + 0 * INSTR_ROW) ns)
      && code_fits k (lengths (head_rows ns k)) (drop (code_at k + k.start * INSTR_ROW) ns) ≡ true
  unfolding left_in_blocks concat_map lengths
  both =
      let z : code_at k ≡ code_at k + 0 * INSTR_ROW = omega arith in
      let y : 0 + k.start ≡ k.start = omega arith in
      ap (λ n. code_fits k (left_after_each k.start) (drop (code_at k + 0 * INSTR_ROW) ns)
      && code_fits k (lengths (head_rows ns k)) (drop (code_at k + n * INSTR_ROW) ns)) (sym y)
      ∙ sym (code_block k (code_at k) 0 k.start (lengths (head_rows ns k)) ns)
      ∙ subst (λ a. code_fits k (left_after_each k.start ++ lengths (head_rows ns k)) (drop a ns) ≡ true) z (passes x).code

  -- "the start block" comes first
  pub start_block : Block ns k 0 k.start
  start_block = record {
    examined = x;
    within = omega (arith, fills_within k.instructions k.start (head_rows ns k) filled);
    fits = and_left (code_fits k (left_after_each k.start) (drop (code_at k + 0 * INSTR_ROW) ns)) _ both;
  }

  -- "then the blocks in head order"
  pub head_block : (h : ℕ) → h < k.heads → Block ns k (head_of ns (heads_at k) h).start (head_of ns (heads_at k) h).length
  unfolding head_by
  head_block h l =
      let f = heads_blocks k ns k.instructions k.start (head_rows ns k) filled
      (and_right (code_fits k (left_after_each k.start) (drop (code_at k + 0 * INSTR_ROW) ns)) _ both) h
      (subst (λ n. h < n) (sym (head_rows_length ns k)) l) in
      let g = subst (λ r. (code_fits k (left_after_each (ref (num r 9))) (drop (code_at k + ref (num r 8) * INSTR_ROW) ns) ≡ true)
      × (ref (num r 8) + ref (num r 9) ≤ k.instructions)) (head_rows_at ns k h l) f in
      record { examined = x; within = g.1; fits = g.0 }
