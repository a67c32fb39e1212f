-- A well-formed plan fits: what the test of the numbers says of the plan that they state, in the plain facts of crate plan_laws, where
-- the converse is (`fits_well_formed`). In the order: blocks; the plan; what each instruction names. Assumes nothing.
use mathlib.Core.Path.{◌∙◌, ◌≡◌, ap, refl, subst, sym}
use Prim.Native.Nat.{◌+◌, ◌≤◌, suc, zero, ℕ}
use native.Mathlib.Omega.{arith}
use native.Mathlib.Nat.{zero-add}
use mathlib.Core.Bool.{Bool, ◌&&◌, false, false≢true, true}
use mathlib.Core.List.{List, [], ◌++◌, ◌∷◌, map}
use lib.ListN.{drop, length, length-map, take}
use lib.IntN.{negsuc, pos, ℤ}
use lib.Signed.{le_z}
use lib.Dec.{leb}
use borrow.Author.Tests.{eqb-true, leb-true}
use Rattle.laws.proofs.Lists.{and_left, and_right, each_joined, each_weaker}
use Rattle.laws.specs.Facts.{Each, none_left, one_more}
use Rattle.laws.proofs.Value.{length_chunks, size_by_most}
use Rattle.meaning.specs.Lists.{chunks, concat_map, every}
use Rattle.meaning.specs.Plan.{Plan}
use Rattle.meaning.specs.Rules.{row_fits}
use Rattle.meaning.specs.Value.{VAR_ROW, count_fits, num, size_by, var_by}
use Rattle.meaning.specs.WellFormed.{HEAD_ROW, INSTR_ROW, all_blocks_fill, blocks_fill, code_at, code_fits, code_rows, counts_keep}
use Rattle.meaning.specs.WellFormed.{counts_of, head_by, head_fits, head_rows, instr_by, instr_fits, is_whole, left_after_each}
use Rattle.meaning.specs.WellFormed.{left_in_blocks, plan_by, rows_well_formed, var_keeps, var_rows, well_formed}
use Rattle.meaning.specs.declared.plan.Counts.{Counts}
use Rattle.meaning.specs.declared.plan.Instr.{Instr}
use Rattle.numbers.proofs.Laws.{eq_z_true}
use Rattle.numbers.specs.Equal.{eq_z}
use Rattle.numbers.specs.Reference.{NOWHERE, ref}
use Rattle.plan_invariants.proofs.FittingRows.{heads_fitting, instr_fitting, vars_fitting}
use Rattle.plan_laws.proofs.Fits.{Fills, Fits, HeadFits, InstrFits, Piece, VarFits, next_block, no_piece, one_instr, to_the_end}
use Rattle.plan_laws.proofs.ReadBack.{Sayable, counts}
use Rattle.sizes.specs.Sizes.{EVENTS, INSTRUCTIONS, STATES, TRANSITIONS, VARIABLES}

-- the counts keep their sizes, and the plan fits
pub record Well (p : Plan) : Type 0 where
  pub sayable : Sayable p
  pub fits : Fits p

passed : (b x : Bool) → elim b [ true ↦ x | false ↦ false ] ≡ true → (b ≡ true) × (x ≡ true)
passed true x e = (refl, e)
passed false x e = absurd (false≢true e)

-- ---- blocks

-- what follows n instructions
past : ℕ → List ℤ → List ℤ
past zero l = l
past (suc n) l = past n (drop INSTR_ROW l)

abbrev instrs : ℕ → List ℤ → List Instr
instrs n l = map instr_by (chunks n INSTR_ROW l)

instrs_long : (n : ℕ) (l : List ℤ) → length (instrs n l) ≡ n
instrs_long n l = length-map (chunks n INSTR_ROW l) instr_by ∙ length_chunks n INSTR_ROW l

instrs_joined : (m n : ℕ) (l : List ℤ) → instrs (m + n) l ≡ instrs m l ++ instrs n (past m l)
unfolding past chunks
instrs_joined zero n l = ap (λ i. instrs i l) (zero-add n)
instrs_joined (suc m) n l =
    let e : suc m + n ≡ suc (m + n) = omega arith in
    ap (λ i. instrs i l) e ∙ ap (λ is. instr_by (take INSTR_ROW l) ∷ is) (instrs_joined m n (drop INSTR_ROW l))

-- the blocks of these lengths
blocks_of : List ℕ → List ℤ → List (List Instr)
blocks_of [] l = []
blocks_of (n ∷ ns) l = instrs n l ∷ blocks_of ns (past n l)

total : List ℕ → ℕ
total [] = 0
total (n ∷ ns) = n + total ns

blocks_joined : (ns : List ℕ) (l : List ℤ) → instrs (total ns) l ≡ concat_map (λ b. b) (blocks_of ns l)
unfolding blocks_of total concat_map chunks
blocks_joined [] l = refl
blocks_joined (n ∷ ns) l = instrs_joined n (total ns) l ∙ ap (λ is. instrs n l ++ is) (blocks_joined ns (past n l))

blocks_long : (ns : List ℕ) (l : List ℤ) → ns ≡ map length (blocks_of ns l)
unfolding blocks_of
blocks_long [] l = refl
blocks_long (n ∷ ns) l = ap (λ m. m ∷ ns) (sym (instrs_long n l)) ∙ ap (λ ms. length (instrs n l) ∷ ms) (blocks_long ns (past n l))

-- a block that passes is a piece, and what follows it passes
block_piece : (k : Counts) (n : ℕ) (lefts : List ℕ) (l : List ℤ) → code_fits k (left_after_each n ++ lefts) l ≡ true
    → Piece k (instrs n l) × (code_fits k lefts (past n l) ≡ true)
unfolding left_after_each past chunks code_fits
block_piece k zero lefts l e = (no_piece, e)
block_piece k (suc n) lefts l e =
    let f = passed (instr_fits k n l) (code_fits k (left_after_each n ++ lefts) (drop INSTR_ROW l)) e in
    let r = block_piece k n lefts (drop INSTR_ROW l) f.1 in
    let h = subst (λ i. InstrFits k i (instr_by (take INSTR_ROW l))) (sym (instrs_long n (drop INSTR_ROW l)))
    (instr_fitting k n l f.0) in
    (one_instr h r.0, r.1)

block_pieces : (k : Counts) (ns : List ℕ) (l : List ℤ) → code_fits k (concat_map left_after_each ns) l ≡ true
    → Each (Piece k) (blocks_of ns l)
unfolding blocks_of concat_map
block_pieces k [] l e = none_left
block_pieces k (n ∷ ns) l e =
    let r = block_piece k n (concat_map left_after_each ns) l e in
    one_more r.0 (block_pieces k ns (past n l) r.1)

-- ---- "the blocks fill the instructions"

abbrev block_length : List ℤ → ℕ
block_length row = ref (num row 9)

heads_fill : (n at : ℕ) (rows : List (List ℤ)) → blocks_fill n at rows ≡ true
    → Fills n at (map head_by rows) × (at + total (map block_length rows) ≡ n)
unfolding blocks_fill head_by total
heads_fill n at [] e =
    let q = eqb-true at n e in
    (subst (λ m. Fills n m []) (sym q) to_the_end, omega (arith, q))
heads_fill n at (row ∷ rows) e =
    let rest = le_z (pos 0) (num row 9) && blocks_fill n (at + block_length row) rows in
    let r = heads_fill n (at + block_length row) rows
    (and_right (le_z (pos 0) (num row 9)) _ (and_right (eq_z (num row 8) (pos at)) rest e)) in
    let begins : ref (num row 8) ≡ at = ap ref (eq_z_true (num row 8) (pos at) (and_left (eq_z (num row 8) (pos at)) rest e)) in
    (next_block begins r.0, omega (arith, r.1))

lengths_same : (rows : List (List ℤ)) → map (λ h. h.length) (map head_by rows) ≡ map block_length rows
unfolding head_by
lengths_same [] = refl
lengths_same (row ∷ rows) = ap (λ l. block_length row ∷ l) (lengths_same rows)

-- ---- the plan

-- what the test of the numbers consists of
record Passed (ns : List ℤ) (k : Counts) : Type 0 where
  states : count_fits 2 STATES (num ns 0) ≡ true
  vars : every var_keeps (var_rows ns k) ≡ true
  heads : every (head_fits k) (head_rows ns k) ≡ true
  blocks : blocks_fill k.instructions k.start (head_rows ns k) ≡ true
  code : code_fits k (left_in_blocks ns k) (drop (code_at k) ns) ≡ true

all_passed : (ns : List ℤ) → well_formed ns ≡ true → Passed ns (counts_of ns)
unfolding well_formed rows_well_formed counts_keep all_blocks_fill
all_passed ns e =
    let k = counts_of ns in
    let heads = every (head_fits k) (head_rows ns k) in
    let rows = every var_keeps (var_rows ns k) && (heads && all_blocks_fill ns k) in
    let a = passed (counts_keep ns && is_whole ns k) (rows_well_formed ns k) e in
    let b = passed rows (code_fits k (left_in_blocks ns k) (drop (code_at k) ns)) a.1 in
    let c = and_right (every var_keeps (var_rows ns k)) (heads && all_blocks_fill ns k) b.0 in
    record {
      states = and_left (count_fits 2 STATES (num ns 0)) _ (and_left (counts_keep ns) (is_whole ns k) a.0);
      vars = and_left (every var_keeps (var_rows ns k)) (heads && all_blocks_fill ns k) b.0;
      heads = and_left heads (all_blocks_fill ns k) c;
      blocks = and_right (le_z (pos 0) (num ns 5)) _ (and_right heads (all_blocks_fill ns k) c);
      code = b.1;
    }

two_of : (z : ℤ) → count_fits 2 STATES z ≡ true → 2 ≤ size_by STATES z
unfolding size_by
two_of (pos n) e = rw (and_right (leb 2 n) (leb n STATES) e) (leb-true 2 n (and_left (leb 2 n) (leb n STATES) e))
two_of (negsuc n) e = absurd (false≢true e)

module _ (ns : List ℤ) where
  abbrev kept : Counts
  kept = counts_of ns

  vars_long : length (map var_by (var_rows ns kept)) ≡ kept.vars
  unfolding var_rows
  vars_long = length-map (var_rows ns kept) var_by ∙ length_chunks kept.vars VAR_ROW _

  heads_long : length (map head_by (head_rows ns kept)) ≡ kept.heads
  unfolding head_rows
  heads_long = length-map (head_rows ns kept) head_by ∙ length_chunks kept.heads HEAD_ROW _

  code_long : length (map instr_by (code_rows ns kept)) ≡ kept.instructions
  unfolding code_rows
  code_long = length-map (code_rows ns kept) instr_by ∙ length_chunks kept.instructions INSTR_ROW _

  -- the counts of the plan that numbers state are those of the numbers
  counts_same : counts (plan_by ns) ≡ counts_of ns
  unfolding counts plan_by counts_of
  counts_same = rw (vars_long, heads_long, code_long)

  sizes_kept : Sayable (plan_by ns)
  unfolding plan_by counts_of
  sizes_kept = record {
    states = size_by_most STATES (num ns 0);
    vars = subst (λ n. n ≤ VARIABLES) (sym vars_long) (size_by_most VARIABLES (num ns 1));
    events = size_by_most EVENTS (num ns 2);
    heads = subst (λ n. n ≤ TRANSITIONS) (sym heads_long) (size_by_most TRANSITIONS (num ns 3));
    code = subst (λ n. n ≤ INSTRUCTIONS) (sym code_long) (size_by_most INSTRUCTIONS (num ns 4));
  }

  module _ (e : well_formed ns ≡ true) where
    test : Passed ns kept
    test = all_passed ns e

    -- the lengths of the blocks, the start block first, and the numbers that the instructions begin with
    lengths : List ℕ
    lengths = kept.start ∷ map block_length (head_rows ns kept)

    all_code : List ℤ
    all_code = drop (code_at kept) ns

    blocks_total : total lengths ≡ kept.instructions
    unfolding total lengths
    blocks_total = (heads_fill kept.instructions kept.start (head_rows ns kept) test.blocks).1

    few_states : kept.states ≤ NOWHERE
    unfolding counts_of
    few_states = omega (arith, size_by_most STATES (num ns 0))

    plan_fits : Fits (plan_by ns)
    unfolding plan_by counts_of left_in_blocks lengths all_code code_rows
    plan_fits = record {
      two = two_of (num ns 0) test.states;
      vars = vars_fitting (var_rows ns kept) test.vars;
      heads = subst (λ k. Each (HeadFits k) (map head_by (head_rows ns kept))) (sym counts_same)
          (heads_fitting kept (head_rows ns kept) few_states test.heads);
      fills = subst (λ n. Fills n kept.start (map head_by (head_rows ns kept))) (sym code_long)
          (heads_fill kept.instructions kept.start (head_rows ns kept) test.blocks).0;
      blocks = blocks_of lengths all_code;
      code = ap (λ n. instrs n all_code) (sym blocks_total) ∙ blocks_joined lengths all_code;
      lengths = ap (λ l. kept.start ∷ l) (lengths_same (head_rows ns kept)) ∙ blocks_long lengths all_code;
      pieces = subst (λ k. Each (Piece k) (blocks_of lengths all_code)) (sym counts_same) (block_pieces kept lengths all_code test.code);
    }

    -- a well-formed plan fits
    pub well : Well (plan_by ns)
    well = record { sayable = sizes_kept; fits = plan_fits }

-- ---- what each instruction and each variable row of such a plan says

-- wherever in a block it stands
abbrev pub InstrNamed : Plan → Instr → Type 0
InstrNamed p i = (left : ℕ) × InstrFits (counts p) left i

piece_each : (p : Plan) (is : List Instr) → Piece (counts p) is → Each (InstrNamed p) is
piece_each p [] no_piece = none_left
piece_each p (i ∷ is) (one_instr h hs) = one_more (length is, h) (piece_each p is hs)

pieces_each : (p : Plan) (bs : List (List Instr)) → Each (Piece (counts p)) bs → Each (InstrNamed p) (concat_map (λ b. b) bs)
unfolding concat_map
pieces_each p [] none_left = none_left
pieces_each p (b ∷ bs) (one_more h hs) = each_joined (InstrNamed p) b (concat_map (λ x. x) bs) (piece_each p b h) (pieces_each p bs hs)

module _ (p : Plan) (w : Well p) where
  pub well_code : Each (InstrNamed p) p.code
  well_code = subst (Each (InstrNamed p)) (sym w.fits.code) (pieces_each p w.fits.blocks w.fits.pieces)

  pub well_rows : Each (λ r. row_fits r ≡ true) p.vars
  well_rows = each_weaker VarFits (λ r. row_fits r ≡ true) p.vars (λ r f. f.in_order) w.fits.vars
