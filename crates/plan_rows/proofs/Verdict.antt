-- The order of the tests of a plan: counts, length, variables, heads, blocks, instructions. What each test says of the whole plan, and
-- what a well-formed plan says of each test. Assumes nothing.
use Prim.Native.Nat.{◌<◌, ◌≤◌}
use mathlib.Core.Path.{◌≡◌, refl, ◌∙◌}
use mathlib.Core.Bool.{Bool, true, false, false≢true}
use mathlib.Core.Logic.{◌⊎◌, inl, inr}
use mathlib.Core.List.{List}
use borrow.Author.Tests.{le-leb, lt-leb}
use lib.IntN.{ℤ}
use lib.ListN.{length, drop}
use Rattle.laws.proofs.Lists.{le_or_lt}
use Rattle.meaning.specs.Lists.{every}
use Rattle.meaning.specs.declared.plan.Counts.{Counts}
use Rattle.meaning.specs.WellFormed.{counts_of, plan_end, code_at, var_rows, head_rows, counts_keep, var_keeps, head_fits, all_blocks_fill}
use Rattle.meaning.specs.WellFormed.{left_in_blocks, code_fits, rows_well_formed, is_whole, well_formed}

module _ (ns : List ℤ) (k : Counts) where
  pub rows_vars : every var_keeps (var_rows ns k) ≡ false → false ≡ rows_well_formed ns k
  unfolding rows_well_formed
  rows_vars e = rw (e, rows_well_formed)

  pub rows_heads : every var_keeps (var_rows ns k) ≡ true → every (head_fits k) (head_rows ns k) ≡ false → false ≡ rows_well_formed ns k
  unfolding rows_well_formed
  rows_heads e f = rw (e, f, rows_well_formed)

  pub rows_blocks : every var_keeps (var_rows ns k) ≡ true → every (head_fits k) (head_rows ns k) ≡ true → all_blocks_fill ns k ≡ false
      → false ≡ rows_well_formed ns k
  unfolding rows_well_formed
  rows_blocks e f g = rw (e, f, g, rows_well_formed)

  pub rows_code : every var_keeps (var_rows ns k) ≡ true → every (head_fits k) (head_rows ns k) ≡ true → all_blocks_fill ns k ≡ true
      → code_fits k (left_in_blocks ns k) (drop (code_at k) ns) ≡ rows_well_formed ns k
  unfolding rows_well_formed
  rows_code e f g = rw (e, f, g, rows_well_formed)

module _ (ns : List ℤ) where
  pub well_counts : counts_keep ns ≡ false → false ≡ well_formed ns
  unfolding well_formed
  well_counts e = rw (e, well_formed)

  pub well_cut : counts_keep ns ≡ true → length ns < plan_end (counts_of ns) → false ≡ well_formed ns
  unfolding well_formed is_whole
  well_cut e h = rw (e, lt-leb (plan_end (counts_of ns)) (length ns) h, well_formed)

  pub well_rows : counts_keep ns ≡ true → plan_end (counts_of ns) ≤ length ns → rows_well_formed ns (counts_of ns) ≡ well_formed ns
  unfolding well_formed is_whole
  well_rows e h = rw (e, le-leb (plan_end (counts_of ns)) (length ns) h, well_formed)

-- ---- each test of a well-formed plan holds

module _ (ns : List ℤ) (e : well_formed ns ≡ true) where
  pub well_counted : counts_keep ns ≡ true
  well_counted = go (counts_keep ns) refl
    where
      go : (b : Bool) → counts_keep ns ≡ b → b ≡ true
      go true f = refl
      go false f = absurd (false≢true (well_counts ns f ∙ e))

  pub well_whole : plan_end (counts_of ns) ≤ length ns
  well_whole = go (le_or_lt (plan_end (counts_of ns)) (length ns))
    where
      go : (plan_end (counts_of ns) ≤ length ns) ⊎ (length ns < plan_end (counts_of ns)) → plan_end (counts_of ns) ≤ length ns
      go (inl h) = h
      go (inr h) = absurd (false≢true (well_cut ns well_counted h ∙ e))

  rows : rows_well_formed ns (counts_of ns) ≡ true
  rows = well_rows ns well_counted well_whole ∙ e

  pub well_vars : every var_keeps (var_rows ns (counts_of ns)) ≡ true
  well_vars = go (every var_keeps (var_rows ns (counts_of ns))) refl
    where
      go : (b : Bool) → every var_keeps (var_rows ns (counts_of ns)) ≡ b → b ≡ true
      go true f = refl
      go false f = absurd (false≢true (rows_vars ns (counts_of ns) f ∙ rows))

  pub well_heads : every (head_fits (counts_of ns)) (head_rows ns (counts_of ns)) ≡ true
  well_heads = go (every (head_fits (counts_of ns)) (head_rows ns (counts_of ns))) refl
    where
      go : (b : Bool) → every (head_fits (counts_of ns)) (head_rows ns (counts_of ns)) ≡ b → b ≡ true
      go true f = refl
      go false f = absurd (false≢true (rows_heads ns (counts_of ns) well_vars f ∙ rows))

  pub well_blocks : all_blocks_fill ns (counts_of ns) ≡ true
  well_blocks = go (all_blocks_fill ns (counts_of ns)) refl
    where
      go : (b : Bool) → all_blocks_fill ns (counts_of ns) ≡ b → b ≡ true
      go true f = refl
      go false f = absurd (false≢true (rows_blocks ns (counts_of ns) well_vars well_heads f ∙ rows))

  pub well_code : code_fits (counts_of ns) (left_in_blocks ns (counts_of ns)) (drop (code_at (counts_of ns)) ns) ≡ true
  well_code = rows_code ns (counts_of ns) well_vars well_heads well_blocks ∙ rows
