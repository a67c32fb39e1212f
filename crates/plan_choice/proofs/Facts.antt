-- What the chooser uses of a plan that was examined: its sizes, that its rows are there, and that a head names states and variables.
-- Assumes nothing.
use mathlib.Core.Path.{◌≡◌, refl, sym, subst}
use Prim.Native.Nat.{ℕ, ◌+◌, ◌*◌, ◌≤◌, ◌<◌}
use native.Mathlib.Omega.{arith}
use mathlib.Core.Bool.{Bool, true, false, ◌&&◌, cond, false≢true}
use mathlib.Core.List.{List, []}
use lib.ListN.{length, get_or, drop}
use lib.IntN.{ℤ, pos, negsuc}
use borrow.Author.Tests.{leb-true, ltb-true}
use Rattle.sizes.specs.Sizes.{STATES, VARIABLES, EVENTS, TRANSITIONS}
use Rattle.numbers.specs.Equal.{eq_z}
use Rattle.numbers.specs.Range.{in_range}
use Rattle.numbers.specs.Reference.{ref}
use Rattle.numbers.proofs.Laws.{eq_z_true}
use Rattle.laws.proofs.Lists.{and_left, and_right, every_at, or_cases}
use mathlib.Core.Logic.{⊎_elim}
use Rattle.meaning.specs.Lists.{every}
use Rattle.meaning.specs.Value.{num, count_fits}
use Rattle.meaning.specs.declared.plan.Counts.{Counts}
use Rattle.meaning.specs.declared.plan.Head.{Head}
use Rattle.meaning.specs.WellFormed.{HEAD_ROW, counts_of, counts_keep, heads_at, plan_end}
use Rattle.meaning.specs.WellFormed.{var_rows, head_rows, head_guard_by, head_by, plan_by}
use Rattle.meaning.specs.WellFormed.{var_keeps, one_of, head_guard_fits, span_fits}
use Rattle.meaning.specs.WellFormed.{head_fits, all_blocks_fill, code_fits, left_in_blocks, code_at}
use Rattle.meaning.specs.WellFormed.{rows_well_formed, is_whole, well_formed}
use Rattle.plan_rows.specs.Rows.{row, Sized}
use Rattle.plan_rows.proofs.Rows.{sized, heads_length, head_rows_length, head_rows_at, head_of_plan, head_there}
use Rattle.plan_rows.proofs.Kept.{HeadKept, head_kept}
use Rattle.choice.specs.Choice.{Reads}
use Rattle.plan_choice.specs.Heads.{Examined, Spanned, head_of}

-- ---- the parts of the test

passed : (b x : Bool) → elim b [ true ↦ x | false ↦ false ] ≡ true → (b ≡ true) × (x ≡ true)
passed true x e = (refl, e)
passed false x e = absurd (false≢true e)

-- what the test of the numbers consists of
pub record Passed (ns : List ℤ) (k : Counts) : Type 0 where
  pub whole : plan_end k ≤ length ns
  pub vars : every var_keeps (var_rows ns k) ≡ true
  pub heads : every (head_fits k) (head_rows ns k) ≡ true
  pub blocks : all_blocks_fill ns k ≡ true
  pub code : code_fits k (left_in_blocks ns k) (drop (code_at k) ns) ≡ true

all_passed : (ns : List ℤ) → well_formed ns ≡ true → Passed ns (counts_of ns)
unfolding well_formed rows_well_formed is_whole
all_passed ns e =
    let k = counts_of ns in
    let a = passed (counts_keep ns && is_whole ns k) (rows_well_formed ns k) e in
    let b = passed (every var_keeps (var_rows ns k) && (every (head_fits k) (head_rows ns k) && all_blocks_fill ns k))
    (code_fits k (left_in_blocks ns k) (drop (code_at k) ns)) a.1 in
    let c = and_right (every var_keeps (var_rows ns k)) (every (head_fits k) (head_rows ns k) && all_blocks_fill ns k) b.0 in
    record {
      whole = leb-true (plan_end k) (length ns) (and_right (counts_keep ns) (is_whole ns k) a.0);
      vars = and_left (every var_keeps (var_rows ns k)) (every (head_fits k) (head_rows ns k) && all_blocks_fill ns k) b.0;
      heads = and_left (every (head_fits k) (head_rows ns k)) (all_blocks_fill ns k) c;
      blocks = and_right (every (head_fits k) (head_rows ns k)) (all_blocks_fill ns k) c;
      code = b.1;
    }

module _ {ns : List ℤ} {k : Counts} (x : Examined ns k) where
  pub passes : Passed ns k
  passes = subst (Passed ns) (sym x.counted) (all_passed ns x.formed)

  pub counts_sized : Sized k
  counts_sized = subst Sized (sym x.counted) (sized ns)

  pub heads_long : length (plan_by ns).heads ≡ k.heads
  heads_long = subst (λ q. length (plan_by ns).heads ≡ q.heads) (sym x.counted) (heads_length ns)

-- ---- a head

reads_by : (k : Counts) (v g c : ℤ) → k.vars ≤ VARIABLES → head_guard_fits k v g c ≡ true → Reads (head_guard_by v g c)
unfolding head_guard_fits head_guard_by
reads_by k v g c l e = ⊎_elim absent there (or_cases (eq_z v (negsuc 0) && (eq_z g (pos 0) && eq_z c (pos 0))) _ e)
  where
    absent : eq_z v (negsuc 0) && (eq_z g (pos 0) && eq_z c (pos 0)) ≡ true → Reads (head_guard_by v g c)
    absent f =
        let z : g ≡ pos 0 = eq_z_true g (pos 0) (and_left (eq_z g (pos 0)) _ (and_right (eq_z v (negsuc 0)) _ f)) in
        rw z tt

    signed : (a b d : Bool) → ref v < VARIABLES
        → Reads (cond a (head_guard_by v (pos 1) c) (cond b (head_guard_by v (pos 2) c) (cond d (head_guard_by v (pos 3) c)
        (head_guard_by v (pos 0) c))))
    signed true b d h = h
    signed false true d h = h
    signed false false true h = h
    signed false false false h = tt

    there : one_of k.vars v && (count_fits 1 3 g && in_range c) ≡ true → Reads (head_guard_by v g c)
    there f =
        let m : ref v < k.vars = ltb-true (ref v) k.vars (and_left (one_of k.vars v) _ f) in
        signed (eq_z g (pos 1)) (eq_z g (pos 2)) (eq_z g (pos 3)) (omega arith)

-- a head's row that fits
head_said : (k : Counts) (l : List ℤ) → k.states ≤ STATES → k.vars ≤ VARIABLES → head_fits k l ≡ true
    → ((head_by l).source < STATES) × Reads (head_by l).guard × ((head_by l).transition < TRANSITIONS)
unfolding head_fits span_fits head_by
head_said k l s v e =
    let a = and_right (one_of TRANSITIONS (num l 0)) _ e in
    let b = and_right (count_fits 0 k.events (num l 2)) _ a in
    let c = and_left (span_fits k (num l 1) (num l 6) (num l 7)) _ b in
    let q : ref (num l 1) < k.states = ltb-true (ref (num l 1)) k.states (and_left (one_of k.states (num l 1)) _ c) in
    let t : ref (num l 0) < TRANSITIONS = ltb-true (ref (num l 0)) TRANSITIONS (and_left (one_of TRANSITIONS (num l 0)) _ e) in
    (omega arith, reads_by k (num l 3) (num l 4) (num l 5) v (and_right (span_fits k (num l 1) (num l 6) (num l 7)) _ b), t)

module _ {ns : List ℤ} {k : Counts} (x : Examined ns k) (h : ℕ) (l : h < k.heads) where
  -- its row is there
  pub head_whole : heads_at k + h * HEAD_ROW + HEAD_ROW ≤ length ns
  head_whole = let q = head_there ns k (passes x).whole h l in omega arith

  fits : head_fits k (row HEAD_ROW (heads_at k) h ns) ≡ true
  fits = subst (λ r. head_fits k r ≡ true) (head_rows_at ns k h l)
      (every_at (head_fits k) (head_rows ns k) (passes x).heads h (subst (λ n. h < n) (sym (head_rows_length ns k)) l) [])

  -- what it names is there
  pub head_names : ((head_of ns (heads_at k) h).source < STATES) × Reads (head_of ns (heads_at k) h).guard
      × ((head_of ns (heads_at k) h).transition < TRANSITIONS)
  head_names = head_said k (row HEAD_ROW (heads_at k) h ns) (counts_sized x).states (counts_sized x).vars fits

  kept : HeadKept k (head_of ns (heads_at k) h)
  kept = head_kept k (row HEAD_ROW (heads_at k) h ns) (counts_sized x).states fits

  pub head_spanned : Spanned (head_of ns (heads_at k) h)
  head_spanned = (omega (arith, kept.first, (counts_sized x).states), omega (arith, kept.last, (counts_sized x).states))

  pub head_event : (head_of ns (heads_at k) h).trigger ≤ k.events
  head_event = kept.trigger

  pub head_trigger : (head_of ns (heads_at k) h).trigger ≤ EVENTS
  head_trigger = omega (arith, head_event, (counts_sized x).events)

  -- it is the head of this number of the plan
  pub head_is : (d : Head) → get_or (plan_by ns).heads h d ≡ head_of ns (heads_at k) h
  head_is d =
      subst (λ q. h < q.heads → get_or (plan_by ns).heads h d ≡ head_of ns (heads_at q) h) (sym x.counted) (head_of_plan ns h d) l
