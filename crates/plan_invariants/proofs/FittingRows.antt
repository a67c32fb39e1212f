-- What a well-formed plan's rows say (01, "The plan"), as the plain facts of crate plan_laws: each instruction, each head and each
-- variable row that passes its test fits. Assumes nothing.
use mathlib.Core.Path.{◌≡◌, refl, subst, sym}
use mathlib.Core.Logic.{⊎_elim}
use Prim.Native.Nat.{◌<◌, ◌≤◌, suc, zero, ℕ}
use native.Mathlib.Omega.{arith}
use mathlib.Core.Bool.{Bool, ◌&&◌, ◌||◌, cond, false, false≢true, true}
use mathlib.Core.List.{List, [], ◌∷◌, map}
use lib.ListN.{get_or-eq_default, get_or, length, take}
use lib.IntN.{negsuc, pos, ℤ}
use lib.Signed.{le_z}
use lib.Dec.{leb, ltb}
use borrow.Author.Tests.{leb-true, ltb-true}
use Rattle.laws.proofs.Lists.{and_left, and_right, or_cases}
use Rattle.laws.specs.Facts.{Each, none_left, one_more}
use Rattle.meaning.specs.Lists.{every}
use Rattle.meaning.specs.Rules.{row_fits}
use Rattle.meaning.specs.Value.{count_fits, num, var_by, statable}
use Rattle.meaning.specs.WellFormed.{SHAPES, Operand, INSTR_ROW, a_constant, a_parent, a_skip, a_state, a_variable, an_event}
use Rattle.meaning.specs.WellFormed.{operand_fits, shape}
use Rattle.meaning.specs.WellFormed.{shape_fits, head_by, head_fits, head_guard_by, head_guard_fits, instr_act_by, instr_by, instr_fits}
use Rattle.meaning.specs.WellFormed.{instr_of, no_shape, one_of, span_fits, unused, var_keeps}
use Rattle.meaning.specs.declared.chart.Guard.TheVariants.{Always as always, Compares as compares}
use Rattle.meaning.specs.declared.chart.Sign.TheVariants.{Equal as equal, Less as less, More as more}
use Rattle.meaning.specs.declared.plan.Counts.{Counts}
use Rattle.meaning.specs.declared.plan.Instr.{Instr}
use Rattle.numbers.proofs.Laws.{eq_z_true}
use Rattle.numbers.specs.Equal.{eq_z}
use Rattle.numbers.specs.Place.{place_of as as_slot}
use Rattle.numbers.specs.Range.{in_range}
use Rattle.numbers.specs.Reference.{NOWHERE, ref}
use Rattle.plan_laws.proofs.Fits.{GuardFits, HeadFits, InstrFits, SlotFits, VarFits}
use Rattle.sizes.specs.Sizes.{TRANSITIONS}

-- ---- numbers

below_of : (n : ℕ) (z : ℤ) → ltb (ref z) n ≡ true → ref z < n
below_of n z e = ltb-true (ref z) n e

slot_of : (k : Counts) (z : ℤ) → (eq_z z (negsuc 0) || ltb (ref z) k.states) ≡ true → SlotFits k (as_slot z)
slot_of k (pos x) e = ltb-true x k.states e
slot_of k (negsuc x) e = tt

count_of : (least most : ℕ) (z : ℤ) → count_fits least most z ≡ true → (least ≤ ref z) × (ref z ≤ most)
count_of least most (pos x) e =
    (leb-true least x (and_left (leb least x) (leb x most) e), leb-true x most (and_right (leb least x) (leb x most) e))
count_of least most (negsuc x) e = absurd (false≢true e)

order_of : (n : ℕ) (a b : ℤ) → n ≤ NOWHERE → ref a < n → ref b < n → le_z a b ≡ true → ref a ≤ ref b
order_of n (pos a) (pos b) m l k e = leb-true a b e
order_of n (pos a) (negsuc b) m l k e = absurd (omega (arith, m, k))
order_of n (negsuc a) b m l k e = absurd (omega (arith, m, l))

-- ---- instructions

module _ (k : Counts) (left : ℕ) (row : List ℤ) where
  abbrev says : ℤ → Instr
  says z = instr_of z (num row 1) (num row 2) (num row 3)

  -- the second and third of an instruction's three numbers
  second : (f g h : Operand) → shape_fits k left (shape f g h) row ≡ true → operand_fits k left g (num row 2) ≡ true
  unfolding shape_fits
  second f g h e = and_left (operand_fits k left g (num row 2)) _ (and_right (operand_fits k left f (num row 1)) _ e)

  third : (f g h : Operand) → shape_fits k left (shape f g h) row ≡ true → operand_fits k left h (num row 3) ≡ true
  unfolding shape_fits
  third f g h e = and_right (operand_fits k left g (num row 2)) _ (and_right (operand_fits k left f (num row 1)) _ e)

  -- SKIPOUT, SKIPEMPTY and SKIPFULL
  skips : shape_fits k left (shape a_state a_skip unused) row ≡ true → (ref (num row 1) < k.states) × (ref (num row 2) ≤ left)
  unfolding shape_fits operand_fits
  skips e = (below_of k.states (num row 1) (and_left _ _ e), (count_of 0 left (num row 2) (second a_state a_skip unused e)).1)

  code_fitting : (c : ℕ) → shape_fits k left (get_or SHAPES c no_shape) row ≡ true → InstrFits k left (says (pos c))
  unfolding shape_fits operand_fits instr_of instr_act_by
  code_fitting zero e = absurd (false≢true e)
  code_fitting (suc zero) e = below_of k.states (num row 1) (and_left _ _ e)
  code_fitting (suc (suc zero)) e =
      (below_of k.states (num row 1) (and_left _ _ e), slot_of k (num row 2) (second a_state a_parent unused e))
  code_fitting (suc (suc (suc zero))) e = skips e
  code_fitting (suc (suc (suc (suc zero)))) e = skips e
  code_fitting (suc (suc (suc (suc (suc zero))))) e = skips e
  code_fitting (suc (suc (suc (suc (suc (suc zero)))))) e = (
    below_of k.states (num row 1) (and_left _ _ e),
    below_of k.states (num row 2) (second a_state a_state a_skip e),
    (count_of 0 left (num row 3) (third a_state a_state a_skip e)).1,
  )
  code_fitting (suc (suc (suc (suc (suc (suc (suc zero))))))) e =
      (below_of k.vars (num row 1) (and_left _ _ e), second a_variable a_constant unused e)
  code_fitting (suc (suc (suc (suc (suc (suc (suc (suc zero)))))))) e =
      (below_of k.vars (num row 1) (and_left _ _ e), second a_variable a_constant unused e)
  code_fitting (suc (suc (suc (suc (suc (suc (suc (suc (suc zero))))))))) e = below_of k.vars (num row 1) (and_left _ _ e)
  code_fitting (suc (suc (suc (suc (suc (suc (suc (suc (suc (suc zero)))))))))) e =
      let f = count_of 1 k.events (num row 1) (and_left _ _ e) in
      (f.0, f.1, second an_event a_constant unused e)
  code_fitting (suc (suc (suc (suc (suc (suc (suc (suc (suc (suc (suc zero))))))))))) e = and_left _ _ e
  code_fitting (suc (suc (suc (suc (suc (suc (suc (suc (suc (suc (suc (suc c)))))))))))) e = absurd (false≢true e)

  -- a code below 0 has no form
  any_code_fitting : (z : ℤ) → shape_fits k left (get_or SHAPES (ref z) no_shape) row ≡ true → InstrFits k left (says z)
  unfolding shape_fits
  any_code_fitting (pos c) e = code_fitting c e
  any_code_fitting (negsuc c) e =
      let past : length SHAPES ≤ NOWHERE = omega arith in
      absurd (false≢true (subst (λ f. shape_fits k left f row ≡ true) (get_or-eq_default SHAPES no_shape past) e))

-- the row of four numbers, and the numbers that begin with it
in_row : (n i : ℕ) (l : List ℤ) → i < n → num (take n l) i ≡ num l i
in_row zero i l h = absurd (omega arith)
in_row (suc n) i [] h = refl
in_row (suc n) zero (x ∷ l) h = refl
in_row (suc n) (suc i) (x ∷ l) h = in_row n i l (omega arith)

pub instr_fitting : (k : Counts) (left : ℕ) (l : List ℤ) → instr_fits k left l ≡ true → InstrFits k left (instr_by (take INSTR_ROW l))
unfolding instr_fits instr_by
instr_fitting k left l e =
    rw (
      in_row INSTR_ROW 0 l (omega arith),
      in_row INSTR_ROW 1 l (omega arith),
      in_row INSTR_ROW 2 l (omega arith),
      in_row INSTR_ROW 3 l (omega arith),
    )
    (any_code_fitting k left l (num l 0) e)

-- ---- heads

-- whatever the sign, what it compares fits
compares_fit : (k : Counts) (v x : ℤ) → ref v < k.vars → in_range x ≡ true → (a b c : Bool)
    → GuardFits k (cond a (compares (ref v) equal x) (cond b (compares (ref v) less x) (cond c (compares (ref v) more x) always)))
compares_fit k v x l r true b c = (l, r)
compares_fit k v x l r false true c = (l, r)
compares_fit k v x l r false false true = (l, r)
compares_fit k v x l r false false false = tt

guard_fitting : (k : Counts) (v g x : ℤ) → head_guard_fits k v g x ≡ true → GuardFits k (head_guard_by v g x)
unfolding head_guard_fits head_guard_by
guard_fitting k v g x e = ⊎_elim none some (or_cases absent (one_of k.vars v && (count_fits 1 3 g && in_range x)) e)
  where
    absent : Bool
    absent = eq_z v (negsuc 0) && (eq_z g (pos 0) && eq_z x (pos 0))

    none : absent ≡ true → GuardFits k (head_guard_by v g x)
    none f = subst (λ y. GuardFits k (head_guard_by v y x))
        (sym (eq_z_true g (pos 0) (and_left (eq_z g (pos 0)) _ (and_right (eq_z v (negsuc 0)) _ f)))) tt

    some : (one_of k.vars v && (count_fits 1 3 g && in_range x)) ≡ true → GuardFits k (head_guard_by v g x)
    some f = compares_fit k v x (below_of k.vars v (and_left (one_of k.vars v) _ f))
        (and_right (count_fits 1 3 g) (in_range x) (and_right (one_of k.vars v) (count_fits 1 3 g && in_range x) f))
        (eq_z g (pos 1)) (eq_z g (pos 2)) (eq_z g (pos 3))

head_fitting : (k : Counts) (row : List ℤ) → k.states ≤ NOWHERE → head_fits k row ≡ true → HeadFits k (head_by row)
unfolding head_fits span_fits head_by
head_fitting k row m e =
    let guard = head_guard_fits k (num row 3) (num row 4) (num row 5) in
    let order = one_of k.states (num row 7) && le_z (num row 6) (num row 7) in
    let ends = one_of k.states (num row 6) && order in
    let span = one_of k.states (num row 1) && ends in
    let after = span && guard in
    let e1 = and_right (one_of TRANSITIONS (num row 0)) (count_fits 0 k.events (num row 2) && after) e in
    let e2 = and_right (count_fits 0 k.events (num row 2)) after e1 in
    let e3 = and_left span guard e2 in
    let e4 = and_right (one_of k.states (num row 1)) ends e3 in
    let e5 = and_right (one_of k.states (num row 6)) order e4 in
    let first = below_of k.states (num row 6) (and_left (one_of k.states (num row 6)) order e4) in
    let last = below_of k.states (num row 7) (and_left (one_of k.states (num row 7)) _ e5) in
    record {
      transition = below_of TRANSITIONS (num row 0) (and_left (one_of TRANSITIONS (num row 0)) _ e);
      trigger = (count_of 0 k.events (num row 2) (and_left (count_fits 0 k.events (num row 2)) after e1)).1;
      source = below_of k.states (num row 1) (and_left (one_of k.states (num row 1)) ends e3);
      first = first;
      last = last;
      in_order = order_of k.states (num row 6) (num row 7) m first last (and_right (one_of k.states (num row 7)) _ e5);
      guard = guard_fitting k (num row 3) (num row 4) (num row 5) (and_right span guard e2);
    }

pub heads_fitting : (k : Counts) (rows : List (List ℤ)) → k.states ≤ NOWHERE → every (head_fits k) rows ≡ true
    → Each (HeadFits k) (map head_by rows)
unfolding every
heads_fitting k [] m e = none_left
heads_fitting k (row ∷ rows) m e =
    one_more (head_fitting k row m (and_left (head_fits k row) _ e)) (heads_fitting k rows m (and_right (head_fits k row) _ e))

-- ---- variables

var_fitting : (row : List ℤ) → var_keeps row ≡ true → VarFits (var_by row)
unfolding var_keeps statable var_by
var_fitting row e =
    let ranges = in_range (num row 1) && in_range (num row 2) in
    let s = and_right (row_fits (var_by row)) (in_range (num row 0) && ranges) e in
    let t = and_right (in_range (num row 0)) ranges s in
    record {
      in_order = and_left (row_fits (var_by row)) (in_range (num row 0) && ranges) e;
      in_range = record {
        low = and_left (in_range (num row 0)) ranges s;
        high = and_left (in_range (num row 1)) (in_range (num row 2)) t;
        first = and_right (in_range (num row 1)) (in_range (num row 2)) t;
      };
    }

pub vars_fitting : (rows : List (List ℤ)) → every var_keeps rows ≡ true → Each VarFits (map var_by rows)
unfolding every
vars_fitting [] e = none_left
vars_fitting (row ∷ rows) e = one_more (var_fitting row (and_left (var_keeps row) _ e)) (vars_fitting rows (and_right (var_keeps row) _ e))
