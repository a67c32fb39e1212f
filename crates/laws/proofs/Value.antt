-- A chart handed over as a value that keeps R0 (01, "Chart rules, in order"): its counts keep their sizes, and its constants,
-- arguments and range ends lie in 01's range. Assumes nothing.
use mathlib.Core.Path.{◌∙◌, ◌≡◌, ap, refl, subst, sym}
use Prim.Native.Nat.{◌<◌, ◌+◌, ◌≤◌, suc, zero, ℕ}
use native.Mathlib.Omega.{arith}
use mathlib.Core.Bool.{Bool, ◌&&◌, ◌||◌, cond, false, false≢true, true, true≢false}
use mathlib.Core.List.{List, [], ◌∷◌, map}
use mathlib.Core.Option.{none}
use lib.ListN.{drop, get_or, length, length-map, take}
use lib.Dec.{leb}
use lib.IntN.{negsuc, pos, ℤ}
use borrow.Author.Tests.{leb-true}
use Rattle.laws.proofs.Lists.{and_left, and_right, every_from_at}
use Rattle.laws.proofs.Parts.{same_true, every_part}
use Rattle.meaning.specs.Grammar.{Record, s_record, v_record, e_record, t_record, a_record, bytes, guard, target, most, row_size, same}
use Rattle.meaning.specs.Chart.{Chart, no_action, no_trans, no_var}
use Rattle.meaning.specs.Lists.{chunks, every, every_from, exists}
use Rattle.meaning.specs.Rules.{after_rule_0, failing_rule, failing_rule_of}
use Rattle.meaning.specs.Tree.{trans_row, var_row}
use Rattle.meaning.specs.Value.{VALUE, counted, place, how_many}
use Rattle.meaning.specs.Value.{Part, laid, PARTS, same_part, num, is_letter, is_absent, one_of_letters, state_by, var_by, guard_by}
use Rattle.meaning.specs.Value.{trans_by}
use Rattle.meaning.specs.Value.{act_by, action_by, chart_by, chart_of, size_by, rows_of, count_fits, fits, statable, part_fits, rule_0}
use Rattle.meaning.specs.declared.chart.Act.{Act}
use Rattle.meaning.specs.declared.chart.Act.TheVariants.{AddTo as add_to, Send as send, SetTo as set_to, TakeTo as take_to, Tell as tell}
use Rattle.meaning.specs.declared.chart.Guard.{Guard}
use Rattle.meaning.specs.declared.chart.Guard.TheVariants.{Always as always, Compares as compares}
use Rattle.meaning.specs.declared.chart.Sign.TheVariants.{Equal as equal, Less as less, More as more}
use Rattle.meaning.specs.declared.chart.VarRow.{VarRow}
use Rattle.numbers.proofs.Laws.{eq_z_true}
use Rattle.numbers.specs.Range.{in_range}
use Rattle.numbers.specs.Reference.{ref}
use Rattle.sizes.specs.Sizes.{ACTIONS, EVENTS, STATES, TRANSITIONS, VARIABLES}

-- ---- what R0 and the sizes say of a chart

abbrev pub ActInRange : Act → Type 0
ActInRange (set_to v x) = in_range x ≡ true
ActInRange (add_to v x) = in_range x ≡ true
ActInRange (take_to v) = Unit {0}
ActInRange (send e x) = in_range x ≡ true
ActInRange (tell x) = in_range x ≡ true

abbrev pub GuardInRange : Guard → Type 0
GuardInRange always = Unit {0}
GuardInRange (compares v g x) = in_range x ≡ true

pub record RowInRange (r : VarRow) : Type 0 where
  pub low : in_range r.low ≡ true
  pub high : in_range r.high ≡ true
  pub first : in_range r.first ≡ true

pub record SizedChart (c : Chart) : Type 0 where
  pub states : length c.states ≤ STATES
  pub vars : length c.vars ≤ VARIABLES
  pub events : c.events ≤ EVENTS
  pub transitions : length c.transitions ≤ TRANSITIONS
  pub actions : length c.actions ≤ ACTIONS
  pub rows_range : (v : ℕ) → v < length c.vars → RowInRange (var_row c.vars v)
  pub guards_range : (t : ℕ) → t < length c.transitions → GuardInRange (trans_row c t).guard
  pub acts_range : (i : ℕ) → i < length c.actions → ActInRange (get_or c.actions i no_action).act

-- ---- from a value

pub get_d_map : {A B : Type 0} (f : A → B) (l : List A) (i : ℕ) (d : B) (e : A) → i < length l → get_or (map f l) i d ≡ f (get_or l i e)
get_d_map f [] i d e h = absurd (omega arith)
get_d_map f (x ∷ l) zero d e h = refl
get_d_map f (x ∷ l) (suc i) d e h = get_d_map f l i d e (omega arith)

pub length_chunks : {A : Type 0} (n k : ℕ) (l : List A) → length (chunks n k l) ≡ n
unfolding chunks
length_chunks zero k l = refl
length_chunks (suc n) k l = ap suc (length_chunks n k (drop k l))

pub size_by_most : (most : ℕ) (z : ℤ) → size_by most z ≤ most
unfolding size_by
size_by_most most z = go (leb (ref z) most) refl
  where
    go : (b : Bool) → leb (ref z) most ≡ b → cond b (ref z) 0 ≤ most
    go true e = leb-true _ _ e
    go false e = omega arith

-- of a kind there are never too many
pub many_few : (v : List ℤ) (r : Record) → how_many v r ≤ most r
many_few v r = go (same r e_record) refl
  where
    go : (t : Bool) → same r e_record ≡ t → cond t 1 (size_by (most r) (num v (place (counted r)))) ≤ most r
    go true e = rw (same_true r e_record e) (omega arith)
    go false e = size_by_most (most r) (num v (place (counted r)))

ref_most : (most : ℕ) (z : ℤ) → count_fits 0 most z ≡ true → ref z ≤ most
ref_most most (pos n) e = leb-true n most (and_right (leb 0 n) (leb n most) e)
ref_most most (negsuc n) e = absurd (false≢true e)

module _ (a x y : ℤ) (e : (one_of_letters (bytes "saq") a && (in_range x && in_range y))
    || (one_of_letters (bytes "ko") a && (in_range x && is_absent y)) ≡ true) where
  -- of the letters s, a and q both numbers are in range
  second_range : (l : ℕ) → is_letter l a ≡ true
      → one_of_letters (bytes "saq") (pos l) ≡ true → one_of_letters (bytes "ko") (pos l) ≡ false → in_range y ≡ true
  second_range l h p q = go (in_range x) (in_range y) (rw (eq_z_true a (pos l) h, p, q) at e)
    where
      go : (s t : Bool) → (s && t) || false ≡ true → t ≡ true
      go true true e = refl
      go true false e = e
      go false t e = absurd (false≢true e)

  first_range : in_range x ≡ true
  first_range = go (one_of_letters (bytes "saq") a) (one_of_letters (bytes "ko") a) (in_range x) e
    where
      go : (p q s : Bool) → (p && (s && in_range y)) || (q && (s && is_absent y)) ≡ true → s ≡ true
      go p q true e = refl
      go true true false e = e
      go true false false e = e
      go false true false e = e
      go false false false e = e

  act_range_by : ActInRange (act_by a x y)
  unfolding act_by
  act_range_by = go (is_letter 115 a) (is_letter 97 a) (is_letter 107 a) (is_letter 113 a) refl refl refl
    where
      go : (s p k q : Bool) → is_letter 115 a ≡ s → is_letter 97 a ≡ p → is_letter 113 a ≡ q
          → ActInRange
          (cond s (set_to (ref x) y) (cond p (add_to (ref x) y) (cond k (take_to (ref x)) (cond q (send (ref x) y) (tell x)))))
      go true p k q hs hp hq = second_range 115 hs refl refl
      go false true k q hs hp hq = second_range 97 hp refl refl
      go false false true q hs hp hq = tt
      go false false false true hs hp hq = second_range 113 hq refl refl
      go false false false false hs hp hq = first_range

act_range : (row : List ℤ) → statable a_record 0 row ≡ true → ActInRange (action_by row).act
unfolding statable action_by
act_range row e =
    let l0 = (one_of_letters (bytes "saq") (num row 2) && (in_range (num row 3) && in_range (num row 4)))
    || (one_of_letters (bytes "ko") (num row 2) && (in_range (num row 3) && is_absent (num row 4))) in
    act_range_by (num row 2) (num row 3) (num row 4)
    (and_right (in_range (num row 1)) l0 (and_right (one_of_letters (bytes "exdt") (num row 0)) (in_range (num row 1) && l0) e))

module _
    (v g x : ℤ) (t : Bool)
    (e : (is_absent v && (is_absent g && (is_absent x && t))) || (in_range v && (one_of_letters (bytes "=<>") g && (in_range x && t))) ≡ true)
  where
    constant_range : (l : ℕ) → is_letter l g ≡ true → one_of_letters (bytes "=<>") (pos l) ≡ true → in_range x ≡ true
    unfolding is_absent
    constant_range l h p = go (is_absent v) (in_range v) (in_range x) (rw (eq_z_true g (pos l) h, p) at e)
      where
        go : (a s r : Bool) → (a && false) || (s && (r && t)) ≡ true → r ≡ true
        go a s true e = refl
        go true true false e = e
        go true false false e = e
        go false true false e = e
        go false false false e = e

    guard_range_by : GuardInRange (guard_by v g x)
    unfolding guard_by
    guard_range_by = go (is_letter 61 g) (is_letter 60 g) (is_letter 62 g) refl refl refl
      where
        go : (p q r : Bool) → is_letter 61 g ≡ p → is_letter 60 g ≡ q → is_letter 62 g ≡ r
            → GuardInRange
            (cond p (compares (ref v) equal x) (cond q (compares (ref v) less x) (cond r (compares (ref v) more x) always)))
        go true q r hp hq hr = constant_range 61 hp refl
        go false true r hp hq hr = constant_range 60 hq refl
        go false false true hp hq hr = constant_range 62 hr refl
        go false false false hp hq hr = tt

guard_range : (row : List ℤ) → statable t_record 0 row ≡ true → GuardInRange (trans_by row).guard
unfolding statable trans_by
guard_range row e =
    guard_range_by (num row 2) (num row 3) (num row 4) (fits target 5 row)
    (and_right (in_range (num row 1)) (fits guard 2 row) (and_right (in_range (num row 0)) (in_range (num row 1) && fits guard 2 row) e))

row_range : (row : List ℤ) → statable v_record 0 row ≡ true → RowInRange (var_by row)
unfolding statable var_by
row_range row e =
    let f = and_right (in_range (num row 0)) (in_range (num row 1) && in_range (num row 2)) e in
    record {
      low = and_left (in_range (num row 0)) (in_range (num row 1) && in_range (num row 2)) e;
      high = and_left (in_range (num row 1)) (in_range (num row 2)) f;
      first = and_right (in_range (num row 1)) (in_range (num row 2)) f;
    }

-- a value that keeps R0: each part of it fits
module _ (v : List ℤ) (e : rule_0 v ≡ true) where
  pub part_ok : (p : Part) → exists (same_part p) PARTS ≡ true → part_fits v p ≡ true
  unfolding rule_0
  part_ok p h = every_part (part_fits v) PARTS (and_right (leb VALUE (length v)) (every (part_fits v) PARTS) e) p h

  -- row i of a kind can be stated
  pub row_ok : (r : Record) → exists (same_part (laid r)) PARTS ≡ true → (i : ℕ) → i < length (rows_of v r)
      → statable r i (get_or (rows_of v r) i []) ≡ true
  row_ok r h i l = let z : 0 + i ≡ i = omega arith in rw z at (every_from_at (statable r) 0 (rows_of v r) (part_ok (laid r) h) i l [])

  -- what each row is taken for has the property that rows which can be stated have
  all_rows : {A : Type 0} (P : A → Type 0) (f : List ℤ → A) (r : Record) (d : A) → exists (same_part (laid r)) PARTS ≡ true
      → ((i : ℕ) (row : List ℤ) → statable r i row ≡ true → P (f row))
      → (i : ℕ) → i < length (map f (rows_of v r)) → P (get_or (map f (rows_of v r)) i d)
  all_rows P f r d h g i l =
      let k : i < length (rows_of v r) = rw (length-map (rows_of v r) f) at l in
      subst P (sym (get_d_map f (rows_of v r) i d [] k)) (g i (get_or (rows_of v r) i []) (row_ok r h i k))

  few_rows : {A : Type 0} (f : List ℤ → A) (r : Record) → length (map f (rows_of v r)) ≤ most r
  unfolding rows_of
  few_rows f r =
      rw (length-map (rows_of v r) f, length_chunks (how_many v r) (row_size r) (drop (place (laid r)) v)) (many_few v r)

  -- it states a chart of 01's sizes
  pub sized_chart : SizedChart (chart_of v)
  unfolding chart_of chart_by rows_of statable every_from exists var_row trans_row chunks
  sized_chart = record {
    states = few_rows state_by s_record;
    vars = few_rows var_by v_record;
    events = let row : List ℤ = take 1 (drop 2 v) in
        ref_most EVENTS (num row 0) (and_left (count_fits 0 EVENTS (num row 0)) true (part_ok (laid e_record) refl));
    transitions = few_rows trans_by t_record;
    actions = few_rows action_by a_record;
    rows_range = all_rows RowInRange var_by v_record no_var refl (λ i. row_range);
    guards_range = all_rows (λ x. GuardInRange x.guard) trans_by t_record no_trans refl (λ i. guard_range);
    acts_range = all_rows (λ x. ActInRange x.act) action_by a_record no_action refl (λ i. act_range);
  }

-- a value that passes all rules: R0, and R1 to R7 of its chart
after_0 : (b : Bool) (c : Chart) → after_rule_0 b c ≡ none → (b ≡ true) × (failing_rule c ≡ none)
after_0 true c e = (refl, e)
after_0 false c e = let z : ◌≡◌ {A = ℕ} 0 1 = cc in absurd (omega arith)

pub value_passes : (v : List ℤ) → failing_rule_of v ≡ none → (rule_0 v ≡ true) × (failing_rule (chart_of v) ≡ none)
unfolding failing_rule_of
value_passes v e = after_0 (rule_0 v) (chart_of v) e
