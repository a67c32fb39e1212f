-- The value of rows and the rows of a value: rows that a text can state come back from their value, and a value that keeps R0 has such
-- rows. In the order: rows laid out and cut again; parts; rows back from a value; R0 of a value of rows; rows of a value that keeps R0.
-- Assumes nothing.
use mathlib.Core.Path.{◌≡◌, refl, sym, ap, ◌∙◌, subst, fun_ext}
use mathlib.Core.Bool.{Bool, true, false, cond, ◌&&◌, ◌||◌, false≢true}
use mathlib.Core.List.{List, [], ◌∷◌, ◌++◌, append_assoc, append-nil}
use Prim.Native.Nat.{ℕ, zero, suc, ◌+◌, ◌-◌, ◌*◌, ◌≤◌}
use native.Mathlib.Omega.{arith}
use native.Mathlib.Nat.{suc-mul, mul-le-mul_right}
use lib.Dec.{leb}
use lib.IntN.{ℤ, pos, negsuc}
use lib.ListN.{length, get_or, take, drop, replicate, length-append, length-drop, length-replicate}
use lib.Seq.{take_at, drop_at, drop-drop, length-take-le, take-add, get_or-drop}
use borrow.Author.Tests.{leb-true, le-leb}
use Rattle.sizes.specs.Sizes.{LEAST_STATES}
use Rattle.numbers.specs.Reference.{ref}
use Rattle.laws.proofs.Lists.{and_left, and_right}
use Rattle.laws.proofs.Parts.{same_true, same_part_true, part_every}
use Rattle.laws.proofs.Value.{part_ok, many_few, size_by_most}
use Rattle.meaning.specs.Grammar.{Record, s_record, v_record, e_record, t_record, a_record, no_record, most, row_size, same}
use Rattle.meaning.specs.Lists.{every, exists, every_from, concat_map, padded, chunks}
use Rattle.meaning.specs.Value.{Rows, Part, counted, laid, PARTS, room_of, room_in, same_part, begins, place, VALUE, num}
use Rattle.meaning.specs.Value.{size_by, how_many, rows_of, count_fits, statable, least, part_fits, rule_0}
use Rattle.meaning.specs.Text.{flat, area, part_of, value_of}
use Rattle.round_trip.specs.Rows.{AllLong, Fit}
use Rattle.round_trip.proofs.Fields.{both}
use Rattle.round_trip.proofs.Shaped.{Shaped, Fitting, fitting_none, shaped_fit, nothing}

-- ---- rows laid out, and cut again

pub flat_length : (k : ℕ) (rs : List (List ℤ)) → AllLong k rs → length (flat rs) ≡ length rs * k
unfolding AllLong
flat_length k [] a = let e : 0 * k ≡ 0 = omega arith in rw e
flat_length k (r ∷ rs) a =
    let e : suc (length rs) * k ≡ length rs * k + k = suc-mul (length rs) k in
    rw (length-append r (flat rs), a.0, flat_length k rs a.1) (omega arith)

pub chunks_flat : (k : ℕ) (rs : List (List ℤ)) (t : List ℤ) → AllLong k rs → chunks (length rs) k (flat rs ++ t) ≡ rs
unfolding AllLong chunks
chunks_flat k [] t a = refl
chunks_flat k (r ∷ rs) t a =
    rw (append_assoc r (flat rs) t, take_at r (flat rs ++ t) k a.0, drop_at r (flat rs ++ t) k a.0, chunks_flat k rs t a.1)

pub chunks_length : (n k : ℕ) (l : List ℤ) → length (chunks n k l) ≡ n
unfolding chunks
chunks_length zero k l = refl
chunks_length (suc n) k l = ap suc (chunks_length n k (drop k l))

pub chunks_long : (n k : ℕ) (l : List ℤ) → n * k ≤ length l → AllLong k (chunks n k l)
unfolding chunks AllLong
chunks_long zero k l h = tt
chunks_long (suc n) k l h =
    let e : suc n * k ≡ n * k + k = suc-mul n k in
    (length-take-le k l (omega arith), chunks_long n k (drop k l) (rw (length-drop k l) (omega arith)))

-- cut and laid out: the first numbers
pub flat_chunks : (n k : ℕ) (l : List ℤ) → n * k ≤ length l → flat (chunks n k l) ≡ take (n * k) l
unfolding chunks
flat_chunks zero k l h = let e : 0 * k ≡ 0 = omega arith in rw e
flat_chunks (suc n) k l h =
    let d : suc n * k ≡ n * k + k = suc-mul n k in
    let e : suc n * k ≡ k + n * k = omega arith in
    let i = flat_chunks n k (drop k l) (rw (length-drop k l) (omega arith)) in
    rw (e, take-add k (n * k) l, i)

-- ---- areas

module _ (k most : ℕ) (rs : List (List ℤ)) (long : AllLong k rs) (few : length rs ≤ most) where
  flat_fits : length (flat rs) ≤ most * k
  flat_fits = let h = mul-le-mul_right k few in rw (flat_length k rs long) h

  pub area_length : length (area (most * k) rs) ≡ most * k
  unfolding padded
  area_length =
      let h = flat_fits in
      rw (
        length-append (flat rs) (replicate (most * k - length (flat rs)) (pos 0)),
        length-replicate {A = ℤ}
            (most * k - length (flat rs)) (pos 0),
      ) (omega arith)

  -- the rows of an area, whatever follows it
  area_rows : (t : List ℤ) → chunks (length rs) k (area (most * k) rs ++ t) ≡ rs
  unfolding padded
  area_rows t =
      rw (append_assoc (flat rs) (replicate (most * k - length (flat rs)) (pos 0)) t)
      (chunks_flat k rs (replicate (most * k - length (flat rs)) (pos 0) ++ t) long)

-- ---- parts

-- a part ends within the value
pub part_within : (ps : List Part) (p : Part) → exists (same_part p) ps ≡ true → begins ps p + room_of p ≤ room_in ps
unfolding exists
part_within [] p h = absurd (false≢true h)
part_within (q ∷ qs) p h = go (same_part p q) refl h (part_within qs p)
  where
    go : (t : Bool) → same_part p q ≡ t → t || exists (same_part p) qs ≡ true
        → (exists (same_part p) qs ≡ true → begins qs p + room_of p ≤ room_in qs)
        → cond t 0 (room_of q + begins qs p) + room_of p ≤ room_of q + room_in qs
    go true e h ih = let z : room_of p ≡ room_of q = ap room_of (same_part_true p q e) in omega arith
    go false e h ih = let i = ih h in omega arith

pub size_is : (most n : ℕ) → n ≤ most → size_by most (pos n) ≡ n
unfolding size_by
size_is most n h = rw (le-leb n most h)

module _ (rows : Rows) (f : Fit rows) (z : List ℤ) where
  part_length : (p : Part) → length (part_of rows p) ≡ room_of p
  part_length (counted r) = refl
  part_length (laid r) = area_length (row_size r) (most r) (rows r) (f.long r) (f.few r)

  pub parts_length : (ps : List Part) → length (concat_map (part_of rows) ps) ≡ room_in ps
  unfolding concat_map
  parts_length [] = refl
  parts_length (p ∷ ps) = rw (length-append (part_of rows p) (concat_map (part_of rows) ps), part_length p, parts_length ps)

  -- what stands from the place of a part on
  pub record From (ps : List Part) (p : Part) : Type 0 where
    pub rest : List ℤ
    pub is : drop (begins ps p) (concat_map (part_of rows) ps ++ z) ≡ part_of rows p ++ rest

  from : (ps : List Part) (p : Part) → exists (same_part p) ps ≡ true → From ps p
  unfolding exists concat_map
  from [] p h = absurd (false≢true h)
  from (q ∷ qs) p h = go (same_part p q) refl h (from qs p)
    where
      l : List ℤ
      l = concat_map (part_of rows) qs ++ z

      assoc : concat_map (part_of rows) (q ∷ qs) ++ z ≡ part_of rows q ++ l
      assoc = append_assoc (part_of rows q) (concat_map (part_of rows) qs) z

      go : (t : Bool) → same_part p q ≡ t → t || exists (same_part p) qs ≡ true → (exists (same_part p) qs ≡ true → From qs p)
          → From (q ∷ qs) p
      go true e h ih = record { rest = l; is = rw (e, same_part_true p q e) assoc }
      go false e h ih = record {
        rest = (ih h).rest;
        is =
            rw (
              e,
              assoc,
              ← drop-drop (begins qs p) (room_of q) (part_of rows q ++ l),
              drop_at (part_of rows q) l (room_of q) (part_length q),
            ) (ih h).is;
      }

  -- ---- rows back from their value

  abbrev v : List ℤ
  v = value_of rows ++ z

  laid_at : (r : Record) → exists (same_part (laid r)) PARTS ≡ true
      → chunks (length (rows r)) (row_size r) (drop (place (laid r)) v) ≡ rows r
  unfolding value_of
  laid_at r h =
      let w = from PARTS (laid r) h in
      rw w.is (area_rows (row_size r) (most r) (rows r) (f.long r) (f.few r) w.rest)

  pub count_at : (r : Record) → exists (same_part (counted r)) PARTS ≡ true → num v (place (counted r)) ≡ pos (length (rows r))
  unfolding value_of
  count_at r h =
      let w = from PARTS (counted r) h in
      let n : place (counted r) + 0 ≡ place (counted r) = omega arith in
      rw (← n, ← get_or-drop (place (counted r)) v 0 (pos 0), w.is)

  size_at : (r : Record) → exists (same_part (counted r)) PARTS ≡ true → size_by (most r) (num v (place (counted r))) ≡ length (rows r)
  size_at r h = rw (count_at r h) (size_is (most r) (length (rows r)) (f.few r))

  module _ (one : length (rows e_record) ≡ 1) where
    back_at : (r : Record) → rows_of v r ≡ rows r
    unfolding rows_of exists
    back_at s_record = rw (size_at s_record refl) (laid_at s_record refl)
    back_at v_record = rw (size_at v_record refl) (laid_at v_record refl)
    back_at e_record = ap (λ (n : ℕ). chunks n 1 (drop (place (laid e_record)) v)) (sym one) ∙ laid_at e_record refl
    back_at t_record = rw (size_at t_record refl) (laid_at t_record refl)
    back_at a_record = rw (size_at a_record refl) (laid_at a_record refl)
    back_at no_record =
        sym (nothing (rows_of v no_record) (rw chunks_length (size_by_most 0 (num v VALUE)))) ∙ nothing (rows no_record) (f.few no_record)

    pub rows_back : rows_of v ≡ rows
    rows_back = fun_ext back_at

pub value_length : (rows : Rows) → Fit rows → length (value_of rows) ≡ VALUE
unfolding value_of
value_length rows f = parts_length rows f [] PARTS

-- the same with nothing past it
module _ (rows : Rows) (f : Fit rows) (r : Record) where
  pub record Laid : Type 0 where
    pub rest : List ℤ
    pub is : drop (place (laid r)) (value_of rows) ≡ area (room_of (laid r)) (rows r) ++ rest

  pub laid_from : exists (same_part (laid r)) PARTS ≡ true → Laid
  unfolding value_of
  laid_from h =
      let w = from rows f [] PARTS (laid r) h in
      record { rest = w.rest; is = rw (append-nil (concat_map (part_of rows) PARTS)) at w.is }

  pub count_of : exists (same_part (counted r)) PARTS ≡ true → num (value_of rows) (place (counted r)) ≡ pos (length (rows r))
  count_of h = rw (append-nil (value_of rows)) at (count_at rows f [] r h)

pub back : (rows : Rows) → Shaped rows → rows_of (value_of rows) ≡ rows
back rows s = rw (append-nil (value_of rows)) at (rows_back rows (shaped_fit rows s.fitting) [] s.one)

-- ---- R0 of the value of rows

count_fitting : (low high n : ℕ) → low ≤ n → n ≤ high → count_fits low high (pos n) ≡ true
count_fitting low high n h k = rw (le-leb low n h, le-leb n high k)

module _ (rows : Rows) (s : Shaped rows) (two : LEAST_STATES ≤ length (rows s_record)) where
  least_met : (r : Record) → least r ≤ length (rows r)
  least_met r = go (same r s_record) refl
    where
      go : (t : Bool) → same r s_record ≡ t → cond t LEAST_STATES 0 ≤ length (rows r)
      go true e = rw (same_true r s_record e) two
      go false e = omega arith

  pub value_keeps : rule_0 (value_of rows) ≡ true
  unfolding rule_0
  value_keeps = rw (value_length rows fit) (part_every (part_fits (value_of rows)) PARTS go)
    where
      fit : Fit rows
      fit = shaped_fit rows s.fitting

      go : (p : Part) → exists (same_part p) PARTS ≡ true → part_fits (value_of rows) p ≡ true
      go (counted r) h = rw (count_of rows fit r h) (count_fitting (least r) (most r) (length (rows r)) (least_met r) (fit.few r))
      go (laid r) h = rw (back rows s) (s.fitting r).ok

-- ---- the rows of a value that keeps R0

pub counted_is : (least most : ℕ) (z : ℤ) → count_fits least most z ≡ true → (ref z ≤ most) × (z ≡ pos (ref z))
counted_is least most (pos n) e = (leb-true n most (both (leb least n) (leb n most) e).1, refl)
counted_is least most (negsuc n) e = absurd (false≢true e)

module _ (v : List ℤ) (keeps : rule_0 v ≡ true) where
  pub enough : VALUE ≤ length v
  unfolding rule_0
  enough = leb-true VALUE (length v) (and_left (leb VALUE (length v)) (every (part_fits v) PARTS) keeps)

  -- the numbers of a kind's rows
  pub rows_within : (r : Record) → exists (same_part (laid r)) PARTS ≡ true → how_many v r * row_size r ≤ length (drop (place (laid r)) v)
  rows_within r h =
      let m : how_many v r * row_size r ≤ most r * row_size r = mul-le-mul_right (row_size r) (many_few v r) in
      let e = enough in
      let w = part_within PARTS (laid r) h in
      rw (length-drop (place (laid r)) v) (omega arith)

  fitting_of : (r : Record) → exists (same_part (laid r)) PARTS ≡ true → Fitting r (rows_of v r)
  unfolding rows_of
  fitting_of r h = record {
    ok = part_ok v keeps (laid r) h;
    long = chunks_long (how_many v r) (row_size r) (drop (place (laid r)) v) (rows_within r h);
    few = rw (chunks_length (how_many v r) (row_size r) (drop (place (laid r)) v)) (many_few v r);
  }

  pub value_shaped : Shaped (rows_of v)
  unfolding rows_of exists
  value_shaped = record { fitting = all; one = chunks_length 1 1 (drop 2 v) }
    where
      all : (r : Record) → Fitting r (rows_of v r)
      all s_record = fitting_of s_record refl
      all v_record = fitting_of v_record refl
      all e_record = fitting_of e_record refl
      all t_record = fitting_of t_record refl
      all a_record = fitting_of a_record refl
      all no_record =
          subst (Fitting no_record) (nothing (rows_of v no_record) (rw chunks_length (many_few v no_record))) (fitting_none no_record)
