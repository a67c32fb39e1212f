-- The value that a read of a written value gives: it agrees with the value written on the counts and at every place within the counts,
-- and is 0 at each place past them. In the order: one kind's rows; the counts; the whole value. Assumes nothing.
use mathlib.Core.Path.{◌≡◌, refl, sym, ap, ◌∙◌}
use mathlib.Core.Bool.{true, false}
use mathlib.Core.List.{List, [], ◌++◌}
use Prim.Native.Nat.{ℕ, zero, suc, ◌+◌, ◌-◌, ◌*◌, ◌≤◌, ◌<◌}
use native.Mathlib.Omega.{arith}
use native.Mathlib.Nat.{mul-le-mul_right}
use lib.IntN.{ℤ, pos}
use lib.ListN.{length, drop, replicate, length-drop, get_or-append, get_or-replicate}
use lib.Seq.{get_or-take, get_or-drop, get_or-append-add}
use Rattle.numbers.specs.Reference.{ref}
use Rattle.laws.proofs.Value.{part_ok, many_few}
use Rattle.meaning.specs.Grammar.{Record, s_record, v_record, e_record, t_record, a_record, no_record, most, row_size, same}
use Rattle.meaning.specs.Lists.{exists, padded, chunks}
use Rattle.meaning.specs.Value.{num, counted, laid, PARTS, same_part, place, VALUE, how_many, rows_of, least, rule_0}
use Rattle.meaning.specs.Text.{flat, area, value_of}
use Rattle.round_trip.specs.Rows.{Fit}
use Rattle.round_trip.proofs.Shaped.{shaped_fit}
use Rattle.round_trip.proofs.Values.{flat_length, flat_chunks, chunks_length, chunks_long, area_length, size_is, laid_from, count_of}
use Rattle.round_trip.proofs.Values.{value_length, counted_is, rows_within, value_shaped}

-- ---- one kind's rows

-- w agrees with v on the first n rows of a kind, and is 0 in the room past them
pub record SameRows (v w : List ℤ) (at most row n : ℕ) : Type 0 where
  pub within : (i : ℕ) → i < n * row → num w (at + i) ≡ num v (at + i)
  pub past : (i : ℕ) → n * row ≤ i → i < most * row → num w (at + i) ≡ pos 0

module _
    (v w : List ℤ) (at most k n : ℕ) (few : n ≤ most) (enough : n * k ≤ length (drop at v))
    (t : List ℤ) (e : drop at w ≡ area (most * k) (chunks n k (drop at v)) ++ t)
  where
    abbrev rs : List (List ℤ)
    rs = chunks n k (drop at v)

    rs_few : length rs ≤ most
    rs_few = rw (chunks_length n k (drop at v)) few

    flat_is : length (flat rs) ≡ n * k
    flat_is = flat_length k rs (chunks_long n k (drop at v) enough) ∙ rw (chunks_length n k (drop at v))

    from_area : (i : ℕ) → i < most * k → num w (at + i) ≡ num (area (most * k) rs) i
    from_area i h =
        let l = area_length k most rs (chunks_long n k (drop at v) enough) rs_few in
        sym (get_or-drop at w i (pos 0)) ∙ ap (λ (x : List ℤ). num x i) e ∙ get_or-append (area (most * k) rs) t (pos 0) i (omega arith)

    area_within : (i : ℕ) → i < n * k → num w (at + i) ≡ num v (at + i)
    unfolding padded
    area_within i h =
        let m : n * k ≤ most * k = mul-le-mul_right k few in
        let l = flat_is in
        from_area i (omega arith)
        ∙ get_or-append (flat rs) (replicate (most * k - length (flat rs)) (pos 0)) (pos 0) i (omega arith)
        ∙ ap (λ (x : List ℤ). num x i) (flat_chunks n k (drop at v) enough)
        ∙ get_or-take (n * k) (drop at v) i (pos 0) h
        ∙ get_or-drop at v i (pos 0)

    area_past : (i : ℕ) → n * k ≤ i → i < most * k → num w (at + i) ≡ pos 0
    unfolding padded
    area_past i h g =
        let l = flat_is in
        let j : i ≡ length (flat rs) + (i - length (flat rs)) = omega arith in
        from_area i g
        ∙ ap (λ (x : ℕ). num (flat rs ++ replicate (most * k - length (flat rs)) (pos 0)) x) j
        ∙ get_or-append-add (flat rs) (replicate (most * k - length (flat rs)) (pos 0)) (i - length (flat rs)) (pos 0)
        ∙ get_or-replicate (most * k - length (flat rs)) (i - length (flat rs)) (pos 0) (pos 0) (omega arith)

-- ---- the whole value

pub record Same (v w : List ℤ) : Type 0 where
  pub long : length w ≡ VALUE
  pub counts : (r : Record) → exists (same_part (counted r)) PARTS ≡ true → num w (place (counted r)) ≡ num v (place (counted r))
  pub rows : (r : Record) → exists (same_part (laid r)) PARTS ≡ true
      → SameRows v w (place (laid r)) (most r) (row_size r) (how_many v r)

module _ (v : List ℤ) (keeps : rule_0 v ≡ true) where
  abbrev w : List ℤ
  w = value_of (rows_of v)

  fit : Fit (rows_of v)
  fit = shaped_fit (rows_of v) (value_shaped v keeps).fitting

  rows_same : (r : Record) → exists (same_part (laid r)) PARTS ≡ true → SameRows v w (place (laid r)) (most r) (row_size r) (how_many v r)
  unfolding rows_of
  rows_same r h =
      let few = many_few v r in
      let within = rows_within v keeps r h in
      let f = laid_from (rows_of v) fit r h in
      record {
        within = area_within v w (place (laid r)) (most r) (row_size r) (how_many v r) few within f.rest f.is;
        past = area_past v w (place (laid r)) (most r) (row_size r) (how_many v r) few within f.rest f.is;
      }

  -- a kind that has a count is not E
  counted_kind : (r : Record) → exists (same_part (counted r)) PARTS ≡ true → same r e_record ≡ false
  unfolding exists
  counted_kind s_record h = refl
  counted_kind v_record h = refl
  counted_kind e_record h = sym h
  counted_kind t_record h = refl
  counted_kind a_record h = refl
  counted_kind no_record h = refl

  counts_same : (r : Record) → exists (same_part (counted r)) PARTS ≡ true → num w (place (counted r)) ≡ num v (place (counted r))
  unfolding rows_of
  counts_same r h =
      let c = counted_is (least r) (most r) (num v (place (counted r))) (part_ok v keeps (counted r) h) in
      count_of (rows_of v) fit r h
      ∙ ap pos (chunks_length (how_many v r) (row_size r) (drop (place (laid r)) v))
      ∙ rw (counted_kind r h, c.1, size_is (most r) (ref (num v (place (counted r)))) c.0)

  pub value_same : Same v (value_of (rows_of v))
  value_same = record { long = value_length (rows_of v) fit; counts = counts_same; rows = rows_same }
