-- Laws of rows laid into a chart's numbers: one part replaced, a row stored behind those of its kind, the counts put in; an empty chart is
-- all 0. Assumes nothing.
use mathlib.Core.Path.{◌≡◌, refl, sym, ap, ◌∙◌}
use mathlib.Core.Bool.{Bool, true, false, cond, not, false≢true}
use mathlib.Core.List.{List, [], ◌∷◌, ◌++◌, append_assoc, append-nil}
use Prim.Native.Nat.{ℕ, zero, suc, ◌+◌, ◌-◌, ◌*◌, ◌≤◌, ◌<◌}
use native.Mathlib.Omega.{arith}
use native.Mathlib.Nat.{suc-mul, mul-le-mul_right, zero-add, add-zero}
use lib.IntN.{ℤ, pos}
use lib.ListN.{length, drop, set, length-append, length-replicate, replicate-append-replicate}
use lib.Seq.{sets, sets-eq, take-append_seam, drop-append-add, drop-append-le}
use Rattle.laws.proofs.Lists.{or_off_left, or_off_right, not_true}
use Rattle.laws.proofs.Parts.{same_self, same_part_true, every_record}
use Rattle.meaning.specs.Grammar.{Record, s_record, v_record, t_record, a_record, most, row_size, same}
use Rattle.meaning.specs.Lists.{concat_map, every, exists, padded}
use Rattle.meaning.specs.Value.{Rows, Part, counted, laid, PARTS, room_of, room_in, same_part, begins, place, VALUE}
use Rattle.meaning.specs.Line.{Turns}
use Rattle.meaning.specs.Text.{flat, area, part_of, no_rows, with_row, value_of}
use Rattle.round_trip.specs.Rows.{AllLong, Fit}
use Rattle.round_trip.proofs.Shaped.{own_row, other_row}
use Rattle.round_trip.proofs.Values.{flat_length, area_length}
use Rattle.reader.specs.Order.{turns_in, with_counts}
use Rattle.reader.specs.Scanned.{zeros}
use Rattle.reader.specs.Onward.{laid_part, laid_out}

-- ---- lists of rows
pub flat_more : (rs : List (List ℤ)) (y : List ℤ) → flat (rs ++ (y ∷ [])) ≡ flat rs ++ y
flat_more [] y = append-nil y
flat_more (r ∷ rs) y = rw (flat_more rs y) (sym (append_assoc r (flat rs) y))

pub length_more : (rs : List (List ℤ)) (y : List ℤ) → length (rs ++ (y ∷ [])) ≡ length rs + 1
length_more rs y = length-append rs (y ∷ [])

-- ---- 0 past the rows
drop_zeros : (k n : ℕ) → drop k (zeros n) ≡ zeros (n - k)
unfolding zeros
drop_zeros zero n = let e : n - 0 ≡ n = omega arith in rw e
drop_zeros (suc k) zero = let e : 0 - suc k ≡ 0 = omega arith in rw e
drop_zeros (suc k) (suc n) = let e : suc n - suc k ≡ n - k = omega arith in rw e (drop_zeros k n)

pub length_zeros : (n : ℕ) → length (zeros n) ≡ n
unfolding zeros
length_zeros n = length-replicate n (pos 0)

zeros_add : (a b : ℕ) → zeros (a + b) ≡ zeros a ++ zeros b
unfolding zeros
zeros_add a b = sym (replicate-append-replicate a b (pos 0))

pub area_is : (n : ℕ) (rs : List (List ℤ)) → area n rs ≡ flat rs ++ zeros (n - length (flat rs))
unfolding padded zeros
area_is n rs = refl

area_none : (n : ℕ) → zeros n ≡ area n []
area_none n = let e : n - 0 ≡ n = omega arith in sym (area_is n [] ∙ ap zeros e)

pub length_area : (n : ℕ) (rs : List (List ℤ)) → length (flat rs) ≤ n → length (area n rs) ≡ n
length_area n rs h = rw (area_is n rs, length-append (flat rs) (zeros (n - length (flat rs))), length_zeros (n - length (flat rs)))
    (omega arith)

-- ---- a part stored behind one that is there
fill : (p f y q : List ℤ) (m : ℕ) → length y ≤ m → sets (p ++ ((f ++ zeros m) ++ q)) (length p + length f) y ≡ p ++ ((f ++ (y ++ zeros
    (m - length y))) ++ q)
fill p f y q m h =
    let e : p ++ ((f ++ zeros m) ++ q) ≡ (p ++ f) ++ (zeros m ++ q) = simp append_assoc in
    let i : length p + length f ≡ length (p ++ f) = sym (length-append p f) in
    let k : length (p ++ f) + length y ≤ length ((p ++ f) ++ (zeros m ++ q)) = simp (length-append, length_zeros) (omega arith) in
    rw (e, i) (sets-eq y ((p ++ f) ++ (zeros m ++ q)) (length (p ++ f)) k
    ∙ rw (take-append_seam, drop-append-add, drop-append-le (length y) (zeros m) q (rw (length_zeros m) h), drop_zeros) (simp append_assoc))

module _ (p q : List ℤ) (n : ℕ) (rs : List (List ℤ)) (y : List ℤ) (h : length (flat rs) + length y ≤ n) where
  fill_area : sets (p ++ (area n rs ++ q)) (length p + length (flat rs)) y ≡ p ++ (area n (rs ++ (y ∷ [])) ++ q)
  fill_area =
      let m : n - length (flat rs ++ y) ≡ n - length (flat rs) - length y = rw (length-append (flat rs) y) (omega arith) in
      let a = fill p (flat rs) y q (n - length (flat rs)) (omega arith) in
      rw (area_is n rs, area_is n (rs ++ (y ∷ [])), flat_more rs y, m, append_assoc (flat rs) y) a

-- at a place that is counted in rows of k numbers
store : (p q : List ℤ) (n k : ℕ) (rs : List (List ℤ)) (y : List ℤ) → AllLong k rs → length y ≡ k → length rs * k + k ≤ n
    → sets (p ++ (area n rs ++ q)) (length p + length rs * k) y ≡ p ++ (area n (rs ++ (y ∷ [])) ++ q)
store p q n k rs y w e h =
    let g = flat_length k rs w in
    rw (← g) (fill_area p q n rs y (omega arith))

-- ---- one part of the chart's numbers replaced

-- a part stands once
abbrev once : List Part → Part → Bool
once [] p = false
once (q ∷ qs) p = cond (same_part p q) (not (exists (same_part p) qs)) (once qs p)

module _ (f g : Part → List ℤ) (p : Part) (z y : List ℤ) (off : ℕ)
    (other : (q : Part) → same_part p q ≡ false → f q ≡ g q)
    (sized : (q : Part) → length (f q) ≡ room_of q)
    (own : (a b : List ℤ) → sets (a ++ (f p ++ b)) (length a + off) y ≡ a ++ (g p ++ b))
  where
    others : (ps : List Part) → exists (same_part p) ps ≡ false → concat_map f ps ≡ concat_map g ps
    unfolding concat_map exists
    others [] o = refl
    others (q ∷ qs) o =
        rw (
          other q (or_off_left (same_part p q) (exists (same_part p) qs) o),
          others qs (or_off_right (same_part p q) (exists (same_part p) qs) o),
        )

    replaced : (ps : List Part) (a : List ℤ) → once ps p ≡ true
        → sets (a ++ (concat_map f ps ++ z)) (length a + (begins ps p + off)) y ≡ a ++ (concat_map g ps ++ z)
    unfolding concat_map
    replaced [] a o = absurd (false≢true o)
    replaced (q ∷ qs) a o = go (same_part p q) refl o (λ b k. replaced qs b k)
      where
        go : (t : Bool) → same_part p q ≡ t → cond t (not (exists (same_part p) qs)) (once qs p) ≡ true
            → ((b : List ℤ) → once qs p ≡ true
            → sets (b ++ (concat_map f qs ++ z)) (length b + (begins qs p + off)) y ≡ b ++ (concat_map g qs ++ z))
            → sets (a ++ ((f q ++ concat_map f qs) ++ z)) (length a + (cond t 0 (room_of q + begins qs p) + off)) y
            ≡ a ++ ((g q ++ concat_map g qs) ++ z)
        go true e o ih =
            let k : p ≡ q = same_part_true p q e in
            let n : length a + (0 + off) ≡ length a + off = omega arith in
            rw (
              ← k,
              append_assoc (f p) (concat_map f qs) z,
              append_assoc (g p) (concat_map g qs) z,
              n,
              ← others qs (not_true (exists (same_part p) qs) o),
            )
            (own a (concat_map f qs ++ z))
        go false e o ih =
            let m : length (a ++ f q) + (begins qs p + off) ≡ length a + (room_of q + begins qs p + off) =
            rw (length-append a (f q), sized q) (omega arith) in
            let h = rw (m, append_assoc a (f q) (concat_map f qs ++ z), append_assoc a (f q) (concat_map g qs ++ z)) at (ih (a ++ f q) o) in
            rw (append_assoc (f q) (concat_map f qs) z, append_assoc (g q) (concat_map g qs) z, ← other q e) h

    replace_part : (ps : List Part) → once ps p ≡ true → sets (concat_map f ps ++ z) (begins ps p + off) y ≡ concat_map g ps ++ z
    replace_part ps o = ap (λ (n : ℕ). sets (concat_map f ps ++ z) n y) (sym (zero-add (begins ps p + off))) ∙ replaced ps [] o

each_once : (r : Record) (n : ℕ) → n < most r → once PARTS (laid r) ≡ true
unfolding every exists
each_once r n h = every_record (λ q. once PARTS (laid q)) refl r n h

-- ---- a row stored behind those of its kind

laid_sized : (rows : Rows) → Fit rows → (p : Part) → length (laid_part rows p) ≡ room_of p
laid_sized rows f (counted r) = refl
laid_sized rows f (laid r) = area_length (row_size r) (most r) (rows r) (f.long r) (f.few r)

pub next_numbers : (rows : Rows) (z y : List ℤ) → Fit rows → (r : Record) → length (rows r) < most r → length y ≡ row_size r
    → sets (laid_out rows z) (place (laid r) + length (rows r) * row_size r) y ≡ laid_out (with_row r y rows) z
unfolding laid_out
next_numbers rows z y f r h e =
    replace_part (laid_part rows) (laid_part (with_row r y rows)) (laid r) z y (length (rows r) * row_size r) other (laid_sized rows f) own
    PARTS (each_once r (length (rows r)) h)
  where
    other : (q : Part) → same_part (laid r) q ≡ false → laid_part rows q ≡ laid_part (with_row r y rows) q
    other (counted q) n = refl
    other (laid q) n = ap (area (room_of (laid q))) (sym (other_row rows r y q n))

    own : (a b : List ℤ) → sets (a ++ (laid_part rows (laid r) ++ b)) (length a + length (rows r) * row_size r) y
        ≡ a ++ (laid_part (with_row r y rows) (laid r) ++ b)
    own a b =
        let m : suc (length (rows r)) * row_size r ≤ most r * row_size r = mul-le-mul_right (row_size r) h in
        let d = suc-mul (length (rows r)) (row_size r) in
        rw (own_row rows r y)
        (store a b (most r * row_size r) (row_size r) (rows r) y (f.long r) e (omega arith))

-- ---- the counts

abbrev part_by : Turns → Rows → Part → List ℤ
part_by t rows (counted r) = pos (t r) ∷ []
part_by t rows (laid r) = part_of rows (laid r)

abbrev with_turn : Turns → Record → ℕ → Turns
with_turn t r n q = cond (same r q) n (t q)

put_at : (a b : List ℤ) (x y : ℤ) → set (a ++ (x ∷ b)) (length a) y ≡ a ++ (y ∷ b)
put_at [] b x y = refl
put_at (c ∷ a) b x y = ap (λ (l : List ℤ). c ∷ l) (put_at a b x y)

count_put : (t : Turns) (rows : Rows) (z : List ℤ) → Fit rows → (r : Record) (n : ℕ) → once PARTS (counted r) ≡ true
    → set (concat_map (part_by t rows) PARTS ++ z) (place (counted r)) (pos n) ≡ concat_map (part_by (with_turn t r n) rows) PARTS ++ z
count_put t rows z f r n o =
    ap (λ (i : ℕ). set (concat_map (part_by t rows) PARTS ++ z) i (pos n)) (sym (add-zero (place (counted r))))
    ∙ replace_part (part_by t rows) (part_by (with_turn t r n) rows) (counted r) z (pos n ∷ []) 0 other sized own PARTS o
  where
    other : (q : Part) → same_part (counted r) q ≡ false → part_by t rows q ≡ part_by (with_turn t r n) rows q
    other (counted q) e = rw e
    other (laid q) e = refl

    sized : (q : Part) → length (part_by t rows q) ≡ room_of q
    sized (counted q) = refl
    sized (laid q) = laid_sized rows f (laid q)

    own : (a b : List ℤ) → sets (a ++ ((pos (t r) ∷ []) ++ b)) (length a + 0) (pos n ∷ [])
        ≡ a ++ (part_by (with_turn t r n) rows (counted r) ++ b)
    own a b = rw (same_self r, add-zero (length a)) (put_at a b (pos (t r)) (pos n))

-- the counts of some kinds, the last one put first
abbrev counts_of : Rows → List Record → Turns
counts_of rows [] = λ q. 0
counts_of rows (r ∷ rs) = with_turn (counts_of rows rs) r (length (rows r))

-- the counts put in, the numbers are the value of the rows
pub counted_numbers : (rows : Rows) (z : List ℤ) → Fit rows → with_counts (turns_in rows) (laid_out rows z) ≡ value_of rows ++ z
unfolding with_counts laid_out value_of concat_map exists
counted_numbers rows z f =
    ap (λ (l : List ℤ). with_count (with_count (with_count l v_record) t_record) a_record) (put [] s_record refl)
    ∙ ap (λ (l : List ℤ). with_count (with_count l t_record) a_record) (put (s_record ∷ []) v_record refl)
    ∙ ap (λ (l : List ℤ). with_count l a_record) (put (v_record ∷ s_record ∷ []) t_record refl)
    ∙ put (t_record ∷ v_record ∷ s_record ∷ []) a_record refl
  where
    with_count : List ℤ → Record → List ℤ
    with_count l r = set l (place (counted r)) (pos (length (rows r)))

    put : (rs : List Record) (r : Record) → once PARTS (counted r) ≡ true
        → set (concat_map (part_by (counts_of rows rs) rows) PARTS ++ z) (place (counted r)) (pos (length (rows r)))
        ≡ concat_map (part_by (counts_of rows (r ∷ rs)) rows) PARTS ++ z
    put rs r o = count_put (counts_of rows rs) rows z f r (length (rows r)) o

-- ---- an empty chart

parts_none : (ps : List Part) → zeros (room_in ps) ≡ concat_map (laid_part no_rows) ps
unfolding concat_map zeros
parts_none [] = refl
parts_none (counted r ∷ ps) = zeros_add 1 (room_in ps) ∙ ap (λ (l : List ℤ). pos 0 ∷ l) (parts_none ps)
parts_none (laid r ∷ ps) = zeros_add (room_of (laid r)) (room_in ps) ∙ rw (area_none (room_of (laid r)), parts_none ps)

pub laid_none : (n : ℕ) → VALUE ≤ n → zeros n ≡ laid_out no_rows (zeros (n - VALUE))
unfolding laid_out
laid_none n h =
    let e : n ≡ VALUE + (n - VALUE) = omega arith in
    ap zeros e ∙ zeros_add VALUE (n - VALUE) ∙ ap (λ (l : List ℤ). l ++ zeros (n - VALUE)) (parts_none PARTS)
