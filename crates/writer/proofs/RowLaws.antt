-- Laws of the rows of one kind, and of all kinds: a row read where it stands in the value; what is still to be put from row i on; the rows
-- of a value that keeps R0. Assumes nothing.
use mathlib.Core.Path.{◌≡◌, refl, sym, ap, ◌∙◌}
use mathlib.Core.Bool.{true}
use mathlib.Core.List.{List, [], ◌∷◌, ◌++◌, append_assoc}
use Prim.Native.Nat.{ℕ, suc, ◌+◌, ◌*◌, ◌≤◌, ◌<◌}
use native.Mathlib.Omega.{arith}
use native.Mathlib.Numerals.{add-one}
use native.Mathlib.Nat.{suc-mul, mul-le-mul_right}
use lib.IntN.{ℤ}
use lib.ListN.{length, get_or, take, drop, drop_of_length-le}
use lib.Seq.{drop-cons, drop-drop}
use Rattle.meaning.specs.Lists.{map_from, concat_map}
use Rattle.meaning.specs.Grammar.{Field, turn, number, count, letter, dash, target_state, target_history, target_none, width}
use Rattle.meaning.specs.Grammar.{Form, last, ◌tab◌, ◌or◌, size, Record, no_record, ORDER, form, most, row_size}
use Rattle.meaning.specs.Value.{Rows, laid, place, VALUE, num, how_many, rows_of, fits, fits_field, statable, rule_0}
use Rattle.meaning.specs.Split.{LF, ended}
use Rattle.meaning.specs.Line.{write_field, write_by, text_of_row}
use Rattle.meaning.specs.Text.{lines_of, text_by}
use Rattle.laws.proofs.Lists.{every_from_at}
use Rattle.chart_rows.proofs.Named.{within_value}
use Rattle.chart_rows.proofs.Rows.{chunk_at, length_chunks, num_at}
use Rattle.round_trip.proofs.Forms.{Clear}
use Rattle.round_trip.proofs.Records.{sized, clear}
use Rattle.round_trip.proofs.Splits.{ended_append}
use Rattle.round_trip.proofs.Values.{value_shaped}
use Rattle.pen.specs.Pen.{Pen, put_all}
use Rattle.pen.proofs.Laws.{all_append}
use Rattle.writer.specs.Row.{with_lf, line_at, Statable}

-- ---- a row where it stands in the value

module _ (v : List ℤ) (b k : ℕ) where
  abbrev row : List ℤ
  row = take k (drop b v)

  here : (i : ℕ) → i + 1 ≤ k → num v (b + i) ≡ num row i
  here i h = sym (num_at k b v i (omega arith))

  next : (i : ℕ) → i + 2 ≤ k → num v (b + i + 1) ≡ num row (i + 1)
  next i h = let e : b + i + 1 ≡ b + (i + 1) = omega arith in rw e (sym (num_at k b v (i + 1) (omega arith)))

  field_fits : (x : Field) (i : ℕ) → i + width x ≤ k → fits_field x (b + i) v ≡ fits_field x i row
  field_fits turn i h = refl
  field_fits number i h = rw (here i h)
  field_fits (count low high) i h = rw (here i h)
  field_fits (letter ls) i h = rw (here i h)
  field_fits dash i h = rw (here i h)
  field_fits target_state i h = rw (next i h, here i (omega arith))
  field_fits target_history i h = rw (next i h, here i (omega arith))
  field_fits target_none i h = rw (next i h, here i (omega arith))

  field_text : (x : Field) (n i : ℕ) → i + width x ≤ k → write_field x n (b + i) v ≡ write_field x n i row
  unfolding write_field
  field_text turn n i h = refl
  field_text number n i h = rw (here i h)
  field_text (count low high) n i h = rw (here i h)
  field_text (letter ls) n i h = rw (here i h)
  field_text dash n i h = refl
  field_text target_state n i h = rw (next i h)
  field_text target_history n i h = rw (next i h)
  field_text target_none n i h = refl

  row_fits : (a : Form) → Clear a → (i : ℕ) → i + size a ≤ k → fits a (b + i) v ≡ fits a i row
  row_fits (last x) c i h = field_fits x i h
  row_fits (x tab xs) c i h =
      let e : b + i + width x ≡ b + (i + width x) = omega arith in
      rw (field_fits x i (omega arith), e, row_fits xs c.1 (i + width x) (omega arith))
  row_fits (a or b) c i h = let s = c.1.1.1 in rw (row_fits a c.0 i h, row_fits b c.1.0 i (omega arith))

  row_text : (a : Form) → Clear a → (n i : ℕ) → i + size a ≤ k → write_by a n (b + i) v ≡ write_by a n i row
  unfolding write_by
  row_text (last x) c n i h = rw (field_text x n i h)
  row_text (x tab xs) c n i h =
      let e : b + i + width x ≡ b + (i + width x) = omega arith in
      rw (field_text x n i (omega arith), e, row_text xs c.1 n (i + width x) (omega arith))
  row_text (a or b) c n i h =
      let s = c.1.1.1 in rw (row_fits a c.0 i h, row_text a c.0 n i h, row_text b c.1.0 n i (omega arith))

-- ---- what is left, from row i on

module _ (f : ℕ → List ℤ → List ℕ) (rs : List (List ℤ)) where
  unfoldable pub left_from : ℕ → List ℕ
  left_from i = ended (map_from f i (drop i rs))

  left_more : (i : ℕ) (p q : Pen) → i < length rs → q ≡ put_all (with_lf (f i (get_or rs i []))) p
      → put_all (left_from (i + 1)) q ≡ put_all (left_from i) p
  unfolding left_from map_from ended with_lf
  left_more i p q h e =
      ap (put_all (left_from (i + 1))) e
      ∙ sym (all_append (f i (get_or rs i []) ++ (LF ∷ [])) (left_from (i + 1)) p)
      ∙ rw (drop-cons rs i [] h, add-one i, append_assoc)

  left_none : (i : ℕ) (p q : Pen) → length rs ≤ i → put_all (left_from i) p ≡ put_all (left_from 0) q
      → p ≡ put_all (ended (map_from f 0 rs)) q
  unfolding left_from map_from ended put_all
  left_none i p q h e = rw (drop_of_length-le rs h) at e

-- the loop over the rows of a kind
module _ (v : List ℤ) (keeps : rule_0 v ≡ true) (r : Record) (count : ℕ) (many : (count ≡ how_many v r) × (count ≤ most r))
    (i at : ℕ)
    (here : at ≡ place (laid r) + i * row_size r)
  where
    abbrev begins : ℕ
    begins = place (laid r) + i * row_size r

    abbrev lines_from : ℕ → List ℕ
    lines_from j = left_from (text_of_row r) (rows_of v r) j

    long : length (rows_of v r) ≡ count
    unfolding rows_of
    long = length_chunks (how_many v r) (row_size r) (drop (place (laid r)) v) ∙ sym many.0

    pub rows_done : (p q : Pen) → count ≤ i → put_all (lines_from i) p ≡ put_all (lines_from 0) q
        → p ≡ put_all (ended (lines_of (rows_of v) r)) q
    rows_done p q h e = let l = long in left_none (text_of_row r) (rows_of v r) i p q (omega arith) e

    module _ (h : i < count) where
      row_is : get_or (rows_of v r) i [] ≡ take (row_size r) (drop begins v)
      unfolding rows_of
      row_is =
          chunk_at (how_many v r) (row_size r) (drop (place (laid r)) v) i (rw many.0 at h)
          ∙ ap (take (row_size r)) (drop-drop (i * row_size r) (place (laid r)) v)

      -- the row ends within the value
      pub next_near : begins + row_size r ≤ VALUE
      next_near =
          let m : suc i * row_size r ≤ most r * row_size r = let w = many.1 in mul-le-mul_right (row_size r) (omega arith) in
          let u = suc-mul i (row_size r) in
          let w = within_value r in
          omega arith

      row_room : 0 + size (form r i) ≤ row_size r
      row_room = let s = sized r i in omega arith

      at_row : begins + 0 ≡ at
      at_row = omega arith

      pub row_statable : Statable r i at v
      unfolding statable
      row_statable =
          let l = long in
          let z : 0 + i ≡ i = omega arith in
          let f = every_from_at (statable r) 0 (rows_of v r) ((value_shaped v keeps).fitting r).ok i (omega arith) [] in
          let g : fits (form r i) 0 (take (row_size r) (drop begins v)) ≡ true = rw (z, row_is) at f in
          let n = next_near in
          let w = many.1 in
          record {
            room = omega arith;
            fit = rw at_row at (row_fits v begins (row_size r) (form r i) (clear r i) 0 row_room) ∙ g;
            near = omega arith;
          }

      pub row_more : (p q : Pen) → q ≡ put_all (with_lf (line_at r i at v)) p → put_all (lines_from (i + 1)) q ≡ put_all (lines_from i) p
      unfolding line_at text_of_row
      row_more p q f =
          let l = long in
          let w = rw at_row at (row_text v begins (row_size r) (form r i) (clear r i) i 0 row_room) in
          let t : line_at r i at v ≡ text_of_row r i (get_or (rows_of v r) i []) =
          rw (w, row_is) in
          left_more (text_of_row r) (rows_of v r) i p q (omega arith) (f ∙ ap (λ (x : List ℕ). put_all (with_lf x) p) t)

-- ---- all kinds, one after the other

module _ (rows : Rows) where
  unfoldable pub kinds_from : ℕ → List ℕ
  kinds_from i = ended (concat_map (lines_of rows) (drop i ORDER))

  pub kind_more : (i : ℕ) (q : Record) (x y : Pen) → i < length ORDER → q ≡ get_or ORDER i no_record
      → y ≡ put_all (ended (lines_of rows q)) x
      → put_all (kinds_from (i + 1)) y ≡ put_all (kinds_from i) x
  unfolding kinds_from concat_map
  kind_more i q x y h e f =
      ap (put_all (kinds_from (i + 1))) f
      ∙ sym (all_append (ended (lines_of rows q)) (kinds_from (i + 1)) x)
      ∙ rw (
        drop-cons ORDER i no_record h,
        add-one i,
        ← e,
        ended_append (lines_of rows q) (concat_map (lines_of rows) (drop (suc i) ORDER)),
      )

  pub kinds_done : (i : ℕ) (x y : Pen) → length ORDER ≤ i → put_all (kinds_from i) x ≡ put_all (kinds_from 0) y
      → x ≡ put_all (text_by rows) y
  unfolding kinds_from concat_map ended put_all text_by
  kinds_done i x y h e = rw (drop_of_length-le ORDER h) at e
