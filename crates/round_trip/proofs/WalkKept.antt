-- The lines that the walk takes are the written forms of the rows that it hands over, in their order, and a text can state those rows.
-- In the order: the lines of some kinds; one more line; the walk; the text. Assumes nothing.
use mathlib.Core.Path.{◌≡◌, refl, sym, ap, ◌∙◌, subst}
use mathlib.Core.Bool.{Bool, true, false, cond, not, ◌&&◌, ◌||◌, false≢true}
use mathlib.Core.List.{List, [], ◌∷◌, ◌++◌, append_assoc, append-nil}
use Prim.Native.Nat.{ℕ, zero, suc, ◌+◌, ◌≤◌, ◌<◌}
use native.Mathlib.Omega.{arith}
use lib.Dec.{eqb, leb, ltb}
use borrow.Author.Tests.{eqb-true, leb-true}
use lib.IntN.{ℤ}
use lib.ListN.{length}
use Rattle.sizes.specs.Sizes.{TEXT}
use Rattle.laws.proofs.Lists.{and_left, and_right, or_off_left, or_off_right, not_true}
use Rattle.laws.proofs.Parts.{same_true, named_is, every_record}
use Rattle.meaning.specs.Lists.{every, exists, concat_map, map_from}
use Rattle.meaning.specs.Value.{Rows}
use Rattle.meaning.specs.Split.{LF, fields, lines, tails, ended}
use Rattle.meaning.specs.Grammar.{Record, e_record, ORDER, name, most, same}
use Rattle.meaning.specs.Line.{Line, letter_of, field, behind_in, later, in_order, line_in_order, line_of, text_of_row}
use Rattle.meaning.specs.Text.{done, refused, turns_of, with_row, further, record_of, ending, walk, no_rows, lines_of}
use Rattle.meaning.specs.Text.{read_unless, read_text, text_by}
use Rattle.round_trip.proofs.Numbers.{no}
use Rattle.round_trip.proofs.Splits.{glued, glued_lines, ended_append}
use Rattle.round_trip.proofs.Fields.{Good, zero_good}
use Rattle.round_trip.proofs.Records.{RowKept, row_kept, row_room}
use Rattle.round_trip.proofs.Shaped.{Shaped, Fitting, fitting_none, fitting_more, map_from_more, nothing, own_row, other_row}

-- ---- the lines of some kinds

abbrev lines_in : Rows → List Record → List (List ℕ)
lines_in rows qs = concat_map (lines_of rows) qs

abbrev none_in : Rows → List Record → Bool
none_in rows qs = every (λ q. eqb (length (rows q)) 0) qs

none_is : {A : Type 0} (xs : List A) → eqb (length xs) 0 ≡ true → xs ≡ []
none_is xs e = let z : length xs ≡ 0 = eqb-true (length xs) 0 e in sym (nothing xs (omega arith))

-- a kind stands once
abbrev once : List Record → Record → Bool
once [] r = false
once (q ∷ qs) r = cond (same r q) (not (exists (same r) qs)) (once qs r)

each_once : (r : Record) (n : ℕ) → n < most r → once ORDER r ≡ true
unfolding every exists
each_once r n h = every_record (once ORDER) refl r n h

module _ (rows : Rows) (r : Record) (x : List ℤ) where
  abbrev more : Rows
  more = with_row r x rows

  other_lines : (q : Record) → same r q ≡ false → lines_of more q ≡ lines_of rows q
  other_lines q s = ap (map_from (text_of_row q) 0) (other_row rows r x q s)

  -- kinds of which nothing was read have no line, also with a row more of another kind
  no_lines : (qs : List Record) → none_in rows qs ≡ true → exists (same r) qs ≡ false → lines_in more qs ≡ []
  unfolding concat_map every exists map_from with_row
  no_lines [] e o = refl
  no_lines (q ∷ qs) e o =
      rw (
        or_off_left (same r q) (exists (same r) qs) o,
        none_is (rows q) (and_left (eqb (length (rows q)) 0) (none_in rows qs) e),
        no_lines qs (and_right (eqb (length (rows q)) 0) (none_in rows qs) e) (or_off_right (same r q) (exists (same r) qs) o),
      )

  empty_lines : (qs : List Record) → none_in rows qs ≡ true → lines_in rows qs ≡ []
  unfolding concat_map every map_from
  empty_lines [] e = refl
  empty_lines (q ∷ qs) e =
      rw (
        none_is (rows q) (and_left (eqb (length (rows q)) 0) (none_in rows qs) e),
        empty_lines qs (and_right (eqb (length (rows q)) 0) (none_in rows qs) e),
      )

  module _ (l : List ℕ) (written : text_of_row r (length (rows r)) x ≡ l) where
    own_lines : lines_of more r ≡ lines_of rows r ++ (l ∷ [])
    own_lines =
        let n : 0 + length (rows r) ≡ length (rows r) = omega arith in
        rw (own_row rows r x, map_from_more (text_of_row r) 0 (rows r) x, n, written)

    -- its line is the last where nothing of a later kind was read
    lines_more : (qs : List Record) → once qs r ≡ true → none_in rows (behind_in qs r) ≡ true
        → lines_in more qs ≡ lines_in rows qs ++ (l ∷ [])
    unfolding concat_map
    lines_more [] o e = absurd (false≢true o)
    lines_more (q ∷ qs) o e = go (same r q) refl o e (lines_more qs)
      where
        go : (t : Bool) → same r q ≡ t → cond t (not (exists (same r) qs)) (once qs r) ≡ true
            → none_in rows (cond t qs (behind_in qs r)) ≡ true
            → (once qs r ≡ true → none_in rows (behind_in qs r) ≡ true → lines_in more qs ≡ lines_in rows qs ++ (l ∷ []))
            → lines_in more (q ∷ qs) ≡ lines_in rows (q ∷ qs) ++ (l ∷ [])
        go true s o e ih =
            let k : q ≡ r = sym (same_true r q s) in
            rw (k, own_lines, no_lines qs e (not_true (exists (same r) qs) o), empty_lines qs e) (simp append-nil)
        go false s o e ih = rw (other_lines q s, ih o e) (sym (append_assoc (lines_of rows q) (lines_in rows qs) (l ∷ [])))

-- ---- one more line

abbrev Sound : Rows → Type 0
Sound rows = (r : Record) → Fitting r (rows r)

-- a line was taken: it is the last of those so far
record Step (rows : Rows) (l : List ℕ) (more : Rows) : Type 0 where
  last : lines_in more ORDER ≡ lines_in rows ORDER ++ (l ∷ [])
  sound : Sound more

module _ (rows : Rows) (s : Sound rows) (l : List ℕ) where
  row_step : (r : Record) (x : List ℤ) → none_in rows (later r) ≡ true → RowKept r (length (rows r)) l x → Step rows l (with_row r x rows)
  unfolding with_row
  row_step r x e k = record {
    last = lines_more rows r x l k.same ORDER (each_once r (length (rows r)) k.fits) e;
    sound = λ q. fits_in q (same r q) refl;
  }
    where
      fits_in : (q : Record) (t : Bool) → same r q ≡ t → Fitting q (with_row r x rows q)
      fits_in q true h =
          let e : r ≡ q = same_true r q h in
          rw h (fitting_more q (rows q) x l (s q) (subst (λ p. RowKept p (length (rows p)) l x) e k))
      fits_in q false h = rw h (s q)

  in_order_kept : (r : Record) (b : Bool) → r ≡ record_of (fields l) → in_order (turns_of rows) r ≡ b
      → Good (line_in_order b r (length (rows r)) (fields l)).mark
      → Step rows l (with_row r (line_in_order b r (length (rows r)) (fields l)).row rows)
  unfolding in_order
  in_order_kept r false e o g = absurd (g.right refl)
  in_order_kept r true e o g =
      let h : length (rows r) < most r = row_room r (length (rows r)) (fields l) g in
      let n = named_is (letter_of (field (fields l) 0)) (length (rows r)) (subst (λ q. length (rows r) < most q) e h) in
      row_step r _ (and_left (none_in rows (later r)) _ o) (row_kept r (length (rows r)) l (n ∙ ap name (sym e)) g)

  line_kept : Good (line_of (record_of (fields l)) (turns_of rows) (fields l)).mark
      → Step rows l (with_row (record_of (fields l)) (line_of (record_of (fields l)) (turns_of rows) (fields l)).row rows)
  unfolding line_of
  line_kept g = in_order_kept (record_of (fields l)) (in_order (turns_of rows) (record_of (fields l))) refl refl g

-- ---- the walk

-- the lines of the rows that are handed over are those so far and those still to be read
record Kept (rows : Rows) (ls : List (List ℕ)) (r : Rows) : Type 0 where
  text : ended (lines_in rows ORDER) ++ glued LF ls ≡ text_by r
  shaped : Shaped r

ended_kept : (rows : Rows) (n : ℕ) (r : Rows) → Sound rows → ending n rows [] ≡ done r → Kept rows ([] ∷ []) r
unfolding glued tails text_by
ended_kept rows n r s e = go (leb 1 (length (rows e_record))) refl e
  where
    go : (t : Bool) → leb 1 (length (rows e_record)) ≡ t → cond t (done rows) (refused 1 n) ≡ done r → Kept rows ([] ∷ []) r
    go true h e =
        let k : rows ≡ r = cc in
        let f = (s e_record).few in
        let m : 1 ≤ length (rows e_record) = leb-true 1 (length (rows e_record)) h in
        rw (← k) (record {
          text = append-nil (ended (lines_in rows ORDER));
          shaped = record { fitting = s; one = omega arith };
        })
    go false h e = no cc

grow : (a b : List (List ℕ)) (l x : List ℕ) → b ≡ a ++ (l ∷ []) → ended a ++ (l ++ LF ∷ x) ≡ ended b ++ x
unfolding ended
grow a b l x e = rw (e, ended_append a (l ∷ [])) (simp append_assoc)

walk_kept : (n : ℕ) (rows : Rows) (ls : List (List ℕ)) (r : Rows) → Sound rows → walk n rows ls ≡ done r → Kept rows ls r
unfolding walk glued tails
walk_kept n rows [] r s e = no cc
walk_kept n rows ([] ∷ []) r s e = ended_kept rows n r s e
walk_kept n rows ((b ∷ bs) ∷ []) r s e = no cc
walk_kept n rows (line ∷ next ∷ rest) r s e = go x.mark refl e (λ more t f. walk_kept (n + 1) more (next ∷ rest) r t f)
  where
    k : Record
    k = record_of (fields line)

    x : Line
    x = line_of k (turns_of rows) (fields line)

    go : (m : ℕ) → x.mark ≡ m → further m n (with_row k x.row rows) (λ more. walk (n + 1) more (next ∷ rest)) ≡ done r
        → ((more : Rows) → Sound more → walk (n + 1) more (next ∷ rest) ≡ done r → Kept more (next ∷ rest) r)
        → Kept rows (line ∷ next ∷ rest) r
    go zero h e ih =
        let st = line_kept rows s line (zero_good x.mark h) in
        let more : Rows = with_row k x.row rows in
        let t = ih more st.sound e in
        record {
          text = grow (lines_in rows ORDER) (lines_in more ORDER) line (next ++ tails LF rest) st.last ∙ t.text;
          shaped = t.shaped;
        }
    go (suc m) h e ih = no cc

-- ---- the text

start_lines : ended (lines_in no_rows ORDER) ≡ []
unfolding ended concat_map map_from
start_lines = refl

-- rows that a text states are written back to the same bytes, and a text can state them
pub text_kept : (text : List ℕ) (r : Rows) → read_text text ≡ done r → (text_by r ≡ text) × Shaped r
unfolding read_text
text_kept text r e = go (ltb TEXT (length text)) e
  where
    go : (t : Bool) → read_unless t text ≡ done r → (text_by r ≡ text) × Shaped r
    go true e = no cc
    go false e =
        let k = walk_kept 1 no_rows (lines text) r fitting_none e in
        (sym k.text ∙ rw (start_lines, glued_lines), k.shaped)
