-- The written form of rows that a text can state reads as those rows. In the order: lines that are taken, one behind another; rows of one
-- kind; all lines; the text. Assumes nothing.
use mathlib.Core.Path.{◌≡◌, refl, sym, ap, ◌∙◌, subst, fun_ext}
use mathlib.Core.Bool.{Bool, true, false, cond, ◌&&◌}
use mathlib.Core.List.{List, [], ◌∷◌, ◌++◌, append_assoc, append-nil}
use Prim.Native.Nat.{ℕ, zero, suc, ◌+◌, ◌≤◌, ◌<◌}
use native.Mathlib.Omega.{arith}
use lib.IntN.{ℤ}
use lib.ListN.{length, length-append}
use borrow.Author.Tests.{le-ltb}
use Rattle.sizes.specs.Sizes.{TEXT}
use Rattle.laws.proofs.Parts.{same_self}
use Rattle.meaning.specs.Lists.{every, every_from, exists, concat_map, map_from}
use Rattle.meaning.specs.Value.{Rows, statable}
use Rattle.meaning.specs.Split.{LF, fields, lines, ended}
use Rattle.meaning.specs.Grammar.{Record, s_record, v_record, e_record, t_record, a_record, no_record, ORDER, most, row_size, same}
use Rattle.meaning.specs.Line.{in_order, line_of, text_of_row}
use Rattle.meaning.specs.Text.{Result, done, turns_of, with_row, no_rows, line_taken, ending, walk, read_text, lines_of, text_by}
use Rattle.round_trip.specs.Rows.{AllLong}
use Rattle.round_trip.proofs.Splits.{Free, AllFree, all_free_append, lines_ended}
use Rattle.round_trip.proofs.Fields.{both}
use Rattle.round_trip.proofs.Records.{row_free, row_named, row_reads}
use Rattle.round_trip.proofs.Shaped.{Shaped, Fitting, nothing}

-- ---- lines that are taken

-- behind these rows the line l is taken, and then there are those
abbrev Goes : Rows → List ℕ → Rows → Type 0
Goes rows l more = (n : ℕ) (next : Rows → Result Rows) → line_taken (fields l) n rows next ≡ next more

data Reads : Rows → List (List ℕ) → Rows → Type 0 where
  none : {w : Rows} → Reads w [] w
  one : {w v u : Rows} {l : List ℕ} {ls : List (List ℕ)} → Goes w l v → Reads v ls u → Reads w (l ∷ ls) u

then : {w v u : Rows} {ls ms : List (List ℕ)} → Reads w ls v → Reads v ms u → Reads w (ls ++ ms) u
then none s = s
then (one g r) s = one g (then r s)

walk_reads : {w v : Rows} {ls : List (List ℕ)} (n : ℕ) → Reads w ls v → walk n w (ls ++ ([] ∷ [])) ≡ ending (n + length ls) v []
unfolding walk
walk_reads n none = let e : n + 0 ≡ n = omega arith in rw e
walk_reads n (one {w = w} {v = v} {l = l} {ls = []} g r) =
    let e : n + 1 + 0 ≡ n + 1 = omega arith in
    g n (λ v. walk (n + 1) v ([] ∷ [])) ∙ walk_reads (n + 1) r ∙ rw e
walk_reads n (one {w = w} {v = v} {l = l} {ls = x ∷ xs} g r) =
    let e : n + 1 + suc (length xs) ≡ n + suc (suc (length xs)) = omega arith in
    g n (λ v. walk (n + 1) v (x ∷ (xs ++ ([] ∷ [])))) ∙ walk_reads (n + 1) r ∙ rw e

-- ---- rows of one kind

-- the rows with these behind those of a kind
abbrev with_rows : Record → List (List ℤ) → Rows → Rows
with_rows r xs rows q = cond (same r q) (rows q ++ xs) (rows q)

module _ (r : Record) (rows : Rows) (fresh : rows r ≡ []) where
  own_rows : (ys : List (List ℤ)) → with_rows r ys rows r ≡ ys
  own_rows ys = rw (same_self r, fresh)

  one_more : (ys : List (List ℤ)) (x : List ℤ) → with_row r x (with_rows r ys rows) ≡ with_rows r (ys ++ (x ∷ [])) rows
  unfolding with_row
  one_more ys x = fun_ext (λ q. go (same r q) (rows q))
    where
      go : (t : Bool) (zs : List (List ℤ)) → cond t (cond t (zs ++ ys) zs ++ (x ∷ [])) (cond t (zs ++ ys) zs)
          ≡ cond t (zs ++ (ys ++ (x ∷ []))) zs
      go true zs = append_assoc zs ys (x ∷ [])
      go false zs = refl

  none_more : rows ≡ with_rows r [] rows
  none_more = fun_ext (λ q. go (same r q) (rows q))
    where
      go : (t : Bool) (zs : List (List ℤ)) → zs ≡ cond t (zs ++ []) zs
      go true zs = sym (append-nil zs)
      go false zs = refl

  module _
      (whole : List (List ℤ))
      (opens : (ys : List (List ℤ)) → length ys < length whole → in_order (turns_of (with_rows r ys rows)) r ≡ true) where
    row_goes : (ys : List (List ℤ)) (x : List ℤ) → length ys < length whole → statable r (length ys) x ≡ true → length x ≡ row_size r
        → length ys < most r → Goes (with_rows r ys rows) (text_of_row r (length ys) x) (with_rows r (ys ++ (x ∷ [])) rows)
    unfolding line_of statable
    row_goes ys x h ok long few n next =
        rw (row_named r (length ys) x ok few, opens ys h, own_rows ys, row_reads r (length ys) x ok few long) (ap next (one_more ys x))

    rows_read : (ys xs : List (List ℤ)) (k : ℕ) → k ≡ length ys → k + length xs ≤ length whole → every_from (statable r) k xs ≡ true
        → AllLong (row_size r) xs → k + length xs ≤ most r
        → Reads (with_rows r ys rows) (map_from (text_of_row r) k xs) (with_rows r (ys ++ xs) rows)
    unfolding map_from every_from AllLong
    rows_read ys [] k e w ok long few = rw append-nil none
    rows_read ys (x ∷ xs) k e w ok long few =
        let b = both (statable r k x) (every_from (statable r) (suc k) xs) ok in
        let m : suc k ≡ length (ys ++ (x ∷ [])) = rw (length-append ys (x ∷ [])) (omega arith) in
        let g : Goes (with_rows r ys rows) (text_of_row r k x) (with_rows r (ys ++ (x ∷ [])) rows) =
        rw e (row_goes ys x (omega arith) (rw e at b.0) long.0 (omega arith)) in
        let t = rows_read (ys ++ (x ∷ [])) xs (suc k) m (omega arith) b.1 long.1 (omega arith) in
        one g (rw (append_assoc ys (x ∷ []) xs) at t)

    kind_read : Fitting r whole → Reads rows (map_from (text_of_row r) 0 whole) (with_rows r whole rows)
    kind_read f =
        let few = f.few in
        subst (λ (w : Rows). Reads w (map_from (text_of_row r) 0 whole) (with_rows r whole rows)) (sym none_more)
        (rows_read [] whole 0 refl (omega arith) f.ok f.long (omega arith))

-- ---- all lines

rows_free : (r : Record) (k : ℕ) (xs : List (List ℤ)) → every_from (statable r) k xs ≡ true → k + length xs ≤ most r
    → AllFree LF (map_from (text_of_row r) k xs)
unfolding AllFree map_from every_from statable
rows_free r k [] ok few = tt
rows_free r k (x ∷ xs) ok few =
    let b = both (statable r k x) (every_from (statable r) (suc k) xs) ok in
    (row_free r k x b.0 (omega arith), rows_free r (suc k) xs b.1 (omega arith))

module _ (r : Rows) (s : Shaped r) where
  lines_free : (qs : List Record) → AllFree LF (concat_map (lines_of r) qs)
  unfolding concat_map AllFree
  lines_free [] = tt
  lines_free (q ∷ qs) =
      let few = (s.fitting q).few in
      all_free_append LF (lines_of r q) (concat_map (lines_of r) qs) (rows_free q 0 (r q) (s.fitting q).ok (omega arith)) (lines_free qs)

  -- kind by kind: the rows of those read, the last one first
  abbrev of : List Record → Rows
  of [] = no_rows
  of (q ∷ qs) = with_rows q (r q) (of qs)

  abbrev all : Rows
  all = of (a_record ∷ t_record ∷ e_record ∷ v_record ∷ s_record ∷ [])

  no_row_yet : (ys : List (List ℤ)) → length ys < length (r e_record) → length ys ≡ 0
  no_row_yet ys h = omega (arith, h, s.one)

  all_read : Reads no_rows (concat_map (lines_of r) ORDER) all
  unfolding concat_map in_order every exists
  all_read =
      then (next [] s_record refl (λ ys h. refl)) (then (next (s_record ∷ []) v_record refl (λ ys h. refl))
      (then (next (v_record ∷ s_record ∷ []) e_record refl (λ ys h. rw (no_row_yet ys h)))
      (then (next (e_record ∷ v_record ∷ s_record ∷ []) t_record refl (λ ys h. rw s.one))
      (then (next (t_record ∷ e_record ∷ v_record ∷ s_record ∷ []) a_record refl (λ ys h. rw s.one)) none))))
    where
      next : (qs : List Record) (q : Record) → of qs q ≡ []
          → ((ys : List (List ℤ)) → length ys < length (r q) → in_order (turns_of (with_rows q ys (of qs))) q ≡ true)
          → Reads (of qs) (lines_of r q) (of (q ∷ qs))
      next qs q fresh opens = kind_read q (of qs) fresh (r q) opens (s.fitting q)

  all_rows : all ≡ r
  all_rows = fun_ext go
    where
      go : (q : Record) → all q ≡ r q
      go s_record = refl
      go v_record = refl
      go e_record = refl
      go t_record = refl
      go a_record = refl
      go no_record = nothing (r no_record) (s.fitting no_record).few

  met : (n : ℕ) → ending n all [] ≡ done r
  met n = rw s.one (ap done all_rows)

  -- ---- the text

  -- rows that a text can state: their text, where it is not too long, reads as those rows
  lines_read : walk 1 no_rows (lines (text_by r)) ≡ done r
  unfolding text_by
  lines_read =
      ap (λ (ls : List (List ℕ)). walk 1 no_rows ls) (lines_ended (concat_map (lines_of r) ORDER) (lines_free ORDER))
      ∙ walk_reads 1 all_read ∙ met _

  pub text_reads : length (text_by r) ≤ TEXT → read_text (text_by r) ≡ done r
  unfolding read_text
  text_reads short = rw (le-ltb TEXT (length (text_by r)) short) lines_read
