-- The records of chart text both ways, by their forms, which are unambiguous. In the order: the forms; a line that was read; a row that is
-- written. Assumes nothing.
use mathlib.Core.Path.{◌≡◌, refl, sym, ap, ◌∙◌}
use mathlib.Core.Bool.{Bool, true, false, cond}
use mathlib.Core.List.{List, [], ◌∷◌}
use Prim.Native.Nat.{ℕ, zero, suc, ◌≤◌, ◌<◌}
use native.Mathlib.Omega.{arith}
use lib.Dec.{leb}
use lib.IntN.{ℤ, pos}
use lib.ListN.{length}
use borrow.Author.Tests.{leb-true, lt-ltb}
use Rattle.sizes.specs.Sizes.{MOST}
use Rattle.meaning.specs.Grammar.{Record, s_record, v_record, e_record, t_record, a_record, no_record, form, size}
use Rattle.meaning.specs.Grammar.{name, most, row_size, record_by}
use Rattle.meaning.specs.Lists.{every}
use Rattle.meaning.specs.Value.{fits}
use Rattle.laws.proofs.Parts.{named, every_record}
use Rattle.meaning.specs.Number.{numeral}
use Rattle.meaning.specs.Split.{TAB, LF, fields, joined, tails}
use Rattle.meaning.specs.Line.{Line, worse, room, line, letter_of, field, rest_of, read_by, line_by, write_by, text_of_row}
use Rattle.meaning.specs.Text.{record_of}
use Rattle.round_trip.proofs.Splits.{Free, AllFree, free_byte, free_joined, fields_joined, joined_fields}
use Rattle.round_trip.proofs.Fields.{Good, Sized, worse_good, room_good, numbers_at, at_self, letter_field}
use Rattle.round_trip.proofs.Apart.{other_letters, dash_number, place_history, place_state, history_state}
use Rattle.round_trip.proofs.Forms.{Clear, LineKept, form_kept, form_reads, form_free, most_bytes, form_short}

-- ---- the forms

pub sized : (r : Record) (n : ℕ) → size (form r n) ≡ row_size r
sized s_record zero = refl
sized s_record (suc n) = refl
sized v_record n = refl
sized e_record n = refl
sized t_record n = refl
sized a_record n = refl
sized no_record n = refl

abbrev target_clear : Clear Rattle.meaning.specs.Grammar.target
target_clear = (tt, ((tt, (tt, (history_state, refl))), ((place_history, place_state), refl)))

pub clear : (r : Record) (n : ℕ) → Clear (form r n)
unfolding Rattle.meaning.specs.Lists.has
clear s_record zero = (tt, (tt, ((refl, tt), ((refl, tt), (other_letters refl, refl)))))
clear s_record (suc n) = (tt, (tt, ((refl, tt), ((refl, tt), (other_letters refl, refl)))))
clear v_record n = (tt, (tt, (tt, tt)))
clear e_record n = refl
clear t_record n = (tt, (tt, (tt, ((tt, (tt, (tt, target_clear))), ((tt, (refl, (tt, target_clear))), (dash_number, refl))))))
clear a_record n = (refl, (tt, ((refl, (tt, tt)), ((refl, (tt, tt)), (other_letters refl, refl)))))
clear no_record n = refl

few : (r : Record) (n : ℕ) → n < most r → n ≤ MOST
unfolding every
few r n h = omega (arith, h, leb-true (most r) MOST (every_record (λ q. leb (most q) MOST) refl r n h))

letter_above : (r : Record) (n : ℕ) → n < most r → 45 ≤ name r
unfolding every
letter_above r n h = leb-true 45 (name r) (every_record (λ q. leb 45 (name q)) refl r n h)

-- ---- a line that was read

-- its row: its written form is the line, a text can state it, how many numbers it has, and that there is room for it
pub record RowKept (r : Record) (n : ℕ) (l : List ℕ) (row : List ℤ) : Type 0 where
  pub same : text_of_row r n row ≡ l
  pub ok : fits (form r n) 0 row ≡ true
  pub long : length row ≡ row_size r
  pub fits : n < most r

first_and_rest : (k : ℕ) (fs : List (List ℕ)) → 0 < k → letter_of (field fs 0) ≡ k → (k ∷ []) ∷ rest_of fs ≡ fs
first_and_rest k [] h e = absurd (omega arith)
first_and_rest k (f ∷ fs) h e = ap (λ (g : List ℕ). g ∷ fs) (letter_field f k h e)

-- a line whose mark is right is within the size of its kind
pub row_room : (r : Record) (n : ℕ) (fs : List (List ℕ)) → Good (line_by r n fs).mark → n < most r
unfolding line_by
row_room r n fs g = room_good n (most r) (worse_good (room n (most r)) (read_by (form r n) n (rest_of fs)).mark g).0

pub row_kept : (r : Record) (n : ℕ) (l : List ℕ) → letter_of (field (fields l) 0) ≡ name r → Good (line_by r n (fields l)).mark
    → RowKept r n l (line_by r n (fields l)).row
unfolding line_by text_of_row
row_kept r n l e g =
    let w = worse_good (room n (most r)) (read_by (form r n) n (rest_of (fields l))).mark g in
    let h = row_room r n (fields l) g in
    let a = letter_above r n h in
    let k = form_kept (form r n) n (rest_of (fields l)) (clear r n) w.1 in
    let s = at_self (read_by (form r n) n (rest_of (fields l))).row in
    record {
      same = ap (λ (fs : List (List ℕ)). joined ((name r ∷ []) ∷ fs)) (k.text 0 (read_by (form r n) n (rest_of (fields l))).row s)
          ∙ ap joined (first_and_rest (name r) (fields l) (omega arith) e) ∙ joined_fields l;
      ok = k.ok 0 (read_by (form r n) n (rest_of (fields l))).row s;
      long = k.long ∙ sized r n;
      fits = h;
    }

-- ---- a row that is written

module _ (r : Record) (n : ℕ) (row : List ℤ) (ok : fits (form r n) 0 row ≡ true) (room_for : n < most r) where
  all_free : (sep : ℕ) → sep < 45 → AllFree sep ((name r ∷ []) ∷ write_by (form r n) n 0 row)
  unfolding AllFree
  all_free sep s = (free_byte sep (name r) s (letter_above r n room_for), form_free sep s (form r n) n 0 row (clear r n) ok)

  pub row_free : Free LF (text_of_row r n row)
  unfolding text_of_row
  row_free = free_joined ((name r ∷ []) ∷ write_by (form r n) n 0 row) (all_free LF (omega arith))

  pub row_short : (t : ℕ) (ws : List ℕ) → length (numeral (pos n)) ≤ t → Sized ws 0 row
      → length (text_of_row r n row) ≤ suc (most_bytes t ws (form r n) 0)
  unfolding text_of_row joined
  row_short t ws m s = let l = form_short t ws n row m s (form r n) 0 (clear r n) ok in omega arith

  its_fields : fields (text_of_row r n row) ≡ (name r ∷ []) ∷ write_by (form r n) n 0 row
  unfolding text_of_row
  its_fields = fields_joined (name r ∷ []) (write_by (form r n) n 0 row) (all_free TAB (omega arith))

  pub row_named : record_of (fields (text_of_row r n row)) ≡ r
  row_named = rw its_fields (named r)

  pub row_reads : length row ≡ row_size r → line_by r n (fields (text_of_row r n row)) ≡ line 0 row
  unfolding line_by room worse
  row_reads long =
      rw (its_fields, form_reads (form r n) n 0 row (clear r n) (few r n room_for) ok, lt-ltb n (most r) room_for, sized r n, ← long)
      (ap (λ (zs : List ℤ). line 0 zs) (numbers_at 0 row row (at_self row)))
