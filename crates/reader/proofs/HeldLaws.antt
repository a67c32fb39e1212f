-- Laws of what is held while a text is read: the rows so far and their counts belong together, and one line more keeps them so. Assumes
-- nothing.
use mathlib.Core.Path.{◌≡◌, refl, fun_ext}
use mathlib.Core.Bool.{Bool, true, false}
use mathlib.Core.List.{List, [], ◌∷◌, ◌++◌}
use Prim.Native.Nat.{◌+◌, ◌≤◌, ◌<◌}
use native.Mathlib.Omega.{arith}
use lib.IntN.{ℤ}
use lib.ListN.{length, length-append}
use Rattle.laws.proofs.Parts.{same_true}
use Rattle.meaning.specs.Grammar.{Record, s_record, v_record, e_record, t_record, a_record, no_record, most, row_size, same}
use Rattle.meaning.specs.Value.{Rows}
use Rattle.meaning.specs.Text.{turns_of, no_rows, with_row}
use Rattle.round_trip.specs.Rows.{AllLong, Fit}
use Rattle.round_trip.proofs.Shaped.{long_more, own_row, other_row}
use Rattle.reader.specs.Order.{turn_of, turns_in, turns_after, Within}
use Rattle.reader.specs.declared.order.Turns.{Turns}

-- ---- counts and rows

pub fit_start : Fit no_rows
unfolding AllLong
fit_start = record { long = λ r. tt; few = λ r. omega arith }

module _ (rows : Rows) (f : Fit rows) where
  pub counts_are : turn_of (turns_in rows) ≡ turns_of rows
  counts_are = fun_ext go
    where
      go : (r : Record) → turn_of (turns_in rows) r ≡ length (rows r)
      go s_record = refl
      go v_record = refl
      go e_record = refl
      go t_record = refl
      go a_record = refl
      go no_record = let h = f.few no_record in omega arith

  pub within_fit : (t : Turns) → t ≡ turns_in rows → Within t
  within_fit t e = rw e (record {
    states = f.few s_record;
    vars = f.few v_record;
    events = f.few e_record;
    transitions = f.few t_record;
    actions = f.few a_record;
  })

  -- ---- one row more, of any kind

  module _ (k : Record) (y : List ℤ) (room : length (rows k) < most k) (long : length y ≡ row_size k) where
    one_longer : (xs : List (List ℤ)) → length (xs ++ (y ∷ [])) ≡ length xs + 1
    one_longer xs = length-append xs (y ∷ [])

    pub next_fit : Fit (with_row k y rows)
    next_fit = record { long = λ q. all_long q (same k q) refl; few = λ q. not_many q (same k q) refl }
      where
        all_long : (q : Record) (t : Bool) → same k q ≡ t → AllLong (row_size q) (with_row k y rows q)
        all_long q true e =
            let i : k ≡ q = same_true k q e in
            rw (← i, own_row rows k y) (long_more (row_size k) (rows k) y (f.long k) long)
        all_long q false e = rw (other_row rows k y q e) (f.long q)

        not_many : (q : Record) (t : Bool) → same k q ≡ t → length (with_row k y rows q) ≤ most q
        not_many q true e = let i : k ≡ q = same_true k q e in rw (← i, own_row rows k y, one_longer (rows k)) (omega arith)
        not_many q false e = rw (other_row rows k y q e) (f.few q)

pub next_turns : (rows : Rows) (k : Record) (y : List ℤ) → turns_after k (turns_in rows) ≡ turns_in (with_row k y rows)
unfolding turns_after with_row
next_turns rows s_record y = rw (length-append (rows s_record) (y ∷ []))
next_turns rows v_record y = rw (length-append (rows v_record) (y ∷ []))
next_turns rows e_record y = rw (length-append (rows e_record) (y ∷ []))
next_turns rows t_record y = rw (length-append (rows t_record) (y ∷ []))
next_turns rows a_record y = rw (length-append (rows a_record) (y ∷ []))
next_turns rows no_record y = refl
