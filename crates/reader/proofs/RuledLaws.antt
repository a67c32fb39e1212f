-- Laws of reading a text with its rules: one for each way out of the code. Assumes nothing.
use mathlib.Core.Path.{◌≡◌, refl, sym, ap, ◌∙◌}
use mathlib.Core.Bool.{Bool, true, false}
use mathlib.Core.List.{List, ◌++◌}
use mathlib.Core.Option.{Option, none, some}
use Prim.Native.Nat.{ℕ, ◌-◌, ◌≤◌}
use native.Mathlib.Omega.{arith}
use lib.Dec.{leb}
use lib.IntN.{ℤ, pos}
use lib.ListN.{length, replicate, length-append}
use borrow.Author.Tests.{leb-true}
use Rattle.meaning.specs.Lists.{padded}
use Rattle.meaning.specs.Value.{Rows, VALUE, chart_by, chart_of}
use Rattle.meaning.specs.Rules.{failing_rule, verdict}
use Rattle.meaning.specs.Text.{Result, done, refused, answer, answer_of, lent_result, lent_numbers, read_text, value_of, by_rule}
use Rattle.meaning.specs.Text.{checked_if}
use Rattle.meaning.specs.Text.{checked, read}
use Rattle.meaning.specs.declared.Answer.{Answer}
use Rattle.round_trip.specs.Rows.{Whole}
use Rattle.round_trip.proofs.Values.{rows_back, value_length}
use Rattle.reader.specs.Scanned.{zeros}
use Rattle.reader.specs.RowsRead.{roomy_if, roomy, Left, RowsRead}
use Rattle.reader.proofs.LayLaws.{length_zeros}
use Rattle.reader.proofs.ReadLaws.{read_never_zero}

-- what the caller sees of an outcome
abbrev pub Seen : ℕ → Result (List ℤ) → Answer → List ℤ → Type 0
Seen n o a l = (a ≡ answer_of o) × (l ≡ lent_numbers n o)

seen_refused : (n b p : ℕ) (l : List ℤ) → l ≡ zeros n → Seen n (refused b p) (answer b p) l
unfolding lent_numbers lent_result zeros
seen_refused n b p l e = (refl, e)

seen_done : (n : ℕ) (r : Rows) (l : List ℤ) → Whole r → l ≡ value_of r ++ zeros (n - VALUE) → Seen n (done (value_of r)) (answer 0 0) l
unfolding lent_numbers lent_result padded zeros
seen_done n r l f e = (refl, e ∙ ap (λ (k : ℕ). value_of r ++ replicate (n - k) (pos 0)) (sym (value_length r f.fit)))

-- ---- the lines were refused
fault_by : (n : ℕ) (o : Result Rows) (a : Answer) (l : List ℤ) → RowsRead o n a l → (a.number ≡ 0 → ⊥) → Seen n (checked n o) a l
fault_by n (done r) a l q z = go (leb VALUE n) q.answer q.numbers
  where
    go : (b : Bool) → a ≡ answer_of (roomy_if b r) → Left (roomy_if b r) n l → Seen n (checked_if b r) a l
    go true e f = absurd (z (ap (λ (a : Answer). a.number) e))
    go false e f = rw e (seen_refused n 3 0 l f)
fault_by n (refused b p) a l q z = rw q.answer (seen_refused n b p l q.numbers)

module _ (s : List ℕ) (n : ℕ) (a : Answer) (l : List ℤ) (q : RowsRead (read_text s) n a l) where
  pub read_fault : (a.number ≡ 0 → ⊥) → Seen n (read s n) a l
  unfolding read
  read_fault z = fault_by n (read_text s) a l q z

  -- ---- the lines have passed: the rules decide
  module _ (z : a.number ≡ 0) (v : Answer) (w : v ≡ verdict (failing_rule (chart_of l))) where
    chart_is : (r : Rows) → Whole r → l ≡ value_of r ++ zeros (n - VALUE) → chart_of l ≡ chart_by r
    unfolding chart_of
    chart_is r f e = rw (e, rows_back r f.fit (zeros (n - VALUE)) f.one)

    long : (r : Rows) → Whole r → VALUE ≤ n → l ≡ value_of r ++ zeros (n - VALUE) → length l ≡ n
    long r f h e =
        let i = value_length r f.fit in
        let j = length_zeros (n - VALUE) in
        ap length e ∙ length-append (value_of r) (zeros (n - VALUE)) ∙ omega arith

    by_verdict : (r : Rows) → Whole r → VALUE ≤ n → l ≡ value_of r ++ zeros (n - VALUE) → (o : Option ℕ) → v ≡ verdict o → (l' : List ℤ)
        → ((v.number ≡ 0 → ⊥) → l' ≡ zeros (length l)) → (v.number ≡ 0 → l' ≡ l) → Seen n (by_rule o r) v l'
    unfolding verdict
    by_verdict r f h e none u l' bad good = rw u (seen_done n r l' f (good (ap (λ (a : Answer). a.number) u) ∙ e))
    by_verdict r f h e (some k) u l' bad good =
        let m : v.number ≡ 3 = ap (λ (a : Answer). a.number) u in
        rw u (seen_refused n 3 k l' (bad (λ i. absurd (omega arith)) ∙ ap zeros (long r f h e)))

    pub read_ruled : (l' : List ℤ) → ((v.number ≡ 0 → ⊥) → l' ≡ zeros (length l)) → (v.number ≡ 0 → l' ≡ l) → Seen n (read s n) v l'
    unfolding read
    read_ruled l' bad good = by (read_text s) refl q.answer q.numbers
      where
        passed : (r : Rows) (b : Bool) → leb VALUE n ≡ b → a ≡ answer_of (roomy_if b r) → Left (roomy_if b r) n l
            → Seen n (checked_if b r) v l'
        passed r true h i j =
            by_verdict r j.1 (leb-true VALUE n h) j.0 (failing_rule (chart_by r))
            (w ∙ ap (λ c. verdict (failing_rule c)) (chart_is r j.1 j.0)) l' bad good
        passed r false h i j = let m : ◌≡◌ {A = ℕ} 3 0 = sym (ap (λ (a : Answer). a.number) i) ∙ z in absurd (omega arith)

        by : (o : Result Rows) → read_text s ≡ o → a ≡ answer_of (roomy n o) → Left (roomy n o) n l → Seen n (checked n o) v l'
        by (done r) e i j = passed r (leb VALUE n) refl i j
        by (refused b p) e i j =
            let m : b ≡ 0 = sym (ap (λ (a : Answer). a.number) i) ∙ z in
            absurd (read_never_zero s p (e ∙ ap (λ (b : ℕ). refused b p) m))
