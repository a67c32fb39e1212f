-- Laws of reading a text's rows: one for each way out of the code. Assumes nothing.
use mathlib.Core.Path.{◌≡◌, refl, sym, ap, ◌∙◌, subst}
use mathlib.Core.Bool.{Bool, true, false, cond}
use mathlib.Core.List.{List, [], ◌∷◌}
use Prim.Native.Nat.{ℕ, zero, suc, ◌+◌, ◌≤◌, ◌<◌}
use native.Mathlib.Omega.{arith}
use lib.Dec.{leb, ltb}
use lib.IntN.{ℤ, pos}
use lib.ListN.{length, replicate, length-replicate}
use borrow.Author.Tests.{lt-ltb, le-ltb, le-leb, lt-leb}
use Rattle.sizes.specs.Sizes.{TEXT}
use Rattle.meaning.specs.Value.{Rows, VALUE}
use Rattle.meaning.specs.Split.{fields, lines}
use Rattle.meaning.specs.Line.{line_of}
use Rattle.meaning.specs.Grammar.{e_record}
use Rattle.meaning.specs.Text.{Result, done, refused, answer, answer_of, no_rows, turns_of, with_row, further}
use Rattle.meaning.specs.Text.{record_of, walk}
use Rattle.meaning.specs.Text.{read_unless, read_text}
use Rattle.meaning.specs.declared.Answer.{Answer}
use Rattle.reader.specs.Scanned.{zeros, Scanned}
use Rattle.reader.specs.RowsRead.{RowsRead}

-- ---- a list filled with 0
pub zeros_are : (l : List ℤ) (n : ℕ) → l ≡ replicate n (pos 0) → l ≡ zeros n
unfolding zeros
zeros_are l n e = e

-- ---- the walk refuses with 1 or 2, never with 0
pub never_zero : (n : ℕ) (w : Rows) (ls : List (List ℕ)) (p : ℕ) → walk n w ls ≡ refused 0 p → ⊥
unfolding walk
never_zero n w [] p e = let z : ◌≡◌ {A = ℕ} 0 1 = cc in absurd (omega arith)
never_zero n w ([] ∷ []) p e = go (leb 1 (length (w e_record))) e
  where
    go : (b : Bool) → cond b (done w) (refused 1 n) ≡ refused 0 p → ⊥
    go true e = let z : ◌≡◌ {A = ℕ} 0 1 = cc in absurd (omega arith)
    go false e = let z : ◌≡◌ {A = ℕ} 0 1 = cc in absurd (omega arith)
never_zero n w ((b ∷ bs) ∷ []) p e = let z : ◌≡◌ {A = ℕ} 0 1 = cc in absurd (omega arith)
never_zero n w (line ∷ next ∷ rest) p e = go (line_of (record_of (fields line)) (turns_of w) (fields line)).mark e (λ v. never_zero
    (n + 1) v (next ∷ rest) p)
  where
    go : (m : ℕ) → further m n (with_row (record_of (fields line)) (line_of (record_of (fields line)) (turns_of w) (fields line)).row w)
        (λ v. walk (n + 1) v (next ∷ rest)) ≡ refused 0 p
        → ((v : Rows) → walk (n + 1) v (next ∷ rest) ≡ refused 0 p → ⊥) → ⊥
    go zero e ih = ih (with_row (record_of (fields line)) (line_of (record_of (fields line)) (turns_of w) (fields line)).row w) e
    go (suc m) e ih = let z : ◌≡◌ {A = ℕ} 0 1 = cc in absurd (omega arith)

pub read_never_zero : (s : List ℕ) (p : ℕ) → read_text s ≡ refused 0 p → ⊥
unfolding read_text
read_never_zero s p e = go (ltb TEXT (length s)) e
  where
    go : (b : Bool) → read_unless b s ≡ refused 0 p → ⊥
    go true e = let z : ◌≡◌ {A = ℕ} 0 1 = cc in absurd (omega arith)
    go false e = never_zero 1 no_rows (lines s) p e

-- ---- the whole
module _ (s : List ℕ) (n : ℕ) where
  read_walk : length s ≤ TEXT → read_text s ≡ walk 1 no_rows (lines s)
  unfolding read_text
  read_walk h = rw (le-ltb TEXT (length s) h)

  pub rows_long : (l : List ℤ) → TEXT < length s → l ≡ zeros n → RowsRead (read_text s) n (answer 2 0) l
  unfolding read_text
  rows_long l h e = rw (lt-ltb TEXT (length s) h) (record { answer = refl; numbers = e })

  module _ (h : length s ≤ TEXT) (a : Answer) (l : List ℤ) (q : Scanned (walk 1 no_rows (lines s)) a n l) where
    by_cases : (P : Result Rows → Type 0) → ((r : Rows) → walk 1 no_rows (lines s) ≡ done r → P (done r)) → ((b p : ℕ)
        → walk 1 no_rows (lines s) ≡ refused b p → P (refused b p)) → P (read_text s)
    by_cases P f g = rw (read_walk h) (go (walk 1 no_rows (lines s)) refl)
      where
        go : (o : Result Rows) → walk 1 no_rows (lines s) ≡ o → P o
        go (done r) e = f r e
        go (refused b p) e = g b p e

    pub rows_fault : (l' : List ℤ) → (a.number ≡ 0 → ⊥) → l' ≡ zeros n → RowsRead (read_text s) n a l'
    rows_fault l' z e = by_cases (λ o. RowsRead o n a l')
        (λ r f. absurd (z (ap (λ (a : Answer). a.number) (q.answer ∙ ap answer_of f))))
        (λ b p f. record { answer = q.answer ∙ ap answer_of f; numbers = e })

    module _ (z : a.number ≡ 0) where
      no_fault : (b p : ℕ) → walk 1 no_rows (lines s) ≡ refused b p → ⊥
      no_fault b p f =
          let k : b ≡ 0 = sym (ap (λ (a : Answer). a.number) (q.answer ∙ ap answer_of f)) ∙ z in
          never_zero 1 no_rows (lines s) p (f ∙ ap (λ (b : ℕ). refused b p) k)

      pub rows_few : (l' : List ℤ) → n < VALUE → l' ≡ zeros n → RowsRead (read_text s) n (answer 3 0) l'
      rows_few l' v e = by_cases (λ o. RowsRead o n (answer 3 0) l')
          (λ r f. record { answer = rw (lt-leb VALUE n v); numbers = rw (lt-leb VALUE n v) e })
          (λ b p f. absurd (no_fault b p f))

      pub rows_done : VALUE ≤ n → RowsRead (read_text s) n a l
      rows_done v = by_cases (λ o. RowsRead o n a l)
          (λ r f. record {
            answer = rw (le-leb VALUE n v) (q.answer ∙ ap answer_of f);
            numbers = rw (le-leb VALUE n v)
                (q.numbers r f v);
          })
          (λ b p f. absurd (no_fault b p f))

-- ---- numbers that were set to 0 before
pub all_zero : (l : List ℤ) (k : ℕ) → l ≡ zeros k → l ≡ zeros (length l)
unfolding zeros
all_zero l k e = let h : length l ≡ k = ap length e ∙ length-replicate k (pos 0) in rw h e

-- all 0 again after a call that kept their number
pub zero_again : (l : List ℤ) (k n : ℕ) → k ≡ n → l ≡ zeros k → l ≡ zeros n
zero_again l k n h e = e ∙ ap zeros h

pub scanned_at : {o : Result Rows} {a : Answer} {k n : ℕ} {l : List ℤ} → k ≡ n → Scanned o a k l → Scanned o a n l
scanned_at {o} {a} {k} {n} {l} e q = subst (λ (i : ℕ). Scanned o a i l) e q

pub zero_length : (l : List ℤ) (k : ℕ) → l ≡ zeros k → length l ≡ k
unfolding zeros
zero_length l k e = ap length e ∙ length-replicate k (pos 0)

pub few_at : {k n : ℕ} → k ≡ n → k < VALUE → n < VALUE
few_at e h = omega arith

pub enough_at : {k n : ℕ} → k ≡ n → VALUE ≤ k → VALUE ≤ n
enough_at e h = omega arith
