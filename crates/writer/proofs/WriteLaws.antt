-- Laws of writing into a slice that is 0: where the text fits it stands there and 0 past it; where it does not, the pen's place lies past
-- the slice. In the order: where the text fits, and where it does not; what the caller sees. Assumes nothing.
use mathlib.Core.Path.{◌≡◌, refl, ap, ◌∙◌}
use mathlib.Core.Bool.{Bool, true, false}
use mathlib.Core.List.{List, [], ◌∷◌}
use mathlib.Core.Option.{Option, none, some}
use Prim.Native.Nat.{ℕ, zero, suc, ◌+◌, ◌-◌, ◌≤◌, ◌<◌}
use native.Mathlib.Omega.{arith}
use native.Mathlib.Numerals.{add-one}
use lib.Dec.{ltb}
use lib.IntN.{ℤ}
use lib.ListN.{length, set, replicate, drop, length-set, length-replicate}
use lib.Seq.{sets, sets-eq}
use borrow.Author.Tests.{lt-ltb, le-ltb, ltb-true, ltb-false}
use Rattle.meaning.specs.Lists.{padded}
use Rattle.meaning.specs.Rules.{failing_rule_of, verdict}
use Rattle.meaning.specs.Text.{answer, answer_of, count_of, lent_result, text_of, written_by, write, written, lent_bytes}
use Rattle.meaning.specs.declared.Answer.{Answer}
use Rattle.meaning.specs.declared.Written.{Written}
use Rattle.pen.specs.Pen.{Pen, pen, put_byte, put_all}
use Rattle.pen.proofs.Laws.{all_over}

-- ---- where the text fits, and where it does not

fits : (bs l : List ℕ) (n : ℕ) → n + length bs ≤ length l → put_all bs (pen l n) ≡ pen (sets l n bs) (n + length bs)
unfolding put_all put_byte
fits [] l n h = let e : n + 0 ≡ n = omega arith in rw e
fits (b ∷ bs) l n h =
    let e : n + 1 + length bs ≡ n + suc (length bs) = omega arith in
    let k : n + 1 + length bs ≤ length (set l n b) = rw length-set (omega arith) in
    rw (lt-ltb n (length l) (omega arith)) (fits bs (set l n b) (n + 1) k ∙ rw (e, add-one))

drop_zeros : (k n : ℕ) → drop k (replicate {A = ℕ} n 0) ≡ replicate (n - k) 0
drop_zeros zero n = let e : n - 0 ≡ n = omega arith in rw e
drop_zeros (suc k) zero = let e : 0 - suc k ≡ 0 = omega arith in rw e
drop_zeros (suc k) (suc n) = let e : suc n - suc k ≡ n - k = omega arith in rw e (drop_zeros k n)

-- ---- what the caller sees

module _
    (v : List ℤ) (allowed : failing_rule_of v ≡ none) (o l : List ℕ) (n e : ℕ) (o_is : o ≡ replicate n 0)
    (w : pen l e ≡ put_all (text_of v) (pen o 0))
  where
    w_zeros : pen l e ≡ put_all (text_of v) (pen (replicate n 0) 0)
    w_zeros = w ∙ ap (λ (x : List ℕ). put_all (text_of v) (pen x 0)) o_is

    zeros_length : length (replicate {A = ℕ} n 0) ≡ n
    zeros_length = length-replicate {A = ℕ} n 0

    tail : length (text_of v) ≤ n → sets (replicate n 0) 0 (text_of v) ≡ padded n 0 (text_of v)
    unfolding padded
    tail h =
        let z : 0 + length (text_of v) ≡ length (text_of v) = omega arith in
        sets-eq (text_of v) (replicate n 0) 0 (omega (arith, length-replicate {A = ℕ} n 0)) ∙ rw (drop_zeros, z)

    -- the end of a text that fits, and of one that does not
    ended_in : length (text_of v) ≤ n → (e ≡ length (text_of v)) × (l ≡ padded n 0 (text_of v))
    ended_in h =
        let b = zeros_length in
        let f = w_zeros ∙ fits (text_of v) (replicate n 0) 0 (omega arith) in
        let z : 0 + length (text_of v) ≡ length (text_of v) = omega arith in
        (ap (λ (p : Pen). p.at) f ∙ z, ap (λ (p : Pen). p.bytes) f ∙ tail h)

    ended_over : n < length (text_of v) → n < e
    ended_over h =
        let b = zeros_length in
        let x = all_over (text_of v) (replicate n 0) 0 (omega arith) in
        let q : e ≡ (put_all (text_of v) (pen (replicate n 0) 0)).at = ap (λ (p : Pen). p.at) w_zeros in
        omega arith

    abbrev Seen : Written → List ℕ → Type 0
    Seen r x = (r ≡ written v n) × (x ≡ lent_bytes n (write v n))

    abbrev told : Answer → ℕ → Written
    told a k = record { answer = a; length = k }

    seen_over : n < length (text_of v) → Seen (told (answer 13 0) 0) (replicate n 0)
    unfolding written write lent_bytes lent_result
    seen_over h = rw (allowed, lt-ltb n (length (text_of v)) h) (refl, refl)

    seen_in : length (text_of v) ≤ n → Seen (told (answer 0 0) (length (text_of v))) (padded n 0 (text_of v))
    unfolding written write lent_bytes lent_result
    seen_in h = rw (allowed, le-ltb n (length (text_of v)) h) (refl, refl)

    -- by the place after the last byte
    pub wrote_over : n < e → (m : List ℕ) (k : ℕ) → k ≡ n → m ≡ replicate k 0 → Seen (told (answer 13 0) 0) m
    wrote_over h m k ek em = go (ltb n (length (text_of v))) refl
      where
        go : (t : Bool) → ltb n (length (text_of v)) ≡ t → Seen (told (answer 13 0) 0) m
        go true x = rw (em, ek) (seen_over (ltb-true n (length (text_of v)) x))
        go false x = let j = ltb-false n (length (text_of v)) x in let i = (ended_in j).0 in absurd (omega arith)

    pub wrote_in : e ≤ n → Seen (told (answer 0 0) e) l
    wrote_in h = go (ltb n (length (text_of v))) refl
      where
        go : (t : Bool) → ltb n (length (text_of v)) ≡ t → Seen (told (answer 0 0) e) l
        go true x = let y = ended_over (ltb-true n (length (text_of v)) x) in absurd (omega arith)
        go false x = let i = ended_in (ltb-false n (length (text_of v)) x) in rw (i.0, i.1) (seen_in (ltb-false n (length (text_of v)) x))

-- ---- the verdict of the rules

module _ (v : List ℤ) (a : Answer) (e : a ≡ verdict (failing_rule_of v)) where
  pub wrote_refused : (n k : ℕ) (m : List ℕ) → (a.number ≡ 0 → ⊥) → k ≡ n → m ≡ replicate k 0
      → (record { answer = a; length = 0 } ≡ written v n) × (m ≡ lent_bytes n (write v n))
  unfolding verdict written write lent_bytes lent_result
  wrote_refused n k m h ek em = go (failing_rule_of v) e
    where
      go : (o : Option ℕ) → a ≡ verdict o
          → (◌≡◌ {A = Written} (record { answer = a; length = 0 })
          (record { answer = answer_of (written_by o v n); length = count_of (written_by o v n) }))
          × (m ≡ lent_result 0 n (written_by o v n))
      go none x = absurd (h (ap (λ (y : Answer). y.number) x))
      go (some r) x = (ap (λ (y : Answer). record { answer = y; length = 0 }) x, em ∙ ap (λ (i : ℕ). replicate i 0) ek)
