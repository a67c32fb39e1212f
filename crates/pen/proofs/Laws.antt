-- Laws of writing. Assumes nothing.
use mathlib.Core.Path.{◌≡◌, refl, sym, ap, ◌∙◌}
use mathlib.Core.Bool.{Bool, true, false, true≢false}
use mathlib.Core.List.{List, [], ◌∷◌, ◌++◌, append_assoc, append-nil}
use Prim.Native.Nat.{ℕ, ◌+◌, ◌/◌, ◌%◌, ◌<◌, ◌≤◌}
use native.Mathlib.Omega.{arith}
use borrow.Author.Tests.{lt-ltb, le-ltb, ltb-true, ltb-false}
use native.Mathlib.Numerals.{add-one}
use lib.Dec.{ltb}
use lib.ListN.{length, set, take, length-set}
use lib.Seq.{take-suc-set}
use lib.IntN.{ℤ, pos, negsuc, nat_abs}
use lib.Signed.{lt_z}
use Rattle.meaning.specs.Number.{digits, numeral}
use Rattle.pen.specs.Pen.{Pen, pen, put_if, put_byte, put_all}
use Rattle.round_trip.proofs.Numbers.{digits_one, digits_more}

pub all_append : (xs ys : List ℕ) (p : Pen) → put_all (xs ++ ys) p ≡ put_all ys (put_all xs p)
unfolding put_all
all_append [] ys p = refl
all_append (x ∷ xs) ys p = all_append xs ys (put_byte x p)

-- one part after the other: bytes, one byte, and the end
module _ (p : Pen) {a r : Pen} where
  pub then_bytes : (bs rest : List ℕ) → a ≡ put_all bs p → r ≡ put_all rest a → r ≡ put_all (bs ++ rest) p
  then_bytes bs rest e f = f ∙ ap (put_all rest) e ∙ sym (all_append bs rest p)

  pub then_byte : (b : ℕ) (rest : List ℕ) → a ≡ put_byte b p → r ≡ put_all rest a → r ≡ put_all (b ∷ rest) p
  unfolding put_all
  then_byte b rest e f = f ∙ ap (put_all rest) e

pub then_end : (p : Pen) {r : Pen} (b : ℕ) → r ≡ put_byte b p → r ≡ put_all (b ∷ []) p
unfolding put_all
then_end p b e = e

pub put_in : (b n : ℕ) (l : List ℕ) → n < length l → pen (set l n b) (n + 1) ≡ put_byte b (pen l n)
unfolding put_byte
put_in b n l h = rw (lt-ltb n (length l) h)

pub put_out : (b n : ℕ) (l : List ℕ) → length l ≤ n → pen l (length l + 1) ≡ put_byte b (pen l n)
unfolding put_byte
put_out b n l h = rw (le-ltb n (length l) h)

-- digits, one after the other
module _ (n : ℕ) (p q : Pen) where
  pub digits_put_one : n < 10 → q ≡ put_byte (48 + n) p → q ≡ put_all (digits n) p
  unfolding put_all
  digits_put_one h e = rw (digits_one n h, e)

  pub digits_put_more : (r : Pen) → 10 ≤ n → q ≡ put_all (digits (n / 10)) p → r ≡ put_byte (48 + n % 10) q → r ≡ put_all (digits n) p
  unfolding put_all
  digits_put_more r h e f = rw (digits_more n h, all_append, ← e, f)

-- a number: a minus, or none
module _ (z : ℤ) (n : ℕ) (p r : Pen) (e : n ≡ nat_abs z) where
  pub numeral_minus : (q : Pen) → lt_z z (pos 0) ≡ true → q ≡ put_byte 45 p → r ≡ put_all (digits n) q → r ≡ put_all (numeral z) p
  unfolding put_all numeral
  numeral_minus q t f g = go z e t
    where
      go : (z : ℤ) → n ≡ nat_abs z → lt_z z (pos 0) ≡ true → r ≡ put_all (numeral z) p
      go (pos k) e t = let h = ltb-true k 0 t in absurd (omega arith)
      go (negsuc k) e t = g ∙ rw (f, e)

  pub numeral_plain : lt_z z (pos 0) ≡ false → r ≡ put_all (digits n) p → r ≡ put_all (numeral z) p
  unfolding put_all numeral
  numeral_plain t g = go z e t
    where
      go : (z : ℤ) → n ≡ nat_abs z → lt_z z (pos 0) ≡ false → r ≡ put_all (numeral z) p
      go (pos k) e t = g ∙ rw e
      go (negsuc k) e t = absurd (true≢false t)

-- the slice keeps its length
byte_long : (b : ℕ) (p : Pen) → length (put_byte b p).bytes ≡ length p.bytes
unfolding put_byte
byte_long b p = go (ltb p.at (length p.bytes))
  where
    go : (t : Bool) → length (put_if t b p).bytes ≡ length p.bytes
    go true = length-set p.bytes p.at b
    go false = refl

pub all_long : (bs : List ℕ) (p : Pen) → length (put_all bs p).bytes ≡ length p.bytes
unfolding put_all
all_long [] p = refl
all_long (b ∷ bs) p = all_long bs (put_byte b p) ∙ byte_long b p

-- where there is room, the bytes stand behind what was there up to the place, and the next place is behind them
pub record Stands (bs : List ℕ) (p q : Pen) : Type 0 where
  pub next : q.at ≡ p.at + length bs
  pub long : length q.bytes ≡ length p.bytes
  pub bytes : take q.at q.bytes ≡ take p.at p.bytes ++ bs

one_more : (l : List ℕ) (n b : ℕ) → n < length l → take (n + 1) (set l n b) ≡ take n l ++ (b ∷ [])
one_more l n b h = rw add-one (take-suc-set l n b h)

pub all_stands : (bs l : List ℕ) (n : ℕ) → n + length bs ≤ length l → Stands bs (pen l n) (put_all bs (pen l n))
unfolding put_all
all_stands [] l n h = record { next = omega arith; long = refl; bytes = sym (append-nil (take n l)) }
all_stands (b ∷ bs) l n h =
    let k : n < length l = omega arith in
    let e : length (set l n b) ≡ length l = length-set l n b in
    rw (← put_in b n l k) (go (put_all bs (pen (set l n b) (n + 1))) (all_stands bs (set l n b) (n + 1) (omega arith)))
  where
    go : (q : Pen) → Stands bs (pen (set l n b) (n + 1)) q → Stands (b ∷ bs) (pen l n) q
    go q r = record {
      next = r.next ∙ omega arith;
      long = r.long ∙ length-set l n b;
      bytes = r.bytes ∙ rw (one_more l n b (omega arith), append_assoc);
    }

-- where there is none, the place lies past the slice
pub all_over : (bs l : List ℕ) (n : ℕ) → length l < n + length bs → length l < (put_all bs (pen l n)).at
unfolding put_all put_byte
all_over [] l n h = omega arith
all_over (b ∷ bs) l n h = go (ltb n (length l)) refl (λ m k. all_over bs m (n + 1) k) (λ k. all_over bs l (length l + 1) k)
  where
    go : (t : Bool) → ltb n (length l) ≡ t → ((m : List ℕ) → length m < n + 1 + length bs → length m < (put_all bs (pen m (n + 1))).at)
        → (length l < length l + 1 + length bs → length l < (put_all bs (pen l (length l + 1))).at)
        → length l < (put_all bs (put_if t b (pen l n))).at
    go true e f g =
        let s : length (set l n b) ≡ length l = length-set l n b in
        let k = f (set l n b) (rw s (omega arith)) in
        rw s at k
    go false e f g = g (omega arith)

-- so a place within the slice says that all of the bytes stand there
pub all_stood : (bs l : List ℕ) (n : ℕ) (q : Pen) → q ≡ put_all bs (pen l n) → q.at ≤ length l → take q.at q.bytes ≡ take n l ++ bs
all_stood bs l n q e h = rw e (all_stands bs l n (go (ltb (length l) (n + length bs)) refl)).bytes
  where
    go : (t : Bool) → ltb (length l) (n + length bs) ≡ t → n + length bs ≤ length l
    go true k =
        let past = all_over bs l n (ltb-true (length l) (n + length bs) k) in
        let z : q.at ≡ (put_all bs (pen l n)).at = ap (λ p. p.at) e in
        absurd (omega arith)
    go false k = ltb-false (length l) (n + length bs) k
