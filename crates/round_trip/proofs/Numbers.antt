-- Numbers of the text both ways: a number of the range, written, reads as itself; a field that reads as a number is its written form.
-- In the order: tests; the writer without its count; reading what is written; writing what was read. Assumes nothing.
use mathlib.Core.Path.{◌≡◌, refl, ap, ◌∙◌}
use mathlib.Core.Bool.{Bool, true, false, cond}
use mathlib.Core.List.{List, [], ◌∷◌, ◌++◌, append_assoc, append-nil}
use Rattle.std.proofs.Common.{Option, None, Some, Result, Ok, Err}
use Prim.Native.Nat.{ℕ, zero, suc, ◌+◌, ◌-◌, ◌*◌, ◌/◌, ◌%◌, ◌≤◌, ◌<◌, min}
use native.Mathlib.Omega.{arith}
use lib.Dec.{ltb, eqb}
use lib.IntN.{ℤ, pos, negsuc, nat_abs}
use lib.ListN.{length, length-append}
use borrow.Author.Tests.{ltb-true, ltb-false, lt-ltb, le-ltb, leb-true, le-leb, ne_eqb, eqb-true, eqb-false}
use Rattle.sizes.specs.Sizes.{MOST}
use Rattle.numbers.specs.Range.{in_range, lowest, highest}
use Rattle.numbers.specs.Reference.{ref, NOWHERE}
use Rattle.numbers.proofs.Ranges.{within_low, within_high, within_both}
use Rattle.meaning.specs.Number.{BEYOND, value, alone, unless_zero, natural, capped, natural_of, with_no_sign, minus, signed, number_of}
use Rattle.meaning.specs.Number.{by_size, digits_in, digits, numeral}
use Rattle.meaning.specs.declared.Fault.{Fault}
use Rattle.meaning.specs.declared.Fault.TheVariants.{Wrong, Beyond}

-- two numbers that differ are not equal: what `cc` shows of two constructors
pub no : {A : Type 0} → ◌≡◌ {A = ℕ} 0 1 → A
no e = absurd (omega arith)

-- ---- the range, by the size of a number

pub in_range_size : (z : ℤ) → in_range z ≡ true → nat_abs z ≤ MOST
unfolding in_range
in_range_size (pos n) e = leb-true n MOST (within_high lowest (pos n) highest e)
in_range_size (negsuc n) e = let h = leb-true n (MOST - 1) (within_low lowest (negsuc n) highest e) in omega arith

pub size_in_range : (z : ℤ) → nat_abs z ≤ MOST → in_range z ≡ true
unfolding in_range
size_in_range (pos n) h = within_both lowest (pos n) highest refl (le-leb n MOST h)
size_in_range (negsuc n) h = within_both lowest (negsuc n) highest (le-leb n (MOST - 1) (omega arith)) refl

-- ---- the writer without its count

digits_enough : (f g n : ℕ) → n < f → n < g → digits_in f n ≡ digits_in g n
unfolding digits_in
digits_enough zero g n p q = absurd (omega arith)
digits_enough (suc f) zero n p q = absurd (omega arith)
digits_enough (suc f) (suc g) n p q = go (ltb n 10) refl (λ h. digits_enough f g (n / 10) (omega arith) (omega arith))
  where
    go : (t : Bool) → ltb n 10 ≡ t → (10 ≤ n → digits_in f (n / 10) ≡ digits_in g (n / 10))
        → by_size t n (λ m. digits_in f m) ≡ by_size t n (λ m. digits_in g m)
    go true e ih = refl
    go false e ih = rw (ih (ltb-false n 10 e))

pub digits_one : (n : ℕ) → n < 10 → digits n ≡ (48 + n) ∷ []
unfolding digits digits_in
digits_one n h = rw (lt-ltb n 10 h)

pub digits_more : (n : ℕ) → 10 ≤ n → digits n ≡ digits (n / 10) ++ ((48 + n % 10) ∷ [])
unfolding digits digits_in
digits_more n h = rw (le-ltb n 10 h, digits_enough n (suc (n / 10)) (n / 10) (omega arith) (omega arith))

-- one digit more
pub digits_next : (a d : ℕ) → 0 < a → d < 10 → digits (a * 10 + d) ≡ digits a ++ ((48 + d) ∷ [])
digits_next a d p q =
    let e : (a * 10 + d) / 10 ≡ a = omega arith in
    let m : (a * 10 + d) % 10 ≡ d = omega arith in
    digits_more (a * 10 + d) (omega arith) ∙ rw (e, m)

-- a fact of every number, by its digits
pub by_digits : (P : ℕ → Type 0) → ((n : ℕ) → n < 10 → P n) → ((n : ℕ) → 10 ≤ n → P (n / 10) → P n) → (n : ℕ) → P n
by_digits P one more n = go (suc n) n (omega arith)
  where
    turn : (n : ℕ) (t : Bool) → ltb n 10 ≡ t → (10 ≤ n → P (n / 10)) → P n
    turn n true e ih = one n (ltb-true n 10 e)
    turn n false e ih = let h = ltb-false n 10 e in more n h (ih h)

    go : (f n : ℕ) → n < f → P n
    go zero n h = absurd (omega arith)
    go (suc f) n h = turn n (ltb n 10) refl (λ k. go f (n / 10) (omega arith))

-- ---- one digit read

value_in : (a b : ℕ) (bs : List ℕ) → 48 ≤ b → b ≤ 57 → value a (b ∷ bs) ≡ value (min BEYOND (a * 10 + (b - 48))) bs
unfolding value
value_in a b bs p q = rw (le-ltb b 48 p, le-ltb 57 b q)

-- a byte that is read over is a digit
pub record Digit (a b m : ℕ) (bs : List ℕ) : Type 0 where
  pub least : 48 ≤ b
  pub greatest : b ≤ 57
  pub rest : value (min BEYOND (a * 10 + (b - 48))) bs ≡ Some m

digit_is : (a b m : ℕ) (bs : List ℕ) → value a (b ∷ bs) ≡ Some m → Digit a b m bs
unfolding value
digit_is a b m bs e = go (ltb b 48) (ltb 57 b) refl refl e
  where
    go : (s t : Bool) → ltb b 48 ≡ s → ltb 57 b ≡ t → cond s None (cond t None (value (min BEYOND (a * 10 + (b - 48))) bs)) ≡ Some m
        → Digit a b m bs
    go true t p q e = no cc
    go false true p q e = no cc
    go false false p q e = record { least = ltb-false b 48 p; greatest = ltb-false 57 b q; rest = e }

-- ---- reading what is written

-- the last digit
value_last : (a m d : ℕ) (xs : List ℕ) → d < 10 → value a xs ≡ Some m → value a (xs ++ ((48 + d) ∷ [])) ≡ Some (min BEYOND (m * 10 + d))
unfolding value
value_last a m d [] h e =
    let k : a ≡ m = cc in
    let n : min BEYOND (a * 10 + (48 + d - 48)) ≡ min BEYOND (m * 10 + d) = omega arith in
    value_in a (48 + d) [] (omega arith) (omega arith) ∙ ap Some n
value_last a m d (b ∷ bs) h e =
    let w = digit_is a b m bs e in
    value_in a b (bs ++ ((48 + d) ∷ [])) w.least w.greatest ∙ value_last (min BEYOND (a * 10 + (b - 48))) m d bs h w.rest

-- the first byte of what is written
pub record Lead (n : ℕ) (l : List ℕ) : Type 0 where
  pub head : ℕ
  pub tail : List ℕ
  pub is : l ≡ head ∷ tail
  pub least : 48 ≤ head
  pub greatest : head ≤ 57
  pub zero_is : head ≡ 48 → n ≡ 0

pub lead : (n : ℕ) → Lead n (digits n)
lead = by_digits (λ n. Lead n (digits n))
    (λ n h. record {
      head = 48 + n;
      tail = [];
      is = digits_one n h;
      least = omega arith;
      greatest = omega arith;
      zero_is = λ e.
          omega arith;
    })
    (λ n h r. record {
      head = r.head;
      tail = r.tail ++ ((48 + n % 10) ∷ []);
      is = digits_more n h
          ∙ rw r.is;
      least = r.least;
      greatest = r.greatest;
      zero_is = λ e. let z = r.zero_is e in absurd (omega arith);
    })

value_none : (a : ℕ) → value a [] ≡ Some a
unfolding value
value_none a = refl

value_digits : (n : ℕ) → n ≤ MOST → value 0 (digits n) ≡ Some n
value_digits = by_digits (λ n. n ≤ MOST → value 0 (digits n) ≡ Some n)
    (λ n h k. let e : min BEYOND (0 * 10 + (48 + n - 48)) ≡ n = omega arith in
    rw (digits_one n h) (value_in 0 (48 + n) [] (omega arith) (omega arith) ∙ value_none (min BEYOND (0 * 10 + (48 + n - 48))) ∙ ap Some e))
    (λ n h r k. let e : min BEYOND (n / 10 * 10 + n % 10) ≡ n = omega arith in
    rw (digits_more n h) (value_last 0 (n / 10) (n % 10) (digits (n / 10)) (omega arith) (r (omega arith)) ∙ ap Some e))

natural_zero : natural (digits 0) ≡ Some 0
unfolding natural digits digits_in
natural_zero = refl

natural_more : (b : ℕ) (bs : List ℕ) → (b ≡ 48 → ⊥) → natural (b ∷ bs) ≡ value 0 (b ∷ bs)
unfolding natural
natural_more b bs h = rw (ne_eqb b 48 h)

natural_digits : (n : ℕ) → n ≤ MOST → natural (digits n) ≡ Some n
natural_digits n k = go n (lead n) (value_digits n k)
  where
    go : (n : ℕ) → Lead n (digits n) → value 0 (digits n) ≡ Some n → natural (digits n) ≡ Some n
    go zero l v = natural_zero
    go (suc n) l v =
        let h : l.head ≡ 48 → ⊥ = λ e. let z = l.zero_is e in omega arith in
        rw l.is (natural_more l.head l.tail h ∙ (rw l.is at v))

natural_of_digits : (n : ℕ) → n ≤ MOST → natural_of (digits n) ≡ Ok n
unfolding natural_of capped
natural_of_digits n h = rw (natural_digits n h, le-ltb MOST n h)

-- a number of the range, written, reads as itself
pub number_numeral : (z : ℤ) → nat_abs z ≤ MOST → number_of (numeral z) ≡ Ok z
unfolding number_of numeral
number_numeral (pos n) h =
    let l = lead n in
    let k : l.head ≡ 45 → ⊥ = λ e. let z = l.least in omega arith in
    let v : natural_of (l.head ∷ l.tail) ≡ Ok n = rw (← l.is, natural_of_digits n h) in
    rw l.is (rw (ne_eqb l.head 45 k, v))
number_numeral (negsuc n) h = rw (natural_of_digits (suc n) h)

pub number_back : (z : ℤ) → in_range z ≡ true → number_of (numeral z) ≡ Ok z
number_back z e = number_numeral z (in_range_size z e)

-- ---- writing what was read

-- digits that follow a number beyond the range stay beyond it
value_beyond : (a m : ℕ) (bs : List ℕ) → MOST < a → value a bs ≡ Some m → MOST < m
unfolding value
value_beyond a m [] h e = let k : a ≡ m = cc in omega arith
value_beyond a m (b ∷ bs) h e = value_beyond (min BEYOND (a * 10 + (b - 48))) m bs (omega arith) (digit_is a b m bs e).rest

digits_after : (a m : ℕ) (bs : List ℕ) → 0 < a → m ≤ MOST → value a bs ≡ Some m → digits m ≡ digits a ++ bs
unfolding value
digits_after a m [] h k e = let q : m ≡ a = cc in rw (q, append-nil)
digits_after a m (b ∷ bs) h k e = go (ltb MOST (a * 10 + (b - 48))) refl (λ n p. digits_after n m bs p k)
  where
    w : Digit a b m bs
    w = digit_is a b m bs e

    go : (t : Bool) → ltb MOST (a * 10 + (b - 48)) ≡ t → ((n : ℕ) → 0 < n → value n bs ≡ Some m → digits m ≡ digits n ++ bs)
        → digits m ≡ digits a ++ (b ∷ bs)
    go true p ih =
        let h = ltb-true MOST (a * 10 + (b - 48)) p in
        let z = value_beyond (min BEYOND (a * 10 + (b - 48))) m bs (omega arith) w.rest in
        absurd (omega arith)
    go false p ih =
        let u = ltb-false MOST (a * 10 + (b - 48)) p in
        let x = w.least in
        let y = w.greatest in
        let c : 48 + (b - 48) ≡ b = omega arith in
        let s : min BEYOND (a * 10 + (b - 48)) ≡ a * 10 + (b - 48) = omega arith in
        ih (a * 10 + (b - 48)) (omega arith) (rw s at w.rest) ∙ rw (digits_next a (b - 48) h (omega arith), c, append_assoc)

natural_writes : (m : ℕ) (bs : List ℕ) → m ≤ MOST → natural bs ≡ Some m → digits m ≡ bs
unfolding natural
natural_writes m [] k e = no cc
natural_writes m (b ∷ bs) k e = go (eqb b 48) refl e
  where
    zero_alone : (bs : List ℕ) → alone bs ≡ Some m → digits m ≡ 48 ∷ bs
    zero_alone [] e = let q : m ≡ 0 = cc in rw q (digits_one 0 (omega arith))
    zero_alone (x ∷ xs) e = no cc

    go : (t : Bool) → eqb b 48 ≡ t → unless_zero t bs (b ∷ bs) ≡ Some m → digits m ≡ b ∷ bs
    go true p e = rw (eqb-true b 48 p) (zero_alone bs e)
    go false p e =
        let w = digit_is 0 b m bs e in
        let u = w.least in
        let v = w.greatest in
        let n : b ≡ 48 → ⊥ = eqb-false b 48 p in
        let c : 48 + (b - 48) ≡ b = omega arith in
        let z : min BEYOND (0 * 10 + (b - 48)) ≡ b - 48 = omega arith in
        digits_after (b - 48) m bs (omega arith) k (rw z at w.rest) ∙ rw (digits_one (b - 48) (omega arith), c)

natural_of_writes : (bs : List ℕ) (n : ℕ) → natural_of bs ≡ Ok n → (digits n ≡ bs) × (n ≤ MOST)
unfolding natural_of capped
natural_of_writes bs n e = go (natural bs) refl e
  where
    is : (m : ℕ) (t : Bool) → natural bs ≡ Some m → ltb MOST m ≡ t → cond t (Err Beyond) (Ok m) ≡ Ok n → (digits n ≡ bs) × (n ≤ MOST)
    is m true o p e = no cc
    is m false o p e =
        let k : m ≡ n = cc in
        let h = ltb-false MOST m p in
        (rw (← k) (natural_writes m bs h o), omega arith)

    go : (o : Option ℕ) → natural bs ≡ o → capped o ≡ Ok n → (digits n ≡ bs) × (n ≤ MOST)
    go None o e = no cc
    go (Some m) o e = is m (ltb MOST m) o refl e

-- a field that reads as a number is its written form, and the number is in the range
pub number_writes : (bs : List ℕ) (z : ℤ) → number_of bs ≡ Ok z → (numeral z ≡ bs) × (nat_abs z ≤ MOST)
unfolding number_of numeral
number_writes [] z e = no cc
number_writes (b ∷ bs) z e = go (eqb b 45) refl e
  where
    below : (v : Result ℕ Fault) → natural_of bs ≡ v → minus v ≡ Ok z → (numeral z ≡ 45 ∷ bs) × (nat_abs z ≤ MOST)
    below (Ok zero) p e = no cc
    below (Ok (suc n)) p e =
        let k : z ≡ negsuc n = cc in
        let w = natural_of_writes bs (suc n) p in
        rw k (ap (λ (l : List ℕ). 45 ∷ l) w.0, w.1)
    below (Err f) p e = no cc

    above : (v : Result ℕ Fault) → natural_of (b ∷ bs) ≡ v → with_no_sign v ≡ Ok z → (numeral z ≡ b ∷ bs) × (nat_abs z ≤ MOST)
    above (Ok n) p e = let k : z ≡ pos n = cc in rw k (natural_of_writes (b ∷ bs) n p)
    above (Err f) p e = no cc

    go : (t : Bool) → eqb b 45 ≡ t → signed t bs (b ∷ bs) ≡ Ok z → (numeral z ≡ b ∷ bs) × (nat_abs z ≤ MOST)
    go true p e = rw (eqb-true b 45 p) (below (natural_of bs) refl e)
    go false p e = above (natural_of (b ∷ bs)) refl e

-- ---- how long a number of the range is, written

more_digits : (B k : ℕ) → ((n : ℕ) → n < B → length (digits n) ≤ suc k) → (n : ℕ) → n < B * 10 → length (digits n) ≤ suc (suc k)
more_digits B k ih n h = go (ltb n 10) refl
  where
    go : (t : Bool) → ltb n 10 ≡ t → length (digits n) ≤ suc (suc k)
    go true e = rw (digits_one n (ltb-true n 10 e)) (omega arith)
    go false e =
        let g = ltb-false n 10 e in
        let i = ih (n / 10) (omega arith) in
        rw (digits_more n g, length-append) (omega arith)

one_digit : (n : ℕ) → n < 10 → length (digits n) ≤ 1
one_digit n h = rw (digits_one n h) (omega arith)

ten_digits : (n : ℕ) → n ≤ MOST → length (digits n) ≤ 10
ten_digits n h =
    more_digits 1000000000 8 (more_digits 100000000 7 (more_digits 10000000 6 (more_digits 1000000 5 (more_digits 100000 4
    (more_digits 10000 3 (more_digits 1000 2 (more_digits 100 1 (more_digits 10 0 one_digit)))))))) n (omega arith)

pub numeral_length : (z : ℤ) → nat_abs z ≤ MOST → length (numeral z) ≤ 11
unfolding numeral
numeral_length (pos n) h = let e = ten_digits n h in omega arith
numeral_length (negsuc n) h = let e = ten_digits (suc n) h in omega arith

-- a smaller number has no more digits
pub digits_grow : (n m : ℕ) → m ≤ n → length (digits m) ≤ length (digits n)
digits_grow = by_digits (λ n. (m : ℕ) → m ≤ n → length (digits m) ≤ length (digits n))
    (λ n h m l. rw (digits_one m (omega arith), digits_one n h) (omega arith))
    (λ n h r m l. go n h r m l (ltb m 10) refl)
  where
    go : (n : ℕ) → 10 ≤ n → ((m : ℕ) → m ≤ n / 10 → length (digits m) ≤ length (digits (n / 10))) → (m : ℕ) → m ≤ n
        → (t : Bool) → ltb m 10 ≡ t → length (digits m) ≤ length (digits n)
    go n h r m l true e = rw (digits_one m (ltb-true m 10 e), digits_more n h, length-append) (omega arith)
    go n h r m l false e =
        let i = r (m / 10) (omega arith) in
        rw (digits_more m (ltb-false m 10 e), digits_more n h, length-append, length-append) (omega arith)

-- a number that names one of s has no more bytes than s has digits
pub named_length : (z : ℤ) (s : ℕ) → ref z ≤ s → s < NOWHERE → length (numeral z) ≤ length (digits s)
unfolding numeral
named_length (pos n) s l h = digits_grow s n l
named_length (negsuc n) s l h = absurd (omega arith)
