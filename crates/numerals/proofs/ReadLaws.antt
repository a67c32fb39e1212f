-- Laws of reading numbers that the code's proofs cite: over plain variables, one for each way out. Assumes nothing.
use Rattle.std.proofs.Common.{◌≡◌, refl, sym, ap, ◌∙◌, Bool, true, false, cond, List, [], ◌∷◌, ℕ, zero, suc, ◌+◌, ◌-◌, ◌*◌, ◌≤◌, ◌<◌, min}
use Rattle.std.proofs.Common.{Option, None, Some, Result, Ok, Err, arith, add-one, ltb, eqb, length, get_or, take, drop, drop-cons}
use Rattle.std.proofs.Math.Seq.{drop-length, take-length}
use borrow.Author.Tests.{ltb-true, ltb-false, lt-ltb, le-ltb, eqb-true, ne_eqb}
use Rattle.sizes.specs.Sizes.{MOST}
use Rattle.meaning.specs.Number.{BEYOND, value, natural, capped, natural_of, with_no_sign, minus, number_of}
use Rattle.numerals.specs.Small.{Small, with_digit}
use Rattle.meaning.specs.declared.Fault.{Fault}
use Rattle.meaning.specs.declared.Fault.TheVariants.{Wrong, Beyond}

-- ---- the digits from i on: a byte that is none, one more, the end
module _ (s : List ℕ) (i n : ℕ) where
  module _ (h : i < length s) where
    pub value_none : with_digit n (get_or s i 0) ≡ None → None ≡ value n (drop i s)
    unfolding value
    value_none e = rw (drop-cons s i 0 h) (go (ltb (get_or s i 0) 48) (ltb 57 (get_or s i 0)) _ _ e)
      where
        go : (p q : Bool) (m : ℕ) (o : Option ℕ) → ◌≡◌ {A = Option ℕ} (cond p None (cond q None (Some m))) None
            → ◌≡◌ {A = Option ℕ} None (cond p None (cond q None o))
        go true q m o e = refl
        go false true m o e = refl
        go false false m o e = cc

    pub value_more : (m : ℕ) → with_digit n (get_or s i 0) ≡ Some m → value m (drop (i + 1) s) ≡ value n (drop i s)
    unfolding value
    value_more m e =
        rw (add-one, drop-cons s i 0 h) (go (ltb (get_or s i 0) 48) (ltb 57 (get_or s i 0)) _ (λ k. value k (drop (suc i) s)) e)
      where
        go : (p q : Bool) (k : ℕ) (f : ℕ → Option ℕ) → ◌≡◌ {A = Option ℕ} (cond p None (cond q None (Some k))) (Some m)
            → f m ≡ cond p None (cond q None (f k))
        go true q k f e = cc
        go false true k f e = cc
        go false false k f e = let d : k ≡ m = cc in rw d refl

  pub value_done : i ≡ length s → value n (drop i s) ≡ Some n
  unfolding value
  value_done e = rw (e, drop-length s)

-- a natural number that was read is in the range
pub nat_small : (bs : List ℕ) → Small (natural_of bs)
unfolding natural_of capped
nat_small bs = of (natural bs)
  where
    some_is : (n : ℕ) (t : Bool) → ltb MOST n ≡ t → Small (cond t (Err Beyond) (Ok n))
    some_is n true e = tt
    some_is n false e = ltb-false MOST n e

    of : (o : Option ℕ) → Small (capped o)
    of None = tt
    of (Some n) = some_is n (ltb MOST n) refl

-- what stands behind the first byte
abbrev pub behind : List ℕ → List ℕ
behind s = take (length s - 1) (drop 1 s)

-- ---- 0 alone, or digits that do not start with 0
pub nat_empty : (s : List ℕ) → length s < 1 → Err Wrong ≡ natural_of s
unfolding natural_of natural capped
nat_empty [] h = refl
nat_empty (b ∷ bs) h = absurd (omega arith)

pub nat_zero : (s : List ℕ) → 1 ≤ length s → length s < 2 → get_or s 0 0 ≡ 48 → Ok 0 ≡ natural_of s
unfolding natural_of natural capped
nat_zero [] g h e = absurd (omega arith)
nat_zero (b ∷ []) g h e = rw e
nat_zero (b ∷ c ∷ bs) g h e = absurd (omega arith)

pub nat_lead : (s : List ℕ) → 2 ≤ length s → get_or s 0 0 ≡ 48 → Err Wrong ≡ natural_of s
unfolding natural_of natural capped
nat_lead [] h e = absurd (omega arith)
nat_lead (b ∷ []) h e = absurd (omega arith)
nat_lead (b ∷ c ∷ bs) h e = rw e

pub nat_plain : (s : List ℕ) → 1 ≤ length s → (get_or s 0 0 ≡ 48 → ⊥) → capped (value 0 s) ≡ natural_of s
unfolding natural_of natural
nat_plain [] h e = absurd (omega arith)
nat_plain (b ∷ bs) h e = rw (ne_eqb b 48 e)

-- ---- behind a minus, or with no sign
small_is : (v : Result ℕ Fault) (n : ℕ) → v ≡ Ok n → Small v → capped (Some n) ≡ v
unfolding capped
small_is v n e s = let k : n ≤ MOST = rw e at s in rw (e, le-ltb MOST n k)

module _ (s : List ℕ) (h : 1 ≤ length s) (e : get_or s 0 0 ≡ 45) where
  pub num_minus : minus (natural_of (behind s)) ≡ number_of s
  unfolding number_of
  num_minus = go s h e
    where
      go : (s : List ℕ) → 1 ≤ length s → get_or s 0 0 ≡ 45 → minus (natural_of (behind s)) ≡ number_of s
      go [] h e = absurd (omega arith)
      go (b ∷ bs) h e =
          let k : suc (length bs) - 1 ≡ length bs = omega arith in
          rw (e, k, take-length bs)

  pub minus_is : (n : ℕ) → natural_of (behind s) ≡ Ok n → minus (capped (Some n)) ≡ number_of s
  minus_is n g = ap minus (small_is (natural_of (behind s)) n g (nat_small (behind s))) ∙ num_minus

  pub minus_not : (f : Fault) → natural_of (behind s) ≡ Err f → Err f ≡ number_of s
  minus_not f g = rw g at num_minus

module _ (s : List ℕ) (e : get_or s 0 0 ≡ 45 → ⊥) where
  pub num_plain : with_no_sign (natural_of s) ≡ number_of s
  unfolding number_of natural_of natural capped
  num_plain = go s e
    where
      go : (s : List ℕ) → (get_or s 0 0 ≡ 45 → ⊥) → with_no_sign (natural_of s) ≡ number_of s
      go [] e = refl
      go (b ∷ bs) e = rw (ne_eqb b 45 e)

  pub plain_is : (n : ℕ) → natural_of s ≡ Ok n → with_no_sign (capped (Some n)) ≡ number_of s
  plain_is n g = ap with_no_sign (small_is (natural_of s) n g (nat_small s)) ∙ num_plain

  pub plain_not : (f : Fault) → natural_of s ≡ Err f → Err f ≡ number_of s
  plain_not f g = rw g at num_plain

pub num_empty : (s : List ℕ) → length s < 1 → Err Wrong ≡ number_of s
unfolding number_of
num_empty [] h = refl
num_empty (b ∷ bs) h = absurd (omega arith)

-- what each function cites of these
pub ruleset of_digits = (value_none, value_more, value_done)

pub ruleset of_natural = (nat_empty, nat_zero, nat_lead, nat_plain)

pub ruleset of_number = (num_empty, minus_is, minus_not, plain_is, plain_not)
