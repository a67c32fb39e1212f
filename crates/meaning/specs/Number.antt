-- Numbers of the text (01, "Chart text"): "decimal, of any length, with no leading zero, plus or minus zero; one beyond
-- ±1,000,000,000 is answer 2". In the order: read; written. A byte is its code: 48 to 57 the digits, 45 minus. Assumes nothing.
use Rattle.std.specs.Prelude.{ℕ, zero, suc, ◌+◌, ◌-◌, ◌*◌, ◌/◌, ◌%◌, min, Bool, true, false, cond, List, [], ◌∷◌, ◌++◌, ℤ, pos, negsuc, ltb, eqb, Option, None, Some, Result, Ok, Err}
use Rattle.sizes.specs.Sizes.{MOST}
use Rattle.meaning.specs.declared.Fault.{Fault}
use Rattle.meaning.specs.declared.Fault.TheVariants.{Wrong, Beyond}

-- ---- read

-- one past the range: it stands for every number beyond, since all of them are alike
abbrev pub BEYOND : ℕ
BEYOND = MOST + 1

-- the value of digits that follow those of value a
unfoldable pub value : ℕ → List ℕ → Option ℕ
value a [] = Some a
value a (b ∷ bs) = cond (ltb b 48) None (cond (ltb 57 b) None (value (min BEYOND (a * 10 + (b - 48))) bs))

-- "no leading zero": 0 alone, or digits of which the first is not 0
abbrev pub alone : List ℕ → Option ℕ
alone [] = Some 0
alone (b ∷ bs) = None

abbrev pub unless_zero : Bool → List ℕ → List ℕ → Option ℕ
unless_zero true bs all = alone bs
unless_zero false bs all = value 0 all

unfoldable pub natural : List ℕ → Option ℕ
natural [] = None
natural (b ∷ bs) = unless_zero (eqb b 48) bs (b ∷ bs)

-- a number beyond the range is told from no number
unfoldable pub capped : Option ℕ → Result ℕ Fault
capped None = Err Wrong
capped (Some n) = cond (ltb MOST n) (Err Beyond) (Ok n)

unfoldable pub natural_of : List ℕ → Result ℕ Fault
natural_of bs = capped (natural bs)

abbrev pub with_no_sign : Result ℕ Fault → Result ℤ Fault
with_no_sign (Ok n) = Ok (pos n)
with_no_sign (Err f) = Err f

-- behind a minus: there is no minus zero
abbrev pub minus : Result ℕ Fault → Result ℤ Fault
minus (Ok zero) = Err Wrong
minus (Ok (suc n)) = Ok (negsuc n)
minus (Err f) = Err f

abbrev pub signed : Bool → List ℕ → List ℕ → Result ℤ Fault
signed true bs all = minus (natural_of bs)
signed false bs all = with_no_sign (natural_of all)

-- a field as a number
unfoldable pub number_of : List ℕ → Result ℤ Fault
number_of [] = Err Wrong
number_of (b ∷ bs) = signed (eqb b 45) bs (b ∷ bs)

-- ---- written

-- the digits of n, at most f of them
abbrev pub by_size : Bool → ℕ → (ℕ → List ℕ) → List ℕ
by_size true n before = (48 + n) ∷ []
by_size false n before = before (n / 10) ++ ((48 + n % 10) ∷ [])

unfoldable pub digits_in : ℕ → ℕ → List ℕ
digits_in zero n = []
digits_in (suc f) n = by_size (ltb n 10) n (λ m. digits_in f m)

unfoldable pub digits : ℕ → List ℕ
digits n = digits_in (suc n) n

unfoldable pub numeral : ℤ → List ℕ
numeral (pos n) = digits n
numeral (negsuc n) = 45 ∷ digits (suc n)

-- everything above, opened: for statements that compute
unfoldable pub number_open : ℕ
unfolding value natural capped natural_of number_of digits_in digits numeral
number_open = 0
