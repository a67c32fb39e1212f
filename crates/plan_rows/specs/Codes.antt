-- The codes of the instructions as declared names (01, "The plan"): "1 IN s. 2 OUT s p. 3 SKIPOUT s n. 4 SKIPEMPTY s n. 5 SKIPFULL s n.
-- 6 SKIPNOT s d n", "7 SET, 8 ADD, 9 TAKE, 10 SEND, 11 TELL". Assumes nothing.
use Rattle.std.specs.Prelude.{ℕ, Option, None, Some, List, [], ◌∷◌, get_or, ◌≡◌, refl}
use Rattle.plan_rows.specs.declared.code.Code.{Code}
use Rattle.plan_rows.specs.declared.code.Code.TheVariants.{In, Out, SkipOut, SkipEmpty, SkipFull, SkipNot, Set, Add, Take, Send, Tell}

-- 01, "The plan": the number of each code
unfoldable pub code_number : Code → ℕ
code_number In = 1
code_number Out = 2
code_number SkipOut = 3
code_number SkipEmpty = 4
code_number SkipFull = 5
code_number SkipNot = 6
code_number Set = 7
code_number Add = 8
code_number Take = 9
code_number Send = 10
code_number Tell = 11

-- 01, "A plan is well formed when": "codes are 1 to 11"; here for the numbers 0 to 11
abbrev pub CODES : List (Option Code)
CODES =
    None
    ∷ Some In
    ∷ Some Out
    ∷ Some SkipOut
    ∷ Some SkipEmpty
    ∷ Some SkipFull
    ∷ Some SkipNot
    ∷ Some Set
    ∷ Some Add
    ∷ Some Take
    ∷ Some Send
    ∷ Some Tell
    ∷ []

-- 01, "A plan is well formed when": the code that a number stands for
unfoldable pub code_of : ℕ → Option Code
code_of n = get_or CODES n None

-- each code is the one of its number
pub code_kept : (c : Code) → code_of (code_number c) ≡ Some c
unfolding code_of code_number
code_kept In = refl
code_kept Out = refl
code_kept SkipOut = refl
code_kept SkipEmpty = refl
code_kept SkipFull = refl
code_kept SkipNot = refl
code_kept Set = refl
code_kept Add = refl
code_kept Take = refl
code_kept Send = refl
code_kept Tell = refl

-- the number says this code; the last code is that of any number which says none of the others
abbrev pub Says : Code → ℕ → Type 0
Says In n = n ≡ 1
Says Out n = n ≡ 2
Says SkipOut n = n ≡ 3
Says SkipEmpty n = n ≡ 4
Says SkipFull n = n ≡ 5
Says SkipNot n = n ≡ 6
Says Set n = n ≡ 7
Says Add n = n ≡ 8
Says Take n = n ≡ 9
Says Send n = n ≡ 10
Says Tell n =
    ¬ (n ≡ 1) × ¬ (n ≡ 2) × ¬ (n ≡ 3) × ¬ (n ≡ 4) × ¬ (n ≡ 5) × ¬ (n ≡ 6) × ¬ (n ≡ 7) × ¬ (n ≡ 8) × ¬ (n ≡ 9) × ¬ (n ≡ 10)
