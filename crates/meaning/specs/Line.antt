-- One line of the text, read and written by its record's form (01, "Chart text"). In the order: marks; fields read; a line read; its
-- place in the order of records; a line written. Assumes nothing.
use Rattle.std.specs.Prelude.{ℕ, ◌+◌, Bool, true, false, cond, ◌&&◌, List, [], ◌∷◌, ◌++◌, get_or, ℤ, pos, negsuc, eqb, ltb, Result, Ok, Err}
use Prim.Native.Char.{code}
use Rattle.numbers.specs.Reference.{ref}
use Rattle.meaning.specs.Grammar.{Field, turn, number, count, letter, dash, target_state, target_history, target_none, width, Form}
use Rattle.meaning.specs.Grammar.{last, ◌tab◌, ◌or◌}
use Rattle.meaning.specs.Grammar.{Record, e_record, ORDER, form, name, most, same}
use Rattle.meaning.specs.Lists.{has, every, exists}
use Rattle.meaning.specs.Value.{ABSENT, num, count_fits, fits}
use Rattle.meaning.specs.Number.{number_of, numeral}
use Rattle.meaning.specs.Split.{joined}
use Rattle.meaning.specs.declared.Fault.{Fault}
use Rattle.meaning.specs.declared.Fault.TheVariants.{Wrong, Beyond}

-- ---- marks: 0, or the answer number 1 or 2 that a field or a line gives

-- "1 before 2 on one line"
unfoldable pub worse : ℕ → ℕ → ℕ
worse a b = cond (eqb a 1) 1 (cond (eqb b 1) 1 (cond (eqb a 2) 2 b))

-- a record number n of at most so many: a 65th state and the like is 2
unfoldable pub room : ℕ → ℕ → ℕ
room n most = cond (ltb n most) 0 2

-- a field or a line: its mark, and the numbers that it states where the mark is 0
pub record Line : Type 0 where
  pub mark : ℕ
  pub row : List ℤ

abbrev pub line : ℕ → List ℤ → Line
line m row = record { mark = m; row = row }

abbrev pub wrong : Line
wrong = line 1 []

abbrev pub beyond : Line
beyond = line 2 []

-- of a wrong form 1, beyond its size 2
abbrev pub faulty : Fault → Line
faulty Wrong = wrong
faulty Beyond = beyond

-- the mark that a code's answer stands for
abbrev pub mark_of : {A : Type 0} → Result A Fault → ℕ
mark_of (Ok x) = 0
mark_of (Err f) = (faulty f).mark

-- one behind another
abbrev pub beside : Line → Line → Line
beside a b = line (worse a.mark b.mark) (a.row ++ b.row)

-- the first, unless its form is wrong
abbrev pub or_else : Bool → Line → (ℕ → Line) → Line
or_else true a b = b 0
or_else false a b = a

-- ---- fields read

-- the field k of a line; one that is missing reads as empty, which no form allows
abbrev pub field : List (List ℕ) → ℕ → List ℕ
field fs k = get_or fs k []

-- the letter that is the whole field, else 0
abbrev pub letter_of : List ℕ → ℕ
letter_of [] = 0
letter_of (b ∷ []) = b
letter_of (b ∷ c ∷ bs) = 0

-- "-"
abbrev pub is_dash : List ℕ → Bool
is_dash f = eqb (letter_of f) (code "-")

-- what stands behind a letter; nothing where it is not in front
abbrev pub behind : ℕ → List ℕ → List ℕ
behind l [] = []
behind l (b ∷ bs) = cond (eqb b l) bs []

-- "S, V and T are numbered 0, 1, 2 in turn"
abbrev pub is_turn : Result ℤ Fault → ℕ → Bool
is_turn (Ok (pos n)) t = eqb n t
is_turn (Ok (negsuc n)) t = false
is_turn (Err f) t = false

-- a number, behind the numbers that its field gives besides
abbrev pub number_line : List ℤ → Result ℤ Fault → Line
number_line zs (Ok z) = line 0 (zs ++ (z ∷ []))
number_line zs (Err f) = faulty f

abbrev pub count_line : ℕ → ℕ → Result ℤ Fault → Line
count_line low high (Ok z) = cond (count_fits low high z) (line 0 (z ∷ [])) beyond
count_line low high (Err f) = faulty f

abbrev pub right_if : Bool → List ℤ → Line
right_if true zs = line 0 zs
right_if false zs = wrong

-- a field of record n
unfoldable pub read_field : Field → ℕ → List ℕ → Line
read_field turn n f = right_if (is_turn (number_of f) n) []
read_field number n f = number_line [] (number_of f)
read_field (count low high) n f = count_line low high (number_of f)
read_field (letter ls) n f = right_if (has (letter_of f) ls) (pos (letter_of f) ∷ [])
read_field dash n f = right_if (is_dash f) (ABSENT ∷ [])
read_field target_state n f = number_line (pos 0 ∷ []) (number_of f)
read_field target_history n f = number_line (pos (code "h") ∷ []) (number_of (behind (code "h") f))
read_field target_none n f = right_if (is_dash f) (ABSENT ∷ ABSENT ∷ [])

-- ---- a line read

-- the fields of record n by a form
unfoldable pub read_by : Form → ℕ → List (List ℕ) → Line
read_by (last x) n [] = wrong
read_by (last x) n (f ∷ []) = read_field x n f
read_by (last x) n (f ∷ g ∷ fs) = wrong
read_by (x tab xs) n [] = wrong
read_by (x tab xs) n (f ∷ fs) = beside (read_field x n f) (read_by xs n fs)
read_by (a or b) n fs = or_else (eqb (read_by a n fs).mark 1) (read_by a n fs) (λ _. read_by b n fs)

-- record n of a kind: its form is behind the letter that names it
abbrev pub rest_of : List (List ℕ) → List (List ℕ)
rest_of [] = []
rest_of (f ∷ fs) = fs

unfoldable pub line_by : Record → ℕ → List (List ℕ) → Line
line_by r n fs = beside (line (room n (most r)) []) (read_by (form r n) n (rest_of fs))

-- ---- the order S, V, one E, T, A

-- how many records of each kind stand before a line
abbrev pub Turns : Type 0
Turns = Record → ℕ

-- the kinds that stand behind one
abbrev pub behind_in : List Record → Record → List Record
behind_in [] r = []
behind_in (q ∷ qs) r = cond (same r q) qs (behind_in qs r)

abbrev pub later : Record → List Record
later r = behind_in ORDER r

-- none of a later kind was read; one E was, where E stands before the kind, else none
unfoldable pub in_order : Turns → Record → Bool
in_order turns r = every (λ q. eqb (turns q) 0) (later r) && eqb (turns e_record) (cond (exists (same r) (later e_record)) 1 0)

abbrev pub line_in_order : Bool → Record → ℕ → List (List ℕ) → Line
line_in_order true r n fs = line_by r n fs
line_in_order false r n fs = wrong

unfoldable pub line_of : Record → Turns → List (List ℕ) → Line
line_of r turns fs = line_in_order (in_order turns r) r (turns r) fs

-- ---- a line written

-- a field of record n, from the row's numbers from place i on
unfoldable pub write_field : Field → ℕ → ℕ → List ℤ → List ℕ
write_field turn n i row = numeral (pos n)
write_field number n i row = numeral (num row i)
write_field (count low high) n i row = numeral (num row i)
write_field (letter ls) n i row = ref (num row i) ∷ []
write_field dash n i row = code "-" ∷ []
write_field target_state n i row = numeral (num row (i + 1))
write_field target_history n i row = code "h" ∷ numeral (num row (i + 1))
write_field target_none n i row = code "-" ∷ []

-- by the form that fits the row
unfoldable pub write_by : Form → ℕ → ℕ → List ℤ → List (List ℕ)
write_by (last x) n i row = write_field x n i row ∷ []
write_by (x tab xs) n i row = write_field x n i row ∷ write_by xs n (i + width x) row
write_by (a or b) n i row = cond (fits a i row) (write_by a n i row) (write_by b n i row)

-- record n of a kind as a line
unfoldable pub text_of_row : Record → ℕ → List ℤ → List ℕ
text_of_row r n row = joined ((name r ∷ []) ∷ write_by (form r n) n 0 row)

-- everything above, opened: for statements that compute
unfoldable pub line_open : ℕ
unfolding worse room read_field read_by line_by in_order line_of write_field write_by text_of_row
line_open = 0
