-- What the code tests of a row, field by field: the forms of the grammar with what they have in common taken out; and of a kind of record,
-- by its parts. Assumes nothing.
use Rattle.std.specs.Prelude.{ℕ, ◌+◌, ◌*◌, Bool, true, false, cond, ◌&&◌, ◌||◌, List, [], ◌∷◌, ℤ, take, drop}
use Rattle.numbers.specs.Range.{in_range}
use Rattle.meaning.specs.Grammar.{Record, e_record, row_size, same}
use Rattle.meaning.specs.Value.{is_letter, is_absent, one_of_letters, counted, laid, place, part_fits}

-- a number where it is wanted, else "-"
abbrev pub number_if : Bool → ℤ → Bool
number_if true z = in_range z
number_if false z = is_absent z

-- the three fields of a guard
unfoldable pub guard_statable : ℤ → ℤ → ℤ → Bool
guard_statable v g x = (is_absent v && (is_absent g && is_absent x)) || (in_range v && (one_of_letters (61 ∷ 60 ∷ 62 ∷ []) g && in_range x))

-- a state, h and a state, or "-"
unfoldable pub target_statable : ℤ → ℤ → Bool
target_statable h s = (is_absent h && is_absent s) || ((is_letter 0 h || is_letter 104 h) && in_range s)

-- row i of a kind
abbrev pub row_in : Record → ℕ → List ℤ → List ℤ
row_in r i v = take (row_size r) (drop (place (laid r) + i * row_size r) v)

-- both parts of a kind; E has no count
abbrev pub counted_fits : List ℤ → Record → Bool
counted_fits v r = cond (same r e_record) true (part_fits v (counted r))

abbrev pub kind_fits : List ℤ → Record → Bool
kind_fits v r = counted_fits v r && part_fits v (laid r)
