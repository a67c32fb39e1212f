-- Chart text by example: 01's chart K is read, and written back to the same bytes; some faults with their lines; sizes. Assumes nothing.
use Prim.Native.Nat.{ℕ, suc, ◌-◌}
use mathlib.Core.Path.{◌≡◌, refl}
use mathlib.Core.List.{List, [], ◌∷◌, ◌++◌}
use lib.ListN.{replicate}
use lib.IntN.{ℤ, pos}
use Rattle.sizes.specs.Sizes.{STATES}
use Rattle.meaning.specs.Open.{all_open}
use Rattle.meaning.specs.Lists.{map_from}
use Rattle.meaning.specs.Value.{ABSENT, VALUE}
use Rattle.meaning.specs.Split.{ended}
use Rattle.meaning.specs.Grammar.{bytes, s_record}
use Rattle.meaning.specs.Number.{numeral}
use Rattle.meaning.specs.Line.{text_of_row}
use Rattle.meaning.specs.Text.{Result, done, refused, read, write}
use Rattle.meaning.specs.Examples.{text_K}

both_ways : ℕ → Result (List ℤ) → Result (List ℕ)
both_ways n (done v) = write v n
both_ways n (refused a p) = refused a p

-- read and written, K is the same 155 bytes
k_both_ways : both_ways 155 (read text_K VALUE) ≡ done text_K
unfolding all_open both_ways
k_both_ways = refl

-- one byte less is too short a buffer, one number less too few for a chart
k_too_long : both_ways 154 (read text_K VALUE) ≡ refused 13 0
unfolding all_open both_ways
k_too_long = refl

k_too_few : read text_K (VALUE - 1) ≡ refused 3 0
unfolding all_open both_ways
k_too_few = refl

-- answer and place of some texts
fault_of : Result (List ℤ) → List ℕ
fault_of (done v) = 0 ∷ 0 ∷ []
fault_of (refused a p) = a ∷ p ∷ []

faults : List (List ℕ) → List (List ℕ)
faults [] = []
faults (t ∷ ts) = fault_of (read t VALUE) ∷ faults ts

-- n states: the root, and n - 1 children of kind b
states : ℕ → List ℕ
states n = ended (text_of_row s_record 0
    (ABSENT ∷ pos 111 ∷ pos 1 ∷ []) ∷ map_from (text_of_row s_record) 1 (replicate (n - 1) (pos 0 ∷ pos 98 ∷ ABSENT ∷ [])))

-- in the order: an empty text; its E line missing; a last line without LF; an empty last line; 32 and 33 events; 1 before 2 on
-- one line; a leading zero; -1 as a parent, and "-"; h-1 as a target
some_faults : faults (
    [] ∷ states 2 ∷ (states 2 ++ bytes "E\t0") ∷ (states 2 ++ bytes "E\t0\n\n") ∷ (states 2 ++ bytes "E\t32\n")
    ∷ (states 2 ++ bytes "E\t33\n") ∷ (states 2 ++ bytes "V\t0\t1000000001\t01\t0\n") ∷ (states 2 ++ bytes "E\t01\n")
    ∷ (states 1 ++ bytes "S\t1\t-1\tb\t-\nE\t0\n") ∷ (states 1 ++ bytes "S\t1\t-\tb\t-\nE\t0\n")
    ∷ (states 2 ++ bytes "E\t1\nT\t0\t1\t1\t-\t-\t-\th-1\n") ∷ []
    )
    ≡ (1 ∷ 1 ∷ []) ∷ (1 ∷ 3 ∷ []) ∷ (1 ∷ 3 ∷ []) ∷ (1 ∷ 4 ∷ []) ∷ (0 ∷ 0 ∷ []) ∷ (2 ∷ 3 ∷ [])
    ∷ (1 ∷ 3 ∷ []) ∷ (1 ∷ 3 ∷ []) ∷ (3 ∷ 2 ∷ []) ∷ (1 ∷ 2 ∷ [])
    ∷ (3 ∷ 6 ∷ []) ∷ []
unfolding all_open fault_of faults states
some_faults = refl

-- as many states as there may be (01: 64), one more, and one more of the wrong form; each by itself, since a longer text takes many steps
all_states_read : faults ((states STATES ++ bytes "E\t0\n") ∷ []) ≡ (0 ∷ 0 ∷ []) ∷ []
unfolding all_open fault_of faults states
all_states_read = refl

one_state_more : faults ((states (suc STATES) ++ bytes "E\t0\n") ∷ []) ≡ (2 ∷ suc STATES ∷ []) ∷ []
unfolding all_open fault_of faults states
one_state_more = refl

one_wrong_more : faults ((states STATES ++ bytes "S\t" ++ numeral (pos STATES) ++ bytes "\t0\tb\t0\n") ∷ [])
    ≡ (1 ∷ suc STATES ∷ []) ∷ []
unfolding all_open fault_of faults states
one_wrong_more = refl
