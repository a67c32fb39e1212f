-- The chart handed over as a value: numbers at fixed places, and the rule R0 about them (01, "Chart rules, in order").
-- In the order: rows; the layout; what a row of numbers says; the chart that the numbers state; R0.
-- A letter of the text stands as its own code, "-" as ABSENT, which is no number that a text can state. Assumes nothing.
use Rattle.std.specs.Prelude.{ℕ, ◌+◌, ◌*◌, Bool, true, false, not, cond, ◌&&◌, ◌||◌, List, [], ◌∷◌, map, length, get_or, take, drop, ℤ, pos, negsuc, eqb, leb, ltb}
use Prim.Native.Char.{code}
use Rattle.std.specs.Int.Signed.{le_z}
use Rattle.sizes.specs.Sizes.{LEAST_STATES}
use Rattle.numbers.specs.Equal.{eq_z}
use Rattle.numbers.specs.Range.{in_range}
use Rattle.numbers.specs.Reference.{ref}
use Rattle.meaning.specs.Grammar.{Field, turn, number, count, letter, dash, target_state, target_history, target_none, width, Form}
use Rattle.meaning.specs.Grammar.{last, ◌tab◌, ◌or◌}
use Rattle.meaning.specs.Grammar.{Record, s_record, v_record, e_record, t_record, a_record, form, most, row_size, same}
use Rattle.meaning.specs.Lists.{every, every_from, chunks}
use Rattle.meaning.specs.Chart.{Kind, kind_o, kind_a, kind_b, Sign, equal, less, more, Guard, always, compares, Target, to}
use Rattle.meaning.specs.Chart.{history, in_place}
use Rattle.meaning.specs.Chart.{Act, set_to, add_to, take_to, send, tell, Owner, entry_of, exit_of, default_of, transition_of}
use Rattle.meaning.specs.Chart.{StateRow, VarRow, TransRow, ActRow, Chart}

-- "-" as a number of the value: outside what a constant may be
abbrev pub ABSENT : ℤ
ABSENT = negsuc 2147483647

-- ---- rows of numbers, of each kind of record

abbrev pub Rows : Type 0
Rows = Record → List (List ℤ)

-- ---- the layout: a count for each kind, but that E's one number stands in its place; then room for each kind's rows at its full size

pub data Part : Type 0 where
  counted laid : Record → Part

abbrev pub PARTS : List Part
PARTS =
    counted s_record ∷ counted v_record ∷ laid e_record ∷ counted t_record ∷ counted a_record
    ∷ laid s_record ∷ laid v_record ∷ laid t_record ∷ laid a_record ∷ []

-- how many numbers a part has
abbrev pub room_of : Part → ℕ
room_of (counted r) = 1
room_of (laid r) = most r * row_size r

abbrev pub same_part : Part → Part → Bool
same_part (counted r) (counted q) = same r q
same_part (counted r) (laid q) = false
same_part (laid r) (counted q) = false
same_part (laid r) (laid q) = same r q

-- where a part begins
abbrev pub begins : List Part → Part → ℕ
begins [] p = 0
begins (q ∷ qs) p = cond (same_part p q) 0 (room_of q + begins qs p)

abbrev pub place : Part → ℕ
place p = begins PARTS p

-- how many numbers a value has
abbrev pub room_in : List Part → ℕ
room_in [] = 0
room_in (p ∷ ps) = room_of p + room_in ps

abbrev pub VALUE : ℕ
VALUE = room_in PARTS

-- the same by name
abbrev pub STATE_ROW : ℕ
STATE_ROW = row_size s_record

abbrev pub VAR_ROW : ℕ
VAR_ROW = row_size v_record

abbrev pub TRANS_ROW : ℕ
TRANS_ROW = row_size t_record

abbrev pub ACT_ROW : ℕ
ACT_ROW = row_size a_record

abbrev pub STATES_AT : ℕ
STATES_AT = place (laid s_record)

abbrev pub VARS_AT : ℕ
VARS_AT = place (laid v_record)

abbrev pub TRANSITIONS_AT : ℕ
TRANSITIONS_AT = place (laid t_record)

abbrev pub ACTIONS_AT : ℕ
ACTIONS_AT = place (laid a_record)

-- ---- letters of the text, by their codes

abbrev pub is_letter : ℕ → ℤ → Bool
is_letter l z = eq_z z (pos l)

unfoldable pub is_absent : ℤ → Bool
is_absent z = eq_z z ABSENT

-- ---- what a row of numbers says

abbrev pub num : List ℤ → ℕ → ℤ
num row i = get_or row i (pos 0)

-- a reference, 0 where it is absent
unfoldable pub ref_or_none : ℤ → ℕ
ref_or_none z = cond (is_absent z) 0 (ref z)

-- o, a, b
unfoldable pub kind_by : ℤ → Kind
kind_by z = cond (is_letter (code "o") z) kind_o (cond (is_letter (code "a") z) kind_a kind_b)

unfoldable pub state_by : List ℤ → StateRow
state_by row = record { parent = ref_or_none (num row 0); kind = kind_by (num row 1); default = ref_or_none (num row 2) }

unfoldable pub var_by : List ℤ → VarRow
var_by row = record { low = num row 0; high = num row 1; first = num row 2 }

-- =, <, >, or "-"
unfoldable pub guard_by : ℤ → ℤ → ℤ → Guard
guard_by v g x =
    cond (is_letter (code "=") g) (compares (ref v) equal x)
    (cond (is_letter (code "<") g) (compares (ref v) less x) (cond (is_letter (code ">") g) (compares (ref v) more x) always))

-- a target: 0 and a state, h and a state, or "-"
unfoldable pub target_by : ℤ → ℤ → Target
target_by h s = cond (is_letter (code "h") h) (history (ref s)) (cond (is_absent h) in_place (to (ref s)))

unfoldable pub trans_by : List ℤ → TransRow
trans_by row = record {
  source = ref (num row 0);
  trigger = ref (num row 1);
  guard = guard_by (num row 2) (num row 3) (num row 4);
  target = target_by (num row 5) (num row 6);
}

-- e, x, d, t
unfoldable pub owner_by : ℤ → ℤ → Owner
owner_by k n =
    cond (is_letter (code "e") k) (entry_of (ref n))
    (cond (is_letter (code "x") k) (exit_of (ref n)) (cond (is_letter (code "d") k) (default_of (ref n)) (transition_of (ref n))))

-- s, a, k, q, o
unfoldable pub act_by : ℤ → ℤ → ℤ → Act
act_by a x y =
    cond (is_letter (code "s") a) (set_to (ref x) y)
    (cond (is_letter (code "a") a) (add_to (ref x) y)
    (cond (is_letter (code "k") a) (take_to (ref x)) (cond (is_letter (code "q") a) (send (ref x) y) (tell x))))

unfoldable pub action_by : List ℤ → ActRow
action_by row = record { owner = owner_by (num row 0) (num row 1); act = act_by (num row 2) (num row 3) (num row 4) }

-- ---- the chart that rows state, and the rows of a value

unfoldable pub chart_by : Rows → Chart
chart_by r = record {
  states = map state_by (r s_record);
  vars = map var_by (r v_record);
  events = ref (num (get_or (r e_record) 0 []) 0);
  transitions = map trans_by (r t_record);
  actions = map action_by (r a_record);
}

-- a count that keeps its size; any other counts as none
unfoldable pub size_by : ℕ → ℤ → ℕ
size_by most z = cond (leb (ref z) most) (ref z) 0

-- the rows within the counts: "places past the counts are ignored"; of E there is one
abbrev pub how_many : List ℤ → Record → ℕ
how_many v r = cond (same r e_record) 1 (size_by (most r) (num v (place (counted r))))

unfoldable pub rows_of : List ℤ → Rows
rows_of v r = chunks (how_many v r) (row_size r) (drop (place (laid r)) v)

-- the chart that a value states
unfoldable pub chart_of : List ℤ → Chart
chart_of v = chart_by (rows_of v)

-- ---- R0: "counts and constants keep their sizes and every field is one that a text can state"

abbrev pub one_of_letters : List ℕ → ℤ → Bool
one_of_letters [] z = false
one_of_letters (l ∷ ls) z = is_letter l z || one_of_letters ls z

abbrev pub count_fits : ℕ → ℕ → ℤ → Bool
count_fits least most z = le_z (pos least) z && le_z z (pos most)

-- the numbers from place i on are such as a field states
abbrev pub fits_field : Field → ℕ → List ℤ → Bool
fits_field turn i row = true
fits_field number i row = in_range (num row i)
fits_field (count low high) i row = count_fits low high (num row i)
fits_field (letter ls) i row = one_of_letters ls (num row i)
fits_field dash i row = is_absent (num row i)
fits_field target_state i row = is_letter 0 (num row i) && in_range (num row (i + 1))
fits_field target_history i row = is_letter (code "h") (num row i) && in_range (num row (i + 1))
fits_field target_none i row = is_absent (num row i) && is_absent (num row (i + 1))

-- and by a form
abbrev pub fits : Form → ℕ → List ℤ → Bool
fits (last x) i row = fits_field x i row
fits (x tab xs) i row = fits_field x i row && fits xs (i + width x) row
fits (a or b) i row = fits a i row || fits b i row

-- record n of a kind is one that a text can state
unfoldable pub statable : Record → ℕ → List ℤ → Bool
statable r n row = fits (form r n) 0 row

-- states 2 to 64; of the other kinds there may be none
abbrev pub least : Record → ℕ
least r = cond (same r s_record) LEAST_STATES 0

abbrev pub part_fits : List ℤ → Part → Bool
part_fits v (counted r) = count_fits (least r) (most r) (num v (place (counted r)))
part_fits v (laid r) = every_from (statable r) 0 (rows_of v r)

-- R0; numbers too few for the layout do not state a chart
unfoldable pub rule_0 : List ℤ → Bool
rule_0 v = leb VALUE (length v) && every (part_fits v) PARTS

-- everything above, opened: for statements that compute
unfoldable pub value_open : ℕ
unfolding is_absent ref_or_none kind_by state_by var_by guard_by target_by trans_by owner_by act_by action_by
    chart_by size_by rows_of chart_of statable rule_0
value_open = 0
