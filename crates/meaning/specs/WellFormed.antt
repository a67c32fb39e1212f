-- Plans in any list of numbers (01, "The plan"): where each part stands, what its rows say, and when a plan is well formed, clause by
-- clause in 01's order. Counts are held to their sizes before anything is read by them. Assumes nothing.
use Rattle.std.specs.Prelude.{ℕ, zero, suc, ◌+◌, ◌*◌, Bool, true, false, cond, ◌&&◌, ◌||◌, List, [], ◌∷◌, map, length, get_or, drop, ℤ, pos, negsuc, leb, ltb, eqb}
use Rattle.std.specs.Int.Signed.{le_z}
use Rattle.sizes.specs.Sizes.{LEAST_STATES, STATES, VARIABLES, EVENTS, TRANSITIONS, INSTRUCTIONS}
use Rattle.numbers.specs.Equal.{eq_z}
use Rattle.numbers.specs.Range.{in_range}
use Rattle.numbers.specs.Reference.{ref}
use Rattle.meaning.specs.Lists.{every, concat_map, chunks}
use Rattle.meaning.specs.Chart.{equal, less, more, Guard, always, compares, set_to, add_to, take_to, send, tell, VarRow}
use Rattle.meaning.specs.Grammar.{v_record}
use Rattle.meaning.specs.Value.{num, size_by, count_fits, VAR_ROW, var_by, statable}
use Rattle.meaning.specs.Rules.{row_fits}
use Rattle.meaning.specs.Widget.{as_slot}
use Rattle.meaning.specs.Plan.{Instr, go_in, go_out, skip_out, skip_empty, skip_full, skip_not, does, Head, Plan}
use Rattle.meaning.specs.declared.plan.Counts.{Counts}

-- ---- where each part stands

-- numbers to the counts, to a head, to an instruction
abbrev pub SIX : ℕ
SIX = 6

abbrev pub HEAD_ROW : ℕ
HEAD_ROW = 10

abbrev pub INSTR_ROW : ℕ
INSTR_ROW = 4

-- "Six: states, variables, events, heads, instructions, start block length"; a count that does not keep its size counts as none
unfoldable pub counts_of : List ℤ → Counts
counts_of ns = record {
  states = size_by STATES (num ns 0);
  vars = size_by VARIABLES (num ns 1);
  events = size_by EVENTS (num ns 2);
  heads = size_by TRANSITIONS (num ns 3);
  instructions = size_by INSTRUCTIONS (num ns 4);
  start = ref (num ns 5);
}

unfoldable pub heads_at : Counts → ℕ
heads_at k = SIX + k.vars * VAR_ROW

unfoldable pub code_at : Counts → ℕ
code_at k = heads_at k + k.heads * HEAD_ROW

-- the place where a plan ends: "numbers past its end are ignored"
unfoldable pub plan_end : Counts → ℕ
plan_end k = code_at k + k.instructions * INSTR_ROW

unfoldable pub var_rows : List ℤ → Counts → List (List ℤ)
var_rows ns k = chunks k.vars VAR_ROW (drop SIX ns)

unfoldable pub head_rows : List ℤ → Counts → List (List ℤ)
head_rows ns k = chunks k.heads HEAD_ROW (drop (heads_at k) ns)

unfoldable pub code_rows : List ℤ → Counts → List (List ℤ)
code_rows ns k = chunks k.instructions INSTR_ROW (drop (code_at k) ns)

-- ---- what a row of numbers says

-- "sign (0 none, 1 =, 2 <, 3 >)"
unfoldable pub head_guard_by : ℤ → ℤ → ℤ → Guard
head_guard_by v g x =
    cond (eq_z g (pos 1)) (compares (ref v) equal x)
    (cond (eq_z g (pos 2)) (compares (ref v) less x) (cond (eq_z g (pos 3)) (compares (ref v) more x) always))

-- "transition, source, trigger, guard variable, sign, constant, span first, span last, block start, block length"
unfoldable pub head_by : List ℤ → Head
head_by row = record {
  transition = ref (num row 0);
  source = ref (num row 1);
  trigger = ref (num row 2);
  guard = head_guard_by (num row 3) (num row 4) (num row 5);
  first = ref (num row 6);
  last = ref (num row 7);
  start = ref (num row 8);
  length = ref (num row 9);
}

-- "7 SET, 8 ADD, 9 TAKE, 10 SEND, 11 TELL"
unfoldable pub instr_act_by : ℤ → ℤ → ℤ → Instr
instr_act_by k x y =
    cond (eq_z k (pos 7)) (does (set_to (ref x) y))
    (cond (eq_z k (pos 8)) (does (add_to (ref x) y))
    (cond (eq_z k (pos 9)) (does (take_to (ref x))) (cond (eq_z k (pos 10)) (does (send (ref x) y)) (does (tell x)))))

-- "1 IN s. 2 OUT s p. 3 SKIPOUT s n. 4 SKIPEMPTY s n. 5 SKIPFULL s n. 6 SKIPNOT s d n"
unfoldable pub instr_of : ℤ → ℤ → ℤ → ℤ → Instr
instr_of k x y z =
    cond (eq_z k (pos 1)) (go_in (ref x))
    (cond (eq_z k (pos 2)) (go_out (ref x) (as_slot y))
    (cond (eq_z k (pos 3)) (skip_out (ref x) (ref y))
    (cond (eq_z k (pos 4)) (skip_empty (ref x) (ref y))
    (cond (eq_z k (pos 5)) (skip_full (ref x) (ref y))
    (cond (eq_z k (pos 6)) (skip_not (ref x) (ref y) (ref z)) (instr_act_by k x y))))))

unfoldable pub instr_by : List ℤ → Instr
instr_by row = instr_of (num row 0) (num row 1) (num row 2) (num row 3)

-- the plan that numbers state
unfoldable pub plan_by : List ℤ → Plan
plan_by ns =
    let k = counts_of ns in
    record {
      states = k.states;
      vars = map var_by (var_rows ns k);
      events = k.events;
      start_length = k.start;
      heads = map head_by (head_rows ns k);
      code = map instr_by (code_rows ns k);
    }

-- ---- "the counts keep their sizes, with at most 200,000 instructions"

unfoldable pub counts_keep : List ℤ → Bool
counts_keep ns =
    count_fits LEAST_STATES STATES (num ns 0) && (count_fits 0 VARIABLES (num ns 1) && (count_fits 0 EVENTS (num ns 2)
    && (count_fits 0 TRANSITIONS (num ns 3) && count_fits 0 INSTRUCTIONS (num ns 4))))

-- ---- "each variable row keeps R5 and the number range"

unfoldable pub var_keeps : List ℤ → Bool
var_keeps row = row_fits (var_by row) && statable v_record 0 row

-- ---- heads

-- a number that names one of n
abbrev pub one_of : ℕ → ℤ → Bool
one_of n z = ltb (ref z) n

-- "the guard is -1, 0, 0 or a variable, 1 to 3 and a number in range"
unfoldable pub head_guard_fits : Counts → ℤ → ℤ → ℤ → Bool
head_guard_fits k v g x =
    (eq_z v (negsuc 0) && (eq_z g (pos 0) && eq_z x (pos 0))) || (one_of k.vars v && (count_fits 1 3 g && in_range x))

-- "source and span are states with first ≤ last"
unfoldable pub span_fits : Counts → ℤ → ℤ → ℤ → Bool
span_fits k s first last = one_of k.states s && (one_of k.states first && (one_of k.states last && le_z first last))

-- "in each head the transition is 0 to 127, the trigger 0 to the events, source and span are states .., and the guard is .."
unfoldable pub head_fits : Counts → List ℤ → Bool
head_fits k row =
    one_of TRANSITIONS (num row 0) && (count_fits 0 k.events (num row 2)
    && (span_fits k (num row 1) (num row 6) (num row 7) && head_guard_fits k (num row 3) (num row 4) (num row 5)))

-- ---- "the blocks fill the instructions in the order above"

-- from a place on, block after block, to the last of n instructions
unfoldable pub blocks_fill : ℕ → ℕ → List (List ℤ) → Bool
blocks_fill n at [] = eqb at n
blocks_fill n at (row ∷ rows) = eq_z (num row 8) (pos at) && (le_z (pos 0) (num row 9) && blocks_fill n (at + ref (num row 9)) rows)

-- the start block comes first
unfoldable pub all_blocks_fill : List ℤ → Counts → Bool
all_blocks_fill ns k = le_z (pos 0) (num ns 5) && blocks_fill k.instructions k.start (head_rows ns k)

-- ---- instructions

-- what a number of an instruction is
pub data Operand : Type 0 where
  a_state a_parent a_variable an_event a_constant a_skip unused : Operand

-- the three numbers after the code
pub data Shape : Type 0 where
  no_shape : Shape
  shape : Operand → Operand → Operand → Shape

-- for the codes 0 to 11; "codes are 1 to 11"
abbrev pub SHAPES : List Shape
SHAPES =
    no_shape
    ∷ shape a_state unused unused
    ∷ shape a_state a_parent unused
    ∷ shape a_state a_skip unused
    ∷ shape a_state a_skip unused
    ∷ shape a_state a_skip unused
    ∷ shape a_state a_state a_skip
    ∷ shape a_variable a_constant unused
    ∷ shape a_variable a_constant unused
    ∷ shape a_variable unused unused
    ∷ shape an_event a_constant unused
    ∷ shape a_constant unused unused
    ∷ []

-- "states, variables and events named exist, p may be -1, a sent event is 1 or more, constants are in range, unused numbers are 0; and a
-- skip is 0 or more and stays within its block", of which so many instructions follow
unfoldable pub operand_fits : Counts → ℕ → Operand → ℤ → Bool
operand_fits k left a_state z = one_of k.states z
operand_fits k left a_parent z = eq_z z (negsuc 0) || one_of k.states z
operand_fits k left a_variable z = one_of k.vars z
operand_fits k left an_event z = count_fits 1 k.events z
operand_fits k left a_constant z = in_range z
operand_fits k left a_skip z = count_fits 0 left z
operand_fits k left unused z = eq_z z (pos 0)

unfoldable pub shape_fits : Counts → ℕ → Shape → List ℤ → Bool
shape_fits k left no_shape row = false
shape_fits k left (shape f g h) row =
    operand_fits k left f (num row 1) && (operand_fits k left g (num row 2) && operand_fits k left h (num row 3))

-- the instruction that the row begins with
unfoldable pub instr_fits : Counts → ℕ → List ℤ → Bool
instr_fits k left row = shape_fits k left (get_or SHAPES (ref (num row 0)) no_shape) row

-- for each instruction of a block of n: how many of the block follow it
unfoldable pub left_after_each : ℕ → List ℕ
left_after_each zero = []
left_after_each (suc n) = n ∷ left_after_each n

-- the same for all blocks
unfoldable pub left_in_blocks : List ℤ → Counts → List ℕ
left_in_blocks ns k = concat_map left_after_each (k.start ∷ map (λ row. ref (num row 9)) (head_rows ns k))

-- instruction after instruction; for each, how many of its block follow it
unfoldable pub code_fits : Counts → List ℕ → List ℤ → Bool
code_fits k [] ns = true
code_fits k (left ∷ lefts) ns = elim (instr_fits k left ns) [
  | true ↦ code_fits k lefts (drop INSTR_ROW ns)
  | false ↦ false
]

-- ---- "A plan is well formed when"

unfoldable pub rows_well_formed : List ℤ → Counts → Bool
rows_well_formed ns k = elim (every var_keeps (var_rows ns k) && (every (head_fits k) (head_rows ns k) && all_blocks_fill ns k)) [
  | true ↦ code_fits k (left_in_blocks ns k) (drop (code_at k) ns)
  | false ↦ false
]

-- not cut short: each number of the plan is there
unfoldable pub is_whole : List ℤ → Counts → Bool
is_whole ns k = leb (plan_end k) (length ns)

unfoldable pub well_formed : List ℤ → Bool
well_formed ns =
    let k = counts_of ns in
    elim (counts_keep ns && is_whole ns k) [
      | true ↦ rows_well_formed ns k
      | false ↦ false
    ]

-- everything above, opened: for statements that compute
unfoldable pub well_formed_open : ℕ
unfolding counts_of heads_at code_at plan_end var_rows head_rows code_rows head_guard_by head_by
    instr_act_by instr_of instr_by plan_by counts_keep var_keeps head_guard_fits span_fits head_fits blocks_fill all_blocks_fill
    operand_fits shape_fits instr_fits left_after_each left_in_blocks code_fits rows_well_formed is_whole well_formed
well_formed_open = 0
