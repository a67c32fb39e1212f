-- Compiling a chart to its plan (01, "The plan"): the block of a transition, the start block, the heads, the plan; and compiling a chart
-- handed over as a value into lent numbers. Assumes nothing.
use Rattle.std.specs.Prelude.{ℕ, suc, ◌+◌, Bool, true, false, cond, List, [], ◌∷◌, ◌++◌, map, reverse, length, ℤ, pos, eqb, ltb}
use Rattle.std.proofs.Math.Option.{Option, none, some}
use Rattle.meaning.specs.Answers.{RULE_FAILS, PLAN_TOO_LONG}
use Rattle.meaning.specs.Lists.{concat_map}
use Rattle.meaning.specs.Chart.{Kind, kind_o, kind_a, kind_b, Target, to, history, in_place, Owner, entry_of, exit_of, default_of}
use Rattle.meaning.specs.Chart.{transition_of}
use Rattle.meaning.specs.Chart.{TransRow, Chart}
use Rattle.meaning.specs.Tree.{parent_of, kind_of, trans_row, all_transitions, descendants, scope, span}
use Rattle.meaning.specs.Effects.{acts_of, o_parent}
use Rattle.meaning.specs.Entry.{Visit, plain, by_default, state_of, all_below, towards, by_defaults, towards_owner}
use Rattle.meaning.specs.Reaction.{choosing_order}
use Rattle.meaning.specs.Value.{chart_of}
use Rattle.meaning.specs.Rules.{failing_rule_of}
use Rattle.meaning.specs.Text.{Result, done, refused, answer_of, count_of, lent_result}
use Rattle.meaning.specs.Plan.{Instr, go_in, go_out, skip_out, skip_empty, skip_full, skip_not, does, Head, Plan, plan_numbers}
use Rattle.meaning.specs.declared.plan.Compiled.{Compiled}

-- ---- the parts of a block

unfoldable pub code_acts : Chart → Owner → List Instr
code_acts c o = map does (acts_of c o)

-- "for each state of the span, .. with k exit actions: SKIPOUT s k+1, OUT s, the actions"
unfoldable pub exit_code : Chart → ℕ → List Instr
exit_code c s = skip_out s (suc (length (code_acts c (exit_of s)))) ∷ go_out s (o_parent c s) ∷ code_acts c (exit_of s)

-- "IN, entry actions"
unfoldable pub enter_code : Chart → ℕ → List Instr
enter_code c s = go_in s ∷ code_acts c (entry_of s)

-- "For each entered state, ..: default actions where due, IN, entry actions"
unfoldable pub visit_code : Chart → Visit → List Instr
visit_code c (plain s) = enter_code c s
visit_code c (by_default p s) = code_acts c (default_of p) ++ enter_code c s

-- "SKIPNOT p d k+1 if p is kind o; IN d; its actions"
unfoldable pub held_code : Chart → Kind → ℕ → ℕ → List Instr
held_code c kind_o p d = skip_not p d (length (enter_code c d)) ∷ enter_code c d
held_code c kind_a p d = enter_code c d
held_code c kind_b p d = enter_code c d

-- "SKIPOUT p past all of d"
unfoldable pub past_if_out : ℕ → List Instr → List Instr
past_if_out p code = skip_out p (length code) ∷ code

unfoldable pub stored_code : Chart → ℕ → List Instr
stored_code c d = past_if_out (parent_of c d) (held_code c (kind_of c (parent_of c d)) (parent_of c d) d)

-- "for each proper descendant d of B, rising"
unfoldable pub stored_arm : Chart → ℕ → List Instr
stored_arm c b = concat_map (stored_code c) (descendants c b)

unfoldable pub default_arm : Chart → ℕ → List Instr
default_arm c b = concat_map (visit_code c) (all_below c by_defaults b)

-- "SKIPFULL B over the default arm; the arm; SKIPEMPTY B over the stored arm; the arm"
unfoldable pub arms_of : ℕ → List Instr → List Instr → List Instr
arms_of b default stored = skip_full b (length default) ∷ default ++ (skip_empty b (length stored) ∷ stored)

unfoldable pub arms : Chart → ℕ → List Instr
arms c b = arms_of b (default_arm c b) (stored_arm c b)

-- "After a history owner B and its entry actions"
unfoldable pub towards_code : Chart → ℕ → Visit → List Instr
towards_code c b v = visit_code c v ++ elim (eqb (state_of v) b) [
  | true ↦ arms c b
  | false ↦ []
]

-- ---- the blocks

-- "for each state of the span, falling"
unfoldable pub exits_code : Chart → List ℕ → List Instr
exits_code c ss = concat_map (exit_code c) (reverse ss)

-- "In-place blocks hold only actions"
unfoldable pub block_to : Chart → ℕ → ℕ → Target → List Instr
block_to c t s (to d) =
    exits_code c (descendants c (scope c s d))
    ++ (code_acts c (transition_of t) ++ concat_map (visit_code c) (all_below c (towards c d) (scope c s d)))
block_to c t s (history b) =
    exits_code c (descendants c (scope c s b))
    ++ (code_acts c (transition_of t) ++ concat_map (towards_code c b) (all_below c (towards_owner c b) (scope c s b)))
block_to c t s in_place = code_acts c (transition_of t)

unfoldable pub block : Chart → ℕ → List Instr
block c t = block_to c t (trans_row c t).source (trans_row c t).target

unfoldable pub start_block : Chart → List Instr
start_block c = enter_code c 0 ++ concat_map (visit_code c) (all_below c by_defaults 0)

-- ---- the heads

unfoldable pub first_of : List ℕ → ℕ
first_of [] = 0
first_of (x ∷ xs) = x

unfoldable pub last_of : List ℕ → ℕ
last_of [] = 0
last_of (x ∷ []) = x
last_of (x ∷ y ∷ xs) = last_of (y ∷ xs)

-- the head of transition t, whose block begins at a place and has some length
unfoldable pub head_of : Chart → ℕ → ℕ → ℕ → Head
head_of c at len t = record {
  transition = t;
  source = (trans_row c t).source;
  trigger = (trans_row c t).trigger;
  guard = (trans_row c t).guard;
  first = first_of (span c t);
  last = last_of (span c t);
  start = at;
  length = len;
}

-- the blocks follow one another from a place on, "no gaps"
unfoldable pub heads_from : Chart → ℕ → List ℕ → List Head
heads_from c at [] = []
heads_from c at (t ∷ ts) = let len = length (block c t) in head_of c at len t ∷ heads_from c (at + len) ts

-- ---- the plan

-- "a head for each transition in choosing order"
unfoldable pub head_order : Chart → List ℕ
head_order c = choosing_order c (all_transitions c)

-- "the start block, then the blocks in head order, no gaps"
unfoldable pub code_of : Chart → List Instr
code_of c = start_block c ++ concat_map (block c) (head_order c)

unfoldable pub plan_of : Chart → Plan
plan_of c = record {
  states = length c.states;
  vars = c.vars;
  events = c.events;
  start_length = length (start_block c);
  heads = heads_from c (length (start_block c)) (head_order c);
  code = code_of c;
}

-- the plan of a chart that passes the rules, as numbers
unfoldable pub compile : Chart → List ℤ
compile c = plan_numbers (plan_of c)

-- ---- compiling a chart handed over as a value into n lent numbers

-- 4 "the plan is longer than the slice lent"
unfoldable pub compiled_into : ℕ → List ℤ → Result (List ℤ)
compiled_into n plan = cond (ltb n (length plan)) (refused PLAN_TOO_LONG 0) (done plan)

-- "chart 3 .. first"
unfoldable pub compile_of : List ℤ → ℕ → Result (List ℤ)
compile_of v n = elim (failing_rule_of v) [
  | none ↦ compiled_into n (compile (chart_of v))
  | some r ↦ refused RULE_FAILS r
]

-- the answer and the count; "Any other .. zeroes the lent output, its count"
unfoldable pub compiled : Result (List ℤ) → Compiled
compiled o = record { answer = answer_of o; length = count_of o }

-- the lent slice of n numbers afterwards: "Past a plan .. the lent slice is 0"
unfoldable pub plan_lent : ℕ → Result (List ℤ) → List ℤ
unfolding lent_result
plan_lent n o = lent_result (pos 0) n o

-- everything above, opened: for statements that compute
unfoldable pub compile_open : ℕ
unfolding code_acts exit_code enter_code visit_code held_code past_if_out stored_code stored_arm default_arm arms_of arms towards_code
    exits_code block_to block start_block first_of last_of head_of heads_from head_order code_of plan_of compile compiled_into
    compile_of compiled plan_lent
compile_open = 0
