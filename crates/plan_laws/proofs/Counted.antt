-- How many instructions a plan has (01, "The plan": "at most 200,000 instructions"), shown by counting: one block, then the start
-- block and all blocks. With n states, and e entry, x exit and d default actions in all, a block has four kinds of lines, at most
--   2 n + x        exits: SKIPOUT and OUT of each state, and its exit actions;
--   its own        the transition's actions;
--   n + e + 2 d    entries outside the stored arm: IN of each state once, its entry actions, its default's (the owner's once more);
--   3 n + e + 2    the stored arm: SKIPOUT, SKIPNOT and IN of each state, its entry actions; and the two skips of the arms.
-- No action has two owners, so e, x, d and all transitions' own actions are together at most the actions. Assumes nothing.
use mathlib.Core.Path.{ap}
use Prim.Native.Nat.{◌*◌, ◌+◌, ◌<◌, ◌≤◌, ℕ}
use native.Mathlib.Nat.{le_trans, mul-le-mul_right}
use native.Mathlib.Omega.{arith}
use mathlib.Core.List.{◌++◌}
use lib.ListN.{length, length-append}
use Rattle.laws.specs.Facts.{TargetFacts}
use Rattle.laws.proofs.Scope.{scope_facts}
use Rattle.laws.proofs.Sound.{SoundChart}
use Rattle.laws.proofs.Value.{SizedChart}
use Rattle.laws.proofs.Ways.{towards_sound}
use Rattle.meaning.specs.Chart.{Chart}
use Rattle.meaning.specs.Compile.{block, block_to, code_acts, code_of, exits_code, head_order, start_block, towards_code, visit_code}
use Rattle.meaning.specs.Entry.{all_below, towards, towards_owner}
use Rattle.meaning.specs.Lists.{concat_map, from}
use Rattle.meaning.specs.Tree.{all_transitions, descendants, scope, trans_row}
use Rattle.meaning.specs.declared.chart.Owner.TheVariants.{TransitionOf as transition_of}
use Rattle.meaning.specs.declared.chart.Target.{Target}
use Rattle.meaning.specs.declared.chart.Target.TheVariants.{History as history, InPlace as in_place, To as to}
use Rattle.plan_laws.proofs.Entered.{entry_lines, history_lines, start_lines}
use Rattle.plan_laws.proofs.Lines.{acts_long, exits_lines}
use Rattle.plan_laws.proofs.Order.{order_each, order_total}
use Rattle.plan_laws.proofs.Owned.{acts_many, all_owned, defaults, entries, exits, owned}
use Rattle.plan_laws.proofs.Totals.{length_collected, length_from, total_each, total_same, total_sum}
use Rattle.sizes.specs.Sizes.{ACTIONS, INSTRUCTIONS, STATES, TRANSITIONS}

-- ---- one block

module _ (c : Chart) (h : SoundChart c) where
  -- all but the transition's own actions
  abbrev most_of_block : ℕ
  most_of_block =
      let n = length c.states in
      (2 * n + exits c) + ((n + entries c + 2 * defaults c) + (3 * n + entries c + 2))

  block_to_lines : (t s : ℕ) (x : Target) → TargetFacts c s x → length (block_to c t s x) ≤ most_of_block + acts_many c (transition_of t)
  unfolding block_to
  block_to_lines t s (to d) f =
      let x : ℕ = scope c s d in
      let i = (scope_facts c h s d f.2 f.1).inside in
      let vs = concat_map (visit_code c) (all_below c (towards c d) x) in
      omega (
        arith,
        length-append (exits_code c (descendants c x)) (code_acts c (transition_of t) ++ vs),
        length-append (code_acts c (transition_of t)) vs,
        acts_long c (transition_of t),
        exits_lines c x,
        entry_lines c h (towards c d) (towards_sound c h d f.0) x i,
      )
  block_to_lines t s (history b) f =
      let x : ℕ = scope c s b in
      let g = scope_facts c h s b f.3 f.1 in
      let vs = concat_map (towards_code c b) (all_below c (towards_owner c b) x) in
      omega (
        arith,
        length-append (exits_code c (descendants c x)) (code_acts c (transition_of t) ++ vs),
        length-append (code_acts c (transition_of t)) vs,
        acts_long c (transition_of t),
        exits_lines c x,
        history_lines c h b x f.2 g.above_target f.0 g.inside,
      )
  block_to_lines t s in_place f = omega (arith, acts_long c (transition_of t))

-- ---- in the names of the sizes

-- a block less its own actions, by the most states and actions
abbrev pub block_most : ℕ → ℕ → ℕ
block_most states actions = 6 * states + 2 * actions + 2

-- a plan, by the most of each: each transition's block, the start block, and with its actions all transitions' own
abbrev pub lines_most : ℕ → ℕ → ℕ → ℕ
lines_most states transitions actions = transitions * block_most states actions + states + actions

-- at most S states, T transitions and A actions
module _ (c : Chart) (h : SoundChart c) (S T A : ℕ)
    (s : length c.states ≤ S) (t : length c.transitions ≤ T) (a : length c.actions ≤ A) where
  pub block_lines : (i : ℕ) → i < length c.transitions → length (block c i) ≤ block_most S A + acts_many c (transition_of i)
  unfolding block
  block_lines i l =
      omega (arith, block_to_lines c h i (trans_row c i).source (trans_row c i).target (h.transitions i l).target, all_owned c)

  -- where each block has at most k and its own
  blocks_lines : (k : ℕ) → ((i : ℕ) → i < length c.transitions → length (block c i) ≤ k + acts_many c (transition_of i))
      → length (concat_map (block c) (head_order c)) ≤ T * k + owned c transition_of (all_transitions c)
  unfolding all_transitions
  blocks_lines k f = omega (
    arith,
    length_collected (block c) (head_order c),
    total_each (λ i. i < length c.transitions) (λ i. length (block c i)) (λ i. k + acts_many c (transition_of i)) f (head_order c)
        (order_each c),
    order_total c (λ i. k + acts_many c (transition_of i)),
    total_sum (λ i. k) (λ i. acts_many c (transition_of i)) (from 0 (length c.transitions)),
    total_same k (from 0 (length c.transitions)),
    ap (λ m. m * k) (length_from 0 (length c.transitions)),
    mul-le-mul_right k t,
  )

  -- the start block enters each state once, so its actions and all transitions' own are together at most the actions
  code_lines_by : (k : ℕ) → ((i : ℕ) → i < length c.transitions → length (block c i) ≤ k + acts_many c (transition_of i))
      → length (code_of c) ≤ T * k + S + A
  unfolding code_of
  code_lines_by k f =
      omega (arith, length-append (start_block c) (concat_map (block c) (head_order c)), start_lines c h, blocks_lines k f, all_owned c)

  pub code_lines : length (code_of c) ≤ lines_most S T A
  code_lines = code_lines_by (block_most S A) block_lines

-- the one step that computes with the sizes
sizes_suffice : lines_most STATES TRANSITIONS ACTIONS ≤ INSTRUCTIONS
sizes_suffice = omega arith

pub code_bound : (c : Chart) → SoundChart c → SizedChart c → length (code_of c) ≤ INSTRUCTIONS
code_bound c h z = le_trans (code_lines c h STATES TRANSITIONS ACTIONS z.states z.transitions z.actions) sizes_suffice
