-- How long a plan can be: each part is a part of the whole, whose lines `plan_laws` counts, so that all of it has 32-bit places.
-- Assumes nothing.
use mathlib.Core.Path.{◌≡◌}
use Prim.Native.Nat.{ℕ, ◌+◌, ◌≤◌, ◌<◌}
use mathlib.Core.List.{List}
use native.Mathlib.Omega.{arith}
use lib.ListN.{length, length-append}
use lib.IntN.{ℤ}
use Rattle.sizes.specs.Sizes.{STATES, TRANSITIONS, ACTIONS, INSTRUCTIONS}
use Rattle.laws.specs.Facts.{Each}
use Rattle.laws.proofs.Value.{SizedChart, sized_chart}
use Rattle.plan_laws.proofs.Counted.{block_most, block_lines, code_bound}
use Rattle.plan_laws.proofs.Lines.{acts_long}
use Rattle.plan_laws.proofs.Order.{order_each as each_named}
use Rattle.chart_rows.proofs.Rows.{transitions_most}
use Rattle.meaning.specs.Rules.{Ruled}
use Rattle.tree.proofs.Passing.{rules_passed, sound}
use Rattle.tree.proofs.On.{length_from}
use Rattle.choice.proofs.All.{all_of, of_source, all_few}
use Rattle.meaning.specs.declared.chart.Owner.TheVariants.{TransitionOf as transition_of}
use Rattle.meaning.specs.Lists.{concat_map, from}
use Rattle.meaning.specs.Tree.{trans_row, all_states, all_transitions}
use Rattle.meaning.specs.Reaction.{choosing_order}
use Rattle.meaning.specs.Compile.{block, start_block, head_order, code_of}
use Rattle.meaning.specs.Value.{chart_of}
use Rattle.emitter.proofs.Finding.{code_few}

-- the most that a block comes to, with its own actions, and the most that any other part does
abbrev pub BLOCK : ℕ
BLOCK = block_most STATES ACTIONS + ACTIONS

abbrev pub CODE : ℕ
CODE = INSTRUCTIONS

module _ (v : List ℤ) (r : Ruled v) where
  sized : SizedChart (chart_of v)
  sized = sized_chart v (rules_passed v r).0

  pub block_few : (t : ℕ) → t < length (chart_of v).transitions → length (block (chart_of v) t) ≤ BLOCK
  block_few t l =
      let sizes = block_lines (chart_of v) (sound v r) STATES TRANSITIONS ACTIONS in
      let lines = sizes sized.states sized.transitions sized.actions t l in
      omega (arith, lines, acts_long (chart_of v) (transition_of t), code_few v (transition_of t))

  pub code_long : length (code_of (chart_of v))
      ≡ length (start_block (chart_of v)) + length (concat_map (block (chart_of v)) (head_order (chart_of v)))
  unfolding code_of
  code_long = length-append (start_block (chart_of v)) (concat_map (block (chart_of v)) (head_order (chart_of v)))

  pub code_most : length (code_of (chart_of v)) ≤ CODE
  code_most = code_bound (chart_of v) (sound v r) sized

  pub start_few : length (start_block (chart_of v)) ≤ CODE
  start_few = omega (arith, code_long, code_most)

  pub blocks_few : length (start_block (chart_of v)) + length (concat_map (block (chart_of v)) (head_order (chart_of v))) ≤ CODE
  blocks_few = omega (arith, code_long, code_most)

  pub order_few : length (head_order (chart_of v)) ≤ TRANSITIONS
  unfolding head_order choosing_order all_states all_transitions all_of of_source
  order_few =
      let n : length (head_order (chart_of v)) ≤ length (from 0 (length (chart_of v).transitions))
      = all_few (λ t. (trans_row (chart_of v) t).source) (from 0 (length (chart_of v).transitions)) (length (chart_of v).states) in
      omega (arith, length_from 0 (length (chart_of v).transitions), transitions_most v)

  pub order_each : Each (λ t. t < length (chart_of v).transitions) (head_order (chart_of v))
  order_each = each_named (chart_of v)
