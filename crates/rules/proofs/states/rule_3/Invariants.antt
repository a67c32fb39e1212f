use mathlib.Core.Path.{◌≡◌}
use Prim.Native.Nat.{ℕ, ◌-◌}
use mathlib.Core.Bool.{Bool}
use lib.ListN.{length}
use Rattle.meaning.specs.Lists.{every, from}
use Rattle.meaning.specs.Chart.{Chart}
use Rattle.meaning.specs.Tree.{kind_of, children}
use Rattle.meaning.specs.Rules.{children_fit, rule_3}
use Rattle.meaning.specs.Value.{chart_of}
use Rattle.rules.proofs.states.rule_3.Given as goal

abbrev pub tried : Chart → ℕ → Bool
tried k s = children_fit k (kind_of k s) (children k s)

abbrev pub invariant-loop-s : goal.invariant-loop-s
invariant-loop-s l = every (tried (chart_of l.chart)) (from l.s (length (chart_of l.chart).states - l.s)) ≡ rule_3 (chart_of l.chart)
