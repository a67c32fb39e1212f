-- The hypotheses of these laws hold of chart K of 01 ("Checked by example"): they are not empty. And what the test of a trace's numbers
-- refuses, over K. Assumes nothing.
use mathlib.Core.Path.{◌≡◌, refl}
use Prim.Native.Nat.{◌<◌, suc, zero, ℕ}
use native.Mathlib.Omega.{arith}
use mathlib.Core.Bool.{false, true}
use mathlib.Core.List.{[], ◌∷◌, map}
use mathlib.Core.Option.{none}
use lib.ListN.{get_or}
use lib.IntN.{negsuc, pos}
use Rattle.invariants.specs.Named.{all_named, entry_named, of_chart, one_of}
use Rattle.invariants.proofs.Calls.{start_facts}
use Rattle.invariants.proofs.Own.{OwnState}
use Rattle.laws.proofs.Sound.{sound_chart}
use Rattle.laws.proofs.Value.{ActInRange, GuardInRange, RowInRange, SizedChart}
use Rattle.meaning.specs.Calls.{start, unstarted}
use Rattle.meaning.specs.Chart.{no_action}
use Rattle.meaning.specs.Examples.{chart_K}
use Rattle.meaning.specs.Open.{all_open}
use Rattle.meaning.specs.Rules.{failing_rule}
use Rattle.meaning.specs.Tree.{trans_row, var_row}

pub rules_K : failing_rule chart_K ≡ none
unfolding all_open
rules_K = refl

pub sized_K : SizedChart chart_K
unfolding all_open
sized_K = record {
  states = omega arith;
  vars = omega arith;
  events = omega arith;
  transitions = omega arith;
  actions = omega arith;
  rows_range = rows;
  guards_range = guards;
  acts_range = acts;
}
  where
    rows : (v : ℕ) → v < 1 → RowInRange (var_row chart_K.vars v)
    rows zero l = record { low = refl; high = refl; first = refl }
    rows (suc v) l = absurd (omega arith)

    guards : (t : ℕ) → t < 3 → GuardInRange (trans_row chart_K t).guard
    guards zero l = tt
    guards (suc zero) l = tt
    guards (suc (suc zero)) l = tt
    guards (suc (suc (suc t))) l = absurd (omega arith)

    acts : (i : ℕ) → i < 3 → ActInRange (get_or chart_K.actions i no_action).act
    acts zero l = refl
    acts (suc zero) l = refl
    acts (suc (suc zero)) l = refl
    acts (suc (suc (suc i))) l = absurd (omega arith)

-- start is done, and by the law its state is the chart's own
done_K : (start chart_K unstarted 3000).number ≡ 0
unfolding all_open
done_K = refl

pub own_K : OwnState chart_K (start chart_K unstarted 3000).after
own_K = (start_facts chart_K (sound_chart chart_K rules_K) sized_K unstarted 3000).done done_K

-- in the order: the fourth starred trace; a fourth transition; a sixth state left, and -1 entered; a second variable, and a value of 101;
-- event 0, and a third; a number told past the range; a third number that is not used; a kind 7; numbers left over
named_in_K : map (all_named (of_chart chart_K)) (
    (pos 1 ∷ pos 2 ∷ pos 0 ∷ pos 2 ∷ pos 4 ∷ pos 0 ∷ pos 2 ∷ pos 2 ∷ pos 0 ∷ pos 4 ∷ pos 0 ∷ pos 60 ∷ pos 3 ∷ pos 1 ∷ pos 0 ∷ [])
    ∷ (pos 1 ∷ pos 3 ∷ pos 0 ∷ []) ∷ (pos 2 ∷ pos 5 ∷ pos 0 ∷ []) ∷ (pos 3 ∷ negsuc 0 ∷ pos 0 ∷ [])
    ∷ (pos 4 ∷ pos 1 ∷ pos 0 ∷ []) ∷ (pos 4 ∷ pos 0 ∷ pos 101 ∷ []) ∷ (pos 5 ∷ pos 0 ∷ pos 0 ∷ []) ∷ (pos 5 ∷ pos 3 ∷ pos 0 ∷ [])
    ∷ (pos 6 ∷ pos 1000000001 ∷ pos 0 ∷ []) ∷ (pos 3 ∷ pos 1 ∷ pos 1 ∷ []) ∷ (pos 7 ∷ pos 1 ∷ pos 0 ∷ []) ∷ (pos 3 ∷ pos 1 ∷ []) ∷ []
    )
    ≡ true ∷ false ∷ false ∷ false ∷ false ∷ false ∷ false ∷ false ∷ false ∷ false ∷ false ∷ false ∷ []
unfolding all_open all_named entry_named of_chart one_of
named_in_K = refl
