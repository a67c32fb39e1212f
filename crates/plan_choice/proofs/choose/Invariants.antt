use mathlib.Core.Path.{◌≡◌}
use Prim.Native.Nat.{ℕ, ◌<◌}
use mathlib.Core.Bool.{false}
use lib.ListN.{get_or}
use Rattle.meaning.specs.Machine.{spans_meet}
use Rattle.choice.specs.Choice.{seen}
use Rattle.plan_choice.specs.Heads.{head_at, head_of}
use Rattle.plan_choice.proofs.Loop.{Turning}
use Rattle.plan_choice.proofs.choose.Given as goal

abbrev pub invariant-loop-pick : goal.invariant-loop-pick
invariant-loop-pick l =
    (p : ℕ) → p < l.pick-index
    → spans_meet (head_at l.plan.numbers.now l.at) (head_of l.plan.numbers.now l.base (get_or l.pick-items p 0)) ≡ false

abbrev pub invariant-heads : goal.invariant-heads
invariant-heads l =
    Turning l.plan.numbers.now l.plan.counts l.base l.event (seen l.active l.vars) l.plan.links l.end l.i l.picks l.count
