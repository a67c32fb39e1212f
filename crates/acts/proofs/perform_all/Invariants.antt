use Prim.Native.Nat.{◌-◌}
use Rattle.acts.proofs.Acting.{Acting}
use Rattle.acts.proofs.perform_all.Given as goal

abbrev pub invariant-loop-i : goal.invariant-loop-i
invariant-loop-i l =
    Acting l.c.chart.now l.arg l.fn.owner l.initial.widget l.initial.trace l.initial.next l.i l.widget l.trace l.next

abbrev pub decreases-loop-i : goal.decreases-loop-i
decreases-loop-i l = l.n - l.i
