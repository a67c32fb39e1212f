use Prim.Native.Nat.{◌≤◌}
use Rattle.choice.specs.Span.{Goes}
use Rattle.choice.proofs.mark_gone.Given as goal

abbrev pub invariant-loop-x : goal.invariant-loop-x
invariant-loop-x l = Goes (record { top = l.fn.span.top; first = l.fn.span.first; end = l.x }) l.initial.gone l.gone × (l.fn.span.first ≤ l.x) ×
    (l.x ≤ l.fn.span.end)
