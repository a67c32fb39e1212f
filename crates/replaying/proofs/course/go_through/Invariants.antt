use Rattle.meaning.specs.WellFormed.{plan_by}
use Rattle.promises.specs.Replay.{items_of}
use Rattle.replaying.proofs.Coursing.{Coursing}
use Rattle.replaying.proofs.course.go_through.Given as goal

abbrev pub invariant-loop-done : goal.invariant-loop-done
invariant-loop-done l =
    Coursing (plan_by l.plan.numbers.now) (items_of l.events) l.initial.widget l.initial.trace l.done l.widget l.trace l.at
