-- `qh_plan_replay` replays over the plan on the widget that the numbers state. Assumes nothing.
use lib.ListN.{length}
use Rattle.numbers.proofs.Laws.{back32}
use Rattle.meaning.specs.declared.State.{State}
use Rattle.promises.specs.Replay.{Course, items_of, replay}
use Rattle.boundary.proofs.Ending.{replays_as, replayed_trace}
use Rattle.boundary.proofs.qh_plan_replay.Goals as goal

pub returns : goal.returns
returns c =
    let course : State → Course = λ u. replay c.args.plan.now u (items_of c.args.events.now) (length c.args.trace.now) in
    record {
      stops = replays_as course c.load-state.ensures c.replay-replayed.ensures.result
          (back32 _ c.stop.type_inv) c.stop.ensures;
      lent = replayed_trace course (length c.args.trace.now) c.load-state.ensures
          c.replay-replayed.ensures.lent;
    }
