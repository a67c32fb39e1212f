-- `put_move`: the exits, the actions, the way to the goal. Assumes nothing.
use Rattle.chart_rows.proofs.Rows.{transitions_most}
use Rattle.meaning.specs.Value.{chart_of}
use Rattle.emitter.proofs.Laws.{put_both, emits_at}
use Rattle.blocks.proofs.Putting.{put_as}
use Rattle.blocks.proofs.Joining.{move_as, move_long}
use native.Mathlib.Omega.{arith}
use Rattle.blocks.proofs.put_move.Goals as goal

pub put_exits-p-requires : goal.put_exits-p-requires
put_exits-p-requires c = (
  c.requires.2,
  omega (
    arith,
    c.requires.3,
    move_long (chart_of c.args.c.now.chart.now) c.args.t
        c.args.goal c.args.top
        c.state_count-left.result c.state_count-left.ensures,
  ),
)

pub put_acts-q-requires : goal.put_acts-q-requires
put_acts-q-requires c = (
  omega (
    arith,
    c.requires.0,
    transitions_most c.args.c.now.chart.now,
  ),
  omega (
    arith,
    c.requires.3,
    emits_at _ _ _ c.put_exits-p.ensures,
    move_long (chart_of c.args.c.now.chart.now)
        c.args.t c.args.goal
        c.args.top c.state_count-left.result
        c.state_count-left.ensures,
  ),
)

pub put_towards-requires : goal.put_towards-requires
put_towards-requires c = (
  c.requires.1,
  c.requires.2,
  omega (
    arith,
    c.requires.3,
    emits_at _ _ _ c.put_exits-p.ensures,
    emits_at _ _ _ c.put_acts-q.ensures,
    move_long (chart_of c.args.c.now.chart.now)
        c.args.t c.args.goal
        c.args.top
        c.state_count-left.result
        c.state_count-left.ensures,
  ),
)

pub returns : goal.returns
returns c =
    put_as _ _ _ (move_as (chart_of c.args.c.now.chart.now) c.args.t
    c.args.goal c.args.top
    c.state_count-left.result c.state_count-left.ensures)
    (put_both _ _ _ c.put_exits-p.ensures
    (put_both _ _ _ c.put_acts-q.ensures c.put_towards.ensures))
