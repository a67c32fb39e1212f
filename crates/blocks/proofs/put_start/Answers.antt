-- `put_start`: the root, and below it everything by default. Assumes nothing.
use mathlib.Core.Path.{ap}
use lib.ListN.{length, length-append}
use Rattle.meaning.specs.Value.{chart_of}
use Rattle.meaning.specs.Compile.{enter_code, visit_code}
use Rattle.meaning.specs.Entry.{below, by_defaults}
use Rattle.meaning.specs.Lists.{concat_map}
use Rattle.tree.proofs.Passing.{sound}
use Rattle.emitter.proofs.Laws.{put_both, emits_at}
use Rattle.blocks.proofs.Putting.{put_as}
use Rattle.blocks.proofs.Joining.{start_as}
use native.Mathlib.Omega.{arith}
use Rattle.blocks.proofs.put_start.Goals as goal

pub put_enter-p-requires : goal.put_enter-p-requires
put_enter-p-requires c = (
  omega (arith, (sound c.args.c.now.chart.now c.args.c.now.prepared.ruled).two),
  omega (
    arith,
    c.requires,
    ap length (start_as (chart_of c.args.c.now.chart.now)
        c.state_count-left.result c.state_count-left.ensures),
    length-append (enter_code (chart_of c.args.c.now.chart.now) 0)
        (concat_map (visit_code (chart_of c.args.c.now.chart.now))
        (below (chart_of c.args.c.now.chart.now) by_defaults
        c.state_count-left.result 0)),
  ),
)

pub put_defaults-requires : goal.put_defaults-requires
put_defaults-requires c = (
  omega (
    arith,
    (sound c.args.c.now.chart.now
        c.args.c.now.prepared.ruled).two,
  ),
  omega (
    arith,
    c.requires,
    emits_at _ _ _ c.put_enter-p.ensures,
    ap length (start_as (chart_of c.args.c.now.chart.now)
        c.state_count-left.result
        c.state_count-left.ensures),
    length-append (enter_code (chart_of c.args.c.now.chart.now) 0)
        (concat_map (visit_code (chart_of c.args.c.now.chart.now))
        (below (chart_of c.args.c.now.chart.now) by_defaults
        c.state_count-left.result 0)),
  ),
)

pub returns : goal.returns
returns c =
    put_as _ _ _ (start_as (chart_of c.args.c.now.chart.now)
    c.state_count-left.result c.state_count-left.ensures)
    (put_both _ _ _ c.put_enter-p.ensures c.put_defaults.ensures)
