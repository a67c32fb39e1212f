-- `put_block`: by where the transition leads. Assumes nothing.
use mathlib.Core.Path.{ap}
use lib.ListN.{length}
use Rattle.chart_rows.proofs.Rows.{transitions_most}
use Rattle.meaning.specs.Value.{chart_of}
use Rattle.blocks.proofs.Putting.{put_as}
use Rattle.blocks.proofs.Joining.{goes_inside, block_goes, block_stays}
use native.Mathlib.Omega.{arith}
use Rattle.blocks.proofs.put_block.Goals as goal

pub put_acts-requires : goal.put_acts-requires
put_acts-requires c =
    let a = c.before.before in (
      omega (arith, c.requires.0, transitions_most c.args.c.now.chart.now),
      omega (
        arith,
        c.requires.1,
        ap length (block_stays (chart_of c.args.c.now.chart.now) c.args.t _ c.trans_row-row.ensures c.aim_of-aim.ensures
            c.in_default.is),
      ),
    )

pub returns-in_default : goal.returns-in_default
returns-in_default c =
    let told = c.before.before.before in
    let a = told.before in
    put_as _ _ _ (block_stays (chart_of c.args.c.now.chart.now) c.args.t _ c.trans_row-row.ensures c.aim_of-aim.ensures
    c.in_default.is) c.put_acts.ensures

pub put_move-requires : goal.put_move-requires
put_move-requires c =
    let s = c.before in
    let a = s.before.before.before in
    let given = c.in-Some.is in
    let x = goes_inside c.args.c.now.chart.now c.args.c.now.prepared.ruled c.args.t c.requires.0 _ c.trans_row-row.ensures
    c.aim_of-aim.ensures given c.aimed.ensures c.scope-top.ensures in (
      c.requires.0,
      x.0,
      x.1,
      omega (
        arith,
        c.requires.1,
        ap length (block_goes (chart_of c.args.c.now.chart.now) c.args.t _ c.trans_row-row.ensures c.aim_of-aim.ensures
            given c.aimed.ensures c.scope-top.ensures),
      ),
    )

pub returns : goal.returns
returns c =
    let s = c.before.before.before in
    let a = s.before.before.before in
    put_as _ _ _ (block_goes (chart_of c.args.c.now.chart.now) c.args.t _ c.trans_row-row.ensures c.aim_of-aim.ensures
    c.in-Some.is c.aimed.ensures c.scope-top.ensures) c.put_move.ensures
