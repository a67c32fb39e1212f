-- `put_visit`: the default actions where due, then the state. Assumes nothing.
use Rattle.chart_rows.proofs.Rows.{states_most}
use mathlib.Core.Path.{ap}
use lib.ListN.{length, length-append}
use Rattle.meaning.specs.Value.{chart_of}
use Rattle.meaning.specs.Compile.{code_acts, enter_code}
use Rattle.meaning.specs.declared.chart.Owner.TheVariants.{DefaultOf as default_of}
use Rattle.emitter.proofs.Laws.{put_both, emits_at}
use Rattle.blocks.proofs.Putting.{visit_plain, visit_due, put_as}
use native.Mathlib.Omega.{arith}
use Rattle.blocks.proofs.pieces.put_visit.Goals as goal

pub put_enter-requires : goal.put_enter-requires
put_enter-requires c = (
  c.requires.1,
  omega (
    arith,
    c.requires.2,
    ap length (visit_plain (chart_of c.args.c.now.chart.now)
        c.args.p c.args.s _ _
        c.by_default.ensures c.if-not-by_default.true-raw),
  ),
)

pub returns-then-not-by_default : goal.returns-then-not-by_default
returns-then-not-by_default c =
    put_as _ _ _ (visit_plain (chart_of c.args.c.now.chart.now) c.args.p
    c.args.s _ _ c.by_default.ensures
    c.if-not-by_default.true-raw) c.put_enter.ensures

pub put_acts-q-requires : goal.put_acts-q-requires
put_acts-q-requires c = (
  omega (
    arith,
    c.requires.0,
    states_most c.args.c.now.chart.now,
  ),
  omega (
    arith,
    c.requires.2,
    ap length (visit_due (chart_of c.args.c.now.chart.now)
        c.args.p c.args.s _ _
        c.by_default.ensures c.if-not-by_default.false-raw),
    length-append (code_acts (chart_of c.args.c.now.chart.now)
        (default_of c.args.p))
        (enter_code (chart_of c.args.c.now.chart.now)
        c.args.s),
  ),
)

pub put_enter-requires-2 : goal.put_enter-requires-2
put_enter-requires-2 c = (
  c.requires.1,
  omega (
    arith,
    c.requires.2,
    emits_at _ _ _ c.put_acts-q.ensures,
    ap length (visit_due (chart_of c.args.c.now.chart.now)
        c.args.p c.args.s _ _
        c.by_default.ensures
        c.if-not-by_default.false-raw),
    length-append (code_acts (chart_of c.args.c.now.chart.now)
        (default_of c.args.p))
        (enter_code (chart_of c.args.c.now.chart.now)
        c.args.s),
  ),
)

pub returns : goal.returns
returns c =
    put_as _ _ _ (visit_due (chart_of c.args.c.now.chart.now) c.args.p
    c.args.s _ _
    c.by_default.ensures
    c.if-not-by_default.false-raw)
    (put_both _ _ _ c.put_acts-q.ensures c.put_enter-2.ensures)
