-- `put_head` puts three, three and four numbers. Assumes nothing.
use Rattle.numbers.proofs.Laws.{back32}
use Rattle.meaning.specs.Value.{chart_of}
use Rattle.chart_rows.proofs.Rows.{transitions_most}
use Rattle.emitter.proofs.Laws.{puts_at}
use Rattle.compiler.proofs.Heading.{row_facts, row_reads, row_small, span_first, span_last, span_small, guard_three, head_put}
use native.Mathlib.Omega.{arith}
use Rattle.compiler.proofs.heads.put_head.Goals as goal

pub span_of-span-requires : goal.span_of-span-requires
span_of-span-requires c =
    let f = row_facts c.args.chart.now c.requires.0 c.args.t
    c.requires.1 _ c.trans_row-row.ensures in (c.requires.0, (f.source, f.target))

pub number-requires : goal.number-requires
number-requires c = omega (arith, c.requires.1, transitions_most c.args.chart.now)

pub number-requires-2 : goal.number-requires-2
number-requires-2 c =
    (row_small c.args.chart.now c.requires.0
    c.args.t c.requires.1 _
    c.trans_row-row.ensures).0

pub number-requires-3 : goal.number-requires-3
number-requires-3 c =
    (row_small c.args.chart.now c.requires.0
    c.args.t c.requires.1 _
    c.trans_row-row.ensures).1

pub put_all-p-requires : goal.put_all-p-requires
put_all-p-requires c = omega (arith, c.requires.4)

pub put_guard-q-requires : goal.put_guard-q-requires
put_guard-q-requires c = (
  row_reads c.args.chart.now c.requires.0
      c.args.t c.requires.1 _
      c.trans_row-row.ensures,
  omega (
    arith,
    c.requires.4,
    puts_at _ _ _ c.put_all-p.ensures,
  ),
)

pub number-requires-4 : goal.number-requires-4
number-requires-4 c =
    omega (
      arith,
      c.span_of-span.ensures.spans.some,
      span_small c.args.chart.now c.requires.0
          c.args.t c.requires.1 _
          c.trans_row-row.ensures _
          c.span_of-span.ensures.spans,
    )

pub number-requires-5 : goal.number-requires-5
number-requires-5 c =
    omega (
      arith,
      c.span_of-span.ensures.spans.some,
      span_small c.args.chart.now c.requires.0
          c.args.t c.requires.1 _
          c.trans_row-row.ensures _ c.span_of-span.ensures.spans,
    )

pub number-requires-6 : goal.number-requires-6
number-requires-6 c = c.requires.2

pub number-requires-7 : goal.number-requires-7
number-requires-7 c = c.requires.3

pub put_all-requires : goal.put_all-requires
put_all-requires c =
    omega (
      arith,
      c.requires.4,
      puts_at _ _ _ c.put_all-p.ensures,
      puts_at _ _ _ c.put_guard-q.ensures,
      guard_three c.trans_row-row.result.guard,
    )

pub returns : goal.returns
returns c =
    head_put (chart_of c.args.chart.now)
    c.args.t _ _ _
    c.trans_row-row.ensures _ _
    (span_first c.args.chart.now
    c.requires.0
    c.args.t
    c.requires.1 _
    c.trans_row-row.ensures _
    c.span_of-span.ensures.spans)
    (span_last c.args.chart.now
    c.requires.0
    c.args.t
    c.requires.1 _
    c.trans_row-row.ensures _
    c.span_of-span.ensures.spans) _
    (rw (
      back32 c.number.result
          c.number.type_inv,
      c.number.ensures,
      back32
          c.number-2.result
          c.number-2.type_inv,
      c.number-2.ensures,
      back32 c.number-3.result
          c.number-3.type_inv,
      c.number-3.ensures,
    ) at c.put_all-p.ensures)
    c.put_guard-q.ensures
    (rw (
      back32 c.number-4.result
          c.number-4.type_inv,
      c.number-4.ensures,
      back32 c.number-5.result
          c.number-5.type_inv,
      c.number-5.ensures,
      back32 c.number-6.result c.number-6.type_inv,
      c.number-6.ensures,
      back32 c.number-7.result c.number-7.type_inv,
      c.number-7.ensures,
    ) at c.put_all.ensures)
