-- `put_stored`: past all of it where its parent is out; past it where another child is stored. Assumes nothing.
use Rattle.meaning.specs.Value.{chart_of}
use Rattle.chart_rows.proofs.Rows.{states_most}
use Rattle.emitter.proofs.Finding.{code_few}
use mathlib.Core.Path.{ap}
use lib.ListN.{length}
use Rattle.tree.proofs.Passing.{up_falls}
use Rattle.emitter.proofs.Laws.{put_first, emits_at}
use Rattle.blocks.proofs.Putting.{stored_other, stored_o, put_as}
use Rattle.meaning.specs.declared.chart.Owner.TheVariants.{EntryOf as entry_of}
use native.Mathlib.Omega.{arith}
use Rattle.blocks.proofs.pieces.put_stored.Goals as goal

pub act_count-k-requires : goal.act_count-k-requires
act_count-k-requires c = (omega (arith, c.requires.1, states_most c.args.c.now.chart.now))

pub overflow_add-k : goal.overflow_add-k
overflow_add-k c =
    omega (
      arith,
      c.act_count-k.ensures,
      code_few c.args.c.now.chart.now (entry_of c.args.d),
    )

pub put_instr-q-requires : goal.put_instr-q-requires
put_instr-q-requires c =
    let long = ap length (stored_other (chart_of c.args.c.now.chart.now)
    c.args.d _ _ _ _ c.parent_of-p.ensures
    c.kind_of.ensures c.is_o.ensures
    c.act_count-k.ensures c.if-not-is_o.true-raw) in
    omega (
      arith,
      c.requires.1,
      c.requires.2,
      c.act_count-k.ensures,
      code_few c.args.c.now.chart.now (entry_of c.args.d),
      up_falls c.args.c.now.chart.now c.args.c.now.prepared.ruled
          c.args.d c.requires.0 _
          c.parent_of-p.ensures,
      states_most c.args.c.now.chart.now,
    )

pub put_enter-requires : goal.put_enter-requires
put_enter-requires c = (
  c.requires.1,
  omega (
    arith,
    c.requires.2,
    emits_at _ _ _ c.put_instr-q.ensures,
    ap length (stored_other (chart_of c.args.c.now.chart.now)
        c.args.d _ _ _ _
        c.parent_of-p.ensures
        c.kind_of.ensures
        c.is_o.ensures
        c.act_count-k.ensures
        c.if-not-is_o.true-raw),
  ),
)

pub returns-then-not-is_o : goal.returns-then-not-is_o
returns-then-not-is_o c =
    put_as _ _ _ (stored_other (chart_of c.args.c.now.chart.now) c.args.d
    _ _ _ _ c.parent_of-p.ensures
    c.kind_of.ensures
    c.is_o.ensures
    c.act_count-k.ensures
    c.if-not-is_o.true-raw)
    (put_first _ _ _ c.put_instr-q.ensures c.put_enter.ensures)

pub overflow_add-k-2 : goal.overflow_add-k-2
overflow_add-k-2 c =
    omega (
      arith,
      c.act_count-k.ensures,
      code_few c.args.c.now.chart.now
          (entry_of c.args.d),
    )

pub put_instr-q-requires-2 : goal.put_instr-q-requires-2
put_instr-q-requires-2 c =
    let long = ap length (stored_o (chart_of c.args.c.now.chart.now)
    c.args.d _ _ _ _ c.parent_of-p.ensures
    c.kind_of.ensures c.is_o.ensures
    c.act_count-k.ensures c.if-not-is_o.false-raw) in
    omega (
      arith,
      c.requires.1,
      c.requires.2,
      c.act_count-k.ensures,
      code_few c.args.c.now.chart.now
          (entry_of c.args.d),
      up_falls c.args.c.now.chart.now c.args.c.now.prepared.ruled
          c.args.d c.requires.0 _
          c.parent_of-p.ensures,
      states_most c.args.c.now.chart.now,
    )

pub overflow_add-k-3 : goal.overflow_add-k-3
overflow_add-k-3 c =
    omega (
      arith,
      c.act_count-k.ensures,
      code_few c.args.c.now.chart.now
          (entry_of c.args.d),
    )

pub put_instr-r-requires : goal.put_instr-r-requires
put_instr-r-requires c =
    let long = ap length (stored_o (chart_of c.args.c.now.chart.now)
    c.args.d _ _ _ _ c.parent_of-p.ensures
    c.kind_of.ensures
    c.is_o.ensures c.act_count-k.ensures
    c.if-not-is_o.false-raw) in
    omega (
      arith,
      c.requires.1,
      c.requires.2,
      emits_at _ _ _ c.put_instr-q-2.ensures,
      c.act_count-k.ensures,
      code_few c.args.c.now.chart.now
          (entry_of c.args.d),
      up_falls c.args.c.now.chart.now c.args.c.now.prepared.ruled
          c.args.d c.requires.0 _
          c.parent_of-p.ensures,
      states_most c.args.c.now.chart.now,
    )

pub put_enter-requires-2 : goal.put_enter-requires-2
put_enter-requires-2 c = (
  c.requires.1,
  omega (
    arith,
    c.requires.2,
    emits_at _ _ _ c.put_instr-q-2.ensures,
    emits_at _ _ _ c.put_instr-r.ensures,
    ap length (stored_o (chart_of c.args.c.now.chart.now)
        c.args.d _ _ _ _
        c.parent_of-p.ensures
        c.kind_of.ensures
        c.is_o.ensures
        c.act_count-k.ensures
        c.if-not-is_o.false-raw),
  ),
)

pub returns : goal.returns
returns c =
    put_as _ _ _ (stored_o (chart_of c.args.c.now.chart.now) c.args.d _ _
    _ _ c.parent_of-p.ensures
    c.kind_of.ensures c.is_o.ensures
    c.act_count-k.ensures c.if-not-is_o.false-raw)
    (put_first _ _ _ c.put_instr-q-2.ensures
    (put_first _ _ _ c.put_instr-r.ensures c.put_enter-2.ensures))
