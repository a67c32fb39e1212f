-- `blocks_fill` goes from block to block. Assumes nothing.
use mathlib.Core.Path.{◌≡◌, sym, ap, ◌∙◌}
use Prim.Native.Nat.{ℕ, ◌+◌, ◌-◌, ◌*◌}
use native.Mathlib.Omega.{arith}
use lib.ListN.{drop}
use Rattle.meaning.specs.Lists.{chunks}
use Rattle.meaning.specs.WellFormed.{HEAD_ROW, head_rows, blocks_fill, all_blocks_fill}
use Rattle.plan_rows.proofs.Blocks.{fills_past, fills_start}
use Rattle.rules.proofs.Tests.{refuted, held}
use Rattle.examiner.proofs.Wholes.{whole_sized, whole_start, whole_few, heads_there}
use Rattle.examiner.proofs.Loops.{heads_first, heads_step, fill_gap, fill_long, fill_next, fill_done}
use Rattle.examiner.proofs.heads.blocks_fill.Goals.{Start, After-block_length-n, then-not-begins_with-via-then-not-begins_with, then-not-begins_with-via-else-not-begins_with+then-k-end}
use Rattle.examiner.proofs.heads.blocks_fill.Goals as goal

begun : (c : Start)
    → blocks_fill c.args.k.instructions c.args.k.start (head_rows c.args.plan.now c.args.k)
    ≡ all_blocks_fill c.args.plan.now c.args.k
begun c =
    fills_start c.args.plan.now c.args.k (whole_start c.args.plan.now c.args.k c.requires)
    (whole_few c.args.plan.now c.args.k c.requires)

pub returns-then-k : goal.returns-then-k
returns-then-k c =
    let a = c.args in
    sym (fills_past a.k.instructions a.k.start (head_rows a.plan.now a.k) (omega arith)) ∙ begun c.before.before

pub heads_at-base-requires : goal.heads_at-base-requires
heads_at-base-requires c =
    whole_sized c.args.plan.now c.args.k c.requires

pub loop-h-init : goal.loop-h-init
unfolding head_rows
loop-h-init c =
    let a = c.args in (
      heads_first (λ m q. blocks_fill a.k.instructions a.k.start (chunks m HEAD_ROW (drop q a.plan.now))) c.heads_at-base.result a.k.heads
          ∙ ap (λ m. blocks_fill a.k.instructions a.k.start (chunks a.k.heads HEAD_ROW (drop m a.plan.now)))
          c.heads_at-base.ensures ∙ begun c.before.before.before,
      omega arith,
      omega (arith, heads_there a.plan.now a.k c.requires, c.heads_at-base.ensures),
    )

pub returns-then-not-begins_with : goal.returns-then-not-begins_with
returns-then-not-begins_with c =
    let a = c.args in
    let w = c.loop-h in
    let at : ℕ = c.heads_at-base.result + w.h * HEAD_ROW in
    elim c.then-not-begins_with.branch [
      | then-not-begins_with-via-then-not-begins_with d ↦ fill_gap a.k.instructions w.end at (a.k.heads - w.h) a.plan.now (omega arith)
          (refuted c.begins_with.ensures d.if-not-begins_with.true-raw) w.invariant.0
      | then-not-begins_with-via-else-not-begins_with+then-k-end d ↦ fill_long a.k.instructions w.end at (a.k.heads - w.h) a.plan.now
          (omega arith) (whole_few a.plan.now a.k c.requires) w.invariant.1
          (held c.begins_with.ensures d.if-not-begins_with.false-raw)
          c.block_length-n.result c.block_length-n.ensures d.if-k-end.true w.invariant.0
    ]

pub loop-h-preserved : goal.loop-h-preserved
loop-h-preserved c =
    let a = c.args in
    let w = c.loop-h in
    let at : ℕ = c.heads_at-base.result + w.h * HEAD_ROW in (
      heads_step (λ m q. blocks_fill a.k.instructions (w.end + c.block_length-n.result) (chunks m HEAD_ROW (drop q a.plan.now)))
          c.heads_at-base.result a.k.heads w.h
          ∙ fill_next a.k.instructions w.end at (a.k.heads - w.h) a.plan.now (omega arith)
          (whole_few a.plan.now a.k c.requires) w.invariant.1
          (held c.begins_with.ensures c.if-not-begins_with.false-raw)
          c.block_length-n.result c.block_length-n.ensures w.invariant.0,
      omega arith,
      omega arith,
    )

pub returns : goal.returns
returns c =
    let a = c.args in
    let w = c.loop-h in
    fill_done a.k.instructions w.end (c.heads_at-base.result + w.h * HEAD_ROW) (a.k.heads - w.h) a.plan.now (omega arith) w.invariant.0
