-- `code_fits` tries each block, the start block first. Assumes nothing.
use mathlib.Core.Path.{◌≡◌, ◌∙◌}
use mathlib.Core.Bool.{true}
use Prim.Native.Nat.{ℕ, ◌+◌, ◌-◌, ◌*◌, ◌≤◌}
use native.Mathlib.Omega.{arith}
use lib.ListN.{drop}
use Rattle.meaning.specs.Lists.{chunks}
use Rattle.meaning.specs.WellFormed.{HEAD_ROW, INSTR_ROW, head_rows, blocks_fill, left_after_each}
use Rattle.meaning.specs.WellFormed.{code_fits}
use Rattle.plan_rows.proofs.Blocks.{fills_start, fills_within}
use Rattle.rules.proofs.Tests.{refuted, held}
use Rattle.examiner.proofs.Wholes.{whole_sized, whole_start, whole_few, heads_there, code_there}
use Rattle.examiner.proofs.Loops.{heads_first, heads_step}
use Rattle.examiner.proofs.Blocks.{rest_fits, blocks_start, blocks_stop, blocks_next, blocks_done, filled_on, filled_within}
use Rattle.examiner.proofs.instructions.code_fits.Goals.{After-block_fits, After-block_fits-in-loop-h, After-block_length-n, Start}
use Rattle.examiner.proofs.instructions.code_fits.Goals as goal

abbrev base-from-length : After-block_length-n → ℕ
base-from-length c = c.code_at-base.result

abbrev heads-from-length : After-block_length-n → ℕ
heads-from-length c = c.heads_at-heads.result

-- the blocks fill the instructions, so the start block lies within them
begun : (c : Start)
    → blocks_fill c.args.k.instructions c.args.k.start (head_rows c.args.plan.now c.args.k) ≡ true
begun c =
    fills_start c.args.plan.now c.args.k (whole_start c.args.plan.now c.args.k c.requires.0)
    (whole_few c.args.plan.now c.args.k c.requires.0)
    ∙ c.requires.1

pub code_at-base-requires : goal.code_at-base-requires
code_at-base-requires c = whole_sized c.args.plan.now c.args.k c.requires.0

pub block_fits-requires : goal.block_fits-requires
block_fits-requires c =
    let a = c.args in
    let s = whole_sized a.plan.now a.k c.requires.0 in
    let w = fills_within a.k.instructions a.k.start (head_rows a.plan.now a.k) (begun c.before) in
    (s, omega arith, omega (arith, code_there a.plan.now a.k c.requires.0, c.code_at-base.ensures))

-- what the call for the start block says, and that for a head's block
start-tried : (c : After-block_fits)
    → c.block_fits.result
    ≡ code_fits c.args.k (left_after_each c.args.k.start)
    (drop c.code_at-base.result c.args.plan.now)
start-tried c = c.block_fits.ensures

block-tried : (c : After-block_fits-in-loop-h)
    → c.block_fits-in-loop-h.result
    ≡ code_fits c.args.k (left_after_each c.block_length-n.result)
    (drop (base-from-length c.before + c.loop-h.done * INSTR_ROW)
    c.args.plan.now)
block-tried c = c.block_fits-in-loop-h.ensures

pub returns-then-not-block_fits : goal.returns-then-not-block_fits
returns-then-not-block_fits c =
    let a = c.args in
    rw (blocks_start a.k a.plan.now, ← c.code_at-base.ensures)
    (rw (refuted (start-tried c.before) c.if-not-block_fits.true-raw))

pub heads_at-heads-requires : goal.heads_at-heads-requires
heads_at-heads-requires c =
    whole_sized c.args.plan.now c.args.k c.requires.0

pub loop-h-init : goal.loop-h-init
unfolding head_rows
loop-h-init c =
    let s = c.before.before.before.before in
    let a = c.args in
    let b = c.code_at-base.result in (
      heads_first (λ m q. rest_fits a.k b a.k.start m q a.plan.now) c.heads_at-heads.result a.k.heads
          ∙ rw (blocks_start a.k a.plan.now, ← c.code_at-base.ensures)
          (rw (held (start-tried c.before.before) c.if-not-block_fits.false-raw, c.heads_at-heads.ensures)),
      heads_first (λ m q. blocks_fill a.k.instructions a.k.start (chunks m HEAD_ROW (drop q a.plan.now))) c.heads_at-heads.result a.k.heads
          ∙ rw c.heads_at-heads.ensures (begun s),
      omega (arith, heads_there a.plan.now a.k c.requires.0, c.heads_at-heads.ensures),
    )

inside : (c : After-block_length-n)
    → c.loop-h.done + c.block_length-n.result ≤ c.args.k.instructions
inside c =
    let a = c.args in
    let w = c.loop-h in
    filled_within a.k (base-from-length c) w.done (a.k.heads - w.h) (heads-from-length c + w.h * HEAD_ROW)
    a.plan.now c.block_length-n.result
    c.block_length-n.ensures (omega arith) a.k.instructions w.invariant.1

pub overflow_mul-done : goal.overflow_mul-done
overflow_mul-done c =
    omega (arith, inside c, whole_sized c.args.plan.now c.args.k c.requires.0)

pub overflow_add-base : goal.overflow_add-base
overflow_add-base c =
    omega (
      arith,
      inside c,
      code_there c.args.plan.now c.args.k c.requires.0,
      c.code_at-base.ensures,
    )

pub block_fits-requires-in-loop-h : goal.block_fits-requires-in-loop-h
block_fits-requires-in-loop-h c =
    let z = whole_sized c.args.plan.now c.args.k c.requires.0 in
    let i = inside c in (
      z,
      omega arith,
      omega (
        arith,
        code_there c.args.plan.now c.args.k c.requires.0,
        c.code_at-base.ensures,
      ),
    )

pub returns-then-not-block_fits-2 : goal.returns-then-not-block_fits-2
returns-then-not-block_fits-2 c =
    let d = c.before.before in
    let a = c.args in
    let w = c.loop-h in
    blocks_stop a.k (base-from-length d) w.done (a.k.heads - w.h) (heads-from-length d + w.h * HEAD_ROW)
    a.plan.now c.block_length-n.result
    c.block_length-n.ensures (omega arith) (refuted (block-tried c.before) c.if-not-block_fits-2.true-raw) w.invariant.0

pub overflow_add-done : goal.overflow_add-done
overflow_add-done c =
    let d = c.before.before in
    omega (arith, inside d, whole_sized c.args.plan.now c.args.k c.requires.0)

pub loop-h-preserved : goal.loop-h-preserved
loop-h-preserved c =
    let d = c.before.before in
    let a = c.args in
    let w = c.loop-h in
    let b = base-from-length d in
    let n = c.block_length-n.result in
    let left : ℕ = a.k.heads - w.h in
    let at : ℕ = heads-from-length d + w.h * HEAD_ROW in (
      heads_step (λ m q. rest_fits a.k b (w.done + n) m q a.plan.now) (heads-from-length d) a.k.heads w.h
          ∙ blocks_next a.k b w.done left at a.plan.now n c.block_length-n.ensures (omega arith)
          (held (block-tried c.before) c.if-not-block_fits-2.false-raw) w.invariant.0,
      heads_step (λ m q. blocks_fill a.k.instructions (w.done + n) (chunks m HEAD_ROW (drop q a.plan.now))) (heads-from-length d) a.k.heads w.h
          ∙ filled_on a.k b w.done left at a.plan.now n c.block_length-n.ensures (omega arith)
          a.k.instructions w.invariant.1,
      omega arith,
    )

pub returns : goal.returns
returns c =
    let a = c.args in
    let w = c.loop-h in
    blocks_done a.k c.code_at-base.result w.done (a.k.heads - w.h) (c.heads_at-heads.result + w.h * HEAD_ROW) a.plan.now (omega arith) w.invariant.0
