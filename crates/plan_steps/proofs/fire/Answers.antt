-- `fire` marks the head's transition as taken, then runs its block. Assumes nothing.
use mathlib.Core.Path.{◌≡◌, refl}
use Prim.Native.Nat.{◌+◌, ◌*◌}
use native.Mathlib.Omega.{arith}
use mir.Facts.{to_z-of_z}
use Rattle.meaning.specs.WellFormed.{HEAD_ROW}
use borrow.Author.Rules.{rules}
use Rattle.std.specs.Prelude.{Err}
use Rattle.plan_choice.proofs.Facts.{counts_sized}
use Rattle.plan_steps.proofs.Firing.{row_whole, taken_named, block_there, block_named, fired_here, fire_stop, fire_on}
use Rattle.plan_steps.proofs.fire.Goals as goal

pub heads_at-base-requires : goal.heads_at-base-requires
heads_at-base-requires c = counts_sized c.args.plan.now.examined

pub overflow_mul-row : goal.overflow_mul-row
overflow_mul-row c = omega (arith, c.requires.0, (counts_sized c.args.plan.now.examined).heads)

pub overflow_add-row : goal.overflow_add-row
overflow_add-row c = let q = row_whole c.args.plan.now.examined c.heads_at-base.ensures _ c.requires.0 in omega (arith, q)

pub overflow_add-row-2 : goal.overflow_add-row-2
overflow_add-row-2 c = let q = row_whole c.args.plan.now.examined c.heads_at-base.ensures _ c.requires.0 in omega (arith, q)

pub known-requires : goal.known-requires
known-requires c =
    let q = row_whole c.args.plan.now.examined c.heads_at-base.ensures _ c.requires.0 in
    (omega (arith, q), taken_named c.args.plan.now.examined c.heads_at-base.ensures _ c.requires.0 refl)

pub mark_taken-requires : goal.mark_taken-requires
mark_taken-requires c = (
  taken_named c.args.plan.now.examined c.heads_at-base.ensures _
      c.requires.0 c.known.ensures,
  c.requires.1,
)

pub returns-in_err-next : goal.returns-in_err-next
returns-in_err-next c =
    let a = c.args in
    let p = a.plan.now in
    let q : c.from_residual.result ≡ Err c.in_err-next.field-0.0 = search rules in
    rw q (fired_here p.examined c.heads_at-base.ensures _ c.requires.0 _
    (fire_stop p.numbers.now (c.heads_at-base.result + a.h * HEAD_ROW) _ c.known.ensures (c.in_err-next.ensures a.widget.now)))

pub overflow_add-row-3 : goal.overflow_add-row-3
overflow_add-row-3 c =
    let q = row_whole c.args.plan.now.examined c.heads_at-base.ensures _
    c.requires.0 in omega (arith, q)

pub known-start-requires : goal.known-start-requires
known-start-requires c =
    let b = c.heads_at-base.ensures in
    let q = row_whole c.args.plan.now.examined b _ c.requires.0 in
    (omega (arith, q), (block_named c.args.plan.now.examined b _ c.requires.0).0)

pub overflow_add-row-4 : goal.overflow_add-row-4
overflow_add-row-4 c =
    let q = row_whole c.args.plan.now.examined c.heads_at-base.ensures _
    c.requires.0 in omega (arith, q)

pub known-len-requires : goal.known-len-requires
known-len-requires c =
    let b = c.heads_at-base.ensures in
    let q = row_whole c.args.plan.now.examined b _ c.requires.0 in
    (omega (arith, q), (block_named c.args.plan.now.examined b _ c.requires.0).1)

pub run_block-requires : goal.run_block-requires
run_block-requires c = (
  block_there c.args.plan.now.examined c.heads_at-base.ensures _ c.requires.0 c.known-start.ensures c.known-len.ensures,
  (c.in_ok-next.ensures c.args.widget.now).fits,
)

pub returns : goal.returns
returns c =
    let a = c.args in
    let p = a.plan.now in
    fired_here p.examined c.heads_at-base.ensures _ c.requires.0 _
    (fire_on p.numbers.now (c.heads_at-base.result + a.h * HEAD_ROW) _ c.known.ensures (c.in_ok-next.ensures a.widget.now)
    c.known-start.ensures c.known-len.ensures (rw (to_z-of_z c.ranges.arg) at c.run_block.ensures))
