-- `walk` goes from line to line of the part, from a place on. The measure is what is left of the part. Assumes nothing.
use mathlib.Core.Path.{sym, ◌∙◌}
use Prim.Native.Nat.{◌<◌, ◌^◌}
use native.Mathlib.Omega.{arith}
use lib.ListN.{length}
use Rattle.session.proofs.WalkLaws.{walk_begins, walk_line, walk_ends, walk_done, walk_full}
use borrow.Author.Rules.{rules}
use Rattle.session.proofs.walk.Goals as goal

pub loop-i-init : goal.loop-i-init
loop-i-init c = (walk_begins _ _ _ _ _, c.requires.1)

pub collect-line-requires : goal.collect-line-requires
collect-line-requires c = omega (arith, c.loop-i-test.true)

pub line_ends-now-requires : goal.line_ends-now-requires
line_ends-now-requires c =
    (c.requires.0, c.loop-i.invariant.1)

pub overflow_add-i : goal.overflow_add-i
overflow_add-i c =
    let collected = c.collect-line.ensures in
    let most : length c.args.part.now < 2 ^ 64 = search rules in
    omega (arith, collected.within, c.if-line-part.false)

pub loop-i-smaller : goal.loop-i-smaller
loop-i-smaller c =
    let collected = c.collect-line.ensures in
    omega (arith, collected.order, collected.within, c.if-line-part.false)

pub loop-i-preserved : goal.loop-i-preserved
loop-i-preserved c = (
  walk_line _ _ _ _ _ _ _ _ _ c.loop-i.invariant.0 _ (sym c.has_room.ensures ∙ c.if-not-has_room.false)
      c.collect-line.ensures c.if-line-part.false _ _ c.line_ends-now.ensures,
  search rules,
)

pub returns-after-loop-i : goal.returns-after-loop-i
returns-after-loop-i c = walk_done _ _ _ _ _ _ _ _ _ c.loop-i.invariant.0 c.loop-i-test.false

pub returns-then-not-has_room : goal.returns-then-not-has_room
returns-then-not-has_room c =
    walk_full _ _ _ _ _ _ _ _ _ c.loop-i.invariant.0
    (sym c.has_room.ensures ∙ c.if-not-has_room.true)

pub returns-then-line-part : goal.returns-then-line-part
returns-then-line-part c =
    walk_ends _ _ _ _ _ _ _ _ _ c.loop-i.invariant.0 _
    (sym c.has_room.ensures ∙ c.if-not-has_room.false) c.collect-line.ensures c.if-line-part.true
