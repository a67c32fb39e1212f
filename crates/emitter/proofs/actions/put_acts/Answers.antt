-- `put_acts` goes from row to row of the owner by the index. Assumes nothing.
use native.Mathlib.Omega.{arith}
use Rattle.emitter.proofs.Laws.{same_size}
use Rattle.emitter.proofs.Finding.{listing_begin, listing_on, listing_room, listing_later, listing_end, row_small}
use Rattle.emitter.proofs.actions.put_acts.Goals as goal

pub loop-i-init : goal.loop-i-init
loop-i-init c = λ o e. listing_begin _ _ _ _ _ e

pub put_instr-p-requires : goal.put_instr-p-requires
put_instr-p-requires c =
    let row = c.before in
    let test = row.before in
    let k = test.before in (
      row_small c.args.c.now.chart.now c.args.c.now.prepared.ruled c.loop-i.i
          (omega (arith, c.loop-i-test.true, c.action_count-n.ensures)) _ c.action_row-row.ensures,
      listing_room _ _ _ _ _ _ _ (c.loop-i.invariant c.args.owner c.first_row-i.ensures)
          (omega (arith, c.loop-i-test.true, c.action_count-n.ensures)) _ c.action_row-row.ensures c.requires.1,
    )

pub next_row-i-requires : goal.next_row-i-requires
next_row-i-requires c =
    let test = c.before.before.before.before in
    omega (arith, c.loop-i-test.true, c.action_count-n.ensures)

pub loop-i-smaller : goal.loop-i-smaller
loop-i-smaller c =
    let row = c.before.before.before.before in
    let test = row.before in
    let later = listing_later _ _ _ _ _ _ _
    (c.loop-i.invariant c.args.owner c.first_row-i.ensures)
    (omega (arith, c.loop-i-test.true, c.action_count-n.ensures)) _ c.action_row-row.ensures _
    c.next_row-i.ensures in
    omega (arith, c.loop-i-test.true)

pub loop-i-preserved : goal.loop-i-preserved
loop-i-preserved c =
    let row = c.before.before.before.before in
    let test = row.before in
    λ o e. listing_on _ _ _ _ _ _ _ (c.loop-i.invariant o e)
    (omega (arith, c.loop-i-test.true, c.action_count-n.ensures)) _ c.action_row-row.ensures _ _ _
    c.put_instr-p.ensures c.next_row-i.ensures

pub shape_of-plan : goal.shape_of-plan
shape_of-plan c =
    omega (arith, same_size _ _ _ _ _ _ (c.loop-i.invariant c.args.owner c.first_row-i.ensures).owes)

pub returns : goal.returns
returns c =
    listing_end _ _ _ _ _ _ _ (omega (arith, c.loop-i-test.false, c.action_count-n.ensures))
    (c.loop-i.invariant c.args.owner c.first_row-i.ensures)
