-- `index_of` makes the index from the last row up. Assumes nothing.
use mathlib.Core.Path.{ap}
use Prim.Native.Nat.{◌-◌, ◌<◌}
use native.Mathlib.Omega.{arith}
use Rattle.acts.specs.Index.{OWNERS}
use Rattle.acts.proofs.Finding.{building_begin, building_on, key_within, owner_fits}
use Rattle.acts.proofs.index.index_of.Goals.{After-key_of-at}
use Rattle.acts.proofs.index.index_of.Goals as goal

pub loop-i-init : goal.loop-i-init
loop-i-init c = building_begin _ _ c.action_count-n.ensures

pub key_of-at-requires : goal.key_of-at-requires
key_of-at-requires c =
    owner_fits c.args.chart.now c.requires (c.loop-i.i - 1)
    (omega (arith, c.loop-i.invariant.within)) _ c.owner_at.ensures

-- the owner's place is one of the owners' places
key-low : (c : After-key_of-at) → c.key_of-at.result < OWNERS
key-low c =
    omega (
      arith,
      c.key_of-at.ensures,
      key_within c.owner_at.result
          (owner_fits c.args.chart.now c.requires (c.loop-i.i - 1)
          (omega (arith, c.loop-i.invariant.within)) _ c.owner_at.ensures),
    )

pub offset_bounds-index-at : goal.offset_bounds-index-at
offset_bounds-index-at c = omega (arith, key-low c)

pub bounds-index-at : goal.bounds-index-at
bounds-index-at c = omega (arith, key-low c)

pub offset_bounds-index-at-in-loop-i : goal.offset_bounds-index-at-in-loop-i
offset_bounds-index-at-in-loop-i c = omega (arith, key-low c)

pub bounds-index-at-in-loop-i : goal.bounds-index-at-in-loop-i
bounds-index-at-in-loop-i c = omega (arith, key-low c)

pub loop-i-preserved : goal.loop-i-preserved
loop-i-preserved c =
    building_on c.args.chart.now c.requires c.loop-i.i (omega arith)
    c.loop-i.index c.loop-i.invariant _ c.owner_at.ensures _ c.key_of-at.ensures _
    (ap (λ n. n - (c.loop-i.i - 1)) c.action_count-n.ensures)
