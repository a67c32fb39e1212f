-- `sources_of` marks the active sources, transition by transition. Assumes nothing.
use mathlib.Core.Path.{◌∙◌}
use native.Mathlib.Omega.{arith}
use mathlib.Core.Bool.{false}
use lib.ListN.{length-replicate, length-set}
use Rattle.sizes.specs.Sizes.{STATES}
use Rattle.choice.proofs.Loop.{source_small}
use Rattle.choice.proofs.Rows.{marking_other, marking_more}
use Rattle.choice.proofs.sources_of.Goals as goal

pub loop-t-init : goal.loop-t-init
loop-t-init c = (record { told = λ i l z. absurd (omega arith) }, length-replicate STATES false, omega arith)

pub loop-t-preserved-then-trigger_at-event : goal.loop-t-preserved-then-trigger_at-event
loop-t-preserved-then-trigger_at-event c =
    let w = c.loop-t.invariant in
    (marking_other w.0 _ c.trigger_at.ensures c.if-trigger_at-event.true, w.1, omega arith)

pub bounds-active-s : goal.bounds-active-s
bounds-active-s c =
    source_small _ c.requires _ _ c.source_at-s.ensures (omega arith)

pub bounds-sources-s : goal.bounds-sources-s
bounds-sources-s c =
    source_small _ c.requires _ _ c.source_at-s.ensures (omega arith)

pub loop-t-preserved : goal.loop-t-preserved
loop-t-preserved c =
    let w = c.loop-t.invariant in
    let q = source_small _ c.requires _ _ c.source_at-s.ensures
    (omega arith) in (
      marking_more w.0 _ c.source_at-s.ensures (omega (arith, q, w.1)),
      length-set
          c.loop-t.sources _ _ ∙ w.1,
      omega arith,
    )

pub returns : goal.returns
returns c = λ t l z. c.loop-t.invariant.0.told t (omega (arith, l, c.transition_count-n.ensures, c.loop-t-test.false)) z
