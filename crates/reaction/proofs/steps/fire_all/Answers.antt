-- `fire_all` fires the chosen one after the other; the first refusal stands. Assumes nothing.
use Rattle.std.proofs.Common.{◌≡◌, Err, rules, arith}
use mir.Facts.{to_z-of_z}
use Rattle.tree.proofs.Passing.{sound}
use Rattle.reaction.proofs.Going.{sized, ready_led}
use Rattle.reaction.proofs.Firing.{firing_begin, firing_end, firing_stop, firing_on, fires_long, fires_at, fires_named, fires_carried}
use Rattle.reaction.proofs.steps.fire_all.Goals as goal

pub loop-pick-init : goal.loop-pick-init
loop-pick-init c = firing_begin c.requires.0

pub fire-requires : goal.fire-requires
fire-requires c =
    let w = c.loop-pick.invariant.ready in
    let f = c.requires.1 in
    let l = c.loop-pick-test.true in (
      fires_named _ _ _ f _ l c.from-t.ensures,
      fires_carried _ _ _ f _ l c.from-t.ensures c.from-top.ensures c.from-end.ensures,
      ready_led w,
      w.fits,
    )

pub returns-in_err-next : goal.returns-in_err-next
returns-in_err-next c =
    let q : c.from_residual.result ≡ Err c.in_err-next.field-0.0 = search rules in
    let f = c.requires.1 in
    let l = c.loop-pick-test.true in
    rw q (rw (to_z-of_z c.ranges.arg) at
    (firing_stop c.loop-pick.invariant _ (omega (arith, fires_long _ _ _ f, l))
    (fires_at _ _ _ f _ l c.from-t.ensures) c.in_err-next.ensures))

pub loop-pick-preserved : goal.loop-pick-preserved
loop-pick-preserved c =
    let r = c.args.c.now.prepared.ruled in
    let f = c.requires.1 in
    let l = c.loop-pick-test.true in
    firing_on c.loop-pick.invariant _ (omega (arith, fires_long _ _ _ f, l))
    (fires_at _ _ _ f _ l c.from-t.ensures) (sound _ r) (sized _ r) (fires_named _ _ _ f _ l c.from-t.ensures) c.in_ok-next.ensures

pub returns : goal.returns
returns c =
    rw (to_z-of_z c.ranges.arg) at
    (firing_end c.loop-pick.invariant (omega (arith, fires_long _ _ _ c.requires.1, c.loop-pick-test.false)))
