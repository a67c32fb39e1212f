-- `waiting_fit` passes every event that waits. Assumes nothing.
use mathlib.Core.Path.{◌≡◌, refl, sym, ◌∙◌}
use native.Mathlib.Omega.{arith}
use borrow.Author.Rules.{rules}
use mir.Facts.{to_z-of_z}
use mir.Syntax.{w32}
use mir.Val.{SFits}
use lib.ListN.{get_or, length}
use Rattle.sizes.specs.Sizes.{QUEUE}
use Rattle.queue.specs.Queue.{no_item, waiting}
use Rattle.meaning.specs.Foreign.{item_fits}
use Rattle.widget.proofs.Every.{every_more, every_no, every_done}
use Rattle.widget.proofs.Tests.{waiting_long, waiting_at}
use Rattle.widget.proofs.fits.waiting_fit.Goals.{Start}
use Rattle.widget.proofs.fits.waiting_fit.Goals as goal

long : (c : Start) → length c.args.queue.items ≡ QUEUE
long c = c.well_formed.1.0.1.1.1.0.1.0.1

pub loop-i-init : goal.loop-i-init
loop-i-init c = (refl, refl)

pub returns-then-not-event_fits : goal.returns-then-not-event_fits
returns-then-not-event_fits c =
    let fe : SFits w32
    (get_or c.args.queue.items c.loop-i.i no_item).event = search rules in
    let fa : SFits w32
    (get_or c.args.queue.items c.loop-i.i no_item).arg = search rules in
    every_no (item_fits c.args.events) (waiting c.args.queue)
    c.loop-i.i no_item c.loop-i.invariant.1
    (rw (waiting_long c.args.queue (long c.before.before.before.before.before.before.before) c.requires 0)
    (omega arith)) (waiting_at c.args.queue (long c.before.before.before.before.before.before.before)
    c.requires c.loop-i.i c.args.events _
    (omega arith)
    (sym c.if-not-event_fits.true ∙ rw (to_z-of_z fe, to_z-of_z fa) at c.event_fits.ensures))

pub loop-i-preserved : goal.loop-i-preserved
loop-i-preserved c = (
  c.loop-i.invariant.0,
  let fe : SFits w32
      (get_or c.args.queue.items c.loop-i.i no_item).event = search
      rules in let fa : SFits w32
      (get_or c.args.queue.items c.loop-i.i no_item).arg = search
      rules in every_more (item_fits c.args.events)
      (waiting c.args.queue) c.loop-i.i no_item
      c.loop-i.invariant.1
      (rw (waiting_long c.args.queue (long c.before.before.before.before.before.before.before)
      c.requires 0) (omega arith))
      (waiting_at c.args.queue (long c.before.before.before.before.before.before.before) c.requires
      c.loop-i.i c.args.events _ (omega arith)
      (sym c.if-not-event_fits.false ∙ rw (to_z-of_z fe, to_z-of_z fa) at c.event_fits.ensures)),
)

pub returns : goal.returns
returns c =
    every_done (item_fits c.args.events) (waiting c.args.queue)
    c.loop-i.i c.loop-i.invariant.1
    (rw (waiting_long c.args.queue (long c.before.before) c.requires 0)
    (omega arith))
