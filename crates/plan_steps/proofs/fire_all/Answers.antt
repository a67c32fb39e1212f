-- `fire_all` fires the chosen one after the other; the first refusal stands. Assumes nothing.
use mathlib.Core.Path.{◌≡◌, sym, subst}
use native.Mathlib.Omega.{arith}
use borrow.Author.Rules.{rules}
use lib.ListN.{get_or}
use mir.Facts.{to_z-of_z}
use Rattle.std.specs.Prelude.{Err, Ok}
use Rattle.meaning.specs.Machine.{fire_head}
use Rattle.meaning.specs.WellFormed.{heads_at, plan_by}
use Rattle.widget.specs.View.{Did}
use Rattle.widget.proofs.Loops.{each_done, each_on, each_stop}
use Rattle.plan_choice.specs.Heads.{head_of}
use Rattle.plan_steps.proofs.Firing.{heads_of, fires_long, fires_at}
use Rattle.plan_steps.proofs.fire_all.Goals as goal

pub returns-in_err-next : goal.returns-in_err-next
returns-in_err-next c =
    let ns = c.args.plan.now.numbers.now in
    let base = heads_at c.args.plan.now.counts in
    let j = c.loop-h.h-index in
    let l = c.loop-h-test.true in
    let h = head_of ns base (get_or c.args.picks.now j 0) in
    let q : c.from_residual.result ≡ Err c.in_err-next.field-0.0 = search rules in
    rw q (each_stop (fire_head (plan_by ns) c.args.arg) (heads_of ns base c.args.picks.now) j h
    (rw (to_z-of_z c.ranges.arg) at c.loop-h.invariant) (omega (arith, fires_long ns base c.args.picks.now, l))
    (subst (λ x. Did (fire_head (plan_by ns) c.args.arg x) c.loop-h.widget c.loop-h.trace c.loop-h.next (Err c.in_err-next.field-0.0)
    c.fire.new.widget c.fire.new.trace) (sym (fires_at ns base c.args.picks.now j l))
    (rw (to_z-of_z c.ranges.arg) at c.in_err-next.ensures)))

pub loop-h-preserved : goal.loop-h-preserved
loop-h-preserved c =
    let ns = c.args.plan.now.numbers.now in
    let base = heads_at c.args.plan.now.counts in
    let j = c.loop-h.h-index in
    let l = c.loop-h-test.true in
    let h = head_of ns base (get_or c.args.picks.now j 0) in
    rw (to_z-of_z c.ranges.arg) (each_on (fire_head (plan_by ns) c.args.arg) (heads_of ns base c.args.picks.now) j h
    (rw (to_z-of_z c.ranges.arg) at c.loop-h.invariant) (omega (arith, fires_long ns base c.args.picks.now, l))
    (subst (λ x. Did (fire_head (plan_by ns) c.args.arg x) c.loop-h.widget c.loop-h.trace c.loop-h.next (Ok c.in_ok-next.next)
    c.fire.new.widget c.fire.new.trace) (sym (fires_at ns base c.args.picks.now j l))
    (rw (to_z-of_z c.ranges.arg) at c.in_ok-next.ensures)))

pub returns : goal.returns
returns c =
    let p = c.args.plan.now in
    let n = fires_long p.numbers.now (heads_at p.counts) c.args.picks.now in
    each_done (fire_head (plan_by p.numbers.now) c.args.arg) (heads_of p.numbers.now (heads_at p.counts) c.args.picks.now)
    c.loop-h.h-index (rw (to_z-of_z c.ranges.arg) at c.loop-h.invariant) (omega (arith, n, c.loop-h-test.false))
