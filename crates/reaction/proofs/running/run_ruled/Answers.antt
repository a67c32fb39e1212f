-- `run_ruled` tries 7, 6 and 8 in turn, then reacts to the front event. Assumes nothing.
use Rattle.std.proofs.Common.{refl, sym, ap, ◌∙◌, rules}
use borrow.Author.Tests.{not-true, not-false}
use mir.Facts.{to_z-of_z}
use mir.Syntax.{w32}
use mir.Val.{SFits}
use Rattle.numbers.specs.Reference.{ref}
use Rattle.invariants.specs.Good.{Sized}
use Rattle.ends.proofs.Ending.{ends_as}
use Rattle.reaction.proofs.RunLaws.{run_7, run_6, run_8, run_ready, run_ends}
use Rattle.reaction.proofs.running.run_ruled.Goals as goal

pub returns-then-not-state : goal.returns-then-not-state
returns-then-not-state c =
    ends_as c.args.trace.now
    (run_7 _ _ _ (not-true _ c.if-not-state.true)) c.refuse.ensures

pub returns-then-not-own : goal.returns-then-not-own
returns-then-not-own c =
    ends_as c.args.trace.now
    (run_6 _ _ _ (not-false _ c.if-not-state.false)
    (sym c.own.ensures ∙ not-true _ c.if-not-own.true-raw))
    c.refuse-then-not-own.ensures

pub returns-in_default : goal.returns-in_default
returns-in_default c =
    ends_as c.args.trace.now
    (run_8 _ _ _ _ (rw c.in_default.is at c.remove-first.ensures) (not-false _ c.if-not-state.false)
    (sym c.own.ensures ∙ not-false _
    c.if-not-own.false-raw) refl)
    c.refuse-in_default.ensures

pub react-went-requires : goal.react-went-requires
react-went-requires c =
    let k : Sized c.args.state = record { active = search rules; slots = search rules; vars = search rules; items = search rules } in
    rw (c.with_queue-widget.ensures, c.new-runnable.ensures)
    (run_ready _ c.requires _ k _ (rw c.in-Some.is at c.remove-first.ensures)
    (not-false _ c.if-not-state.false)
    (sym c.own.ensures ∙ not-false _ c.if-not-own.false-raw) refl _)

pub finish-requires : goal.finish-requires
finish-requires c = c.react-went.ensures.fits

pub returns : goal.returns
returns c =
    let k : Sized c.args.state = record { active = search rules; slots = search rules; vars = search rules; items = search rules } in
    let fe : SFits w32 c.in-Some.front.event = search rules in
    let fa : SFits w32 c.in-Some.front.arg = search rules in
    run_ends _ c.requires _ k _ (rw c.in-Some.is at c.remove-first.ensures)
    (not-false _ c.if-not-state.false)
    (sym c.own.ensures ∙ not-false _ c.if-not-own.false-raw)
    refl _ _ c.args.trace.now _ _
    (c.reference.ensures ∙ ap ref (to_z-of_z fe)) (to_z-of_z fa)
    (rw (c.with_queue-widget.ensures, c.new-runnable.ensures) at c.react-went.ensures) c.finish.ensures
