-- `turn` is the turn of one line: a post that is refused prints its answer, one that is done is run. Assumes nothing.
use mathlib.Core.Path.{◌∙◌, ap}
use Prim.Native.Nat.{◌<◌, ◌^◌}
use lib.Signed.{mag}
use Rattle.numbers.proofs.Laws.{back32}
use Rattle.meaning.specs.Calls.{called}
use Rattle.chart_engine.proofs.ByRules.{post_on}
use Rattle.session.proofs.Steps.{turn_wrong, turn_refused, turn_ran}
use borrow.Author.Rules.{rules}
use Rattle.session.proofs.turn.Goals as goal

pub returns-in_default : goal.returns-in_default
returns-in_default c = turn_wrong _ _ _ _ _ _ _ c.in_default.is c.refusal.ensures

pub returns-then-number-ne0 : goal.returns-then-number-ne0
returns-then-number-ne0 c =
    let i = c.in-Some.field-0 in
    let m : mag i.event < 2 ^ 31 = search rules in
    let n : mag i.arg < 2 ^ 31 = search rules in
    let told = rw (back32 i.event m, back32 i.arg n) at c.post_checked-posted.ensures.result in
    turn_refused _ _ _ _ _ _ _ _ _ c.in-Some.is _
    (told ∙ ap called (post_on c.args.chart.now c.args.state c.requires.0 _ _))
    c.if-number-ne0.true c.refusal-then-number-ne0.ensures

pub returns : goal.returns
returns c =
    let i = c.in-Some.field-0 in
    let m : mag i.event < 2 ^ 31 = search rules in
    let n : mag i.arg < 2 ^ 31 = search rules in
    let told = rw (back32 i.event m, back32 i.arg n) at c.post_checked-posted.ensures.result in
    turn_ran _ _ _ _ _ _ _ _ _ c.in-Some.is _
    (told ∙ ap called (post_on c.args.chart.now c.args.state c.requires.0 _ _))
    c.if-number-ne0.false c.ran.ensures
