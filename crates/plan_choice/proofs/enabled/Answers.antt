-- `enabled` tries source and guard in turn. Assumes nothing.
use mathlib.Core.Path.{refl, sym, ◌∙◌, subst}
use Rattle.choice.specs.Choice.{Reads}
use Rattle.plan_choice.proofs.Tests.{source_is, guard_is, off_source, on_guard}
use Rattle.plan_choice.proofs.enabled.Goals as goal

pub guard_true-requires : goal.guard_true-requires
guard_true-requires c = subst Reads (sym c.guard_at.ensures) c.requires.2

pub returns-then-active-source : goal.returns-then-active-source
returns-then-active-source c =
    let a = c.args in
    on_guard a.plan.now a.at _ _ (c.requires.3 ∙ sym (source_is a.plan.now a.at)) c.if-active-source.true
    (c.guard_at.ensures ∙ sym (guard_is a.plan.now a.at)) refl c.guard_true.ensures

pub returns-else-active-source : goal.returns-else-active-source
returns-else-active-source c =
    let a = c.args in
    c.if-active-source.false
    ∙ off_source a.plan.now a.at _ (c.requires.3 ∙ sym (source_is a.plan.now a.at)) c.if-active-source.false
