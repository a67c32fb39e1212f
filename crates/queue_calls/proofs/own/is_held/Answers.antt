-- `is_held` goes by the kind, and for an a state by the slot of its parent. Assumes nothing.
use mathlib.Core.Path.{sym, ap, ◌∙◌}
use Rattle.meaning.specs.Value.{chart_of}
use Rattle.meaning.specs.Widget.{slot}
use Rattle.queue_calls.specs.Parts.{is_at, in_slot, in_slot_as}
use Rattle.queue_calls.proofs.own.is_held.Goals as goal

pub returns-in-O : goal.returns-in-O
unfolding in_slot in_slot_as
returns-in-O c u e =
    let k = c.args in
    ap (λ x. in_slot_as (chart_of k.chart.now) u x k.p) (sym c.in-O.is ∙ c.kind_of.ensures)

pub returns-in-A : goal.returns-in-A
unfolding in_slot in_slot_as
returns-in-A c u e =
    let k = c.args in
    c.holds.ensures u e ∙ ap (λ s. is_at k.p (slot u s)) c.parent_of.ensures
    ∙ ap (λ x. in_slot_as (chart_of k.chart.now) u x k.p) (sym c.in-A.is ∙ c.kind_of.ensures)

pub returns-in-B : goal.returns-in-B
unfolding in_slot in_slot_as
returns-in-B c u e =
    let k = c.args in
    ap (λ x. in_slot_as (chart_of k.chart.now) u x k.p) (sym c.in-B.is ∙ c.kind_of.ensures)
