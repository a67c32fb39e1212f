-- `arrive` enters the state, and in a restore meets 14 at an o state whose slot is empty. Assumes nothing.
use Rattle.std.proofs.Common.{◌≡◌, Ok, Err, ap, sym, ◌∙◌, length, rules}
use Rattle.meaning.specs.Entry.{visit}
use Rattle.meaning.specs.Tree.{is_o}
use Rattle.meaning.specs.Value.{chart_of}
use Rattle.tree.specs.Courses.{way_by}
use Rattle.widget.specs.View.{Did}
use Rattle.leave_enter.proofs.entering.arrive.Goals.{else-restores-via-then-restores+then-is_o+else-is_none}
use Rattle.leave_enter.proofs.entering.arrive.Goals.{else-restores-via-then-restores+else-is_o, else-restores-via-else-restores}
use Rattle.leave_enter.proofs.Keeping.{visit_same}
use mir.Facts.{to_z-of_z}
use Rattle.leave_enter.proofs.Visiting.{visited, arrived_stop, arrived_plain, arrived_other, arrived_filled, arrived_empty}
use Rattle.leave_enter.proofs.entering.arrive.Goals as goal

pub returns-in_err-then : goal.returns-in_err-then
returns-in_err-then c =
    let q : c.from_residual.result ≡ Err c.in_err-then.field-0.0 = search rules in
    rw q (arrived_stop _ _ c.args.course c.args.next _ _ (rw (to_z-of_z c.ranges.arg) at c.in_err-then.ensures))

pub slot_of-requires : goal.slot_of-requires
slot_of-requires c = (c.requires.0, ap length (visit_same _ _ c.args.course _ c.in_ok-then.ensures) ∙ c.requires.1)

pub returns-then-is_none : goal.returns-then-is_none
returns-then-is_none c =
    arrived_empty _ _ c.args.course c.args.next _ _ (rw (to_z-of_z c.ranges.arg) at c.in_ok-then.ensures)
    (sym c.restores.ensures ∙ c.if-restores.true) (sym (c.is_o.ensures ∙ ap is_o c.kind_of.ensures) ∙ c.if-is_o.true)
    c.slot_of.ensures c.is_none.ensures c.if-is_none.true

pub returns : goal.returns
returns c =
    let v : Did (visit (chart_of c.args.c.now.chart.now) c.args.arg
    (visited (chart_of c.args.c.now.chart.now) (way_by c.args.next) c.args.p c.args.s)) c.args.widget.now c.args.trace.now
    c.args.at (Ok c.in_ok-then.then) c.visit.new.widget c.visit.new.trace =
    rw (to_z-of_z c.ranges.arg) at c.in_ok-then.ensures in
    elim c.else-restores.branch [
      | else-restores-via-then-restores+then-is_o+else-is_none w ↦
          arrived_filled _ _ c.args.course c.args.next _ _ v w.slot_of.ensures w.is_none.ensures w.if-is_none.false
      | else-restores-via-then-restores+else-is_o w ↦
          arrived_other _ _ c.args.course c.args.next _ _ v (sym (w.is_o.ensures ∙ ap is_o w.kind_of.ensures) ∙ w.if-is_o.false)
      | else-restores-via-else-restores w ↦
          arrived_plain _ _ c.args.course c.args.next _ _ v (sym c.restores.ensures ∙ w.if-restores.false)
    ]
