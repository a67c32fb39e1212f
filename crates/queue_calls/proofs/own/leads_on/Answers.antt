-- `leads_on` goes by the kind of what stands in the slot. Assumes nothing.
use mathlib.Core.Path.{sym}
use native.Mathlib.Omega.{arith}
use Rattle.meaning.specs.Value.{chart_of}
use mir.Facts.{to_z-of_z}
use mir.Syntax.{w32}
use mir.Val.{SFits}
use lib.IntN.{pos}
use lib.ListN.{get_or}
use Rattle.queue_calls.proofs.Slots.{slot_read, leads_o, leads_a, leads_b}
use borrow.Author.Rules.{rules}
use Rattle.queue_calls.proofs.own.leads_on.Goals as goal

pub returns-in-O : goal.returns-in-O
returns-in-O c u e =
    let fx : SFits w32 (get_or c.args.slots.now c.args.d (pos 0)) = search rules in
    leads_o c.args.whole (chart_of c.args.chart.now) u c.args.d c.kind_of.ensures
    c.in-O.is
    (sym (slot_read u e c.args.d (omega (arith, c.requires.0, c.requires.1)) (rw (to_z-of_z fx) at c.filled.ensures)))

pub returns-in-A : goal.returns-in-A
returns-in-A c u e =
    let k = c.args in
    leads_a k.whole (chart_of k.chart.now) u k.d c.kind_of.ensures c.in-A.is

pub returns-in-B : goal.returns-in-B
returns-in-B c u e =
    let k = c.args in
    leads_b k.whole (chart_of k.chart.now) u k.d c.kind_of.ensures c.in-B.is
