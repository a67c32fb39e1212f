-- `assign` stores the value, held in the range of the row. Assumes nothing.
use Rattle.std.proofs.Common.{rules}
use Rattle.numbers.proofs.Laws.{back32}
use mir.Syntax.{w32}
use mir.Val.{SFits}
use mir.Facts.{to_z-of_z}
use Rattle.numbers.proofs.Laws.{back64}
use Rattle.widget.proofs.Effects.{assigned}
use Rattle.widget.proofs.assign.Goals as goal

pub returns : goal.returns
returns c =
    let h = c.hold-value in
    let f = c.from in
    let low : SFits w32 c.args.row.low = search rules in
    let high : SFits w32 c.args.row.high = search rules in
    assigned c.args.row c.args.v c.args.x
    (rw (
      back32 h.result h.type_inv,
      h.ensures,
      back64 f.result f.type_inv,
      f.ensures,
      to_z-of_z c.ranges.x,
      to_z-of_z low,
      to_z-of_z high,
    ) at c.store.ensures)
