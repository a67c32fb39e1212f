-- `add` stores the sum, held in the range of the row. Assumes nothing.
use Rattle.std.proofs.Common.{rules, get_or, pos}
use Rattle.numbers.proofs.Laws.{back32}
use mir.Syntax.{w32}
use mir.Val.{SFits}
use mir.Facts.{to_z-of_z}
use Rattle.widget.proofs.Effects.{added}
use Rattle.widget.proofs.add.Goals as goal

pub returns : goal.returns
returns c =
    let h = c.add_held-value in
    let value : SFits w32 (get_or c.args.widget.now.vars c.args.v (pos 0)) = search rules in
    let low : SFits w32 c.args.row.low = search rules in
    let high : SFits w32 c.args.row.high = search rules in
    added c.args.row c.args.v c.args.x
    (rw (
      back32 h.result h.type_inv,
      h.ensures,
      to_z-of_z value,
      to_z-of_z c.ranges.x,
      to_z-of_z low,
      to_z-of_z high,
    ) at c.store.ensures)
