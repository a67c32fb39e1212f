-- `owner_at` reads the owner of a row where it stands. Assumes nothing.
use mathlib.Core.Path.{◌∙◌}
use Rattle.meaning.specs.Value.{owner_by}
use Rattle.chart_rows.proofs.Said.{said_of2}
use Rattle.acts.proofs.Finding.{owner_said}
use Rattle.acts.proofs.index.owner_at.Goals as goal

pub returns : goal.returns
returns c =
    let n = c.number_at-2 in
    let m = c.number_at in
    said_of2 owner_by m.type_inv m.ensures n.type_inv n.ensures c.owner_by.ensures
    ∙ owner_said c.args.chart.now c.args.i c.requires
