use Prim.Native.Nat.{◌-◌}
use Rattle.forms.specs.Table.{ENTRIES}
use Rattle.lines.proofs.+line_by.Given as goal

abbrev pub decreases-line_by : goal.decreases-line_by
decreases-line_by l = ENTRIES - l.i
