-- An entry stands in the table. Assumes nothing.
use mathlib.Core.Path.{refl}
use Rattle.forms.specs.Table.{entries_of}
use Rattle.forms.proofs.entry_at.Goals as goal

pub returns : goal.returns
unfolding entries_of
returns c = refl
