-- `by_default` goes by the kind of the state and its way. Assumes nothing.
use mathlib.Core.Path.{sym, ◌∙◌}
use Rattle.tree.proofs.Among.{defaults_o, defaults_no, defaults_other}
use Rattle.tree.proofs.ways.by_default.Goals as goal

pub returns-in-Defaults : goal.returns-in-Defaults
returns-in-Defaults c = rw c.in-Defaults.is (defaults_o _ (sym (rw c.kind_of.ensures at c.is_o.ensures) ∙ c.if-is_o.true))

pub returns-in_default : goal.returns-in_default
returns-in_default c = defaults_no _ c.args.next c.in_default.not-Defaults

pub returns-else-is_o : goal.returns-else-is_o
returns-else-is_o c = c.if-is_o.false ∙ defaults_other _ _ (sym (rw c.kind_of.ensures at c.is_o.ensures) ∙ c.if-is_o.false)
