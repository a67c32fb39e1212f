-- `is_o` compares with the kind o. Assumes nothing.
use mathlib.Core.Path.{◌≡◌, refl, ◌∙◌}
use denote.Enum.Bare.{sameb}
use Rattle.meaning.specs.contracts.chart.Kind.{the_type}
use Rattle.meaning.specs.declared.chart.Kind.{Kind}
use Rattle.meaning.specs.declared.chart.Kind.TheVariants.{O, A, B}
use Rattle.meaning.specs.Tree.{is_o}
use Rattle.tree.proofs.kin.is_o.Goals as goal

told : (k : Kind) → sameb the_type k O ≡ is_o k
unfolding is_o
told O = refl
told A = refl
told B = refl

pub returns : goal.returns
returns c = c.eq.ensures ∙ told c.args.kind
