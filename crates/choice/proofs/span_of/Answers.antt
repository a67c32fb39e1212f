-- `span_of` goes by where the target leads. Assumes nothing.
use mathlib.Core.Path.{refl}
use Rattle.choice.proofs.Aim.{top_inside, goes_spanned, stays_spanned}
use Rattle.choice.proofs.span_of.Goals as goal

pub returns-in_default : goal.returns-in_default
returns-in_default c =
    stays_spanned _ c.requires.0 _ _ c.requires.1 c.aim_of-aim.ensures c.in_default.is _ refl refl
    c.end_below.ensures

pub end_below-end-requires : goal.end_below-end-requires
end_below-end-requires c = (
  c.requires.0,
  top_inside _ c.requires.0 _ c.args.target c.requires.1 c.aim_of-aim.ensures
      c.in-Some.is
      c.aimed.ensures c.scope-top.ensures,
)

pub returns : goal.returns
returns c =
    goes_spanned _ c.requires.0 _ _ c.requires.1 c.aim_of-aim.ensures c.in-Some.is
    c.aimed.ensures c.scope-top.ensures _ refl refl c.end_below-end.ensures
