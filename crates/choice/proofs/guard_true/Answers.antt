-- `guard_true` reads the guard's variable. Assumes nothing.
use mathlib.Core.Path.{◌∙◌}
use native.Mathlib.Omega.{arith}
use lib.IntN.{pos}
use lib.ListN.{get_or}
use mir.Facts.{to_z-of_z}
use mir.Syntax.{w32}
use mir.Val.{SFits}
use borrow.Author.Rules.{rules}
use Rattle.meaning.specs.Reaction.{guard_holds}
use Rattle.meaning.specs.Widget.{value_at}
use Rattle.choice.proofs.guard_true.Goals as goal

pub returns-in_default : goal.returns-in_default
unfolding guard_holds
returns-in_default c = rw c.in_default.is

pub offset_bounds-vars-v : goal.offset_bounds-vars-v
offset_bounds-vars-v c = let o = rw c.in-Compares.is at c.requires in omega arith

pub bounds-vars-v : goal.bounds-vars-v
bounds-vars-v c = rw c.in-Compares.is at c.requires

pub returns : goal.returns
unfolding guard_holds value_at
returns c =
    let fv : SFits w32 (get_or c.args.vars.now c.in-Compares.v (pos 0)) = search rules in
    let fx : SFits w32 c.in-Compares.x = search rules in
    rw c.in-Compares.is (c.compare.ensures ∙ rw (to_z-of_z fv, to_z-of_z fx))
