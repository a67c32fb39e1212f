-- `put_guard`: the three numbers of a guard, or of none. Assumes nothing.
use Rattle.numbers.proofs.Laws.{back32}
use mir.Facts.{to_z-of_z}
use mir.Syntax.{w32}
use mir.Val.{SFits}
use Rattle.meaning.specs.Plan.{guard_numbers}
use native.Mathlib.Omega.{arith}
use borrow.Author.Rules.{rules}
use Rattle.compiler.proofs.heads.put_guard.Goals as goal

pub put_all-requires : goal.put_all-requires
put_all-requires c = c.requires.1

pub number-requires : goal.number-requires
number-requires c = let o = rw c.in-Compares.is at c.requires.0 in omega arith

pub put_all-requires-in-Compares : goal.put_all-requires-in-Compares
put_all-requires-in-Compares c = c.requires.1

pub returns-in-Always : goal.returns-in-Always
unfolding guard_numbers
returns-in-Always c = rw c.in-Always.is c.put_all.ensures

pub returns-in-Compares : goal.returns-in-Compares
unfolding guard_numbers
returns-in-Compares c =
    let fx : SFits w32 c.in-Compares.x = search
    rules in rw c.in-Compares.is
    (rw (
      back32 c.number.result c.number.type_inv,
      c.number.ensures,
      back32 c.sign_number.result c.sign_number.type_inv,
      c.sign_number.ensures,
      to_z-of_z fx,
    ) at c.put_all-in-Compares.ensures)
