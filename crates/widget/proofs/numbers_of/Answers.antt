-- `numbers_of` gives the three numbers of each entry. Assumes nothing.
use Rattle.numbers.proofs.Laws.{back32}
use borrow.Author.Rules.{rules}
use mir.Syntax.{w32}
use mir.Val.{SFits}
use mir.Facts.{to_z-of_z}
use Rattle.meaning.specs.Widget.{numbers}
use Rattle.widget.proofs.numbers_of.Goals as goal

pub returns-in-Taken : goal.returns-in-Taken
unfolding numbers
returns-in-Taken c = let n = c.number in rw (c.in-Taken.is, back32 n.result n.type_inv, n.ensures)

pub returns-in-Left : goal.returns-in-Left
unfolding numbers
returns-in-Left c = let n = c.number-in-Left in rw (c.in-Left.is, back32 n.result n.type_inv, n.ensures)

pub returns-in-Entered : goal.returns-in-Entered
unfolding numbers
returns-in-Entered c = let n = c.number-in-Entered in rw (c.in-Entered.is, back32 n.result n.type_inv, n.ensures)

pub returns-in-Changed : goal.returns-in-Changed
unfolding numbers
returns-in-Changed c =
    let n = c.number-in-Changed in
    let f : SFits w32 c.in-Changed.x = search rules in
    rw (c.in-Changed.is, back32 n.result n.type_inv, n.ensures, to_z-of_z f)

pub returns-in-Sent : goal.returns-in-Sent
unfolding numbers
returns-in-Sent c =
    let n = c.number-in-Sent in
    let f : SFits w32 c.in-Sent.x = search rules in
    rw (c.in-Sent.is, back32 n.result n.type_inv, n.ensures, to_z-of_z f)

pub returns-in-Told : goal.returns-in-Told
unfolding numbers
returns-in-Told c =
    let f : SFits w32 c.in-Told.x = search rules in
    rw (c.in-Told.is, to_z-of_z f)
