-- `states_widget` tests the count, the length and the marks. Assumes nothing.
use Rattle.std.proofs.Common.{rules, sym, ◌∙◌, ◌<◌, ◌^◌, get_or, pos, length, true≢false}
use borrow.Author.Tests.{lt-leb}
use lib.Signed.{mag}
use Rattle.sizes.specs.Sizes.{STATE_NUMBERS}
use Rattle.numbers.proofs.Laws.{back32}
use Rattle.promises.specs.Saved.{LENGTH_AT}
use Rattle.saved.proofs.Loading.{too_short, no_length, by_marks, below, not_below}
use Rattle.saved.proofs.states_widget.Goals as goal
use Rattle.saved.proofs.states_widget.Goals.{then-numbers-ge-STATE_NUMBERS, else-numbers-ge-STATE_NUMBERS}

pub returns-then-numbers-ge0 : goal.returns-then-numbers-ge0
returns-then-numbers-ge0 c =
    let ns = c.args.numbers.now in
    let x = get_or ns LENGTH_AT (pos 0) in
    elim c.if-numbers-ge-STATE_NUMBERS.branch [
      | then-numbers-ge-STATE_NUMBERS w ↦
          let f : mag x < 2 ^ 31 = search rules in
          by_marks ns _ w.if-numbers-ge-STATE_NUMBERS.true (not_below x (rw (back32 _ f) at (sym w.value-is ∙ c.if-numbers-ge0.true)))
          c.marked.ensures
      | else-numbers-ge-STATE_NUMBERS w ↦
          absurd (true≢false (sym c.if-numbers-ge0.true ∙ w.value-is ∙ lt-leb STATE_NUMBERS (length ns) w.if-numbers-ge-STATE_NUMBERS.false))
    ]

pub returns-else-numbers-ge0 : goal.returns-else-numbers-ge0
returns-else-numbers-ge0 c =
    let ns = c.args.numbers.now in
    let x = get_or ns LENGTH_AT (pos 0) in
    elim c.if-numbers-ge-STATE_NUMBERS.branch [
      | then-numbers-ge-STATE_NUMBERS w ↦
          let f : mag x < 2 ^ 31 = search rules in
          c.if-numbers-ge0.false
          ∙ no_length ns w.if-numbers-ge-STATE_NUMBERS.true (below x (rw (back32 _ f) at (sym w.value-is ∙ c.if-numbers-ge0.false)))
      | else-numbers-ge-STATE_NUMBERS w ↦ c.if-numbers-ge0.false ∙ too_short ns w.if-numbers-ge-STATE_NUMBERS.false
    ]
