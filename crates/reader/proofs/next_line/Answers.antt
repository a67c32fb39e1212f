-- `reader::next_line` meets its contract: where the first LF stands in what is left. Assumes nothing.
use borrow.Author.Rules.{rules}
use mathlib.Core.Path.{◌≡◌, ◌∙◌}
use Rattle.std.proofs.Common.{Some}
use Rattle.reader.proofs.HeardLaws.{heard_some}
use Rattle.reader.proofs.next_line.Goals as goal

pub returns : goal.returns
returns c =
    let q : Some c.in_ok-k.k ≡ c.stop.result = search rules in
    heard_some _ _ _ (q ∙ c.stop.ensures)
