-- `refuse` zeroes the lent trace. Assumes nothing.
use Rattle.meaning.specs.Answers.{number_by, place_by}
use Rattle.ends.proofs.Ending.{cleared}
use Rattle.ends.proofs.refuse.Goals as goal

pub returns : goal.returns
returns c =
    let k = c.args in (
      rw (← c.number.ensures, ← c.place.ensures) c.refused.ensures,
      cleared (number_by k.why) (place_by k.why) k.state k.trace.now _ c.clear_from.ensures,
    )
