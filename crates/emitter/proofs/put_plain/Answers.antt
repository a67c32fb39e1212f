-- `put_plain` puts numbers that are not below 0. Assumes nothing.
use Rattle.numbers.proofs.Laws.{back32}
use Rattle.emitter.proofs.put_plain.Goals as goal

pub returns : goal.returns
returns c =
    rw (
      back32 c.number.result c.number.type_inv,
      c.number.ensures,
      back32 c.number-2.result c.number-2.type_inv,
      c.number-2.ensures,
      back32 c.number-3.result c.number-3.type_inv,
      c.number-3.ensures,
    ) at c.put_code.ensures
