-- `write_passed`: the slice is set to 0, the text put from its start on, and the place after it tells whether all of it fitted. Assumes
-- nothing.
use Rattle.writer.proofs.WriteLaws.{wrote_over, wrote_in}
use Rattle.round_trip.proofs.Round.{passes}
use native.Mathlib.Omega.{arith}
use Rattle.writer.proofs.write_passed.Goals as goal

pub put_chart-length-requires : goal.put_chart-length-requires
put_chart-length-requires c = (passes c.args.chart.now c.requires).keeps

pub returns-then-text-length : goal.returns-then-text-length
returns-then-text-length c =
    wrote_over c.args.chart.now c.requires _ _ _ _ (c.fill.ensures.after (λ y h. h))
    c.put_chart-length.ensures (omega arith) _ _ (omega arith) (c.fill-then-text-length.ensures.after (λ y h. h))

pub returns : goal.returns
returns c = wrote_in c.args.chart.now c.requires _ _ _ _ (c.fill.ensures.after (λ y h. h)) c.put_chart-length.ensures (omega arith)
