-- What holds of `reader::walk` before each line: the struct stands in the text where the next line starts, and what was read so far is in
-- the chart's numbers. With each line less is left to read.
use Rattle.std.proofs.Common.{◌≡◌, ◌-◌, length}
use Rattle.reader.specs.Onward.{Walking}
use Rattle.reader.proofs.walk.Given as goal

abbrev pub invariant-loop-next : goal.invariant-loop-next
invariant-loop-next l = record {
  text : l.reader.text.now ≡ l.text;
  at : l.reader.at ≡ l.so_far.at;
  on : Walking l.text (length l.fn.chart) l.chart l.so_far.at l.so_far.line l.so_far.turns;
}

abbrev pub decreases-loop-next : goal.decreases-loop-next
decreases-loop-next l = length l.text - l.so_far.at
