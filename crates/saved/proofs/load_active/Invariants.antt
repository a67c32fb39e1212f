use Rattle.std.proofs.Common.{◌≡◌, map, replicate, false}
use Rattle.std.proofs.Math.Seq.{paste}
use Rattle.sizes.specs.Sizes.{STATES}
use Rattle.promises.specs.Saved.{is_set, part}
use Rattle.saved.proofs.load_active.Given as goal

-- the marks read so far
abbrev pub invariant-loop-i : goal.invariant-loop-i
invariant-loop-i l = l.on-items ≡ paste (replicate STATES false) 0 (map is_set (part 1 STATES l.numbers)) l.i
