use mathlib.Core.Path.{◌≡◌}
use Prim.Native.Nat.{◌+◌, ◌-◌, ◌*◌, ◌≤◌}
use lib.ListN.{length, drop}
use Rattle.meaning.specs.Lists.{chunks}
use Rattle.meaning.specs.WellFormed.{HEAD_ROW, blocks_fill, all_blocks_fill}
use Rattle.examiner.proofs.heads.blocks_fill.Given as goal

abbrev pub invariant-loop-h : goal.invariant-loop-h
invariant-loop-h l =
    (blocks_fill l.k.instructions l.end (chunks (l.k.heads - l.h) HEAD_ROW (drop (l.base + l.h * HEAD_ROW) l.plan)) ≡ all_blocks_fill l.plan l.k)
    × (l.end ≤ l.k.instructions)
    × (l.base + l.k.heads * HEAD_ROW ≤ length l.plan)
