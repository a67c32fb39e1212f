use mathlib.Core.Path.{◌≡◌}
use mathlib.Core.Bool.{true}
use Prim.Native.Nat.{◌+◌, ◌-◌, ◌*◌, ◌≤◌}
use lib.ListN.{length, drop}
use Rattle.meaning.specs.Lists.{chunks}
use Rattle.meaning.specs.WellFormed.{HEAD_ROW, code_at, blocks_fill}
use Rattle.meaning.specs.WellFormed.{left_in_blocks, code_fits}
use Rattle.examiner.proofs.Blocks.{rest_fits}
use Rattle.examiner.proofs.instructions.code_fits.Given as goal

abbrev pub invariant-loop-h : goal.invariant-loop-h
invariant-loop-h l =
    (rest_fits l.k l.base l.done (l.k.heads - l.h) (l.heads + l.h * HEAD_ROW) l.plan
    ≡ code_fits l.k (left_in_blocks l.plan l.k) (drop (code_at l.k) l.plan))
    × (blocks_fill l.k.instructions l.done (chunks (l.k.heads - l.h) HEAD_ROW (drop (l.heads + l.h * HEAD_ROW) l.plan)) ≡ true)
    × (l.heads + l.k.heads * HEAD_ROW ≤ length l.plan)
