-- `load_active` reads mark by mark. Assumes nothing.
use Rattle.std.proofs.Common.{rules, ◌+◌, ◌<◌, ◌^◌, get_or, pos, map, replicate, false, arith}
use lib.Signed.{mag}
use lib.Seq.{paste-zero}
use Rattle.sizes.specs.Sizes.{STATES}
use Rattle.numbers.proofs.Laws.{test_bits}
use Rattle.promises.specs.Saved.{is_set, part}
use Rattle.saved.proofs.Loading.{active_more, active_all}
use Rattle.saved.proofs.load_active.Goals as goal

pub loop-i-init : goal.loop-i-init
loop-i-init c = paste-zero (replicate STATES false) 0 (map is_set (part 1 STATES c.args.numbers.now))

pub loop-i-preserved : goal.loop-i-preserved
loop-i-preserved c =
    let l = c.loop-i in
    let f : mag (get_or c.args.numbers.now (1 + l.i) (pos 0)) < 2 ^ 31 = search rules in
    active_more c.args.numbers.now l.on-items l.i _ c.requires c.loop-i-test.true l.invariant
    (test_bits (get_or c.args.numbers.now (1 + l.i) (pos 0)) (pos 1) f (omega arith))

pub returns : goal.returns
returns c = active_all c.args.numbers.now c.loop-i.on-items c.loop-i.i c.requires (omega arith) c.loop-i.invariant
