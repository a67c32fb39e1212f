-- `block_fits` tries each instruction of a block. Assumes nothing.
use Rattle.std.proofs.Common.{rules, tests, arith, ◌+◌, ◌-◌, ◌*◌, drop, ◌∙◌}
use Rattle.meaning.specs.WellFormed.{INSTR_ROW, instr_fits}
use Rattle.meaning.proofs.Tried.{all_from}
use Rattle.examiner.proofs.Loops.{each_instr}
use Rattle.examiner.proofs.instructions.block_fits.Goals as goal

pub returns : goal.returns
returns c =
    let a = c.args in
    all_from {b = a.n} (λ i. instr_fits a.k ((a.n - 1) - i) (drop (a.base + i * INSTR_ROW) a.plan.now)) 0 a.n
    c.all.ensures.ran (cc) (omega arith) (λ x t q h. search (rules, tests))
    ∙ each_instr a.k a.base a.n a.plan.now
