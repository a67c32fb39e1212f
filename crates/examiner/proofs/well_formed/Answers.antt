-- `well_formed` tests the counts, the length, the rows. Assumes nothing.
use Rattle.std.proofs.Common.{rules}
use Rattle.meaning.specs.WellFormed.{well_formed, is_whole, counts_keep}
use Rattle.plan_rows.proofs.Rows.{sized}
use Rattle.examiner.proofs.well_formed.Goals as goal

pub plan_end-requires : goal.plan_end-requires
plan_end-requires c = rw c.counts-k.ensures (sized c.args.plan.now)

pub returns-then-plan_end-plan : goal.returns-then-plan_end-plan
unfolding well_formed is_whole counts_keep
returns-then-plan_end-plan c = rw (← c.counts-k.ensures) (search rules)

pub returns-else-plan_end-plan : goal.returns-else-plan_end-plan
unfolding well_formed is_whole counts_keep
returns-else-plan_end-plan c = rw (← c.counts-k.ensures) (search rules)
