-- What is shown of the contract of each function of `boundary` holds of the export of its name, whose contract is the same. Assumes nothing.
use mathlib.Core.List.{List}
use Prim.Native.Nat.{ℕ}
use lib.IntN.{ℤ}
use contract.Lifetimes.{Lfts}
use Rattle.promises.proofs.Settles.{Settles, nothing}
use Rattle.promises.specs.Host.{HostChecked, HostRead, HostWrote, HostCompiled, HostExamined, HostUnstarted}
use Rattle.promises.specs.Host.{HostStarted, HostRan, HostPosted, HostDiscarded}
use Rattle.promises.specs.Host.{HostPlanStarted, HostPlanRan, HostPlanPosted, HostPlanDiscarded, HostReplayed}
use Rattle.boundary_c.proofs.qh_check.Reads as check-reads
use Rattle.boundary_c.proofs.qh_read.Reads as read-reads
use Rattle.boundary_c.proofs.qh_write.Reads as write-reads
use Rattle.boundary_c.proofs.qh_compile.Reads as compile-reads
use Rattle.boundary_c.proofs.qh_examine.Reads as examine-reads
use Rattle.boundary_c.proofs.qh_unstarted.Reads as unstarted-reads
use Rattle.boundary_c.proofs.qh_start.Reads as start-reads
use Rattle.boundary_c.proofs.qh_run.Reads as run-reads
use Rattle.boundary_c.proofs.qh_post.Reads as post-reads
use Rattle.boundary_c.proofs.qh_discard.Reads as discard-reads
use Rattle.boundary_c.proofs.qh_plan_start.Reads as plan-start-reads
use Rattle.boundary_c.proofs.qh_plan_run.Reads as plan-run-reads
use Rattle.boundary_c.proofs.qh_plan_post.Reads as plan-post-reads
use Rattle.boundary_c.proofs.qh_plan_discard.Reads as plan-discard-reads
use Rattle.boundary_c.proofs.qh_plan_replay.Reads as plan-replay-reads
use Rattle.boundary.proofs.Unique as library

pub check_settles : (κs : Lfts 2) → Settles nothing (check-reads.Asked κs) (check-reads.Learnt κs)
    (λ a r x. HostChecked a.0.now r x.1.0.now)
    (λ x. x.1.0.now)
check_settles = library.check_settles

pub read_settles : (κs : Lfts 3) → Settles {L = List ℤ × List ℤ} nothing (read-reads.Asked κs) (read-reads.Learnt κs)
    (λ a r x. HostRead a.0.now a.1.0.now r x.1.1.0.now x.1.0.now)
    (λ x. (x.1.1.0.now, x.1.0.now))
read_settles = library.read_settles

pub write_settles : (κs : Lfts 3) → Settles {L = List ℤ × List ℕ} nothing (write-reads.Asked κs) (write-reads.Learnt κs)
    (λ a r x. HostWrote a.0.now a.1.0.now r x.1.1.0.now x.1.0.now)
    (λ x. (x.1.1.0.now, x.1.0.now))
write_settles = library.write_settles

pub compile_settles : (κs : Lfts 3) → Settles {L = List ℤ × List ℤ} nothing (compile-reads.Asked κs) (compile-reads.Learnt κs)
    (λ a r x. HostCompiled a.0.now a.1.0.now r x.1.1.0.now x.1.0.now)
    (λ x. (x.1.1.0.now, x.1.0.now))
compile_settles = library.compile_settles

pub examine_settles : (κs : Lfts 2) → Settles nothing (examine-reads.Asked κs) (examine-reads.Learnt κs)
    (λ a r x. HostExamined a.0.now r x.1.0.now)
    (λ x. x.1.0.now)
examine_settles = library.examine_settles

pub unstarted_settles : (κs : Lfts 2) → Settles {L = List ℤ × List ℤ} nothing (unstarted-reads.Asked κs) (unstarted-reads.Learnt κs)
    (λ a r x. HostUnstarted a.0.now r x.1.0.now x.0.now)
    (λ x. (x.1.0.now, x.0.now))
unstarted_settles = library.unstarted_settles

pub start_settles : (κs : Lfts 4) → Settles {L = List ℤ × (List ℤ × List ℤ)} nothing (start-reads.Asked κs) (start-reads.Learnt κs)
    (λ a r x. HostStarted a.0.now a.1.0.now a.1.1.0.now r x.1.1.1.0.now x.1.0.now x.1.1.0.now)
    (λ x. (x.1.1.1.0.now, (x.1.0.now, x.1.1.0.now)))
start_settles = library.start_settles

pub run_settles : (κs : Lfts 4) → Settles {L = List ℤ × (List ℤ × List ℤ)} nothing (run-reads.Asked κs) (run-reads.Learnt κs)
    (λ a r x. HostRan a.0.now a.1.0.now a.1.1.0.now r x.1.1.1.0.now x.1.0.now x.1.1.0.now)
    (λ x. (x.1.1.1.0.now, (x.1.0.now, x.1.1.0.now)))
run_settles = library.run_settles

pub post_settles : (κs : Lfts 3) → Settles {L = List ℤ × List ℤ} nothing (post-reads.Asked κs) (post-reads.Learnt κs)
    (λ a r x. HostPosted a.0.now a.1.0.now a.1.1.0 a.1.1.1.0 r x.1.1.1.1.0.now x.1.0.now)
    (λ x. (x.1.1.1.1.0.now, x.1.0.now))
post_settles = library.post_settles

pub discard_settles : (κs : Lfts 3) → Settles {L = List ℤ × List ℤ} nothing (discard-reads.Asked κs) (discard-reads.Learnt κs)
    (λ a r x. HostDiscarded a.0.now a.1.0.now r x.1.1.0.now x.1.0.now)
    (λ x. (x.1.1.0.now, x.1.0.now))
discard_settles = library.discard_settles

pub plan_start_settles : (κs : Lfts 4) → Settles {L = List ℤ × (List ℤ × List ℤ)} nothing
    (plan-start-reads.Asked κs) (plan-start-reads.Learnt κs)
    (λ a r x. HostPlanStarted a.0.now a.1.0.now a.1.1.0.now r x.1.1.1.0.now x.1.0.now x.1.1.0.now)
    (λ x. (x.1.1.1.0.now, (x.1.0.now, x.1.1.0.now)))
plan_start_settles = library.plan_start_settles

pub plan_run_settles : (κs : Lfts 4) → Settles {L = List ℤ × (List ℤ × List ℤ)} nothing
    (plan-run-reads.Asked κs) (plan-run-reads.Learnt κs)
    (λ a r x. HostPlanRan a.0.now a.1.0.now a.1.1.0.now r x.1.1.1.0.now x.1.0.now x.1.1.0.now)
    (λ x. (x.1.1.1.0.now, (x.1.0.now, x.1.1.0.now)))
plan_run_settles = library.plan_run_settles

pub plan_post_settles : (κs : Lfts 3) → Settles {L = List ℤ × List ℤ} nothing
    (plan-post-reads.Asked κs) (plan-post-reads.Learnt κs)
    (λ a r x. HostPlanPosted a.0.now a.1.0.now a.1.1.0 a.1.1.1.0 r x.1.1.1.1.0.now x.1.0.now)
    (λ x. (x.1.1.1.1.0.now, x.1.0.now))
plan_post_settles = library.plan_post_settles

pub plan_discard_settles : (κs : Lfts 3) → Settles {L = List ℤ × List ℤ} nothing
    (plan-discard-reads.Asked κs) (plan-discard-reads.Learnt κs)
    (λ a r x. HostPlanDiscarded a.0.now a.1.0.now r x.1.1.0.now x.1.0.now)
    (λ x. (x.1.1.0.now, x.1.0.now))
plan_discard_settles = library.plan_discard_settles

pub plan_replay_settles : (κs : Lfts 5) → Settles {L = List ℤ × (List ℤ × List ℤ)} nothing
    (plan-replay-reads.Asked κs) (plan-replay-reads.Learnt κs)
    (λ a r x. HostReplayed a.0.now a.1.0.now a.1.1.0.now a.1.1.1.0.now r
    x.1.1.1.1.0.now x.1.0.now x.1.1.1.0.now)
    (λ x. (x.1.1.1.1.0.now, (x.1.0.now, x.1.1.1.0.now)))
plan_replay_settles = library.plan_replay_settles
