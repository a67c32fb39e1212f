-- The same of the calls on a widget over a plan and of replay (01, "Promises"): each requires nothing, says its promise, and
-- allows one result. Assumes nothing.
use mathlib.Core.Path.{refl}
use contract.Lifetimes.{Lfts}
use Rattle.promises.specs.Promises.{PlanStarted, PlanRan, PlanPosted, PlanDiscarded, PlanReplayed}
use Rattle.promises.proofs.Settles.{Settles, nothing, one}
use Rattle.plan_engine.proofs.planned.start.Reads as start-reads
use Rattle.plan_engine.proofs.planned.run.Reads as run-reads
use Rattle.plan_engine.proofs.planned.post.Reads as post-reads
use Rattle.plan_engine.proofs.planned.discard.Reads as discard-reads
use Rattle.plan_engine.proofs.planned.replay.Reads as replay-reads

pub plan_start_settles : (κs : Lfts 2) → Settles nothing (start-reads.Asked κs) (start-reads.Learnt κs)
    (λ a r x. PlanStarted a.0.now a.1.0 a.1.1.0.now r x.1.1.0.now) (λ x. x.1.1.0.now)
plan_start_settles κs = record {
  asks = λ a g. tt;
  promised = λ a r x p. p;
  unique = λ a r s x y p q. (one p.result q.result, one p.lent q.lent);
}

pub plan_run_settles : (κs : Lfts 2) → Settles nothing (run-reads.Asked κs) (run-reads.Learnt κs)
    (λ a r x. PlanRan a.0.now a.1.0 a.1.1.0.now r x.1.1.0.now) (λ x. x.1.1.0.now)
plan_run_settles κs = record {
  asks = λ a g. tt;
  promised = λ a r x p. p;
  unique = λ a r s x y p q. (one p.result q.result, one p.lent q.lent);
}

pub plan_post_settles : (κs : Lfts 1) → Settles nothing (post-reads.Asked κs) (post-reads.Learnt κs)
    (λ a r x. PlanPosted a.0.now a.1.0 a.1.1.0 a.1.1.1.0 r) (λ x. tt {0})
plan_post_settles κs = record {
  asks = λ a g. tt;
  promised = λ a r x p. p;
  unique = λ a r s x y p q. (one p.result q.result, refl);
}

pub plan_discard_settles : (κs : Lfts 1) → Settles nothing (discard-reads.Asked κs) (discard-reads.Learnt κs)
    (λ a r x. PlanDiscarded a.0.now a.1.0 r) (λ x. tt {0})
plan_discard_settles κs = record {
  asks = λ a g. tt;
  promised = λ a r x p. p;
  unique = λ a r s x y p q. (one p.result q.result, refl);
}

pub plan_replay_settles : (κs : Lfts 3) → Settles nothing (replay-reads.Asked κs) (replay-reads.Learnt κs)
    (λ a r x. PlanReplayed a.0.now a.1.0 a.1.1.0.now a.1.1.1.0.now r x.1.1.1.0.now)
    (λ x. x.1.1.1.0.now)
plan_replay_settles κs = record {
  asks = λ a g. tt;
  promised = λ a r x p. p;
  unique = λ a r s x y p q. (one p.result q.result, one p.lent q.lent);
}
