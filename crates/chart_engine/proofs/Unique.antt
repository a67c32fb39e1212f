-- "Every public function's stated result determines answer, state and every lent number on every input, refusals too; that two results it
-- allows are equal is proved" (01, "Promises"). The theorems are about what each function's own contract asks of a caller (`Asked`) and
-- tells it (`Learnt`), as they are read from the source: a contract that says less, or asks for more, is refused here.
-- In the order: the functions that require nothing; those on a checked chart. Assumes nothing.
use mathlib.Core.Path.{refl}
use contract.Lifetimes.{Lfts}
use Rattle.meaning.specs.Answers.{answer_by}
use Rattle.meaning.proofs.Refusals.{same_answer}
use Rattle.promises.proofs.Settles.{Settles, nothing, one}
use Rattle.meaning.specs.Rules.{Ruled}
use Rattle.promises.specs.Promises.{Checked, Read, Wrote, Unstarted, Started, Ran, Posted, Discarded}
use Rattle.chart_engine.proofs.check.Reads as check-reads
use Rattle.chart_engine.proofs.read.Reads as read-reads
use Rattle.chart_engine.proofs.write.Reads as write-reads
use Rattle.chart_engine.proofs.unstarted.Reads as unstarted-reads
use Rattle.chart_engine.proofs.start.Reads as start-reads
use Rattle.chart_engine.proofs.run.Reads as run-reads
use Rattle.chart_engine.proofs.post.Reads as post-reads
use Rattle.chart_engine.proofs.discard.Reads as discard-reads
use Rattle.chart_engine.proofs.checked.start_checked.Reads as start-checked-reads
use Rattle.chart_engine.proofs.checked.run_checked.Reads as run-checked-reads
use Rattle.chart_engine.proofs.checked.post_checked.Reads as post-checked-reads
use Rattle.chart_engine.proofs.checked.discard_checked.Reads as discard-checked-reads

-- ---- the functions that require nothing

pub check_settles : (κs : Lfts 1) → Settles nothing (check-reads.Asked κs) (check-reads.Learnt κs)
    (λ a r x. Checked a.0.now (answer_by r)) (λ x. tt {0})
check_settles κs = record {
  asks = λ a g. tt;
  promised = λ a r x p. p;
  unique = λ a r s x y p q. (same_answer r s (one p.result q.result), refl);
}

pub read_settles : (κs : Lfts 2) → Settles nothing (read-reads.Asked κs) (read-reads.Learnt κs)
    (λ a r x. Read a.0.now a.1.0.now r x.1.0.now) (λ x. x.1.0.now)
read_settles κs = record {
  asks = λ a g. tt;
  promised = λ a r x p. p;
  unique = λ a r s x y p q. (one p.result q.result, one p.lent q.lent);
}

pub write_settles : (κs : Lfts 2) → Settles nothing (write-reads.Asked κs) (write-reads.Learnt κs)
    (λ a r x. Wrote a.0.now a.1.0.now r x.1.0.now) (λ x. x.1.0.now)
write_settles κs = record {
  asks = λ a g. tt;
  promised = λ a r x p. p;
  unique = λ a r s x y p q. (one p.result q.result, one p.lent q.lent);
}

pub unstarted_settles : (κs : Lfts 0) → Settles nothing (unstarted-reads.Asked κs) (unstarted-reads.Learnt κs)
    (λ a r x. Unstarted r) (λ x. tt {0})
unstarted_settles κs = record {
  asks = λ a g. tt;
  promised = λ a r x p. p;
  unique = λ a r s x y p q. (one p.result q.result, refl);
}

pub start_settles : (κs : Lfts 2) → Settles nothing (start-reads.Asked κs) (start-reads.Learnt κs)
    (λ a r x. Started a.0.now a.1.0 a.1.1.0.now r x.1.1.0.now) (λ x. x.1.1.0.now)
start_settles κs = record {
  asks = λ a g. tt;
  promised = λ a r x p. p;
  unique = λ a r s x y p q. (one p.result q.result, one p.lent q.lent);
}

pub run_settles : (κs : Lfts 2) → Settles nothing (run-reads.Asked κs) (run-reads.Learnt κs)
    (λ a r x. Ran a.0.now a.1.0 a.1.1.0.now r x.1.1.0.now) (λ x. x.1.1.0.now)
run_settles κs = record {
  asks = λ a g. tt;
  promised = λ a r x p. p;
  unique = λ a r s x y p q. (one p.result q.result, one p.lent q.lent);
}

pub post_settles : (κs : Lfts 1) → Settles nothing (post-reads.Asked κs) (post-reads.Learnt κs)
    (λ a r x. Posted a.0.now a.1.0 a.1.1.0 a.1.1.1.0 r) (λ x. tt {0})
post_settles κs = record {
  asks = λ a g. tt;
  promised = λ a r x p. p;
  unique = λ a r s x y p q. (one p.result q.result, refl);
}

pub discard_settles : (κs : Lfts 1) → Settles nothing (discard-reads.Asked κs) (discard-reads.Learnt κs)
    (λ a r x. Discarded a.0.now a.1.0 r) (λ x. tt {0})
discard_settles κs = record {
  asks = λ a g. tt;
  promised = λ a r x p. p;
  unique = λ a r s x y p q. (one p.result q.result, refl);
}

-- ---- on a checked chart: what check promises with answer 0 is all that they ask

pub start_checked_settles : (κs : Lfts 2) → Settles (λ a. Ruled a.0.now)
    (start-checked-reads.Asked κs) (start-checked-reads.Learnt κs)
    (λ a r x. Started a.0.now a.1.0 a.1.1.0.now r x.1.1.0.now) (λ x. x.1.1.0.now)
start_checked_settles κs = record {
  asks = λ a g. g;
  promised = λ a r x p. p;
  unique = λ a r s x y p q. (one p.result q.result, one p.lent q.lent);
}

pub run_checked_settles : (κs : Lfts 2) → Settles (λ a. Ruled a.0.now)
    (run-checked-reads.Asked κs) (run-checked-reads.Learnt κs)
    (λ a r x. Ran a.0.now a.1.0 a.1.1.0.now r x.1.1.0.now) (λ x. x.1.1.0.now)
run_checked_settles κs = record {
  asks = λ a g. g;
  promised = λ a r x p. p;
  unique = λ a r s x y p q. (one p.result q.result, one p.lent q.lent);
}

pub post_checked_settles : (κs : Lfts 1) → Settles (λ a. Ruled a.0.now)
    (post-checked-reads.Asked κs) (post-checked-reads.Learnt κs)
    (λ a r x. Posted a.0.now a.1.0 a.1.1.0 a.1.1.1.0 r) (λ x. tt {0})
post_checked_settles κs = record {
  asks = λ a g. g;
  promised = λ a r x p. p;
  unique = λ a r s x y p q. (one p.result q.result, refl);
}

pub discard_checked_settles : (κs : Lfts 1) → Settles (λ a. Ruled a.0.now)
    (discard-checked-reads.Asked κs) (discard-checked-reads.Learnt κs)
    (λ a r x. Discarded a.0.now a.1.0 r) (λ x. tt {0})
discard_checked_settles κs = record {
  asks = λ a g. g;
  promised = λ a r x p. p;
  unique = λ a r s x y p q. (one p.result q.result, refl);
}
