-- The same of the functions that make and examine plans (01, "Promises"): each requires nothing, says its promise, and allows one
-- result. Assumes nothing.
use mathlib.Core.Path.{refl}
use contract.Lifetimes.{Lfts}
use Rattle.meaning.specs.Answers.{answer_by}
use Rattle.meaning.proofs.Refusals.{same_answer}
use Rattle.promises.specs.Promises.{Compiles, Examined}
use Rattle.promises.proofs.Settles.{Settles, nothing, one}
use Rattle.plan_engine.proofs.plans.compile.Reads as compile-reads
use Rattle.plan_engine.proofs.plans.examine.Reads as examine-reads

pub compile_settles : (κs : Lfts 2) → Settles nothing (compile-reads.Asked κs) (compile-reads.Learnt κs)
    (λ a r x. Compiles a.0.now a.1.0.now r x.1.0.now) (λ x. x.1.0.now)
compile_settles κs = record {
  asks = λ a g. tt;
  promised = λ a r x p. p;
  unique = λ a r s x y p q. (one p.result q.result, one p.lent q.lent);
}

pub examine_settles : (κs : Lfts 1) → Settles nothing (examine-reads.Asked κs) (examine-reads.Learnt κs)
    (λ a r x. Examined a.0.now (answer_by r)) (λ x. tt {0})
examine_settles κs = record {
  asks = λ a g. tt;
  promised = λ a r x p. p;
  unique = λ a r s x y p q. (same_answer r s (one p.result q.result), refl);
}
