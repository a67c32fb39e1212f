-- Each entry point for a host requires nothing, says its promise, and two results that it allows are equal: the answer, the report and
-- every lent number (01, "Promises"; what is shown of a contract is `Settles` of the engine's Unique). Assumes nothing.
use mathlib.Core.Path.{◌≡◌}
use mathlib.Core.List.{List}
use Prim.Native.Nat.{ℕ}
use lib.IntN.{ℤ}
use contract.Lifetimes.{Lfts}
use Rattle.meaning.specs.declared.Answer.{Answer}
use Rattle.meaning.specs.declared.Called.{Called}
use Rattle.meaning.specs.Calls.{Outcome}
use Rattle.promises.proofs.Settles.{Settles, one, nothing}
use Rattle.promises.specs.Host.{Told, Ends, Traces, HostChecked, HostRead, HostWrote, HostCompiled, HostExamined, HostUnstarted}
use Rattle.promises.specs.Host.{HostStarted, HostRan, HostPosted, HostDiscarded}
use Rattle.promises.specs.Host.{HostPlanStarted, HostPlanRan, HostPlanPosted, HostPlanDiscarded, HostReplayed}
use Rattle.boundary.proofs.qh_check.Reads as check-reads
use Rattle.boundary.proofs.qh_read.Reads as read-reads
use Rattle.boundary.proofs.qh_write.Reads as write-reads
use Rattle.boundary.proofs.qh_compile.Reads as compile-reads
use Rattle.boundary.proofs.qh_examine.Reads as examine-reads
use Rattle.boundary.proofs.qh_unstarted.Reads as unstarted-reads
use Rattle.boundary.proofs.qh_start.Reads as start-reads
use Rattle.boundary.proofs.qh_run.Reads as run-reads
use Rattle.boundary.proofs.qh_post.Reads as post-reads
use Rattle.boundary.proofs.qh_discard.Reads as discard-reads
use Rattle.boundary.proofs.qh_plan_start.Reads as plan-start-reads
use Rattle.boundary.proofs.qh_plan_run.Reads as plan-run-reads
use Rattle.boundary.proofs.qh_plan_post.Reads as plan-post-reads
use Rattle.boundary.proofs.qh_plan_discard.Reads as plan-discard-reads
use Rattle.boundary.proofs.qh_plan_replay.Reads as plan-replay-reads

-- ---- what is told is one

told_one : {a : Answer} {n : ℕ} {r s : ℤ} {p q : List ℤ} → Told a n r p → Told a n s q → (r ≡ s) × (p ≡ q)
told_one t u = (one t.answer u.answer, one t.told u.told)

pair : {A B : Type 0} {a c : A} {b d : B} → a ≡ c → b ≡ d → ◌≡◌ {A = A × B} (a, b) (c, d)
pair e f = rw (e, f)

told_lent : {A : Type 0} {a : Answer} {n : ℕ} {r s : ℤ} {p q : List ℤ} {x y : A} → Told a n r p → Told a n s q → x ≡ y
    → (r ≡ s) × (◌≡◌ {A = List ℤ × A} (p, x) (q, y))
told_lent t u e = let b = told_one t u in (b.0, pair b.1 e)

ends_one : {c : Called} {ns : List ℤ} {r s : ℤ} {p q x y : List ℤ} → Ends c ns r p x → Ends c ns s q y
    → (r ≡ s) × (◌≡◌ {A = List ℤ × List ℤ} (p, x) (q, y))
ends_one e f = told_lent e.tells f.tells (one e.widget f.widget)

traces_one : {o : Outcome} {ns : List ℤ} {n : ℕ} {r s : ℤ} {p q x y l m : List ℤ} → Traces o ns n r p x l → Traces o ns n s q y m
    → (r ≡ s) × (◌≡◌ {A = List ℤ × (List ℤ × List ℤ)} (p, (x, l)) (q, (y, m)))
traces_one e f =
    told_lent e.ends.tells f.ends.tells (pair (one e.ends.widget f.ends.widget) (one e.lent f.lent))

-- ---- charts, texts and plans

pub check_settles : (κs : Lfts 2) → Settles nothing (check-reads.Asked κs) (check-reads.Learnt κs)
    (λ a r x. HostChecked a.0.now r x.1.0.now)
    (λ x. x.1.0.now)
check_settles κs = record {
  asks = λ a g. tt;
  promised = λ a r x p. p;
  unique = λ a r s x y p q. told_one p q;
}

pub read_settles : (κs : Lfts 3) → Settles {L = List ℤ × List ℤ} nothing (read-reads.Asked κs) (read-reads.Learnt κs)
    (λ a r x. HostRead a.0.now a.1.0.now r x.1.1.0.now x.1.0.now)
    (λ x. (x.1.1.0.now, x.1.0.now))
read_settles κs = record {
  asks = λ a g. tt;
  promised = λ a r x p. p;
  unique = λ a r s x y p q. told_lent p.tells q.tells (one p.lent q.lent);
}

pub write_settles : (κs : Lfts 3) → Settles {L = List ℤ × List ℕ} nothing (write-reads.Asked κs) (write-reads.Learnt κs)
    (λ a r x. HostWrote a.0.now a.1.0.now r x.1.1.0.now x.1.0.now)
    (λ x. (x.1.1.0.now, x.1.0.now))
write_settles κs = record {
  asks = λ a g. tt;
  promised = λ a r x p. p;
  unique = λ a r s x y p q. told_lent p.tells q.tells (one p.lent q.lent);
}

pub compile_settles : (κs : Lfts 3) → Settles {L = List ℤ × List ℤ} nothing (compile-reads.Asked κs) (compile-reads.Learnt κs)
    (λ a r x. HostCompiled a.0.now a.1.0.now r x.1.1.0.now x.1.0.now)
    (λ x. (x.1.1.0.now, x.1.0.now))
compile_settles κs = record {
  asks = λ a g. tt;
  promised = λ a r x p. p;
  unique = λ a r s x y p q. told_lent p.tells q.tells (one p.lent q.lent);
}

pub examine_settles : (κs : Lfts 2) → Settles nothing (examine-reads.Asked κs) (examine-reads.Learnt κs)
    (λ a r x. HostExamined a.0.now r x.1.0.now)
    (λ x. x.1.0.now)
examine_settles κs = record {
  asks = λ a g. tt;
  promised = λ a r x p. p;
  unique = λ a r s x y p q. told_one p q;
}

pub unstarted_settles : (κs : Lfts 2) → Settles {L = List ℤ × List ℤ} nothing (unstarted-reads.Asked κs) (unstarted-reads.Learnt κs)
    (λ a r x. HostUnstarted a.0.now r x.1.0.now x.0.now)
    (λ x. (x.1.0.now, x.0.now))
unstarted_settles κs = record {
  asks = λ a g. tt;
  promised = λ a r x p. p;
  unique = λ a r s x y p q. ends_one p q;
}

-- ---- the calls on a widget over its chart

pub start_settles : (κs : Lfts 4) → Settles {L = List ℤ × (List ℤ × List ℤ)} nothing (start-reads.Asked κs) (start-reads.Learnt κs)
    (λ a r x. HostStarted a.0.now a.1.0.now a.1.1.0.now r x.1.1.1.0.now x.1.0.now x.1.1.0.now)
    (λ x. (x.1.1.1.0.now, (x.1.0.now, x.1.1.0.now)))
start_settles κs = record {
  asks = λ a g. tt;
  promised = λ a r x p. p;
  unique = λ a r s x y p q. traces_one p q;
}

pub run_settles : (κs : Lfts 4) → Settles {L = List ℤ × (List ℤ × List ℤ)} nothing (run-reads.Asked κs) (run-reads.Learnt κs)
    (λ a r x. HostRan a.0.now a.1.0.now a.1.1.0.now r x.1.1.1.0.now x.1.0.now x.1.1.0.now)
    (λ x. (x.1.1.1.0.now, (x.1.0.now, x.1.1.0.now)))
run_settles κs = record {
  asks = λ a g. tt;
  promised = λ a r x p. p;
  unique = λ a r s x y p q. traces_one p q;
}

pub post_settles : (κs : Lfts 3) → Settles {L = List ℤ × List ℤ} nothing (post-reads.Asked κs) (post-reads.Learnt κs)
    (λ a r x. HostPosted a.0.now a.1.0.now a.1.1.0 a.1.1.1.0 r x.1.1.1.1.0.now x.1.0.now)
    (λ x. (x.1.1.1.1.0.now, x.1.0.now))
post_settles κs = record {
  asks = λ a g. tt;
  promised = λ a r x p. p;
  unique = λ a r s x y p q. ends_one p q;
}

pub discard_settles : (κs : Lfts 3) → Settles {L = List ℤ × List ℤ} nothing (discard-reads.Asked κs) (discard-reads.Learnt κs)
    (λ a r x. HostDiscarded a.0.now a.1.0.now r x.1.1.0.now x.1.0.now)
    (λ x. (x.1.1.0.now, x.1.0.now))
discard_settles κs = record {
  asks = λ a g. tt;
  promised = λ a r x p. p;
  unique = λ a r s x y p q. ends_one p q;
}

-- ---- the calls on a widget over a plan

pub plan_start_settles : (κs : Lfts 4) → Settles {L = List ℤ × (List ℤ × List ℤ)} nothing
    (plan-start-reads.Asked κs) (plan-start-reads.Learnt κs)
    (λ a r x. HostPlanStarted a.0.now a.1.0.now a.1.1.0.now r x.1.1.1.0.now x.1.0.now x.1.1.0.now)
    (λ x. (x.1.1.1.0.now, (x.1.0.now, x.1.1.0.now)))
plan_start_settles κs = record {
  asks = λ a g. tt;
  promised = λ a r x p. p;
  unique = λ a r s x y p q. traces_one p q;
}

pub plan_run_settles : (κs : Lfts 4) → Settles {L = List ℤ × (List ℤ × List ℤ)} nothing
    (plan-run-reads.Asked κs) (plan-run-reads.Learnt κs)
    (λ a r x. HostPlanRan a.0.now a.1.0.now a.1.1.0.now r x.1.1.1.0.now x.1.0.now x.1.1.0.now)
    (λ x. (x.1.1.1.0.now, (x.1.0.now, x.1.1.0.now)))
plan_run_settles κs = record {
  asks = λ a g. tt;
  promised = λ a r x p. p;
  unique = λ a r s x y p q. traces_one p q;
}

pub plan_post_settles : (κs : Lfts 3) → Settles {L = List ℤ × List ℤ} nothing
    (plan-post-reads.Asked κs) (plan-post-reads.Learnt κs)
    (λ a r x. HostPlanPosted a.0.now a.1.0.now a.1.1.0 a.1.1.1.0 r x.1.1.1.1.0.now x.1.0.now)
    (λ x. (x.1.1.1.1.0.now, x.1.0.now))
plan_post_settles κs = record {
  asks = λ a g. tt;
  promised = λ a r x p. p;
  unique = λ a r s x y p q. ends_one p q;
}

pub plan_discard_settles : (κs : Lfts 3) → Settles {L = List ℤ × List ℤ} nothing
    (plan-discard-reads.Asked κs) (plan-discard-reads.Learnt κs)
    (λ a r x. HostPlanDiscarded a.0.now a.1.0.now r x.1.1.0.now x.1.0.now)
    (λ x. (x.1.1.0.now, x.1.0.now))
plan_discard_settles κs = record {
  asks = λ a g. tt;
  promised = λ a r x p. p;
  unique = λ a r s x y p q. ends_one p q;
}

pub plan_replay_settles : (κs : Lfts 5) → Settles {L = List ℤ × (List ℤ × List ℤ)} nothing
    (plan-replay-reads.Asked κs) (plan-replay-reads.Learnt κs)
    (λ a r x. HostReplayed a.0.now a.1.0.now a.1.1.0.now a.1.1.1.0.now r
    x.1.1.1.1.0.now x.1.0.now x.1.1.1.0.now)
    (λ x. (x.1.1.1.1.0.now, (x.1.0.now, x.1.1.1.0.now)))
plan_replay_settles κs = record {
  asks = λ a g. tt;
  promised = λ a r x p. p;
  unique = λ a r s x y p q. (
    one p.stops.answer q.stops.answer,
    pair (one p.stops.told q.stops.told) (pair (one p.stops.widget q.stops.widget) (one p.lent q.lent)),
  );
}
