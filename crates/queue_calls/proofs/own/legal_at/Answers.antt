-- `legal_at` goes by the counts of the children. Assumes nothing.
use native.Mathlib.Omega.{arith}
use Rattle.meaning.specs.Value.{chart_of}
use Rattle.queue_calls.proofs.Legal.{legal_out, legal_o, legal_a, legal_b}
use Rattle.queue_calls.proofs.own.legal_at.Goals as goal

pub bounds-active-s : goal.bounds-active-s
bounds-active-s c = omega (arith, c.requires.0)

pub returns-then-not-active-s : goal.returns-then-not-active-s
returns-then-not-active-s c u e =
    legal_out (chart_of c.args.chart.now) u c.args.s e c.requires.1 c.if-not-active-s.true

pub returns-in-O : goal.returns-in-O
returns-in-O c u e =
    legal_o (chart_of c.args.chart.now) u c.args.s e c.requires.1 c.if-not-active-s.false
    c.kind_of.ensures c.in-O.is

pub returns-in-A : goal.returns-in-A
returns-in-A c u e =
    legal_a (chart_of c.args.chart.now) u c.args.s e c.requires.1 c.if-not-active-s.false
    c.kind_of.ensures c.in-A.is

pub returns-in-B : goal.returns-in-B
returns-in-B c u e =
    legal_b (chart_of c.args.chart.now) u c.args.s e c.requires.1 c.if-not-active-s.false
    c.kind_of.ensures c.in-B.is
