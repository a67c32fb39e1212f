-- `put_arrival` enters the state, and at the owner of a history puts the arms. Assumes nothing.
use Rattle.emitter.proofs.Laws.{emits_at}
use Rattle.meaning.specs.Value.{chart_of}
use Rattle.blocks.proofs.Joining.{arrival_room, arrival_target, arrival_past, arrival_long, arrival_owner}
use native.Mathlib.Omega.{arith}
use Rattle.blocks.proofs.put_arrival.Goals as goal

pub next_of-next-requires : goal.next_of-next-requires
next_of-next-requires c = c.args.c.now.prepared.ruled

pub put_visit-q-requires : goal.put_visit-q-requires
put_visit-q-requires c = (
  c.requires.0,
  c.requires.1,
  arrival_room (chart_of c.args.c.now.chart.now) c.args.goal
      c.args.p c.args.s _ c.next_of-next.ensures
      c.args.at c.requires.2,
)

pub returns-in_default : goal.returns-in_default
returns-in_default c =
    arrival_target (chart_of c.args.c.now.chart.now) c.args.goal
    c.args.p c.args.s _
    c.next_of-next.ensures _
    c.put_visit-q.ensures _ c.in_default.is

pub returns-then-s-b : goal.returns-then-s-b
returns-then-s-b c =
    arrival_past (chart_of c.args.c.now.chart.now) c.args.goal
    c.args.p c.args.s _
    c.next_of-next.ensures _ c.put_visit-q.ensures
    _ c.in-Owner.is c.if-s-b.true

pub put_arms-requires : goal.put_arms-requires
put_arms-requires c = (
  omega (arith, c.requires.1, c.if-s-b.false),
  omega (
    arith,
    c.requires.2,
    emits_at _ _ _ c.put_visit-q.ensures,
    arrival_long (chart_of c.args.c.now.chart.now)
        c.args.goal c.args.p
        c.args.s _
        c.next_of-next.ensures _
        c.put_visit-q.ensures _
        c.in-Owner.is c.if-s-b.false,
  ),
)

pub returns : goal.returns
returns c =
    arrival_owner (chart_of c.args.c.now.chart.now) c.args.goal
    c.args.p c.args.s _
    c.next_of-next.ensures _
    c.put_visit-q.ensures _
    c.in-Owner.is c.if-s-b.false
    c.put_arms.ensures
