-- `send` writes the entry of an event sent and then appends it: 11 before 9. Assumes nothing.
use Rattle.std.proofs.Common.{◌≡◌, Ok, Err, ◌+◌, ◌<◌, ◌≤◌, ℤ, set, rules}
use Rattle.numbers.proofs.Laws.{back32}
use borrow.Author.Tests.{le-ltb, lt-ltb}
use mir.Facts.{to_z-of_z}
use Rattle.sizes.specs.Sizes.{QUEUE}
use Rattle.queue.specs.declared.Queue.{Queue}
use Rattle.queue.specs.Queue.{item, appended, appended_by}
use Rattle.widget.proofs.Effects.{sending_stop, sending_full, sending_on}
use Rattle.widget.proofs.send.Goals as goal

-- a queue that is full stays as it was
full : (q : Queue) (e a : ℤ) → QUEUE ≤ q.len → appended_by (Err q) ≡ appended q e a
unfolding appended
full q e a l = rw (le-ltb q.len QUEUE l)

-- the first place that is free holds the event
held : (q : Queue) (e a : ℤ) → q.len < QUEUE
    → appended_by (Ok (record { len = q.len + 1; items = set q.items q.len (item e a) })) ≡ appended q e a
unfolding appended
held q e a l = rw (lt-ltb q.len QUEUE l)

pub returns-in_err-next : goal.returns-in_err-next
returns-in_err-next c =
    let q : c.from_residual.result ≡ Err c.in_err-next.field-0.0 = search rules in
    rw q (sending_stop _ _ (rw (to_z-of_z c.ranges.x) at c.in_err-next.ensures))

pub returns-then-last-ge-QUEUE : goal.returns-then-last-ge-QUEUE
returns-then-last-ge-QUEUE c =
    sending_full _ _ (rw (to_z-of_z c.ranges.x) at c.in_ok-next.ensures) (full _ _ _ c.if-last-ge-QUEUE.true)

pub returns : goal.returns
returns c =
    let x = to_z-of_z c.ranges.x in
    let n = c.number in
    rw (back32 n.result n.type_inv, n.ensures, x)
    (sending_on _ _ (rw x at c.in_ok-next.ensures) (held _ _ _ c.if-last-ge-QUEUE.false))
