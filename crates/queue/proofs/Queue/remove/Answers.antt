-- `remove` equals `removed` on every queue. The loop copies each place from the next one onto free places. Assumes nothing.
use mathlib.Core.Path.{◌≡◌, ◌∙◌}
use Prim.Native.Nat.{◌-◌}
use native.Mathlib.Omega.{arith}
use borrow.Author.Tests.{eq-eqb, ne_eqb, lt-ltb, le-ltb}
use borrow.Author.Rules.{rules}
use lib.ListN.{length-drop, length, drop}
use lib.Seq.{take_all}
use Rattle.queue.proofs.Copy.{shifted_suc}
use Rattle.queue.specs.Queue.{no_item, shifted, removed}
use Rattle.sizes.specs.Sizes.{QUEUE}
use Rattle.queue.proofs.Queue.remove.Invariants.{free}
use Rattle.queue.proofs.Queue.remove.Goals.{then-n-eq0-via-then-n-eq0, then-n-eq0-via-else-n-eq0+then-n-gt-QUEUE}
use Rattle.queue.proofs.Queue.remove.Goals as goal

pub returns-then-n-eq0 : goal.returns-then-n-eq0
unfolding removed
returns-then-n-eq0 c = elim c.then-n-eq0.branch [
  | then-n-eq0-via-then-n-eq0 w ↦ rw (eq-eqb c.args.self.len 0 w.if-n-eq0.true)
  | then-n-eq0-via-else-n-eq0+then-n-gt-QUEUE w ↦ rw (
    ne_eqb c.args.self.len 0 w.if-n-eq0.false,
    lt-ltb QUEUE c.args.self.len w.if-n-gt-QUEUE.true,
  )
]

pub loop-i-preserved : goal.loop-i-preserved
loop-i-preserved c =
    let l = c.args.self.items in
    let h : length l ≡ QUEUE = search rules in
    rw c.loop-i.invariant (shifted_suc free l c.loop-i.i no_item (omega arith) (omega arith))

pub returns : goal.returns
unfolding removed
returns c =
    let h : length c.args.self.items ≡ QUEUE = search rules in
    let end : c.loop-i.i ≡ QUEUE - 1 = omega arith in
    let last : c.loop-i.rest ≡ shifted c.args.self.items =
    c.loop-i.invariant ∙
    rw (end, take_all (QUEUE - 1) (drop 1 c.args.self.items) (rw length-drop (omega arith))) in
    rw (
      ne_eqb c.args.self.len 0 c.if-n-eq0.false,
      le-ltb QUEUE c.args.self.len c.if-n-gt-QUEUE.false,
      last,
    )
