-- `put_entries` writes the lines of the first n entries. The invariant: what is still to be written from here gives what all of
-- it gives from the start. Assumes nothing.
use mathlib.Core.Path.{sym, ap, ◌∙◌}
use native.Mathlib.Omega.{arith}
use lib.ListN.{length}
use borrow.Author.Rules.{rules}
use Rattle.pen.specs.Pen.{Pen}
use Rattle.pen.proofs.Laws.{all_long}
use Rattle.console.proofs.ReportLaws.{entries_done, entries_more}
use Rattle.console.proofs.printed.put_entries.Goals as goal

pub loop-k-preserved : goal.loop-k-preserved
loop-k-preserved c =
    let l = c.loop-k.invariant in
    let e = c.put_entry.ensures in (
      omega arith,
      e.same_reference ∙ l.1,
      ap (λ (p : Pen). length p.bytes) e.written ∙ all_long _ _ ∙ l.2,
      (λ h. let i = l.3 h in let w = e.room (omega (arith, l.2)) in
          omega arith),
      entries_more _ _ _ c.requires
          c.loop-k-test.true _ _ _ _ _ e.written
          (search rules) (search rules) (search rules) ∙ l.4,
    )

pub returns-clause-written : goal.returns-clause-written
returns-clause-written c =
    let l = c.loop-k.invariant in
    sym (entries_done _ _ _ l.0 c.loop-k-test.false _) ∙ l.4
