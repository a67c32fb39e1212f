-- `report` writes R, the answer, the entry count and the entries, part by part. Assumes nothing.
use borrow.Author.Rules.{rules}
use Rattle.console.proofs.Room.{report_place}
use Rattle.console.proofs.ReportLaws.{shown_steps}
use Rattle.console.proofs.printed.report.Goals as goal

pub returns : goal.returns
returns c =
    let p = c.put.ensures.written in
    let q = c.put-2.ensures.written in
    let d = c.put_digits.ensures.written in
    let r = c.put-3.ensures.written in
    let n = c.put_digits-2.ensures.written in
    let t = c.put-4.ensures.written in
    let w = c.put_entries.ensures in
    let e = shown_steps _ _ _ _ _ _ _ _ _ _ _ _ c.min-n.ensures p q d r n t w.written in (
      search rules,
      report_place c.args.trace.now _ _ _ _ _ _ _ _ _ _ _ _ _ c.min-n.ensures p q d r n t w.room c.ranges.number.fits c.min-n.type_inv,
    )
