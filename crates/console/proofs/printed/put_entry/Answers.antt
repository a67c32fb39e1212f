-- `put_entry` writes one entry: its numbers, single spaces, LF. Assumes nothing.
use mir.Facts.{to_z-of_z}
use Rattle.console.specs.Shown.{LINE}
use Rattle.console.proofs.Room.{place_after, entry_room}
use Rattle.console.proofs.ReportLaws.{entry_steps}
use Rattle.console.proofs.printed.put_entry.Goals as goal

pub returns-clause-written : goal.returns-clause-written
returns-clause-written c =
    let r = c.ranges in
    entry_steps _ _ _ _ _ _ _ _ _ _
    (rw (to_z-of_z r.first) at c.put_numeral.ensures.written) c.put.ensures.written
    (rw (to_z-of_z r.second) at c.put_numeral-2.ensures.written) c.put-2.ensures.written
    (rw (to_z-of_z r.third) at c.put_numeral-3.ensures.written) c.put-3.ensures.written

pub returns-clause-room : goal.returns-clause-room
returns-clause-room c =
    let r = c.ranges in
    let e = entry_steps _ _ _ _ _ _ _ _ _ _
    (rw (to_z-of_z r.first) at c.put_numeral.ensures.written) c.put.ensures.written
    (rw (to_z-of_z r.second) at c.put_numeral-2.ensures.written) c.put-2.ensures.written
    (rw (to_z-of_z r.third) at c.put_numeral-3.ensures.written) c.put-3.ensures.written in
    λ h. place_after _ _ _ LINE _ e (entry_room _ _ _ r.first.sfits r.second.sfits r.third.sfits) h
