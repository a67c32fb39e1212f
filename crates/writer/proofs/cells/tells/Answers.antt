-- `tells` by the field. Assumes nothing.
use mir.Facts.{to_z-of_z}
use Rattle.round_trip.specs.Rows.{tells}
use Rattle.writer.proofs.CellLaws.{tells_none}
use Rattle.writer.proofs.cells.tells.Goals as goal

pub returns-in-Dash : goal.returns-in-Dash
unfolding tells
returns-in-Dash c = rw c.in-Dash.is (rw (to_z-of_z c.ranges.z) at c.is_absent.ensures)

pub returns-in-InPlace : goal.returns-in-InPlace
unfolding tells
returns-in-InPlace c = rw c.in-InPlace.is (rw (to_z-of_z c.ranges.z) at c.is_absent-in-InPlace.ensures)

pub returns-in-TargetHistory : goal.returns-in-TargetHistory
unfolding tells
returns-in-TargetHistory c = rw c.in-TargetHistory.is (rw (to_z-of_z c.ranges.z) at c.is_letter.ensures)

pub returns-in-Letter : goal.returns-in-Letter
unfolding tells
returns-in-Letter c = rw c.in-Letter.is (rw (c.bytes.ensures, to_z-of_z c.ranges.z) at c.one_of_letters.ensures)

pub returns-in_default : goal.returns-in_default
returns-in_default c = let d = c.in_default in tells_none _ _ d.not-Dash d.not-Letter d.not-TargetHistory d.not-InPlace
