-- `Record::of`: the kind that a letter names. Assumes nothing.
use mathlib.Core.Path.{refl, sym}
use native.Mathlib.Omega.{arith}
use Rattle.meaning.specs.Grammar.{record_by}
use Rattle.chart_rows.proofs.Named.{is_none}
use Rattle.chart_rows.proofs.kinds.Record.of.Goals as goal

pub returns-in-83 : goal.returns-in-83
unfolding record_by
returns-in-83 c = rw c.in-83.is refl

pub returns-in-86 : goal.returns-in-86
unfolding record_by
returns-in-86 c = rw c.in-86.is refl

pub returns-in-69 : goal.returns-in-69
unfolding record_by
returns-in-69 c = rw c.in-69.is refl

pub returns-in-84 : goal.returns-in-84
unfolding record_by
returns-in-84 c = rw c.in-84.is refl

pub returns-in-65 : goal.returns-in-65
unfolding record_by
returns-in-65 c = rw c.in-65.is refl

pub returns-in_default : goal.returns-in_default
returns-in_default c = sym (is_none _ (omega arith) (omega arith) (omega arith) (omega arith) (omega arith))
