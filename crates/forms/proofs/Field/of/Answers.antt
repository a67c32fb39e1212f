-- `Field::of`: the field of a code. Assumes nothing.
use mathlib.Core.Path.{refl, sym}
use native.Mathlib.Omega.{arith}
use Rattle.forms.specs.Table.{field_by}
use Rattle.forms.proofs.TableLaws.{field_none}
use Rattle.forms.proofs.Field.of.Goals as goal

pub returns-in-110 : goal.returns-in-110
unfolding field_by
returns-in-110 c = rw c.in-110.is refl

pub returns-in-35 : goal.returns-in-35
unfolding field_by
returns-in-35 c = rw c.in-35.is refl

pub returns-in-45 : goal.returns-in-45
unfolding field_by
returns-in-45 c = rw c.in-45.is refl

pub returns-in-115 : goal.returns-in-115
unfolding field_by
returns-in-115 c = rw c.in-115.is refl

pub returns-in-104 : goal.returns-in-104
unfolding field_by
returns-in-104 c = rw c.in-104.is refl

pub returns-in-95 : goal.returns-in-95
unfolding field_by
returns-in-95 c = rw c.in-95.is refl

pub returns-in-99 : goal.returns-in-99
unfolding field_by
returns-in-99 c = rw c.in-99.is refl

pub returns-in-111 : goal.returns-in-111
unfolding field_by
returns-in-111 c = rw c.in-111.is refl

pub returns-in-98 : goal.returns-in-98
unfolding field_by
returns-in-98 c = rw c.in-98.is refl

pub returns-in-61 : goal.returns-in-61
unfolding field_by
returns-in-61 c = rw c.in-61.is refl

pub returns-in-119 : goal.returns-in-119
unfolding field_by
returns-in-119 c = rw c.in-119.is refl

pub returns-in-113 : goal.returns-in-113
unfolding field_by
returns-in-113 c = rw c.in-113.is refl

pub returns-in-107 : goal.returns-in-107
unfolding field_by
returns-in-107 c = rw c.in-107.is refl

pub returns-in_default : goal.returns-in_default
returns-in_default c =
    sym (field_none _ (omega arith) (omega arith) (omega arith) (omega arith) (omega arith) (omega arith) (omega arith) (omega arith)
    (omega arith) (omega arith) (omega arith) (omega arith) (omega arith))
