-- `read`: the lines first, then the rules. Assumes nothing.
use Rattle.reader.proofs.ReadLaws.{zeros_are}
use mathlib.Core.Path.{refl}
use Rattle.meaning.proofs.Refusals.{not_done}
use Rattle.reader.proofs.RuledLaws.{read_fault, read_ruled}
use Rattle.chart_engine.proofs.TextKept.{reads}
use Rattle.chart_engine.proofs.read.Goals as goal

pub returns-then-lines-ne0 : goal.returns-then-lines-ne0
returns-then-lines-ne0 c = reads (read_fault _ _ _ _ c.read_rows-lines.ensures c.if-lines-ne0.true)

pub returns-in-Err : goal.returns-in-Err
returns-in-Err c =
    rw (c.number.ensures, c.place.ensures)
    (reads (read_ruled _ _ _ _ c.read_rows-lines.ensures c.if-lines-ne0.false _ c.in-Err.ensures _
    (λ _. zeros_are _ _ (c.fill.ensures.after (λ y h. h))) (λ z. absurd (not_done c.in-Err.refusal z))))

pub returns : goal.returns
returns c =
    reads (read_ruled _ _ _ _ c.read_rows-lines.ensures c.if-lines-ne0.false _ c.in_default.ensures _ (λ n. absurd (n refl)) (λ _. refl))
