-- `reader::walk` meets its contract: what `line_at` promises is what the next line, or the end, asks. Assumes nothing.
use Rattle.std.proofs.Common.{sym, ap, ◌∙◌, subst, length}
use Rattle.reader.specs.Onward.{Walking}
use Rattle.reader.specs.declared.scan.Progress.{Progress}
use Rattle.reader.proofs.ScanLaws.{walking_start}
use Rattle.reader.proofs.walk.Goals as goal

pub loop-next-init : goal.loop-next-init
loop-next-init c = record {
  text = ap (λ r. r.now) c.open-reader.ensures.0;
  at = c.open-reader.ensures.1 ∙ sym (ap (λ p. p.at) c.begin-so_far.ensures);
  on = subst (λ (p : Progress). Walking c.args.text.now (length c.args.chart.now) c.args.chart.now p.at p.line p.turns)
      (sym c.begin-so_far.ensures)
      (walking_start _ _ _ c.requires);
}
