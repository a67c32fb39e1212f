use Rattle.fields.proofs.+field.Given as goal

abbrev pub decreases-field : goal.decreases-field
decreases-field l = l.k
