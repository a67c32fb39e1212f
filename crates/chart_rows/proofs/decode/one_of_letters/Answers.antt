-- `one_of_letters` asks whether any of the letters is the number. Assumes nothing.
use Rattle.std.proofs.Common.{rules, tests, ◌∙◌}
use Rattle.std.proofs.lemmas.Iterator.{YieldsList-from_slice}
use Rattle.std.proofs.lemmas.Iterator.Search.{any_from_yields_List}
use Rattle.meaning.specs.Value.{is_letter}
use Rattle.chart_rows.proofs.Letters.{any_letter}
use Rattle.chart_rows.proofs.decode.one_of_letters.Goals as goal

pub returns : goal.returns
returns c =
    any_from_yields_List (λ l. is_letter l c.args.z) _ _ _ c.any.ensures.ran (YieldsList-from_slice c.args.letters.now cc)
    (λ x b q k. search (rules, tests)) ∙ any_letter c.args.letters.now c.args.z
