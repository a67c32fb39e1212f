-- What the code has of a kind of record, against the layout of a value. Assumes nothing.
use Rattle.std.specs.Prelude.{◌≡◌}
use Rattle.meaning.specs.Grammar.{Record, most, row_size}
use Rattle.meaning.specs.Value.{counted, laid, place}
use Rattle.chart_rows.specs.declared.kinds.Area.{Area}

pub record AreaOf (r : Record) (a : Area) : Type 0 where
  pub most : a.most ≡ most r
  pub count : a.count ≡ place (counted r)
  pub place : a.place ≡ place (laid r)
  pub size : a.size ≡ row_size r
