-- The kinds of record in the code, in the words of the grammar. Assumes nothing.
use Rattle.std.specs.Prelude.{Option, None, Some}
use Rattle.meaning.specs.Grammar.{Record, s_record, v_record, e_record, t_record, a_record, no_record}
use Rattle.chart_rows.specs.declared.kinds.Record.{Record as Kind}
use Rattle.chart_rows.specs.declared.kinds.Record.TheVariants.{State, Variable, Events, Transition, Action}

abbrev pub as_record : Kind → Record
as_record State = s_record
as_record Variable = v_record
as_record Events = e_record
as_record Transition = t_record
as_record Action = a_record

-- the kind that a letter names, if it names one
abbrev pub named : Option Kind → Record
named None = no_record
named (Some k) = as_record k
