-- The chart as rows (01, "Chart text"): what the records S, V, E, T and A state. Assumes nothing.
-- The rows and their fields are the types declared in src/chart.rt, by the names that the definitions use. A number that refers to a
-- state, a variable, an event or a transition is a natural one; one below 0 names nothing and is NOWHERE, which no chart has.
use Rattle.std.specs.Prelude.{ℕ, List, ℤ, pos}
-- kind (o, a, b)
pub use Rattle.meaning.specs.declared.chart.Kind.{Kind}
pub use Rattle.meaning.specs.declared.chart.Kind.TheVariants.{O as kind_o, A as kind_a, B as kind_b}
-- guard sign (=, <, >)
pub use Rattle.meaning.specs.declared.chart.Sign.{Sign}
pub use Rattle.meaning.specs.declared.chart.Sign.TheVariants.{Equal as equal, Less as less, More as more}
-- "The three guard fields are all - or none is": variable, sign, constant
pub use Rattle.meaning.specs.declared.chart.Guard.{Guard}
pub use Rattle.meaning.specs.declared.chart.Guard.TheVariants.{Always as always, Compares as compares}
-- a state, the history of a state, or a reaction in place
pub use Rattle.meaning.specs.declared.chart.Target.{Target}
pub use Rattle.meaning.specs.declared.chart.Target.TheVariants.{To as to, History as history, InPlace as in_place}
-- acts s, a, k, q, o: set, add, take, send, tell
pub use Rattle.meaning.specs.declared.chart.Act.{Act}
pub use Rattle.meaning.specs.declared.chart.Act.TheVariants.{SetTo as set_to, AddTo as add_to, TakeTo as take_to}
pub use Rattle.meaning.specs.declared.chart.Act.TheVariants.{Send as send, Tell as tell}
-- owner kinds e, x, d, t
pub use Rattle.meaning.specs.declared.chart.Owner.{Owner}
pub use Rattle.meaning.specs.declared.chart.Owner.TheVariants.{EntryOf as entry_of, ExitOf as exit_of}
pub use Rattle.meaning.specs.declared.chart.Owner.TheVariants.{DefaultOf as default_of, TransitionOf as transition_of}
-- S: parent, kind, default; V: low, high, first; T: source, trigger, guard, target; A: owner, act
pub use Rattle.meaning.specs.declared.chart.StateRow.{StateRow}
pub use Rattle.meaning.specs.declared.chart.VarRow.{VarRow}
pub use Rattle.meaning.specs.declared.chart.TransRow.{TransRow}
pub use Rattle.meaning.specs.declared.chart.ActRow.{ActRow}

-- the records of a chart in their order; events are the count of E
pub record Chart : Type 0 where
  pub states : List StateRow
  pub vars : List VarRow
  pub events : ℕ
  pub transitions : List TransRow
  pub actions : List ActRow

-- what stands at a place that the chart does not have
abbrev pub no_state : StateRow
no_state = record { parent = 0; kind = kind_b; default = 0 }

abbrev pub no_var : VarRow
no_var = record { low = pos 0; high = pos 0; first = pos 0 }

abbrev pub no_trans : TransRow
no_trans = record { source = 0; trigger = 0; guard = always; target = in_place }

abbrev pub no_action : ActRow
no_action = record { owner = entry_of 0; act = tell (pos 0) }
