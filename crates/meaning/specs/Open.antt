-- All definitions opened at once: `unfolding all_open` lets a statement about given charts, texts and calls be closed by computing.
use Rattle.std.specs.Prelude.{ℕ}
use Rattle.numbers.specs.Range.{in_range, within}
use Rattle.numbers.specs.Hold.{hold_z}
use Rattle.queue.specs.Queue.{empty_queue, appended, removed}
use Rattle.meaning.specs.Steps.{steps_open}
use Rattle.meaning.specs.Lists.{lists_open}
use Rattle.meaning.specs.Grammar.{grammar_open}
use Rattle.meaning.specs.Value.{value_open}
use Rattle.meaning.specs.Tree.{tree_open}
use Rattle.meaning.specs.Rules.{rules_open}
use Rattle.meaning.specs.Widget.{widget_open}
use Rattle.meaning.specs.Effects.{effects_open}
use Rattle.meaning.specs.Entry.{entry_open}
use Rattle.meaning.specs.Reaction.{reaction_open}
use Rattle.meaning.specs.Foreign.{foreign_open}
use Rattle.meaning.specs.Calls.{calls_open}
use Rattle.meaning.specs.Plan.{plan_open}
use Rattle.meaning.specs.Compile.{compile_open}
use Rattle.meaning.specs.WellFormed.{well_formed_open}
use Rattle.meaning.specs.Machine.{machine_open}
use Rattle.meaning.specs.Number.{number_open}
use Rattle.meaning.specs.Split.{split_open}
use Rattle.meaning.specs.Line.{line_open}
use Rattle.meaning.specs.Text.{text_open}
use Rattle.meaning.specs.Program.{program_open}
use Rattle.meaning.specs.Examples.{examples_open}

unfoldable pub all_open : ℕ
unfolding in_range within hold_z empty_queue appended removed steps_open lists_open
    grammar_open value_open tree_open rules_open widget_open effects_open entry_open reaction_open foreign_open calls_open
    plan_open compile_open well_formed_open machine_open number_open split_open line_open text_open program_open examples_open
all_open = 0
