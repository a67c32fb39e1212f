-- `load` gives the widget that the numbers state, or one that no call accepts. Assumes nothing.
use mathlib.Core.Path.{refl, sym, ap, ◌∙◌}
use mathlib.Core.Bool.{not}
use borrow.Author.Tests.{eqb-true}
use Prim.Native.Nat.{◌<◌, ◌^◌}
use borrow.Author.Rules.{rules}
use native.Mathlib.Omega.{arith}
use lib.IntN.{pos}
use lib.ListN.{length, get_or, replicate}
use lib.Signed.{mag}
use Rattle.numbers.proofs.Laws.{test_bits}
use Rattle.sizes.specs.Sizes.{STATES, VARIABLES}
use Rattle.promises.specs.Saved.{SLOTS_AT, VARS_AT, no_widget}
use Rattle.saved.proofs.Inverse.{enough}
use Rattle.saved.proofs.Loading.{none_loaded, no_widget_loaded, copied_part, all_loaded}
use Rattle.saved.proofs.load.Goals.{then-not-is_empty, else-not-is_empty}
use Rattle.saved.proofs.load.Goals as goal

pub returns-then-not-states_widget : goal.returns-then-not-states_widget
returns-then-not-states_widget c =
    let ns = c.args.numbers.now in
    let h = sym c.states_widget.ensures ∙ c.if-not-states_widget.true in
    elim c.if-not-is_empty.branch [
      | then-not-is_empty w ↦
          let f : mag (get_or ns 0 (pos 0)) < 2 ^ 31 = search rules in
          no_widget_loaded ns _ _ h (test_bits (get_or ns 0 (pos 0)) (pos 0) f (omega arith))
          (c.no_widget.ensures ∙ ap no_widget w.no_widget-is)
      | else-not-is_empty w ↦
          none_loaded ns _ h (eqb-true (length ns) 0 (sym c.is_empty.ensures ∙ w.if-not-is_empty.false))
          (c.no_widget.ensures ∙ ap no_widget (w.no_widget-is ∙ ap not w.if-not-is_empty.false))
    ]

pub copy-requires : goal.copy-requires
copy-requires c = let h = enough _ (sym c.states_widget.ensures ∙ c.if-not-states_widget.false) in (omega arith, omega arith)

pub copy-requires-2 : goal.copy-requires-2
copy-requires-2 c = let h = enough _ (sym c.states_widget.ensures ∙ c.if-not-states_widget.false) in (omega arith, omega arith)

pub load_active-requires : goal.load_active-requires
load_active-requires c = omega (arith, enough _ (sym c.states_widget.ensures ∙ c.if-not-states_widget.false))

pub load_queue-requires : goal.load_queue-requires
load_queue-requires c = enough _ (sym c.states_widget.ensures ∙ c.if-not-states_widget.false)

pub returns : goal.returns
returns c =
    let ns = c.args.numbers.now in
    let f : mag (get_or ns 0 (pos 0)) < 2 ^ 31 = search rules in
    all_loaded ns _ _ _ _ _ (sym c.states_widget.ensures ∙ c.if-not-states_widget.false)
    (test_bits (get_or ns 0 (pos 0)) (pos 1) f (omega arith))
    c.load_active.ensures
    (copied_part (replicate STATES (pos 0)) ns _ SLOTS_AT STATES refl c.copy.ensures)
    (copied_part (replicate VARIABLES (pos 0)) ns _ VARS_AT VARIABLES refl c.copy-2.ensures)
    c.load_queue.ensures
