-- `choose` keeps, turn by turn, that the picks with what is still to come are the chosen of all. Assumes nothing.
use mathlib.Core.Path.{◌≡◌, refl, sym, ◌∙◌}
use Prim.Native.Nat.{ℕ, ◌-◌, ◌≤◌, ◌<◌}
use mathlib.Core.Bool.{Bool, false}
use mathlib.Core.List.{List}
use native.Mathlib.Omega.{arith}
use lib.ListN.{length, get_or}
use borrow.Author.Tests.{not-true}
use Rattle.meaning.specs.Value.{chart_of}
use Rattle.chart_rows.proofs.Rows.{states_most, transitions_most}
use Rattle.choice.specs.Choice.{seen}
use Rattle.choice.proofs.Loop.{row_fits, row_enabled, up_to, held_none}
use Rattle.choice.proofs.All.{chosen_all, none_left, source_off, source_begins, source_ends}
use Rattle.choice.proofs.Turns.{Turn, meant_aims, turn_of, choosing_passed, choosing_off}
use Rattle.choice.proofs.Turns.{choosing_clash, choosing_room, choosing_noted}
use Rattle.choice.proofs.choose.Goals.{After-span_of-span}
use Rattle.choice.proofs.choose.Goals as goal

pub sources-init : goal.sources-init
sources-init c = (
  rw c.state_count-s.ensures (chosen_all _ _ _),
  held_none _ _ c.requires.1,
  omega (arith, c.state_count-s.ensures, states_most c.args.chart.now),
)

pub bounds-sources-s : goal.bounds-sources-s
bounds-sources-s c = omega (arith, c.sources.invariant.2)

pub sources-preserved-then-not-sources-s : goal.sources-preserved-then-not-sources-s
sources-preserved-then-not-sources-s c =
    let w = c.sources in (
      source_off _ _ _ w.s _ c.sources_of-sources.result _
          c.sources_of-sources.ensures c.if-not-sources-s.true (omega arith) w.invariant.0,
      w.invariant.1,
      omega
          (arith, w.invariant.2),
    )

pub transitions-init : goal.transitions-init
transitions-init c =
    let w = c.sources in
    record {
      owes = source_begins _ _ _ w.s _ _ _ (omega arith) c.transition_count-n.ensures
          w.invariant.0;
      held = w.invariant.1;
    }

pub sources-preserved : goal.sources-preserved
sources-preserved c =
    let w = c.transitions.invariant in (
      source_ends _ _ _ _ _ _ _ c.transitions-test.false w.owes,
      w.held,
      omega
          (arith, c.sources.invariant.2),
    )

pub row_meant-requires : goal.row_meant-requires
row_meant-requires c = omega (
  arith,
  c.transitions-test.true,
  c.transition_count-n.ensures,
)

pub transitions-preserved-then-not-row_meant : goal.transitions-preserved-then-not-row_meant
transitions-preserved-then-not-row_meant c =
    choosing_passed c.transitions.invariant c.transitions-test.true
    c.row_meant.ensures c.if-not-row_meant.true

pub enabled-requires : goal.enabled-requires
enabled-requires c =
    row_fits _ c.requires.0 _ _
    c.trans_row-row.ensures
    (omega (
      arith,
      c.transitions-test.true,
      c.transition_count-n.ensures,
    ))

pub transitions-preserved-then-not-enabled : goal.transitions-preserved-then-not-enabled
transitions-preserved-then-not-enabled c =
    let l : c.transitions.t < length
    (chart_of c.args.chart.now).transitions =
    omega (
      arith,
      c.transitions-test.true,
      c.transition_count-n.ensures,
    ) in
    choosing_off c.transitions.invariant
    c.transitions-test.true
    (row_enabled _ c.requires.0 _ _
    c.trans_row-row.ensures l _ _ _ c.enabled.ensures ∙ not-true _ c.if-not-enabled.true-raw)

pub span_of-span-requires : goal.span_of-span-requires
span_of-span-requires c = (
  c.requires.0,
  meant_aims _ c.requires.0 _
      c.trans_row-row.ensures
      (omega (
        arith,
        c.transitions-test.true,
        c.transition_count-n.ensures,
      )) _ _ c.row_meant.ensures c.if-not-row_meant.false,
)

pub loop-x-init : goal.loop-x-init
loop-x-init c = (refl, omega arith, λ y p q. absurd (omega arith))

-- the row under way, enabled, with its span
row_there : (c : After-span_of-span) → c.transitions.t < length
    (chart_of c.args.chart.now).transitions
row_there c = omega (
  arith,
  c.transitions-test.true,
  c.transition_count-n.ensures,
)

turn : (c : After-span_of-span)
    → Turn (chart_of c.args.chart.now) c.args.event
    (seen c.args.active.now c.args.vars.now)
    (c.sources.s - 1) c.transitions.t
    c.span_of-span.result
turn c =
    turn_of _ c.requires.0 _ c.trans_row-row.ensures (row_there c) _ _
    c.row_meant.ensures c.if-not-row_meant.false
    c.enabled.ensures c.if-not-enabled.false c.span_of-span.ensures

pub bounds-gone-x : goal.bounds-gone-x
bounds-gone-x c = omega (arith, (turn c.before.before).ends, c.loop-x-test.true)

pub transitions-preserved-then-gone-x : goal.transitions-preserved-then-gone-x
transitions-preserved-then-gone-x c =
    let k = c.before.before.before in
    let w = c.loop-x.invariant in
    rw w.0 (choosing_clash c.transitions.invariant
    c.transitions-test.true (turn k) _ w.1 c.loop-x-test.true c.if-gone-x.true)

pub loop-x-preserved : goal.loop-x-preserved
loop-x-preserved c =
    let w = c.loop-x.invariant in
    (w.0, omega arith, up_to _ _ w.2 (λ p. c.if-gone-x.false))

pub mark_gone-requires : goal.mark_gone-requires
mark_gone-requires c =
    let k = c.before.before.before in
    ((turn k).spans.some, (turn k).ends, c.transitions.invariant.held.long)

free : (gone : List Bool) (first x end : ℕ) → ((y : ℕ) → y < x → first ≤ y → get_or gone y false ≡ false) → end ≤ x
    → (y : ℕ) → first ≤ y → y < end → get_or gone y false ≡ false
free gone first x end f e y p q = f y (omega arith) p

pub note-requires : goal.note-requires
note-requires c =
    let k = c.before.before.before.before.before.before in
    let most = transitions_most c.args.chart.now in
    let w = c.transitions.invariant in (
      omega (arith, row_there k, most, c.loop-x.invariant.0),
      omega (arith, (turn k).found.ends),
      (turn k).ends,
      choosing_room w c.transitions-test.true (turn k) (free _ _ _ _ c.loop-x.invariant.2 c.loop-x-test.false) most,
      w.held.size,
    )

pub overflow_add-count : goal.overflow_add-count
overflow_add-count c = omega (arith, c.transitions.invariant.held.few)

pub transitions-preserved : goal.transitions-preserved
transitions-preserved c =
    let k = c.before.before.before.before.before.before.before in
    choosing_noted c.transitions.invariant c.transitions-test.true (turn k)
    (free _ _ _ _ c.loop-x.invariant.2 c.loop-x-test.false) (transitions_most c.args.chart.now) c.loop-x.invariant.0 c.note.ensures
    c.mark_gone.ensures

pub returns : goal.returns
returns c =
    let w = c.sources in
    record {
      is = sym (none_left _ _ _ _ w.s (omega arith))
          ∙ w.invariant.0;
      few = w.invariant.1.few;
      size = w.invariant.1.size;
      carried = w.invariant.1.carried;
    }

pub sources_of-sources-requires : goal.sources_of-sources-requires
sources_of-sources-requires c = c.requires.0
