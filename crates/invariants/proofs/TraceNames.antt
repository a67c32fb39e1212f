-- Every number that a trace gives as a state, variable, event or transition is one of the chart, and every value lies in its variable's
-- range (01, "Trace"): read off the numbers themselves by `all_named` (specs/Named). Over every value, also one that states no chart.
-- In the order: from a widget not yet started, over every list of calls; one call from any state; every list of calls from any state.
-- Assumes nothing.
use mathlib.Core.Path.{◌≡◌, refl}
use mathlib.Core.Logic.{inl}
use mathlib.Core.Bool.{false, true}
use mathlib.Core.List.{List, [], ◌∷◌}
use lib.IntN.{ℤ}
use Rattle.invariants.specs.Named.{all_named, of_chart, traces}
use Rattle.invariants.specs.CallLists.{Call, make_of}
use Rattle.invariants.proofs.CallLists.{Lived, make_of_lives}
use Rattle.invariants.specs.Good.{Sized}
use Rattle.invariants.proofs.Naming.{make_of_answered, traced_named}
use Rattle.laws.proofs.Lists.{and_both}
use Rattle.meaning.specs.Foreign.{own}
use Rattle.meaning.specs.Lists.{every}
use Rattle.meaning.specs.Value.{chart_of}
use Rattle.meaning.specs.declared.State.{State}

module _ (v : List ℤ) where
  lived_names : (xs : List Call) (u : State)
      → Lived (chart_of v) u → every (all_named (of_chart (chart_of v))) (traces (make_of v) xs u) ≡ true
  unfolding every traces
  lived_names [] u l = refl
  lived_names (x ∷ xs) u l =
      let h = make_of_lives v x u l in
      and_both _ _ (traced_named (chart_of v) (make_of v x u).trace h.traced) (lived_names xs (make_of v x u).after h.lived)

  -- from a widget not yet started, over every list of starts, runs, posts and discards with any arguments and rooms
  pub every_trace_names : (xs : List Call) (u : State) → u.started ≡ false
      → every (all_named (of_chart (chart_of v))) (traces (make_of v) xs u) ≡ true
  every_trace_names xs u e = lived_names xs u (inl e)

  -- one call from any lent state whatsoever, foreign ones too: `Sized` says only that the arrays have their declared sizes
  pub trace_names : (x : Call) (u : State) → Sized u → all_named (of_chart (chart_of v)) (make_of v x u).trace ≡ true
  trace_names x u l = (make_of_answered v u l x).named

  -- and where it is done, the state after it is started and passes the test for 6
  pub done_is_own : (x : Call) (u : State) → Sized u → (make_of v x u).number ≡ 0
      → ((make_of v x u).after.started ≡ true) × (own (chart_of v) (make_of v x u).after ≡ true)
  done_is_own x u l e = let h = (make_of_answered v u l x).done e in (h.started, h.is_own)

  -- every list of calls from any lent state whatsoever
  pub every_trace_names_from : (xs : List Call) (u : State)
      → Sized u → every (all_named (of_chart (chart_of v))) (traces (make_of v) xs u) ≡ true
  unfolding every traces
  every_trace_names_from [] u l = refl
  every_trace_names_from (x ∷ xs) u l =
      and_both _ _ (trace_names x u l) (every_trace_names_from xs (make_of v x u).after (make_of_answered v u l x).sized)
