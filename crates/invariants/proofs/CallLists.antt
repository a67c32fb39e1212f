-- Lists of calls (01, answers 6 and 14): from a widget not yet started no list of starts, posts, runs and discards, with any
-- arguments and rooms, ever gives 6 or 14; over a chart, and over a chart handed over as a value. Assumes nothing.
use mathlib.Core.Path.{◌≡◌, ap, refl, subst, sym}
use mathlib.Core.Logic.{◌⊎◌, inl, inr, ⊎_elim}
use Prim.Native.Nat.{ℕ}
use native.Mathlib.Omega.{arith}
use mathlib.Core.Bool.{false}
use mathlib.Core.List.{List, [], ◌∷◌}
use mathlib.Core.Option.{Option, none, some}
use lib.IntN.{ℤ}
use Rattle.invariants.specs.CallLists.{Call, after_all, answers, make, make_of, to_discard, to_post, to_run, to_start}
use Rattle.invariants.proofs.Calls.{CallFacts, discard_facts, post_facts, run_facts, start_facts}
use Rattle.invariants.specs.Good.{Traced}
use Rattle.invariants.proofs.Own.{OwnState, nothing_traced}
use Rattle.laws.proofs.Lists.{same_or}
use Rattle.laws.specs.Facts.{Each, none_left, one_more}
use Rattle.laws.proofs.Sound.{SoundChart, sound_chart}
use Rattle.laws.proofs.Value.{SizedChart, sized_chart, value_passes}
use Rattle.meaning.specs.Calls.{Outcome, discard, discard_of, outcome, post, post_of, react, as_found, run, run_of, start}
use Rattle.meaning.specs.Calls.{start_of, take_front, tests}
use Rattle.meaning.specs.Chart.{Chart}
use Rattle.meaning.specs.Effects.{enqueue}
use Rattle.meaning.specs.Foreign.{event_fits, own}
use Rattle.meaning.specs.Rules.{failing_rule, failing_rule_of}
use Rattle.meaning.specs.Steps.{Step, ◌then◌, bind, require}
use Rattle.meaning.specs.Value.{chart_of}
use Rattle.meaning.specs.Widget.{Ctx, begin}
use Rattle.meaning.specs.declared.State.{State}
use Rattle.queue.specs.Queue.{removed}

-- the state of a widget that nobody but the calls has written: not started, or started and its chart's own
abbrev pub Lived : Chart → State → Type 0
Lived c u = (u.started ≡ false) ⊎ OwnState c u

-- what a call from such a state gives
pub record Lives (c : Chart) (o : Outcome) : Type 0 where
  pub never_6 : o.number ≡ 6 → ⊥
  pub never_14 : o.number ≡ 14 → ⊥
  pub lived : Lived c o.after
  pub traced : Traced c o.trace

-- a refusal with another number leaves the state
refused_lives : (c : Chart) (n p : ℕ) (u : State) → (n ≡ 6 → ⊥) → (n ≡ 14 → ⊥) → Lived c u → Lives c (as_found n p u)
unfolding as_found
refused_lives c n p u a b l = record { never_6 = a; never_14 = b; lived = l; traced = nothing_traced c }

facts_live : (c : Chart) (u : State) (o : Outcome) → Lived c u → CallFacts c u o → Lives c o
facts_live c u o l f = record {
  never_6 = f.never_6;
  never_14 = f.never_14;
  lived = ⊎_elim (λ e. inr (f.done e)) (λ e. subst (Lived c) (sym (f.rolled_back e).0) l) (same_or o.number 0);
  traced = f.traced;
}

-- not started: 7
pub unstarted_7 : (c : Chart) (u : State) (F : Step Ctx) (k : Ctx) → u.started ≡ false → outcome u ((tests c u then F) k) ≡ as_found 7 0 u
unfolding tests ◌then◌ require bind outcome
unstarted_7 c u F k e = ap (λ b. outcome u (bind (bind (require 7 b k) (require 6 (own c u))) F)) e

module _ (c : Chart) (r : SoundChart c) (z : SizedChart c) where
  unstarted_lives : (u : State) (F : Step Ctx) (k : Ctx) → u.started ≡ false → Lives c (outcome u ((tests c u then F) k))
  unstarted_lives u F k e =
      subst (Lives c) (sym (unstarted_7 c u F k e)) (refused_lives c 7 0 u (λ x. omega arith) (λ x. omega arith) (inl e))

  pub make_lives : (x : Call) (u : State) → Lived c u → Lives c (make c x u)
  unfolding make run post discard
  make_lives (to_start n) u l = facts_live c u (start c u n) l (start_facts c r z u n)
  make_lives (to_run n) u (inl e) = unstarted_lives u (react c (removed u.queue)) (begin u n) e
  make_lives (to_run n) u (inr h) = facts_live c u (run c u n) (inr h) (run_facts c r z u h n)
  make_lives (to_post i a) u (inl e) = unstarted_lives u (require 10 (event_fits c.events i a) then enqueue i a) (begin u 0) e
  make_lives (to_post i a) u (inr h) = facts_live c u (post c u i a) (inr h) (post_facts c r z u h i a)
  make_lives to_discard u (inl e) = unstarted_lives u (take_front (removed u.queue)) (begin u 0) e
  make_lives to_discard u (inr h) = facts_live c u (discard c u) (inr h) (discard_facts c r z u h)

-- ---- lists of calls, over whatever makes them

module _ (c : Chart) (m : Call → State → Outcome) (h : (x : Call) (u : State) → Lived c u → Lives c (m x u)) where
  pub answers_fine : (xs : List Call) (u : State) → Lived c u → Each (λ n. (n ≡ 6 → ⊥) × (n ≡ 14 → ⊥)) (answers m xs u)
  unfolding answers
  answers_fine [] u l = none_left
  answers_fine (x ∷ xs) u l = one_more ((h x u l).never_6, (h x u l).never_14) (answers_fine xs (m x u).after (h x u l).lived)

  pub lives_on : (xs : List Call) (u : State) → Lived c u → Lived c (after_all m xs u)
  unfolding after_all
  lives_on [] u l = l
  lives_on (x ∷ xs) u l = lives_on xs (m x u).after (h x u l).lived

-- over a chart that passes the rules: from a widget not yet started 6 and 14 are never given
pub never_6_or_14 : (c : Chart) → failing_rule c ≡ none → SizedChart c → (xs : List Call) (u : State) → u.started ≡ false
    → Each (λ n. (n ≡ 6 → ⊥) × (n ≡ 14 → ⊥)) (answers (make c) xs u)
never_6_or_14 c e z xs u l = answers_fine c (make c) (make_lives c (sound_chart c e) z) xs u (inl l)

-- ---- over a chart handed over as a value: 3 first, and then as over its chart

module _ (v : List ℤ) where
  pub value_sound : failing_rule_of v ≡ none → SoundChart (chart_of v)
  value_sound e = sound_chart (chart_of v) (value_passes v e).1

  pub value_sized : failing_rule_of v ≡ none → SizedChart (chart_of v)
  value_sized e = sized_chart v (value_passes v e).0

  by_rule : (f : State → Outcome) (u : State)
      → (failing_rule_of v ≡ none → Lives (chart_of v) (f u)) → Lived (chart_of v) u → (x : Option ℕ) → failing_rule_of v ≡ x
      → Lives (chart_of v) (elim x [ none ↦ f u | some n ↦ as_found 3 n u ])
  by_rule f u h l none e = h e
  by_rule f u h l (some n) e = refused_lives (chart_of v) 3 n u (λ q. omega arith) (λ q. omega arith) l

  pub make_of_lives : (x : Call) (u : State) → Lived (chart_of v) u → Lives (chart_of v) (make_of v x u)
  unfolding make_of make start_of run_of post_of discard_of
  make_of_lives (to_start n) u l = by_rule (λ w. start (chart_of v) w n) u
      (λ e. make_lives (chart_of v) (value_sound e) (value_sized e) (to_start n) u l) l (failing_rule_of v) refl
  make_of_lives (to_run n) u l = by_rule (λ w. run (chart_of v) w n) u
      (λ e. make_lives (chart_of v) (value_sound e) (value_sized e) (to_run n) u l) l (failing_rule_of v) refl
  make_of_lives (to_post i a) u l = by_rule (λ w. post (chart_of v) w i a) u
      (λ e. make_lives (chart_of v) (value_sound e) (value_sized e) (to_post i a) u l) l (failing_rule_of v) refl
  make_of_lives to_discard u l = by_rule (λ w. discard (chart_of v) w) u
      (λ e. make_lives (chart_of v) (value_sound e) (value_sized e) to_discard u l) l (failing_rule_of v) refl

  -- over every value, also one that states no chart: from a widget not yet started 6 and 14 are never given
  pub value_never_6_or_14 : (xs : List Call) (u : State)
      → u.started ≡ false → Each (λ n. (n ≡ 6 → ⊥) × (n ≡ 14 → ⊥)) (answers (make_of v) xs u)
  value_never_6_or_14 xs u l = answers_fine (chart_of v) (make_of v) make_of_lives xs u (inl l)

  -- and the state then stays one that only calls have written
  pub value_lives_on : (xs : List Call) (u : State) → u.started ≡ false → Lived (chart_of v) (after_all (make_of v) xs u)
  value_lives_on xs u l = lives_on (chart_of v) (make_of v) make_of_lives xs u (inl l)
