-- From entries that are all sound to the plain test of a trace's numbers; then each call from any state whatsoever, over a chart and
-- over a chart handed over as a value. Assumes nothing.
use mathlib.Core.Path.{◌∙◌, ◌≡◌, ap, refl, subst, sym}
use mathlib.Core.Logic.{⊎_elim}
use Prim.Native.Nat.{◌<◌, ℕ}
use native.Mathlib.Omega.{arith}
use mathlib.Core.Bool.{Bool, false, false≢true, true}
use mathlib.Core.List.{List, [], ◌++◌, ◌∷◌}
use mathlib.Core.Option.{Option, none, some}
use lib.ListN.{length}
use lib.IntN.{pos, ℤ}
use lib.Signed.{le_z}
use lib.Dec.{leb}
use borrow.Author.Tests.{le-leb, lt-ltb}
use Rattle.invariants.specs.Named.{Names, all_named, entry_named, of_chart, one_of}
use Rattle.invariants.specs.CallLists.{Call, make, make_of, to_discard, to_post, to_run, to_start}
use Rattle.invariants.proofs.CallLists.{unstarted_7, value_sized, value_sound}
use Rattle.invariants.proofs.Calls.{CallFacts, discard_facts, post_facts, run_facts, start_facts}
use Rattle.invariants.specs.Good.{EntryOk, Sized, Traced}
use Rattle.invariants.proofs.Own.{OwnState}
use Rattle.laws.proofs.Lists.{and_both, and_left, and_right, or_left, same_or}
use Rattle.laws.specs.Facts.{Each, none_left, one_more}
use Rattle.laws.proofs.Sound.{SoundChart}
use Rattle.laws.proofs.Value.{SizedChart}
use Rattle.meaning.specs.Calls.{Outcome, discard, discard_of, outcome, post, post_of, react, as_found, run, run_of, start, start_of}
use Rattle.meaning.specs.Calls.{take_front, tests}
use Rattle.meaning.specs.Chart.{Chart}
use Rattle.meaning.specs.Effects.{enqueue}
use Rattle.meaning.specs.Foreign.{event_fits, own}
use Rattle.meaning.specs.Lists.{concat_map}
use Rattle.meaning.specs.Rules.{failing_rule_of, within_row}
use Rattle.meaning.specs.Steps.{Step, ◌then◌, bind, require}
use Rattle.meaning.specs.Tree.{var_row}
use Rattle.meaning.specs.Value.{chart_of}
use Rattle.meaning.specs.Widget.{Ctx, begin, numbers}
use Rattle.meaning.specs.declared.Entry.{Entry}
use Rattle.meaning.specs.declared.Entry.TheVariants.{Changed as changed, Entered as entered, Left as left, Sent as sent, Taken as taken, Told as told}
use Rattle.meaning.specs.declared.State.{State}
use Rattle.numbers.specs.Range.{in_range}
use Rattle.queue.specs.Queue.{removed}

-- ---- the numbers of sound entries

-- an entry that names only what there is
abbrev pub EntryNamed : Names → Entry → Type 0
EntryNamed w (taken t) = w.transition t ≡ true
EntryNamed w (left s) = s < w.states
EntryNamed w (entered s) = s < w.states
EntryNamed w (changed v x) = (v < length w.vars) × (within_row (var_row w.vars v) x ≡ true)
EntryNamed w (sent e x) = event_fits w.events (pos e) x ≡ true
EntryNamed w (told x) = in_range x ≡ true

module _ (w : Names) where
  one_of_below : (n k : ℕ) → k < n → one_of n (pos k) ≡ true
  unfolding one_of
  one_of_below n k l = and_both (leb 0 k) _ (le-leb 0 k (omega arith)) (lt-ltb k n l)

  pub numbers_named : (e : Entry) → EntryNamed w e → all_named w (numbers e) ≡ true
  unfolding all_named entry_named numbers
  numbers_named (taken t) h = and_both _ true (or_left _ _ (and_both _ true (and_both _ _ (le-leb 0 t (omega arith)) h) refl)) refl
  numbers_named (left s) h = and_both _ true (or_left _ _ (and_both _ true (one_of_below w.states s h) refl)) refl
  numbers_named (entered s) h = and_both _ true (or_left _ _ (and_both _ true (one_of_below w.states s h) refl)) refl
  numbers_named (changed v x) h = and_both _ true (or_left _ _ (and_both _ _ (one_of_below (length w.vars) v h.0) h.1)) refl
  numbers_named (sent e x) h = and_both _ true (or_left _ _ h) refl
  numbers_named (told x) h = and_both _ true (and_both _ true h refl) refl

  pub named_more : (out more : List ℤ) → all_named w out ≡ true → all_named w more ≡ true → all_named w (out ++ more) ≡ true
  unfolding all_named
  named_more [] more h g = g
  named_more (kind ∷ []) more h g = absurd (false≢true h)
  named_more (kind ∷ x ∷ []) more h g = absurd (false≢true h)
  named_more (kind ∷ x ∷ y ∷ rest) more h g =
      let e = entry_named w kind x y in
      and_both e _ (and_left e _ h) (named_more rest more (and_right e _ h) g)

-- ---- over a chart

entry_chart : (c : Chart) (e : Entry) → EntryOk c e → EntryNamed (of_chart c) e
unfolding of_chart event_fits
entry_chart c (taken t) h = lt-ltb t (length c.transitions) h
entry_chart c (left s) h = h
entry_chart c (entered s) h = h
entry_chart c (changed v x) h = h
entry_chart c (sent e x) h =
    and_both (le_z (pos 1) (pos e)) _ (le-leb 1 e h.0) (and_both (le_z (pos e) (pos c.events)) _ (le-leb e c.events h.1) h.2)
entry_chart c (told x) h = h

entries_chart : (c : Chart) (es : List Entry) → Each (EntryOk c) es → all_named (of_chart c) (concat_map numbers es) ≡ true
unfolding all_named concat_map
entries_chart c [] none_left = refl
entries_chart c (e ∷ es) (one_more h hs) =
    named_more (of_chart c) (numbers e) (concat_map numbers es) (numbers_named (of_chart c) e (entry_chart c e h)) (entries_chart c es hs)

pub traced_named : (c : Chart) (out : List ℤ) → Traced c out → all_named (of_chart c) out ≡ true
traced_named c out t = subst (λ l. all_named (of_chart c) l ≡ true) (sym t.1) (entries_chart c t.0 t.2)

-- ---- a call from any state whatsoever

-- what a call gives: where it is done the state is the chart's own, and the trace's numbers name what the chart has
pub record Answered (c : Chart) (o : Outcome) : Type 0 where
  pub done : o.number ≡ 0 → OwnState c o.after
  pub sized : Sized o.after
  pub named : all_named (of_chart c) o.trace ≡ true

facts_answered : (c : Chart) (u : State) (o : Outcome) → Sized u → CallFacts c u o → Answered c o
facts_answered c u o l f = record {
  done = f.done;
  sized = ⊎_elim (λ e. (f.done e).sized) (λ e. subst Sized (sym (f.rolled_back e).0) l) (same_or o.number 0);
  named = traced_named c o.trace f.traced;
}

refused_answered : (c : Chart) (n p : ℕ) (u : State) → Sized u → (n ≡ 0 → ⊥) → Answered c (as_found n p u)
unfolding as_found all_named
refused_answered c n p u l h = record { done = λ e. absurd (h e); sized = l; named = refl }

-- a state that is not the chart's own: 6
foreign_6 : (c : Chart) (u : State) (F : Step Ctx) (k : Ctx) → u.started ≡ true → own c u ≡ false
    → outcome u ((tests c u then F) k) ≡ as_found 6 0 u
unfolding tests ◌then◌ require bind outcome
foreign_6 c u F k e f =
    ap (λ b. outcome u (bind (bind (require 7 b k) (require 6 (own c u))) F)) e
    ∙ ap (λ b. outcome u (bind (require 6 b k) F)) f

module _ (c : Chart) (r : SoundChart c) (z : SizedChart c) (u : State) (l : Sized u) where
  tested : (F : Step Ctx) (k : Ctx) → (OwnState c u → CallFacts c u (outcome u ((tests c u then F) k)))
      → Answered c (outcome u ((tests c u then F) k))
  tested F k h = go u.started (own c u) refl refl
    where
      go : (a b : Bool) → u.started ≡ a → own c u ≡ b → Answered c (outcome u ((tests c u then F) k))
      go false b e f = subst (Answered c) (sym (unstarted_7 c u F k e)) (refused_answered c 7 0 u l (λ q. omega arith))
      go true false e f = subst (Answered c) (sym (foreign_6 c u F k e f)) (refused_answered c 6 0 u l (λ q. omega arith))
      go true true e f = facts_answered c u _ l (h (record { sized = l; started = e; is_own = f }))

  pub make_answered : (x : Call) → Answered c (make c x u)
  unfolding make run post discard
  make_answered (to_start n) = facts_answered c u (start c u n) l (start_facts c r z u n)
  make_answered (to_run n) = tested (react c (removed u.queue)) (begin u n) (λ h. run_facts c r z u h n)
  make_answered (to_post e a) =
      tested (require 10 (event_fits c.events e a) then enqueue e a) (begin u 0) (λ h. post_facts c r z u h e a)
  make_answered to_discard = tested (take_front (removed u.queue)) (begin u 0) (λ h. discard_facts c r z u h)

-- ---- over a chart handed over as a value: 3 first

module _ (v : List ℤ) (u : State) (l : Sized u) where
  by_rule : (o : Outcome) → (failing_rule_of v ≡ none → Answered (chart_of v) o) → (x : Option ℕ) → failing_rule_of v ≡ x
      → Answered (chart_of v) (elim x [ none ↦ o | some n ↦ as_found 3 n u ])
  by_rule o h none e = h e
  by_rule o h (some n) e = refused_answered (chart_of v) 3 n u l (λ q. omega arith)

  sound_answered : (x : Call) → failing_rule_of v ≡ none → Answered (chart_of v) (make (chart_of v) x u)
  sound_answered x e = make_answered (chart_of v) (value_sound v e) (value_sized v e) u l x

  pub make_of_answered : (x : Call) → Answered (chart_of v) (make_of v x u)
  unfolding make_of make start_of run_of post_of discard_of
  make_of_answered (to_start n) = by_rule (start (chart_of v) u n) (sound_answered (to_start n)) (failing_rule_of v) refl
  make_of_answered (to_run n) = by_rule (run (chart_of v) u n) (sound_answered (to_run n)) (failing_rule_of v) refl
  make_of_answered (to_post e a) = by_rule (post (chart_of v) u e a) (sound_answered (to_post e a)) (failing_rule_of v) refl
  make_of_answered to_discard = by_rule (discard (chart_of v) u) (sound_answered to_discard) (failing_rule_of v) refl
