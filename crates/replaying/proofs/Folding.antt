-- The fold of a replay, over plain variables: what one event makes of it, and events after events. Assumes nothing.
use mathlib.Core.Path.{◌≡◌, refl, sym, ap, ◌∙◌}
use Prim.Native.Nat.{ℕ, suc}
use mathlib.Core.Bool.{Bool, true, false}
use mathlib.Core.List.{List, [], ◌∷◌, ◌++◌}
use lib.IntN.{ℤ}
use lib.Dec.{eqb}
use borrow.Author.Tests.{eqb-true, eqb-false}
use Rattle.queue.specs.declared.Item.{Item}
use Rattle.meaning.specs.Calls.{Outcome, as_found}
use Rattle.meaning.specs.declared.State.{State}
use Rattle.widget.proofs.Ending.{ended}
use Rattle.promises.specs.Replay.{Course, course, or_stop, replay_by}

-- ---- after one call

module _ (d : ℕ) (t : List ℤ) (o : Outcome) (next : State → Course) where
  by_test : (b : Bool) → eqb o.number 0 ≡ b → or_stop d t o next ≡ elim b [
    | true ↦ next o.after
    | false ↦ course d o.number o.after t
  ]
  unfolding or_stop
  by_test b e = ap (λ x. elim x [ true ↦ next o.after | false ↦ course d o.number o.after t ]) e

  goes : o.number ≡ 0 → or_stop d t o next ≡ next o.after
  goes z = go (eqb o.number 0) refl
    where
      go : (b : Bool) → eqb o.number 0 ≡ b → or_stop d t o next ≡ next o.after
      go true e = by_test true e
      go false e = absurd (eqb-false o.number 0 e z)

  stops : (o.number ≡ 0 → ⊥) → or_stop d t o next ≡ course d o.number o.after t
  stops z = go (eqb o.number 0) refl
    where
      go : (b : Bool) → eqb o.number 0 ≡ b → or_stop d t o next ≡ course d o.number o.after t
      go true e = absurd (z (eqb-true o.number 0 e))
      go false e = by_test false e

  -- where the whole is not refused, the call is not
  went_on : {c : Course} → or_stop d t o next ≡ c → c.number ≡ 0 → o.number ≡ 0
  went_on {c} e z = go (eqb o.number 0) refl
    where
      go : (b : Bool) → eqb o.number 0 ≡ b → o.number ≡ 0
      go true f = eqb-true o.number 0 f
      go false f = ap (λ (y : Course). y.number) (sym (by_test false f) ∙ e) ∙ z

-- ---- events after events

module _ (post : Item → State → Outcome) (run : State → Outcome) where
  -- a run, and then the events that are left
  abbrev ran : ℕ → List Item → State → Course
  ran d xs v = or_stop d (run v).trace (run v) (λ w. replay_by post run (suc d) w (run v).trace xs)

  pub replay_on : (ys : List Item) (d : ℕ) (u : State) (t : List ℤ) (zs : List Item) {d' : ℕ} {v : State} {t' : List ℤ}
      → replay_by post run d u t ys ≡ course d' 0 v t' → replay_by post run d u t (ys ++ zs) ≡ replay_by post run d' v t' zs
  unfolding replay_by
  replay_on [] d u t zs e = ap (λ (c : Course). replay_by post run c.done c.after c.trace zs) e
  replay_on (x ∷ ys) d u t zs e =
      let o = post x u in
      let r = run o.after in
      let a = went_on d t o (ran d ys) e refl in
      let f = sym (goes d t o (ran d ys) a) ∙ e in
      let b = went_on d r.trace r (λ w. replay_by post run (suc d) w r.trace ys) f refl in
      goes d t o (ran d (ys ++ zs)) a
      ∙ goes d r.trace r (λ w. replay_by post run (suc d) w r.trace (ys ++ zs)) b
      ∙ replay_on ys (suc d) r.after r.trace zs
      (sym (goes d r.trace r (λ w. replay_by post run (suc d) w r.trace ys) b) ∙ f)

  module _ (d : ℕ) (u : State) (t : List ℤ) (x : Item) (xs : List Item) where
    pub post_stops : {n : ℕ} → post x u ≡ as_found n 0 u → (n ≡ 0 → ⊥) → replay_by post run d u t (x ∷ xs) ≡ course d n u t
    unfolding replay_by as_found
    post_stops {n} e z =
        stops d t (post x u) (ran d xs) (λ y. z (ap (λ (o : Outcome). o.number) (sym e) ∙ y))
        ∙ ap (λ (o : Outcome). course d o.number o.after t) e

    module _ (p : (post x u).number ≡ 0) where
      pub run_stops : {n : ℕ} → run (post x u).after ≡ as_found n 0 (post x u).after → (n ≡ 0 → ⊥)
          → replay_by post run d u t (x ∷ xs) ≡ course d n (post x u).after []
      unfolding replay_by as_found
      run_stops {n} e z =
          let r = run (post x u).after in
          goes d t (post x u) (ran d xs) p
          ∙ stops d r.trace r (λ w. replay_by post run (suc d) w r.trace xs) (λ y. z (ap (λ (o : Outcome). o.number) (sym e) ∙ y))
          ∙ ap (λ (o : Outcome). course d o.number o.after o.trace) e

      pub one_done : {w : State} {s : List ℤ} → run (post x u).after ≡ ended w s
          → replay_by post run d u t (x ∷ xs) ≡ replay_by post run (suc d) w s xs
      unfolding replay_by
      one_done e =
          let r = run (post x u).after in
          goes d t (post x u) (ran d xs) p
          ∙ goes d r.trace r (λ w. replay_by post run (suc d) w r.trace xs) (ap (λ (o : Outcome). o.number) e)
          ∙ ap (λ (o : Outcome). replay_by post run (suc d) o.after o.trace xs) e
