-- The events of a replay one after the other, turn by turn, over plain variables. Assumes nothing.
use mathlib.Core.Path.{◌≡◌, refl, sym, ap, ◌∙◌, subst}
use Prim.Native.Nat.{ℕ, suc, ◌+◌, ◌≤◌, ◌<◌}
use native.Mathlib.Omega.{arith}
use native.Mathlib.Numerals.{add-one}
use mathlib.Core.List.{List, [], ◌∷◌, ◌++◌}
use lib.IntN.{ℤ}
use lib.ListN.{length, get_or, take, drop, take-append-drop}
use lib.Seq.{drop-cons, take_all, take-suc}
use Rattle.queue.specs.Queue.{no_item}
use Rattle.queue.specs.declared.Item.{Item}
use Rattle.invariants.proofs.Values.{fits_free}
use Rattle.meaning.specs.Calls.{Outcome, as_found as refusal}
use Rattle.meaning.specs.Machine.{plan_post, plan_run}
use Rattle.meaning.specs.Plan.{Plan}
use Rattle.meaning.specs.declared.State.{State}
use Rattle.std.specs.Prelude.{Ok, Err}
use Rattle.meaning.specs.Answers.{number_by}
use Rattle.meaning.specs.declared.answers.Refusal.{Refusal}
use Rattle.meaning.specs.declared.answers.Refusal.TheVariants.{WrongLine, OutsideSize, RuleFails, PlanTooLong, NotAPlan}
use Rattle.meaning.specs.declared.answers.Refusal.TheVariants.{Foreign, NotStarted, QueueEmpty, QueueFull, NoSuchEvent}
use Rattle.meaning.specs.declared.answers.Refusal.TheVariants.{NoRoom, Unsettled, TextTooLong, SlotEmpty}
use Rattle.replaying.specs.declared.turns.Stopped.{Stopped}
use Rattle.replaying.specs.declared.turns.Stopped.TheVariants.{AtPost, AtRun}
use Rattle.plan_invariants.specs.Replay.{post_on, run_on}
use Rattle.plan_invariants.proofs.Calls.{own_fit, plan_post_facts, plan_run_facts}
use Rattle.plan_invariants.proofs.Good.{Fit}
use Rattle.plan_invariants.proofs.Replay.{post_same, run_same}
use Rattle.plan_invariants.proofs.Root.{root_after_post}
use Rattle.plan_invariants.proofs.Well.{Well}
use Rattle.promises.specs.Replay.{Course, course, replay_by}
use Rattle.replaying.specs.Course.{GoneThrough, Starts, through}
use Rattle.replaying.specs.Turns.{Free, Turned}
use Rattle.replaying.proofs.Folding.{one_done, post_stops, replay_on, run_stops}

-- ---- an event that is done leaves a state that is fit

fit_after : (p : Plan) → Well p → (n : ℕ) (x : Item) (u : State) → Fit p u → (post_on p x u).number ≡ 0
    → (run_on p n (post_on p x u).after).number ≡ 0 → Fit p (run_on p n (post_on p x u).after).after
fit_after p w n x u f a b =
    let e = post_same p u f x in
    let z : (plan_post p u x.event x.arg).number ≡ 0 = ap (λ (o : Outcome). o.number) e ∙ a in
    let v = (plan_post p u x.event x.arg).after in
    let g : Fit p v = (plan_post_facts p w u f.sized x.event x.arg).done z in
    let h : plan_run p v n ≡ run_on p n (post_on p x u).after =
    run_same p v g (root_after_post p u x.event x.arg z) n ∙ ap (λ (o : Outcome). run_on p n o.after) e in
    subst (λ (o : Outcome). Fit p o.after) h ((plan_run_facts p w v g.sized n).done (ap (λ (o : Outcome). o.number) h ∙ b))

-- ---- a refusal is no 0

refused_some : (e : Refusal) → number_by e ≡ 0 → ⊥
refused_some (WrongLine p) z = absurd (omega arith)
refused_some (OutsideSize p) z = absurd (omega arith)
refused_some (RuleFails p) z = absurd (omega arith)
refused_some PlanTooLong z = absurd (omega arith)
refused_some NotAPlan z = absurd (omega arith)
refused_some Foreign z = absurd (omega arith)
refused_some NotStarted z = absurd (omega arith)
refused_some QueueEmpty z = absurd (omega arith)
refused_some QueueFull z = absurd (omega arith)
refused_some NoSuchEvent z = absurd (omega arith)
refused_some NoRoom z = absurd (omega arith)
refused_some Unsettled z = absurd (omega arith)
refused_some TextTooLong z = absurd (omega arith)
refused_some SlotEmpty z = absurd (omega arith)

-- ---- so many events are done

pub record Coursing (p : Plan) (xs : List Item) (u : State) (t : List ℤ) (d : ℕ) (u₁ : State) (t₁ : List ℤ) (at : ℕ) : Type 0 where
  pub so_far : through p (length t) u (take d xs) ≡ course d 0 u₁ (take at t₁)
  pub fit : Fit p u₁
  pub fits : at ≤ length t₁
  pub kept : length t₁ ≡ length t

pub coursing_begin : {p : Plan} {xs : List Item} {u : State} {t : List ℤ} → Starts p u → Coursing p xs u t 0 u t 0
unfolding replay_by
coursing_begin {p} {xs} {u} h = record { so_far = refl; fit = own_fit p u h.sized h.started h.own; fits = omega arith; kept = refl }

module _ {p : Plan} (w : Well p) {xs : List Item} {u : State} {t : List ℤ} {d : ℕ} {u₁ : State} {t₁ : List ℤ} {at : ℕ}
    (c : Coursing p xs u t d u₁ t₁ at) where
  pub coursing_free : Free u₁.queue
  coursing_free = record { none = fits_free p.events u₁.queue c.fit.queue; whole = c.fit.sized.items }

  pub coursing_end : length xs ≡ d → GoneThrough p xs u t (Ok at) u₁ t₁
  coursing_end l = (
    ap (through p (length t) u) (sym (take_all d xs (omega (arith, l)))) ∙ c.so_far ∙ ap (λ n. course n 0 u₁ (take at t₁)) (sym l),
    c.fits,
    c.kept,
  )

  module _ (l : d < length xs) {x : Item} (i : get_or xs d no_item ≡ x) where
    -- the events from this one on
    split : xs ≡ take d xs ++ (x ∷ drop (suc d) xs)
    split = sym (take-append-drop d xs) ∙ ap (λ ys. take d xs ++ ys) (drop-cons xs d no_item l ∙ ap (λ y. y ∷ drop (suc d) xs) i)

    from_here : (zs : List Item) → through p (length t) u (take d xs ++ zs)
        ≡ replay_by (post_on p) (run_on p (length t)) d u₁ (take at t₁) zs
    from_here zs = replay_on (post_on p) (run_on p (length t)) (take d xs) 0 u [] zs c.so_far

    after_is : (through p (length t) u (take d xs)).after ≡ u₁
    after_is = ap (λ (y : Course). y.after) c.so_far

    module _ (u₂ : State) (t₂ : List ℤ) where
      pub coursing_more : {n : ℕ} → Turned p x u₁ t₁ (Ok n) u₂ t₂ → Coursing p xs u t (d + 1) u₂ t₂ n
      unfolding replay_by
      coursing_more {n} r =
          let ran : run_on p (length t) (post_on p x u₁).after ≡ record { number = 0; place = 0; after = u₂; trace = take n t₂ } =
          subst (λ m. run_on p m (post_on p x u₁).after ≡ record { number = 0; place = 0; after = u₂; trace = take n t₂ }) c.kept r.1 in
          record {
            so_far = ap (through p (length t) u)
                (ap (λ j. take j xs) (add-one d) ∙ take-suc xs d no_item l ∙ ap (λ y. take d xs ++ (y ∷ [])) i)
                ∙ from_here (x ∷ [])
                ∙ one_done (post_on p) (run_on p (length t)) d u₁ (take at t₁) x [] r.0 ran
                ∙ ap (λ j. course j 0 u₂ (take n t₂)) (sym (add-one d));
            fit = subst (λ (o : Outcome). Fit p o.after) ran
                (fit_after p w (length t) x u₁ c.fit r.0 (ap (λ (o : Outcome). o.number) ran));
            fits = r.2;
            kept = r.3 ∙ c.kept;
          }

      pub coursing_stop : (s : Stopped) → Turned p x u₁ t₁ (Err s) u₂ t₂
          → GoneThrough p xs u t (Err (record { done = d; why = s; at = at })) u₂ t₂
      coursing_stop (AtPost e) r =
          let same : length t₂ ≡ length t₁ = ap length r.2 in (
            ap (through p (length t) u) split ∙ from_here (x ∷ drop (suc d) xs)
                ∙ post_stops (post_on p) (run_on p (length t)) d u₁ (take at t₁) x (drop (suc d) xs) r.0 (refused_some e)
                ∙ ap (λ v. course d (number_by e) v (take at t₁)) (sym r.1) ∙ ap (λ s. course d (number_by e) u₂ (take at s)) (sym r.2),
            omega (arith, c.fits, same),
            same ∙ c.kept,
          )
      coursing_stop (AtRun e) r = (
        record {
          within = l;
          refused = refused_some e;
          done = ap (λ (s : Course). s.number) c.so_far;
          posted = subst (λ v. (post_on p v (through p (length t) u (take d xs)).after).number ≡ 0) (sym i)
              (subst (λ v. (post_on p x v).number ≡ 0) (sym after_is) r.0);
          ends = ap (through p (length t) u) split ∙ from_here (x ∷ drop (suc d) xs)
              ∙ run_stops (post_on p) (run_on p (length t)) d u₁ (take at t₁) x (drop (suc d) xs) r.0
              (subst (λ j. run_on p j (post_on p x u₁).after ≡ refusal (number_by e) 0 (post_on p x u₁).after) c.kept r.1) (refused_some e)
              ∙ ap (λ v. course d (number_by e) (post_on p x v).after []) (sym after_is)
              ∙ ap (λ v. course d (number_by e) (post_on p v (through p (length t) u (take d xs)).after).after []) (sym i);
        },
        omega (arith, c.fits, r.2),
        r.2 ∙ c.kept,
      )
