-- The rules come first (01, "chart 3 .. first"): what the check's promise says of a chart value, and what a call on it then is.
-- In the order: the check; a call by its verdict; the promises kept on an accepted chart, and on one that fails a rule. Assumes nothing.
use mathlib.Core.Path.{◌≡◌, refl, sym, ap, ◌∙◌}
use Prim.Native.Nat.{ℕ}
use mathlib.Core.Bool.{true, false}
use mathlib.Core.List.{List}
use mathlib.Core.Option.{Option, none, some}
use lib.IntN.{ℤ}
use lib.ListN.{length}
use Rattle.meaning.specs.declared.State.{State}
use Rattle.meaning.specs.declared.Answer.{Answer}
use Rattle.meaning.specs.declared.Called.{Called}
use Rattle.meaning.specs.Value.{rule_0, chart_of}
use Rattle.meaning.specs.Rules.{failing_rule, failing_rule_of, verdict}
use Rattle.meaning.specs.Calls.{Outcome, called, lent, as_found, start, run, post, discard, start_of, run_of, post_of, discard_of}
use Rattle.meaning.specs.Rules.{Ruled}
use Rattle.promises.specs.Promises.{Checked, Started, Ran, Posted, Discarded}
use Rattle.rules.proofs.Verdicts.{passed, failed, third}

-- ---- the check: R0 first, then the others

pub check_0 : {v : List ℤ} → rule_0 v ≡ false → Checked v (record { number = 3; place = 0 })
unfolding verdict failing_rule_of
check_0 e = record { result = rw e }

pub check_on : {v : List ℤ} {r : Answer} → rule_0 v ≡ true → r ≡ verdict (failing_rule (chart_of v)) → Checked v r
unfolding failing_rule_of
check_on e h = record { result = h ∙ rw e }

-- answer 0 says that the chart is accepted
pub accepted : {v : List ℤ} {r : Answer} → Checked v r → r.number ≡ 0 → Ruled v
accepted {v} {r} c z = passed (failing_rule_of v) r c.result z

-- any other names the rule that fails
pub rejected : {v : List ℤ} {r : Answer} → Checked v r → (r.number ≡ 0 → ⊥) → failing_rule_of v ≡ some r.place
rejected {v} {r} c z = failed (failing_rule_of v) r c.result z

-- which is answer 3
as_told : {v : List ℤ} {r : Answer} (u : State) → Checked v r → (r.number ≡ 0 → ⊥) → as_found 3 r.place u ≡ as_found r.number r.place u
as_told {v} {r} u c z = ap (λ n. as_found n r.place u) (sym (third (failing_rule_of v) r c.result z))

-- ---- a call by the verdict: x where no rule fails

abbrev by_rules : State → Outcome → Option ℕ → Outcome
by_rules u x o = elim o [
  | none ↦ x
  | some r ↦ as_found 3 r u
]

module _ (v : List ℤ) (u : State) (o : Option ℕ) (e : failing_rule_of v ≡ o) where
  start_by : (n : ℕ) → start_of v u n ≡ by_rules u (start (chart_of v) u n) o
  unfolding start_of
  start_by n = ap (λ o. by_rules u (start (chart_of v) u n) o) e

  run_by : (n : ℕ) → run_of v u n ≡ by_rules u (run (chart_of v) u n) o
  unfolding run_of
  run_by n = ap (λ o. by_rules u (run (chart_of v) u n) o) e

  post_by : (x a : ℤ) → post_of v u x a ≡ by_rules u (post (chart_of v) u x a) o
  unfolding post_of
  post_by x a = ap (λ o. by_rules u (post (chart_of v) u x a) o) e

  discard_by : discard_of v u ≡ by_rules u (discard (chart_of v) u) o
  unfolding discard_of
  discard_by = ap (λ o. by_rules u (discard (chart_of v) u) o) e

-- the answer and the lent trace are those of an outcome
abbrev Ends : Outcome → List ℤ → Called → List ℤ → Type 0
Ends o t r t₁ = (r ≡ called o) × (t₁ ≡ lent (length t) o)

-- ---- on an accepted chart a call is the one on its chart

module _ (v : List ℤ) (u : State) (h : Ruled v) where
  pub start_on : (n : ℕ) → start_of v u n ≡ start (chart_of v) u n
  start_on n = start_by v u none h n

  pub run_on : (n : ℕ) → run_of v u n ≡ run (chart_of v) u n
  run_on n = run_by v u none h n

  pub post_on : (x a : ℤ) → post_of v u x a ≡ post (chart_of v) u x a
  post_on x a = post_by v u none h x a

  pub discard_on : discard_of v u ≡ discard (chart_of v) u
  discard_on = discard_by v u none h

module _ {v : List ℤ} {u : State} where
  module _ (h : Ruled v) where
    pub starts : {t : List ℤ} {r : Called} {t₁ : List ℤ} → Ends (start (chart_of v) u (length t)) t r t₁ → Started v u t r t₁
    starts {t} d = let e = sym (start_on v u h (length t)) in record { result = d.0 ∙ ap called e; lent = d.1 ∙ ap (lent (length t)) e }

    pub runs : {t : List ℤ} {r : Called} {t₁ : List ℤ} → Ends (run (chart_of v) u (length t)) t r t₁ → Ran v u t r t₁
    runs {t} d = let e = sym (run_on v u h (length t)) in record { result = d.0 ∙ ap called e; lent = d.1 ∙ ap (lent (length t)) e }

    pub posts : {x a : ℤ} {r : Called} → r ≡ called (post (chart_of v) u x a) → Posted v u x a r
    posts {x} {a} d = record { result = d ∙ ap called (sym (post_on v u h x a)) }

    pub discards : {r : Called} → r ≡ called (discard (chart_of v) u) → Discarded v u r
    discards d = record { result = d ∙ ap called (sym (discard_on v u h)) }

  -- ---- on a chart that fails a rule: the check's answer
  module _ {c : Answer} (k : Checked v c) (z : c.number ≡ 0 → ⊥) where
    pub start_3 : {t : List ℤ} {r : Called} {t₁ : List ℤ} → Ends (as_found c.number c.place u) t r t₁ → Started v u t r t₁
    start_3 {t} d =
        let e = sym (start_by v u (some c.place) (rejected k z) (length t) ∙ as_told u k z) in
        record { result = d.0 ∙ ap called e; lent = d.1 ∙ ap (lent (length t)) e }

    pub run_3 : {t : List ℤ} {r : Called} {t₁ : List ℤ} → Ends (as_found c.number c.place u) t r t₁ → Ran v u t r t₁
    run_3 {t} d =
        let e = sym (run_by v u (some c.place) (rejected k z) (length t) ∙ as_told u k z) in
        record { result = d.0 ∙ ap called e; lent = d.1 ∙ ap (lent (length t)) e }

    pub post_3 : {x a : ℤ} {r : Called} → r ≡ called (as_found c.number c.place u) → Posted v u x a r
    post_3 {x} {a} d = record { result = d ∙ ap called (sym (post_by v u (some c.place) (rejected k z) x a ∙ as_told u k z)) }

    pub discard_3 : {r : Called} → r ≡ called (as_found c.number c.place u) → Discarded v u r
    discard_3 d = record { result = d ∙ ap called (sym (discard_by v u (some c.place) (rejected k z) ∙ as_told u k z)) }
