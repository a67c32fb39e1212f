-- The laws by which `perform_all` meets its promise: one turn of the loop over the action rows, and what R7 says of an act.
-- Assumes nothing.
use Rattle.std.specs.Prelude.{Result, Ok, Err}
use mathlib.Core.Path.{◌≡◌, sym, ap, subst, ◌∙◌}
use Prim.Native.Nat.{ℕ, suc, ◌≤◌, ◌<◌}
use mathlib.Core.Bool.{true}
use mathlib.Core.List.{List, [], ◌∷◌}
use native.Mathlib.Omega.{arith}
use lib.ListN.{length, get_or, drop, drop_of_length-le}
use lib.Seq.{drop-cons}
use lib.IntN.{ℤ}
use Rattle.sizes.specs.Sizes.{VARIABLES, EVENTS}
use Rattle.laws.proofs.Rules.{ActFacts}
use Rattle.laws.proofs.Value.{sized_chart}
use Rattle.chart_rows.proofs.Rows.{vars_most}
use Rattle.meaning.specs.Chart.{Chart, no_action}
use Rattle.meaning.specs.Steps.{Step, each}
use Rattle.meaning.specs.Widget.{Ctx}
use Rattle.meaning.specs.declared.chart.Act.{Act}
use Rattle.meaning.specs.declared.chart.Act.TheVariants.{SetTo as set_to, AddTo as add_to, TakeTo as take_to, Send as send, Tell as tell}
use Rattle.meaning.specs.declared.chart.ActRow.{ActRow}
use Rattle.meaning.specs.declared.chart.Owner.{Owner}
use Rattle.meaning.specs.declared.chart.VarRow.{VarRow}
use Rattle.meaning.specs.Effects.{act_on, act_var, acts_in, acts_of, perform, perform_all, same_owner}
use Rattle.meaning.specs.Tree.{var_row}
use Rattle.meaning.specs.Value.{chart_of}
use Rattle.meaning.specs.declared.State.{State}
use Rattle.meaning.specs.declared.answers.Refusal.{Refusal}
use Rattle.widget.specs.View.{Did, Owes}
use Rattle.widget.specs.Acts.{Named}
use Rattle.widget.proofs.Going.{owes_all}
use Rattle.widget.proofs.Loops.{each_none, each_next, each_ends}
use Rattle.meaning.specs.Rules.{Ruled}
use Rattle.tree.proofs.Passing.{sound, rules_passed}
use Rattle.acts.specs.Index.{before_first, row_from}
use Rattle.acts.proofs.Finding.{owner_one, first_own, first_from, acts_onward, later_from}

-- ---- an owner's acts, row by row

module _ (rows : List ActRow) (o : Owner) (i : ℕ) where
  acts_take : i < length rows → same_owner o (get_or rows i no_action).owner ≡ true
      → acts_in (drop i rows) o ≡ (get_or rows i no_action).act ∷ acts_in (drop (suc i) rows) o
  unfolding acts_in
  acts_take h e = rw (drop-cons rows i no_action h, e)

  acts_end : length rows ≤ i → acts_in (drop i rows) o ≡ []
  unfolding acts_in
  acts_end h = rw (drop_of_length-le rows h)

-- ---- R7: what an act names is there

pub events_most : (v : List ℤ) → Ruled v → (chart_of v).events ≤ EVENTS
events_most v r = (sized_chart v (rules_passed v r).0).events

named : (c : Chart) → length c.vars ≤ VARIABLES → c.events ≤ EVENTS → (x : Act) → ActFacts c x → Named x
named c m n (set_to v x) f = omega (arith, f.0)
named c m n (add_to v x) f = omega arith
named c m n (take_to v) f = omega arith
named c m n (send e x) f = omega (arith, f.1)
named c m n (tell x) f = tt

pub row_named : (v : List ℤ) → Ruled v → (i : ℕ) → i < length (chart_of v).actions → (row : ActRow)
    → row ≡ get_or (chart_of v).actions i no_action → Named row.act
row_named v r i h row e = subst
    (λ x. Named x.act) (sym e) (named (chart_of v) (vars_most v) (events_most v r) (get_or (chart_of v).actions i no_action).act
    ((sound v r).acts i h))

-- ---- the loop over the rows

-- what is still to be done from row i on, which is one of the owner's rows or past them all
unfoldable pub acts_from : List ℤ → ℤ → Owner → ℕ → Step Ctx
acts_from v arg o i = each (perform (chart_of v).vars arg) (acts_in (drop i (chart_of v).actions) o)

pub record Acting (v : List ℤ) (arg : ℤ) (o : Owner) (u : State) (t : List ℤ) (at : ℕ) (i : ℕ) (u₁ : State) (t₁ : List ℤ) (at₁ : ℕ)
    : Type 0 where
  pub own : before_first o (drop i (chart_of v).actions) ≡ 0
  pub owes : Owes (perform_all (chart_of v) arg o) u t at (acts_from v arg o i) u₁ t₁ at₁

module _ {v : List ℤ} {arg : ℤ} {o : Owner} {u : State} {t : List ℤ} {at : ℕ} where
  pub acting_begin : (i : ℕ) → i ≡ row_from (chart_of v) o 0 → at ≤ length t → Acting v arg o u t at i u t at
  unfolding acts_from perform_all acts_of
  acting_begin i e h = record {
    own = ap (λ n. before_first o (drop n (chart_of v).actions)) e ∙ first_from o (chart_of v) 0;
    owes = subst (λ xs. Owes (perform_all (chart_of v) arg o) u t at (each (perform (chart_of v).vars arg) xs) u t at)
        (sym (ap (λ n. acts_in (drop n (chart_of v).actions) o) e ∙ acts_onward o (chart_of v) 0)) (owes_all h);
  }

  module _ {i : ℕ} {u₁ : State} {t₁ : List ℤ} {at₁ : ℕ} (h : Acting v arg o u t at i u₁ t₁ at₁) where
    pub acting_end : length (chart_of v).actions ≤ i → Did (perform_all (chart_of v) arg o) u t at (Ok at₁) u₁ t₁
    unfolding acts_from
    acting_end l = each_none (perform (chart_of v).vars arg) (rw (acts_end (chart_of v).actions o i l) at h.owes)

    module _ {row : ActRow} (l : i < length (chart_of v).actions) (e : row ≡ get_or (chart_of v).actions i no_action) where
      -- the acts still to be done, in other words
      again : {xs : List Act} → acts_in (drop i (chart_of v).actions) o ≡ xs
          → Owes (perform_all (chart_of v) arg o) u t at (each (perform (chart_of v).vars arg) xs) u₁ t₁ at₁
      unfolding acts_from
      again f =
          subst (λ ys. Owes (perform_all (chart_of v) arg o) u t at (each (perform (chart_of v).vars arg) ys) u₁ t₁ at₁) f h.owes

      -- the row is the owner's
      its : same_owner o row.owner ≡ true
      its = first_own o row (drop (suc i) (chart_of v).actions)
          (ap (λ r. before_first o (r ∷ drop (suc i) (chart_of v).actions)) e
          ∙ ap (before_first o) (sym (drop-cons (chart_of v).actions i no_action l)) ∙ h.own)

      -- and the next one of the row's owner is the next one of this owner
      onward : (i₂ : ℕ) → i₂ ≡ row_from (chart_of v) (get_or (chart_of v).actions i no_action).owner (suc i)
          → i₂ ≡ row_from (chart_of v) o (suc i)
      onward i₂ f = f ∙ ap (λ x. row_from (chart_of v) x (suc i)) (ap (λ r. r.owner) (sym e) ∙ sym (owner_one o row.owner its))

      pub acting_later : (i₂ : ℕ) → i₂ ≡ row_from (chart_of v) (get_or (chart_of v).actions i no_action).owner (suc i) → i < i₂
      acting_later i₂ f = omega (arith, later_from (get_or (chart_of v).actions i no_action).owner (chart_of v) (suc i))

      -- its act is next
      due : Owes (perform_all (chart_of v) arg o) u t at
          (each (perform (chart_of v).vars arg) (row.act ∷ acts_in (drop (suc i) (chart_of v).actions) o)) u₁ t₁ at₁
      due = again
          (acts_take (chart_of v).actions o i l (ap (λ x. same_owner o x.owner) (sym e) ∙ its)
          ∙ ap (λ x. x.act ∷ acts_in (drop (suc i) (chart_of v).actions) o) (sym e))

      module _ {n : ℕ} {of : VarRow} (f : n ≡ act_var row.act) (g : of ≡ var_row (chart_of v).vars n) {u₂ : State} {t₂ : List ℤ} where
        performed : {r : Result ℕ Refusal} → Did (act_on of arg row.act) u₁ t₁ at₁ r u₂ t₂
            → Did (perform (chart_of v).vars arg row.act) u₁ t₁ at₁ r u₂ t₂
        unfolding perform
        performed {r} p = subst (λ x. Did (act_on x arg row.act) u₁ t₁ at₁ r u₂ t₂) (g ∙ ap (var_row (chart_of v).vars) f) p

        pub acting_stop : {r : Refusal} → Did (act_on of arg row.act) u₁ t₁ at₁ (Err r) u₂ t₂
            → Did (perform_all (chart_of v) arg o) u t at (Err r) u₂ t₂
        acting_stop p =
            each_ends (perform (chart_of v).vars arg) row.act (acts_in (drop (suc i) (chart_of v).actions) o) due (performed p)

        pub acting_on : {next : ℕ} → Did (act_on of arg row.act) u₁ t₁ at₁ (Ok next) u₂ t₂ → (i₂ : ℕ)
            → i₂ ≡ row_from (chart_of v) (get_or (chart_of v).actions i no_action).owner (suc i)
            → Acting v arg o u t at i₂ u₂ t₂ next
        unfolding acts_from
        acting_on {next} p i₂ f = record {
          own = ap (λ m. before_first o (drop m (chart_of v).actions)) (onward i₂ f) ∙ first_from o (chart_of v) (suc i);
          owes =
              subst (λ xs. Owes (perform_all (chart_of v) arg o) u t at (each (perform (chart_of v).vars arg) xs) u₂ t₂ next)
              (sym (ap (λ m. acts_in (drop m (chart_of v).actions) o) (onward i₂ f) ∙ acts_onward o (chart_of v) (suc i)))
              (each_next (perform (chart_of v).vars arg) row.act (acts_in (drop (suc i) (chart_of v).actions) o) due
              (performed p));
        }
