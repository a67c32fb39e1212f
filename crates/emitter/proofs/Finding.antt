-- Going from row to row by the index writes an owner's actions, all of them and in line order. Assumes nothing.
use mathlib.Core.Path.{◌≡◌, sym, ap, ◌∙◌}
use Prim.Native.Nat.{ℕ, suc, ◌+◌, ◌≤◌, ◌<◌}
use mathlib.Core.Bool.{Bool, true, false, cond}
use mathlib.Core.List.{List, [], ◌∷◌, map}
use native.Mathlib.Omega.{arith}
use lib.ListN.{length, get_or, drop, drop_of_length-le, length-map}
use lib.Seq.{drop-cons}
use lib.IntN.{ℤ}
use Rattle.sizes.specs.Sizes.{ACTIONS}
use Rattle.numbers.specs.Reference.{NOWHERE}
use Rattle.chart_rows.proofs.Rows.{actions_most}
use Rattle.widget.specs.Acts.{Named}
use Rattle.acts.proofs.Acting.{row_named}
use Rattle.meaning.specs.Chart.{Chart, no_action}
use Rattle.meaning.specs.declared.chart.Act.{Act}
use Rattle.meaning.specs.declared.chart.Act.TheVariants.{SetTo as set_to, AddTo as add_to, TakeTo as take_to, Send as send, Tell as tell}
use Rattle.meaning.specs.declared.chart.Owner.{Owner}
use Rattle.meaning.specs.declared.chart.ActRow.{ActRow}
use Rattle.meaning.specs.declared.plan.Instr.TheVariants.{Does as does}
use Rattle.meaning.specs.Effects.{same_owner, acts_in, acts_of}
use Rattle.meaning.specs.Compile.{code_acts}
use Rattle.meaning.specs.Value.{chart_of}
use Rattle.meaning.specs.Rules.{Ruled}
use Rattle.emitter.specs.Pen.{pen, emits, SmallAct, Room}
use Rattle.acts.specs.Index.{before_first, row_from}
use Rattle.acts.proofs.Finding.{owner_one, first_own, first_from, acts_here, acts_onward, later_from}
use Rattle.emitter.proofs.Laws.{emits_none, emits_cons, emits_count}

-- R7: the numbers of an act are 32-bit ones
act_small : (x : Act) → Named x → SmallAct x
act_small (set_to v x) n = omega arith
act_small (add_to v x) n = omega arith
act_small (take_to v) n = omega arith
act_small (send e x) n = omega arith
act_small (tell x) n = tt

pub row_small : (v : List ℤ) → Ruled v → (i : ℕ)
    → i < length (chart_of v).actions → (row : ActRow) → row ≡ get_or (chart_of v).actions i no_action → SmallAct row.act
row_small v r i h row e = act_small row.act (row_named v r i h row e)

-- an owner has at most as many actions as there are
acts_few : (o : Owner) (rows : List ActRow) → length (acts_in rows o) ≤ length rows
unfolding acts_in
acts_few o [] = omega arith
acts_few o (r ∷ rs) = go (same_owner o r.owner) (acts_few o rs)
  where
    go : (b : Bool) → length (acts_in rs o) ≤ length rs → length (cond b (r.act ∷ acts_in rs o) (acts_in rs o)) ≤ suc (length rs)
    go true h = omega arith
    go false h = omega arith

pub code_few : (v : List ℤ) (o : Owner) → length (code_acts (chart_of v) o) ≤ ACTIONS
unfolding code_acts acts_of
code_few v o =
    let n : length (map does (acts_in (chart_of v).actions o)) ≡ length (acts_in (chart_of v).actions o) =
    length-map (acts_in (chart_of v).actions o) does in
    omega (arith, acts_few o (chart_of v).actions, actions_most v)

-- ---- going from row to row

-- what of the owner's actions is still to come, where i is one of its rows or past them all
pub record Listing (c : Chart) (o : Owner) (l : List ℤ) (at : ℕ) (i : ℕ) (l₁ : List ℤ) (p : ℕ) : Type 0 where
  pub own : before_first o (drop i c.actions) ≡ 0
  pub owes : emits (map does (acts_in (drop i c.actions) o)) (pen l₁ p) ≡ emits (code_acts c o) (pen l at)

pub listing_begin : (c : Chart) (o : Owner) (l : List ℤ) (at i : ℕ) → i ≡ row_from c o 0 → Listing c o l at i l at
unfolding code_acts acts_of
listing_begin c o l at i e = record {
  own = ap (λ k. before_first o (drop k c.actions)) e ∙ first_from o c 0;
  owes = ap (λ xs. emits (map does xs) (pen l at)) (ap (λ k. acts_in (drop k c.actions) o) e ∙ acts_onward o c 0);
}

pub listing_end : (c : Chart) (o : Owner) (l : List ℤ) (at i : ℕ) (l₁ : List ℤ) (p : ℕ)
    → length c.actions ≤ i → Listing c o l at i l₁ p → pen l₁ p ≡ emits (code_acts c o) (pen l at)
unfolding acts_in
listing_end c o l at i l₁ p n h =
    sym (ap (λ rows. emits (map does (acts_in rows o)) (pen l₁ p)) (drop_of_length-le c.actions n) ∙ emits_none (pen l₁ p)) ∙ h.owes

module _ (c : Chart) (o : Owner) (l : List ℤ) (at i : ℕ) (l₁ : List ℤ) (p : ℕ) (h : Listing c o l at i l₁ p)
    (n : i < length c.actions) (row : ActRow) (e : row ≡ get_or c.actions i no_action) where
  here : drop i c.actions ≡ row ∷ drop (suc i) c.actions
  here = drop-cons c.actions i no_action n ∙ ap (λ r. r ∷ drop (suc i) c.actions) (sym e)

  its : same_owner o row.owner ≡ true
  its = first_own o row (drop (suc i) c.actions) (ap (before_first o) (sym here) ∙ h.own)

  due : emits (does row.act ∷ map does (acts_in (drop (suc i) c.actions) o)) (pen l₁ p) ≡ emits (code_acts c o) (pen l at)
  due = sym (ap (λ xs. emits (map does xs) (pen l₁ p))
      (ap (λ rows. acts_in rows o) here ∙ acts_here o row (drop (suc i) c.actions) its)) ∙ h.owes

  -- there is room for the row's instruction
  pub listing_room : Room (code_acts c o) at → p + 4 < NOWHERE
  listing_room r =
      let q = ap (λ x. x.at) due in
      omega (
        arith,
        emits_count (does row.act ∷ map does (acts_in (drop (suc i) c.actions) o)) (pen l₁ p),
        emits_count (code_acts c o) (pen l at),
      )

  pub listing_on : (l₂ : List ℤ) (p₂ i₂ : ℕ) → pen l₂ p₂ ≡ emits (does row.act ∷ []) (pen l₁ p)
      → i₂ ≡ row_from c (get_or c.actions i no_action).owner (suc i) → Listing c o l at i₂ l₂ p₂
  listing_on l₂ p₂ i₂ w f =
      let same : (get_or c.actions i no_action).owner ≡ o = ap (λ r. r.owner) (sym e) ∙ sym (owner_one o row.owner its) in
      let to : i₂ ≡ row_from c o (suc i) = f ∙ ap (λ x. row_from c x (suc i)) same in
      record {
        own = ap (λ k. before_first o (drop k c.actions)) to ∙ first_from o c (suc i);
        owes = ap (λ xs. emits (map does xs) (pen l₂ p₂)) (ap (λ k. acts_in (drop k c.actions) o) to ∙ acts_onward o c (suc i))
            ∙ ap (emits (map does (acts_in (drop (suc i) c.actions) o))) w
            ∙ sym (emits_cons (does row.act) (map does (acts_in (drop (suc i) c.actions) o)) (pen l₁ p)) ∙ due;
      }

  pub listing_later : (i₂ : ℕ) → i₂ ≡ row_from c (get_or c.actions i no_action).owner (suc i) → i < i₂
  listing_later i₂ f = omega (arith, later_from (get_or c.actions i no_action).owner c (suc i))
