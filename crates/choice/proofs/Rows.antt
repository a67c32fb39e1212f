-- Whether a transition has a source and a trigger; and the marks of the sources. Assumes nothing.
use mathlib.Core.Path.{◌≡◌, sym, ap, ◌∙◌}
use mathlib.Core.Logic.{⊎_elim}
use Prim.Native.Nat.{ℕ, ◌+◌, ◌<◌}
use native.Mathlib.Omega.{arith}
use mathlib.Core.Bool.{Bool, false}
use mathlib.Core.List.{List}
use lib.ListN.{length, get_or, set}
use lib.Seq.{get_or-set_same, get_or-set_other}
use lib.Dec.{eqb}
use borrow.Author.Tests.{eq-eqb, ne_eqb}
use Rattle.meaning.specs.declared.chart.TransRow.{TransRow}
use Rattle.meaning.specs.Chart.{Chart}
use Rattle.meaning.specs.Tree.{trans_row}
use Rattle.laws.proofs.Lists.{le_or_lt, same_or}
use Rattle.choice.specs.Choice.{meant}

pub other_source : (r : TransRow) (s e n : ℕ) → n ≡ r.source → (n ≡ s → ⊥) → false ≡ meant r s e
unfolding meant
other_source r s e n q o = rw (ne_eqb r.source s (λ z. o (q ∙ z)))

pub own_source : (r : TransRow) (s e n m : ℕ) → n ≡ r.source → n ≡ s → m ≡ r.trigger → eqb m e ≡ meant r s e
unfolding meant
own_source r s e n m q o p = rw (p, eq-eqb r.source s (sym q ∙ o))

-- ---- the marks, transition by transition

pub record Marking (c : Chart) (e : ℕ) (active : List Bool) (t : ℕ) (marks : List Bool) : Type 0 where
  pub told : (i : ℕ) → i < t → (trans_row c i).trigger ≡ e → get_or marks (trans_row c i).source false ≡ get_or active
      (trans_row c i).source false

module _ {c : Chart} {e : ℕ} {active : List Bool} {t : ℕ} {marks : List Bool} (h : Marking c e active t marks) where
  pub marking_other : (m : ℕ) → m ≡ (trans_row c t).trigger → (m ≡ e → ⊥) → Marking c e active (t + 1) marks
  marking_other m q o = record {
    told = λ i l z. ⊎_elim (λ p. let y : t ≡ i = omega arith in absurd
        (o (q ∙ ap (λ x. (trans_row c x).trigger) y ∙ z))) (λ p. h.told i p z) (le_or_lt t i);
  }

  pub marking_more : (s : ℕ) → s ≡ (trans_row c t).source → s < length marks → Marking c e active (t + 1)
      (set marks s (get_or active s false))
  marking_more s q l = record {
    told = λ i k z. ⊎_elim
        (λ p. ap (λ x. get_or (set marks s (get_or active s false)) x false) (sym p) ∙ get_or-set_same marks s _ false l ∙ ap
        (λ x. get_or active x false) p)
        (λ p. get_or-set_other marks s _ _ false (λ y. p (sym y)) ∙ ⊎_elim
        (λ g. let y : t ≡ i = omega arith in absurd (p (q ∙ ap (λ x. (trans_row c x).source) y))) (λ g. h.told i g z) (le_or_lt t i))
        (same_or s (trans_row c i).source);
  }
