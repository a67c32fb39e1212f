-- The chooser's two tests on the numbers of heads, over plain variables: a head's fields where they stand, enabled, and spans that meet.
-- Assumes nothing.
use mathlib.Core.Path.{◌≡◌, refl, sym, ap, ◌∙◌, subst}
use Prim.Native.Nat.{ℕ, ◌+◌, ◌≤◌, ◌<◌}
use native.Mathlib.Omega.{arith}
use mathlib.Core.Bool.{Bool, true, false}
use mathlib.Core.List.{List}
use lib.ListN.{get_or}
use lib.IntN.{ℤ, pos, negsuc}
use lib.Signed.{lt_z}
use lib.Dec.{eqb, leb, ltb}
use borrow.Author.Tests.{ltb-true, eq-eqb, le-leb, lt-leb}
use Rattle.numbers.specs.Reference.{ref, NOWHERE}
use Rattle.laws.proofs.Lists.{is_false}
use Rattle.meaning.specs.declared.State.{State}
use Rattle.meaning.specs.declared.chart.Guard.{Guard}
use Rattle.meaning.specs.Widget.{is_active}
use Rattle.meaning.specs.Reaction.{guard_holds}
use Rattle.meaning.specs.Machine.{head_enabled, spans_meet}
use Rattle.meaning.specs.WellFormed.{HEAD_ROW, head_by, head_guard_by}
use Rattle.chart_rows.proofs.Rows.{num_at}
use Rattle.choice.proofs.Seen.{guard_seen}
use Rattle.plan_choice.specs.Heads.{head_at}

-- ---- a number that names something is not below 0

pub not_below : (z : ℤ) → ref z < NOWHERE → lt_z z (pos 0) ≡ false
not_below (pos n) l = is_false (ltb n 0) (λ t. let h = ltb-true n 0 t in absurd (omega arith))
not_below (negsuc n) l = absurd (omega arith)

-- ---- the fields of a head

module _ (ns : List ℤ) (at : ℕ) where
  pub trigger_is : ref (get_or ns (at + 2) (pos 0)) ≡ (head_at ns at).trigger
  unfolding head_by
  trigger_is = ap ref (sym (num_at HEAD_ROW at ns 2 (omega arith)))

  pub source_is : ref (get_or ns (at + 1) (pos 0)) ≡ (head_at ns at).source
  unfolding head_by
  source_is = ap ref (sym (num_at HEAD_ROW at ns 1 (omega arith)))

  pub transition_is : ref (get_or ns (at + 0) (pos 0)) ≡ (head_at ns at).transition
  unfolding head_by
  transition_is = ap ref (sym (num_at HEAD_ROW at ns 0 (omega arith)))

  pub first_is : ref (get_or ns (at + 6) (pos 0)) ≡ (head_at ns at).first
  unfolding head_by
  first_is = ap ref (sym (num_at HEAD_ROW at ns 6 (omega arith)))

  pub last_is : ref (get_or ns (at + 7) (pos 0)) ≡ (head_at ns at).last
  unfolding head_by
  last_is = ap ref (sym (num_at HEAD_ROW at ns 7 (omega arith)))

  pub start_is : ref (get_or ns (at + 8) (pos 0)) ≡ (head_at ns at).start
  unfolding head_by
  start_is = ap ref (sym (num_at HEAD_ROW at ns 8 (omega arith)))

  pub length_is : ref (get_or ns (at + 9) (pos 0)) ≡ (head_at ns at).length
  unfolding head_by
  length_is = ap ref (sym (num_at HEAD_ROW at ns 9 (omega arith)))

  pub guard_is : head_guard_by (get_or ns (at + 3) (pos 0)) (get_or ns (at + 4) (pos 0)) (get_or ns (at + 5) (pos 0)) ≡ (head_at ns at).guard
  unfolding head_by
  guard_is = rw (num_at HEAD_ROW at ns 3 (omega arith), num_at HEAD_ROW at ns 4 (omega arith), num_at HEAD_ROW at ns 5 (omega arith))

-- ---- enabled in a step of its own trigger: the tests in turn, of the head whose row begins at a place

module _ (ns : List ℤ) (at : ℕ) (u : State) where
  own_trigger : eqb (head_at ns at).trigger (head_at ns at).trigger ≡ true
  own_trigger = eq-eqb (head_at ns at).trigger (head_at ns at).trigger refl

  pub off_source : {s : ℕ} → s ≡ ref (get_or ns (at + 1) (pos 0)) → get_or u.active s false ≡ false
      → false ≡ head_enabled (head_at ns at).trigger u (head_at ns at)
  unfolding head_enabled is_active
  off_source {s} q n =
      let m : get_or u.active (head_at ns at).source false ≡ false = subst (λ x. get_or u.active x false ≡ false) (q
      ∙ source_is ns at) n in
      rw (own_trigger, m)

  pub on_guard : {s : ℕ} {g : Guard} {b : Bool} (w : State) → s ≡ ref (get_or ns (at + 1) (pos 0)) → get_or u.active s false ≡ true
      → g ≡ head_guard_by (get_or ns (at + 3) (pos 0)) (get_or ns (at + 4) (pos 0)) (get_or ns (at + 5) (pos 0)) → w.vars ≡ u.vars
      → b ≡ guard_holds g w → b ≡ head_enabled (head_at ns at).trigger u (head_at ns at)
  unfolding head_enabled is_active
  on_guard {s} {g} w p a r v z =
      let n : get_or u.active (head_at ns at).source false ≡ true =
      subst (λ x. get_or u.active x false ≡ true) (p ∙ source_is ns at) a in
      z ∙ guard_seen g w u v ∙ ap (λ x. guard_holds x u) (r ∙ guard_is ns at) ∙ rw (own_trigger, n)

-- ---- spans that meet, of two heads whose rows begin at places

module _ (ns : List ℤ) (at other : ℕ) where
  pub apart : {a b : ℕ} → a ≡ ref (get_or ns (other + 7) (pos 0)) → b ≡ ref (get_or ns (at + 6) (pos 0)) → a < b
      → false ≡ spans_meet (head_at ns at) (head_at ns other)
  unfolding spans_meet
  apart p q l = rw (lt-leb (head_at ns at).first (head_at ns other).last (omega (arith, p ∙ last_is ns other, q ∙ first_is ns at, l)))

  pub meeting : {a b c d : ℕ} → a ≡ ref (get_or ns (other + 7) (pos 0)) → b ≡ ref (get_or ns (at + 6) (pos 0)) → b ≤ a
      → c ≡ ref (get_or ns (other + 6) (pos 0)) → d ≡ ref (get_or ns (at + 7) (pos 0))
      → leb c d ≡ spans_meet (head_at ns at) (head_at ns other)
  unfolding spans_meet
  meeting p q l r s =
      rw (
        le-leb (head_at ns at).first (head_at ns other).last (omega (arith, p ∙ last_is ns other, q ∙ first_is ns at, l)),
        r,
        s,
        first_is ns other,
        last_is ns at,
      )
