-- Laws of spans that meet: a range meets a list where a number of the range is in it; the states already gone, as marks. Assumes nothing.
use mathlib.Core.Path.{◌≡◌, refl, sym, ◌∙◌, subst}
use mathlib.Core.Logic.{inl, inr, ⊎_elim}
use Prim.Native.Nat.{ℕ, ◌+◌, ◌-◌, ◌≤◌, ◌<◌}
use native.Mathlib.Omega.{arith}
use mathlib.Core.Bool.{Bool, true, false}
use mathlib.Core.List.{List, [], ◌++◌}
use lib.ListN.{length, get_or, set, replicate, get_or-replicate, length-set}
use lib.Seq.{get_or-set_same, get_or-set_other}
use Rattle.sizes.specs.Sizes.{STATES}
use Rattle.meaning.specs.Lists.{has}
use Rattle.meaning.specs.Reaction.{meets}
use Rattle.laws.proofs.Lists.{le_or_lt}
use Rattle.laws.proofs.Ranges.{has_joined, has_in, has_out, exists_in, exists_none}
use Rattle.choice.specs.declared.Span.{Span}
use Rattle.choice.specs.Span.{Spans, Goes}

-- a list meets a range where a number of the range is in it
module _ (xs g : List ℕ) (r : Span) (f : Spans xs r) where
  pub clash_hit : (x : ℕ) → r.first ≤ x → x < r.end → has x g ≡ true → meets xs g ≡ true
  unfolding meets
  clash_hit x l m e = rw f.is (exists_in (λ y. has y g) x r.first (r.end - r.first) l (omega arith) e)

  pub clash_none : ((x : ℕ) → r.first ≤ x → x < r.end → has x g ≡ false) → meets xs g ≡ false
  unfolding meets
  clash_none h =
      let q = f.some in
      rw f.is (exists_none (λ y. has y g) r.first (r.end - r.first) (λ x l m. h x l (omega arith)))

-- ---- the states already gone, as marks

abbrev pub Gone : List ℕ → List Bool → Type 0
Gone l marks = (x : ℕ) → x < STATES → get_or marks x false ≡ has x l

pub gone_none : Gone [] (replicate STATES false)
unfolding has
gone_none x l = get_or-replicate STATES x false false l

pub gone_more : (xs g : List ℕ) (r : Span) (old new : List Bool) → Spans xs r → Goes r old new → Gone g old → Gone (xs ++ g) new
gone_more xs g r old new f m h x l =
    let q = f.some in
    ⊎_elim
    (λ p. ⊎_elim
    (λ o. m.above x o ∙ h x l ∙ sym (rw (has_joined x xs g, f.is, has_out x r.first (r.end - r.first) (inr (omega arith)))))
    (λ o. m.within x p o ∙ sym (rw (has_joined x xs g, f.is, has_in x r.first (r.end - r.first) p (omega arith))))
    (le_or_lt r.end x))
    (λ p. m.below x p ∙ h x l ∙ sym (rw (has_joined x xs g, f.is, has_out x r.first (r.end - r.first) (inl p))))
    (le_or_lt r.first x)

-- one state more is marked
pub goes_none : (r : Span) (marks : List Bool) → r.end ≡ r.first → Goes r marks marks
goes_none r marks e = record { within = λ x l m. absurd (omega arith); below = λ x l. refl; long = refl; above = λ x l. refl }

module _ {top first x : ℕ} {old marks : List Bool} (h : Goes (record { top = top; first = first; end = x }) old marks)
    (l : x < length marks) (m : first ≤ x) where
  pub goes_more : Goes (record { top = top; first = first; end = x + 1 }) old (set marks x true)
  goes_more = record {
    within = λ y p q. ⊎_elim (λ o. let z : x ≡ y = omega arith in rw (← z, get_or-set_same marks x true false l) refl)
        (λ o. rw (get_or-set_other marks x y true false (λ z. omega arith)) (h.within y p o)) (le_or_lt x y);
    below = λ y p. get_or-set_other marks x y true false (λ z. omega arith) ∙ h.below y p;
    long = length-set marks x true ∙ h.long;
    above = λ y p. get_or-set_other marks x y true false (λ z. omega arith) ∙ h.above y (omega arith);
  }

pub goes_end : (r : Span) {x : ℕ} {old marks : List Bool} → Goes (record { top = r.top; first = r.first; end = x }) old marks → x ≡ r.end
    → Goes r old marks
goes_end r {x} {old} {marks} h e = subst (λ y. Goes (record { top = r.top; first = r.first; end = y }) old marks) e h
