-- What is put for one state, piece by piece: the laws that `put_exit`, `put_visit` and `put_stored` cite. Assumes nothing.
use Rattle.std.specs.Prelude.{Option, None, Some}
use mathlib.Core.Path.{◌≡◌, refl, sym, ap, subst, ◌∙◌}
use Prim.Native.Nat.{ℕ, zero, suc, ◌+◌, ◌<◌}
use mathlib.Core.Bool.{Bool, true, false, false≢true, true≢false, not, cond}
use mathlib.Core.List.{List, [], ◌∷◌, ◌++◌}
use native.Mathlib.Omega.{arith}
use borrow.Author.Tests.{not-true, not-false}
use lib.ListN.{length}
use lib.IntN.{ℤ}
use Rattle.chart_rows.proofs.Rows.{states_most}
use Rattle.meaning.specs.Rules.{Ruled}
use Rattle.tree.proofs.Passing.{sound}
use Rattle.meaning.specs.Value.{chart_of}
use Rattle.meaning.specs.Chart.{Chart}
use Rattle.meaning.specs.declared.chart.Kind.{Kind}
use Rattle.meaning.specs.declared.chart.Kind.TheVariants.{A as kind_a, B as kind_b, O as kind_o}
use Rattle.meaning.specs.declared.chart.Owner.TheVariants.{EntryOf as entry_of, ExitOf as exit_of, DefaultOf as default_of}
use Rattle.meaning.specs.declared.plan.Instr.{Instr}
use Rattle.meaning.specs.declared.plan.Instr.TheVariants.{Out as go_out, SkipOut as skip_out, SkipNot as skip_not}
use Rattle.meaning.specs.Tree.{parent_of, kind_of, is_o}
use Rattle.meaning.specs.Effects.{o_parent}
use Rattle.meaning.specs.Compile.{code_acts, exit_code, enter_code, visit_code, held_code, past_if_out, stored_code}
use Rattle.tree.specs.Courses.{visit_as}
use Rattle.emitter.specs.Pen.{Pen, emits, SmallPlace}
use Rattle.emitter.proofs.Laws.{put_first}

-- ---- leaving

pub exit_put : (c : Chart) (s k : ℕ) (up : Option ℕ) (p : Pen) {p₁ p₂ p₃ : Pen} → k ≡ length (code_acts c (exit_of s)) → up ≡ o_parent c s
    → p₁ ≡ emits (skip_out s (k + 1) ∷ []) p
    → p₂ ≡ emits (go_out s up ∷ []) p₁ → p₃ ≡ emits (code_acts c (exit_of s)) p₂ → p₃ ≡ emits (exit_code c s) p
unfolding exit_code
exit_put c s k up p {p₁} {p₂} e u f g h =
    let n : k + 1 ≡ suc (length (code_acts c (exit_of s))) = omega arith in
    put_first _ _ p (f ∙ ap (λ x. emits (skip_out s x ∷ []) p) n) (put_first _ _ p₁ (g ∙ ap (λ x. emits (go_out s x ∷ []) p₁) u) h)

-- the parent in OUT is a 32-bit number
pub parent_small : (v : List ℤ) → Ruled v
    → (s : ℕ) → s < length (chart_of v).states → (up : Option ℕ) → up ≡ o_parent (chart_of v) s → SmallPlace up
unfolding o_parent
parent_small v r zero l up e = subst SmallPlace (sym e) tt
parent_small v r (suc n) l up e = subst SmallPlace (sym e) (go (is_o (kind_of (chart_of v) (parent_of (chart_of v) (suc n)))))
  where
    go : (b : Bool) → SmallPlace (cond b (Some (parent_of (chart_of v) (suc n))) None)
    go true = omega (arith, (sound v r).ordered.falls n, states_most v)
    go false = tt

-- ---- entering, by default or not

module _ (c : Chart) (p s : ℕ) (b x : Bool) (e : b ≡ x) where
  pub visit_plain : not b ≡ true → visit_code c (visit_as x p s) ≡ enter_code c s
  unfolding visit_code
  visit_plain n = ap (λ y. visit_code c (visit_as y p s)) (sym e ∙ not-true b n)

  pub visit_due : not b ≡ false → visit_code c (visit_as x p s) ≡ code_acts c (default_of p) ++ enter_code c s
  unfolding visit_code
  visit_due n = ap (λ y. visit_code c (visit_as y p s)) (sym e ∙ not-false b n)

-- ---- entering in a restore

held_other : (c : Chart) (k : Kind) (p d : ℕ) → is_o k ≡ false → held_code c k p d ≡ enter_code c d
unfolding held_code is_o
held_other c kind_o p d n = absurd (true≢false n)
held_other c kind_a p d n = refl
held_other c kind_b p d n = refl

held_o : (c : Chart) (k : Kind) (p d : ℕ) → is_o k ≡ true → held_code c k p d ≡ skip_not p d (length (enter_code c d)) ∷ enter_code c d
unfolding held_code is_o
held_o c kind_o p d n = refl
held_o c kind_a p d n = absurd (false≢true n)
held_o c kind_b p d n = absurd (false≢true n)

module _ (c : Chart) (d p k : ℕ) (kind : Kind) (b : Bool) (ep : p ≡ parent_of c d)
    (ek : kind ≡ kind_of c p) (eb : b ≡ is_o kind) (en : k ≡ length (code_acts c (entry_of d))) where
  -- of a component
  pub stored_other : not b ≡ true → stored_code c d ≡ skip_out p (k + 1) ∷ enter_code c d
  unfolding stored_code past_if_out enter_code
  stored_other n =
      let h : held_code c (kind_of c (parent_of c d)) (parent_of c d) d ≡ enter_code c d
      = held_other c (kind_of c (parent_of c d))
      (parent_of c d) d (ap (λ x. is_o (kind_of c x)) (sym ep) ∙ ap is_o (sym ek) ∙ sym eb ∙ not-true b n) in
      let m : suc (length (code_acts c (entry_of d))) ≡ k + 1 = omega arith in
      ap (past_if_out (parent_of c d)) h ∙ ap (λ q. skip_out q (suc (length (code_acts c (entry_of d)))) ∷ enter_code c d) (sym ep)
      ∙ ap (λ j. skip_out p j ∷ enter_code c d) m

  -- of an o state's child
  pub stored_o : not b ≡ false → stored_code c d ≡ skip_out p (k + 2) ∷ skip_not p d (k + 1) ∷ enter_code c d
  unfolding stored_code past_if_out enter_code
  stored_o n =
      let h : held_code c (kind_of c (parent_of c d)) (parent_of c d) d
      ≡ skip_not (parent_of c d) d (length (enter_code c d)) ∷ enter_code c d
      = held_o c (kind_of c (parent_of c d)) (parent_of c d) d
      (ap (λ x. is_o (kind_of c x)) (sym ep) ∙ ap is_o (sym ek) ∙ sym eb ∙ not-false b n) in
      let m : suc (length (code_acts c (entry_of d))) ≡ k + 1 = omega arith in
      let m₂ : suc (suc (length (code_acts c (entry_of d)))) ≡ k + 2 = omega arith in
      ap (past_if_out (parent_of c d)) h
      ∙ ap (λ q. skip_out q (suc (suc (length (code_acts c (entry_of d)))))
      ∷ skip_not q d (suc (length (code_acts c (entry_of d)))) ∷ enter_code c d) (sym ep)
      ∙ ap (λ j. skip_out p j ∷ skip_not p d (suc (length (code_acts c (entry_of d)))) ∷ enter_code c d) m₂
      ∙ ap (λ j. skip_out p (k + 2) ∷ skip_not p d j ∷ enter_code c d) m

-- what is put for another name of the same instructions
pub put_as : (xs ys : List Instr) (p : Pen) {q : Pen} → xs ≡ ys → q ≡ emits ys p → q ≡ emits xs p
put_as xs ys p e f = f ∙ ap (λ l. emits l p) (sym e)
