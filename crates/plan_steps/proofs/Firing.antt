-- Firing one head and all chosen heads, over plain variables: what is still owed after so many. Assumes nothing.
use mathlib.Core.Path.{◌≡◌, refl, sym, ap, ◌∙◌, subst}
use Prim.Native.Nat.{ℕ, ◌+◌, ◌*◌, ◌≤◌, ◌<◌}
use native.Mathlib.Omega.{arith}
use mathlib.Core.List.{List}
use mathlib.Core.List.{map}
use lib.ListN.{length, get_or, length-map}
use Rattle.laws.proofs.Value.{get_d_map}
use Rattle.std.specs.Prelude.{Result, Ok, Err}
use Rattle.meaning.specs.declared.answers.Refusal.{Refusal}
use Rattle.meaning.specs.declared.State.{State}
use lib.IntN.{ℤ, pos}
use Rattle.numbers.specs.Reference.{ref, NOWHERE}
use Rattle.meaning.specs.Widget.{emit}
use Rattle.meaning.specs.declared.Entry.TheVariants.{Taken as taken}
use Rattle.meaning.specs.Machine.{head_block, fire_head}
use Rattle.meaning.specs.declared.plan.Counts.{Counts}
use Rattle.meaning.specs.declared.plan.Head.{Head}
use Rattle.meaning.specs.WellFormed.{HEAD_ROW, heads_at, plan_by}
use Rattle.widget.specs.View.{Did}
use Rattle.widget.proofs.Going as going
use Rattle.plan_choice.specs.Heads.{Examined, head_at, head_of}
use Rattle.plan_choice.proofs.Tests.{transition_is, start_is, length_is}
use Rattle.plan_choice.proofs.Facts.{counts_sized, head_whole, head_names}
use Rattle.plan_code.specs.Code.{Block, block_of}
use Rattle.plan_code.proofs.Named.{head_block as head_block_of}

-- ---- one head, whose row begins at a place

module _ (ns : List ℤ) (at : ℕ) (arg : ℤ) {u : State} {t : List ℤ} {from : ℕ} {r : Result ℕ Refusal} {u₁ : State} {t₁ : List ℤ} {h : ℕ}
    (e : h ≡ ref (get_or ns (at + 0) (pos 0))) (d : Did (emit (taken h)) u t from r u₁ t₁) where
  took : Did (emit (taken (head_at ns at).transition)) u t from r u₁ t₁
  took = subst (λ x. Did (emit (taken x)) u t from r u₁ t₁) (e ∙ transition_is ns at) d

module _ (ns : List ℤ) (at : ℕ) (arg : ℤ) {u : State} {t : List ℤ} {from : ℕ} {u₁ : State} {t₁ : List ℤ} {h : ℕ}
    (e : h ≡ ref (get_or ns (at + 0) (pos 0))) where
  pub fire_stop : {r : Refusal} → Did (emit (taken h)) u t from (Err r) u₁ t₁
      → Did (fire_head (plan_by ns) arg (head_at ns at)) u t from (Err r) u₁ t₁
  unfolding fire_head
  fire_stop d = going.then_stop _ (took ns at arg e d)

  pub fire_on : {m : ℕ} → Did (emit (taken h)) u t from (Ok m) u₁ t₁ → {s n : ℕ} {r : Result ℕ Refusal} {u₂ : State} {t₂ : List ℤ}
      → s ≡ ref (get_or ns (at + 8) (pos 0)) → n ≡ ref (get_or ns (at + 9) (pos 0)) → Did (block_of ns arg s n) u₁ t₁ m r u₂ t₂
      → Did (fire_head (plan_by ns) arg (head_at ns at)) u t from r u₂ t₂
  unfolding fire_head head_block
  fire_on {m} d {s} {n} {r} {u₂} {t₂} p q b =
      going.then_on (took ns at arg e d)
      (subst (λ x. Did (block_of ns arg (head_at ns at).start x) u₁ t₁ m r u₂ t₂) (q ∙ length_is ns at)
      (subst (λ x. Did (block_of ns arg x n) u₁ t₁ m r u₂ t₂) (p ∙ start_is ns at) b))

-- ---- the chosen, one after the other

-- the heads of these numbers, where the heads begin at base
abbrev pub heads_of : List ℤ → ℕ → List ℕ → List Head
heads_of ns base picks = map (head_of ns base) picks

module _ (ns : List ℤ) (base : ℕ) (picks : List ℕ) where
  pub fires_long : length (heads_of ns base picks) ≡ length picks
  fires_long = length-map picks (head_of ns base)

  pub fires_at : (j : ℕ) → j < length picks
      → get_or (heads_of ns base picks) j (head_of ns base (get_or picks j 0)) ≡ head_of ns base (get_or picks j 0)
  fires_at j l = get_d_map (head_of ns base) picks j (head_of ns base (get_or picks j 0)) 0 l

-- ---- head h, where the heads begin at base

module _ {ns : List ℤ} {k : Counts} (x : Examined ns k) {base : ℕ} (b : base ≡ heads_at k) (h : ℕ) (l : h < k.heads) where
  pub row_whole : base + h * HEAD_ROW + HEAD_ROW ≤ length ns
  row_whole = subst (λ a. a + h * HEAD_ROW + HEAD_ROW ≤ length ns) (sym b) (head_whole x h l)

  pub taken_named : {t : ℕ} → t ≡ ref (get_or ns (base + h * HEAD_ROW + 0) (pos 0)) → t < NOWHERE
  taken_named e =
      let q = e ∙ transition_is ns (base + h * HEAD_ROW) ∙ ap (λ a. (head_of ns a h).transition) b in
      omega (arith, q, (head_names x h l).2)

  pub block_there : {s n : ℕ} → s ≡ ref (get_or ns (base + h * HEAD_ROW + 8) (pos 0))
      → n ≡ ref (get_or ns (base + h * HEAD_ROW + 9) (pos 0)) → Block ns k s n
  block_there {s} {n} p q =
      let f = ap (λ a. (head_of ns a h).start) (sym b) ∙ sym (start_is ns (base + h * HEAD_ROW)) ∙ sym p in
      let g = ap (λ a. (head_of ns a h).length) (sym b) ∙ sym (length_is ns (base + h * HEAD_ROW)) ∙ sym q in
      subst (λ m. Block ns k s m) g (subst (λ m. Block ns k m (head_of ns (heads_at k) h).length) f (head_block_of x h l))

  pub block_named : (ref (get_or ns (base + h * HEAD_ROW + 8) (pos 0)) < NOWHERE)
      × (ref (get_or ns (base + h * HEAD_ROW + 9) (pos 0)) < NOWHERE)
  block_named =
      let w = (block_there refl refl).within in
      (omega (arith, w, (counts_sized x).instructions), omega (arith, w, (counts_sized x).instructions))

  pub fired_here : (arg : ℤ) {u : State} {t : List ℤ} {at : ℕ} {r : Result ℕ Refusal} {u' : State} {t' : List ℤ}
      → Did (fire_head (plan_by ns) arg (head_of ns base h)) u t at r u' t'
      → Did (fire_head (plan_by ns) arg (head_of ns (heads_at k) h)) u t at r u' t'
  fired_here arg {u} {t} {at} {r} {u'} {t'} d =
      subst (λ a. Did (fire_head (plan_by ns) arg (head_of ns a h)) u t at r u' t') b d
