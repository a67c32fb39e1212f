-- The heads of a compiled plan (01, "The plan"): each says what its transition's row and span say, and its block is the transition's.
-- In the order: a head for a transition, lists of them; what is kept of two such lists; the heads of the plan. Assumes nothing.
use mathlib.Core.Path.{◌∙◌, ◌≡◌, ap, refl, subst, sym}
use Prim.Native.Nat.{◌+◌, ◌<◌, ℕ}
use mathlib.Core.Bool.{Bool, cond, false, true}
use mathlib.Core.List.{List, [], ◌++◌, ◌∷◌, append_assoc}
use lib.ListN.{drop, length, length-append, take}
use lib.Seq.{drop-append_seam, take-append_seam}
use Rattle.invariants.proofs.Choosing.{ordered_each}
use Rattle.laws.proofs.Lists.{each_range}
use Rattle.laws.specs.Facts.{Each, none_left, one_more}
use native.Mathlib.Omega.{arith}
use Rattle.meaning.specs.Chart.{Chart}
use Rattle.meaning.specs.Compile.{block, code_of, head_of, head_order, heads_from, plan_of, start_block}
use Rattle.meaning.specs.Lists.{concat_map, keep}
use Rattle.meaning.specs.declared.plan.Head.{Head}
use Rattle.meaning.specs.declared.plan.Instr.{Instr}
use Rattle.meaning.specs.Tree.{all_transitions}

-- the head h of transition t, in a plan of this code
pub record HeadFor (c : Chart) (code : List Instr) (h : Head) (t : ℕ) : Type 0 where
  pub inside : t < length c.transitions
  pub says : h ≡ head_of c h.start h.length t
  pub its_block : take h.length (drop h.start code) ≡ block c t

-- heads for transitions, one for each, in one order
pub data HeadsFor (c : Chart) (code : List Instr) : List Head → List ℕ → Type 0 where
  no_heads : HeadsFor c code [] []
  one_head : {h : Head} {t : ℕ} {hs : List Head} {ts : List ℕ} → HeadFor c code h t → HeadsFor c code hs ts
      → HeadsFor c code (h ∷ hs) (t ∷ ts)

module _ (c : Chart) (code : List Instr) where
  -- two tests that agree on a head and its transition keep heads and their transitions
  pub heads_kept : (p : Head → Bool) (q : ℕ → Bool) → ((h : Head) (t : ℕ) → HeadFor c code h t → p h ≡ q t)
      → {hs : List Head} {ts : List ℕ} → HeadsFor c code hs ts → HeadsFor c code (keep p hs) (keep q ts)
  unfolding keep
  heads_kept p q f no_heads = no_heads
  heads_kept p q f (one_head {h} {t} {hs} {ts} x xs) = subst
      (λ b. HeadsFor c code (cond b (h ∷ keep p hs) (keep p hs)) (cond (q t) (t ∷ keep q ts) (keep q ts)))
      (sym (f h t x)) (go (q t) (heads_kept p q f xs))
    where
      go : (b : Bool) → HeadsFor c code (keep p hs) (keep q ts)
          → HeadsFor c code (cond b (h ∷ keep p hs) (keep p hs)) (cond b (t ∷ keep q ts) (keep q ts))
      go true ih = one_head x ih
      go false ih = ih

  -- the blocks follow one another behind what stands before them
  pub heads_stand : (pre : List Instr) (ts : List ℕ) → Each (λ t. t < length c.transitions) ts → code ≡ pre ++ concat_map (block c) ts
      → HeadsFor c code (heads_from c (length pre) ts) ts
  unfolding heads_from concat_map head_of
  heads_stand pre [] none_left e = no_heads
  heads_stand pre (t ∷ ts) (one_more l ls) e = one_head
      (record { inside = l; says = refl; its_block = its })
      (subst (λ n. HeadsFor c code (heads_from c n ts) ts) (length-append pre (block c t))
      (heads_stand (pre ++ block c t) ts ls (e ∙ sym (append_assoc pre (block c t) (concat_map (block c) ts)))))
    where
      its : take (length (block c t)) (drop (length pre) code) ≡ block c t
      its = ap (λ l. take (length (block c t)) (drop (length pre) l)) e
          ∙ ap (take (length (block c t))) (drop-append_seam pre (block c t ++ concat_map (block c) ts))
          ∙ take-append_seam (block c t) (concat_map (block c) ts)

-- the heads of the compiled plan are those of all transitions, in choosing order
pub plan_heads : (c : Chart) → HeadsFor c (code_of c) (plan_of c).heads (head_order c)
unfolding plan_of code_of head_order all_transitions
plan_heads c = heads_stand c (code_of c) (start_block c) (head_order c)
    (ordered_each (λ t. t < length c.transitions) c (all_transitions c)
    (each_range 0 (length c.transitions) (length c.transitions) (omega arith))) refl
