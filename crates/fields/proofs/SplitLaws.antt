-- Laws of where a part of a text ends: what the place of its first separator says of its parts. Assumes nothing.
use Rattle.std.proofs.Common.{◌≡◌, refl, sym, ap, ◌∙◌, Bool, true, false, cond, not, List, [], ◌∷◌, ℕ, zero, suc, ◌+◌, ◌-◌, ◌≤◌, ◌<◌}
use Rattle.std.proofs.Common.{Option, None, Some, arith, add-one, eqb, ltb, length, take, drop, length-drop}
use Rattle.std.proofs.lemmas.List.{take_all}
use Rattle.std.specs.Prelude.{position}
use Rattle.std.specs.Borrow.{Bor}
use Rattle.std.specs.List.{position_or_len}
use borrow.Author.Tests.{ltb-true, ltb-false, lt-ltb, le-ltb}
use Rattle.meaning.specs.Split.{Parts, parts, all, onto, cut, split, fields}
use Rattle.meaning.specs.Line.{field}
use Rattle.fields.specs.Parts.{Stop, Inside, split_at, cut_of}

-- where the place n of the first separator is one of the part's, and where it is not
abbrev at : ℕ → Bool → Option ℕ
at n t = cond t (Some n) None

pub stop_first : (sep : ℕ) (s : List ℕ) → Stop sep s (position (λ b. eqb b sep) s)
unfolding split
stop_first sep [] = record { inside = tt; is = refl }
stop_first sep (b ∷ bs) = go (eqb b sep) (position_or_len (λ x. eqb x sep) bs) refl (stop_first sep bs)
  where
    more : (n : ℕ) (t u : Bool) → ltb n (length bs) ≡ t → ltb (suc n) (suc (length bs)) ≡ u → eqb b sep ≡ false → Stop sep bs (at n t)
        → Stop sep (b ∷ bs) (at (suc n) u)
    more n true true p r e q = record { inside = omega (arith, q.inside); is = rw (e, q.is, add-one n, add-one (suc n)) }
    more n true false p r e q = let g = ltb-true n (length bs) p in let h = ltb-false (suc n) (suc (length bs)) r in absurd (omega arith)
    more n false true p r e q = let g = ltb-false n (length bs) p in let h = ltb-true (suc n) (suc (length bs)) r in absurd (omega arith)
    more n false false p r e q = record { inside = tt; is = rw (e, q.is) }

    zero_first : (n : ℕ) → eqb b sep ≡ true → Stop sep (b ∷ bs) (at 0 (ltb 0 (suc n)))
    zero_first n e = rw (lt-ltb 0 (suc n) (omega arith)) (record { inside = omega arith; is = rw e })

    go : (t : Bool) (n : ℕ) → eqb b sep ≡ t → Stop sep bs (at n (ltb n (length bs)))
        → Stop sep (b ∷ bs) (at (cond (not t) (1 + n) 0) (ltb (cond (not t) (1 + n) 0) (suc (length bs))))
    go true n e q = zero_first (length bs) e
    go false n e q =
        let k : 1 + n ≡ suc n = omega arith in
        rw k (more n (ltb n (length bs)) (ltb (suc n) (suc (length bs))) refl refl e q)

pub stop_is : (sep : ℕ) (s : List ℕ) (r : Option ℕ) → r ≡ position (λ b. eqb b sep) s → Stop sep s r
stop_is sep s r e = rw e (stop_first sep s)

-- ---- a part cut at its separator
pub cut_some : (sep : ℕ) (s : List ℕ) (e : ℕ) → Some e ≡ position (λ b. eqb b sep) s
    → split sep s ≡ parts (take e s) (all (split sep (take (length s - (e + 1)) (drop (e + 1) s))))
cut_some sep s e h =
    let k : length (drop (e + 1) s) ≤ length s - (e + 1) = omega (arith, length-drop (e + 1) s) in
    rw (take_all (length s - (e + 1)) (drop (e + 1) s) k) (stop_is sep s (Some e) h).is

pub cut_none : (sep : ℕ) (s : List ℕ) → None ≡ position (λ b. eqb b sep) s → split sep s ≡ parts s []
cut_none sep s h = (stop_is sep s None h).is

-- ---- the fields of a line
module _ (first : List ℕ) (rest : Option (Bor (List ℕ))) (s : List ℕ) (e : split 9 s ≡ cut_of 9 first rest) where
  pub field_first : (k : ℕ) → k ≡ 0 → first ≡ field (fields s) k
  unfolding fields
  field_first k z = go rest e
    where
      go : (r : Option (Bor (List ℕ))) → split 9 s ≡ cut_of 9 first r → first ≡ field (fields s) k
      go None e = rw (z, e)
      go (Some r) e = rw (z, e)

  pub field_none : (k : ℕ) → (k ≡ 0 → ⊥) → rest ≡ None → [] ≡ field (fields s) k
  unfolding fields
  field_none zero n z = absurd (n refl)
  field_none (suc k) n z = rw (e, z)

  pub field_next : (k : ℕ) (r : Bor (List ℕ)) → (k ≡ 0 → ⊥) → rest ≡ Some r → field (fields r.now) (k - 1) ≡ field (fields s) k
  unfolding fields
  field_next zero r n z = absurd (n refl)
  field_next (suc k) r n z = let m : suc k - 1 ≡ k = omega arith in rw (e, z, m)

-- what each function cites of these
pub ruleset of_cut = (cut_some, cut_none)

pub ruleset of_field = (field_first, field_none, field_next)
