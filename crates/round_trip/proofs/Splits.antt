-- Cutting and joining: a text cut and joined is the same text; parts without the separator, joined and cut, are the same parts.
-- In the order: parts without a separator; fields of a line; lines of a text; what is free of separators. Assumes nothing.
use mathlib.Core.Path.{◌≡◌, refl, ap, ◌∙◌}
use mathlib.Core.Bool.{Bool, true, false}
use mathlib.Core.List.{List, [], ◌∷◌, ◌++◌, append_assoc, append-nil}
use Prim.Native.Nat.{ℕ, suc, ◌+◌, ◌/◌, ◌%◌, ◌≤◌, ◌<◌}
use native.Mathlib.Omega.{arith}
use lib.Dec.{eqb}
use lib.IntN.{ℤ, pos, negsuc}
use borrow.Author.Tests.{eq-eqb, ne_eqb, eqb-true}
use Rattle.meaning.specs.Number.{digits, numeral}
use Rattle.meaning.specs.Split.{TAB, LF, parts, all, onto, cut, split, fields, lines, tails, joined, ended}
use Rattle.round_trip.proofs.Numbers.{by_digits, digits_one, digits_more}

-- ---- parts without a separator

unfoldable pub Free : ℕ → List ℕ → Type 0
Free sep [] = Unit
Free sep (b ∷ bs) = (b ≡ sep → ⊥) × Free sep bs

unfoldable pub AllFree : ℕ → List (List ℕ) → Type 0
AllFree sep [] = Unit
AllFree sep (x ∷ xs) = Free sep x × AllFree sep xs

-- parts with the separator between them
unfoldable pub glued : ℕ → List (List ℕ) → List ℕ
glued sep [] = []
glued sep (x ∷ xs) = x ++ tails sep xs

glued_split : (sep : ℕ) (l : List ℕ) → glued sep (all (split sep l)) ≡ l
unfolding glued split tails
glued_split sep [] = refl
glued_split sep (b ∷ bs) = go (eqb b sep) refl (glued_split sep bs)
  where
    go : (t : Bool) → eqb b sep ≡ t → glued sep (all (split sep bs)) ≡ bs → glued sep (all (cut t b (split sep bs))) ≡ b ∷ bs
    go true e ih = rw (ih, eqb-true b sep e)
    go false e ih = ap (λ (l : List ℕ). b ∷ l) ih

split_free : (sep : ℕ) (x l : List ℕ) → Free sep x → split sep (x ++ l) ≡ onto x (split sep l)
unfolding split Free
split_free sep [] l f = refl
split_free sep (b ∷ bs) l f = rw (ne_eqb b sep f.0, split_free sep bs l f.1)

split_tails : (sep : ℕ) (xs : List (List ℕ)) → AllFree sep xs → split sep (tails sep xs) ≡ parts [] xs
unfolding split tails AllFree
split_tails sep [] f = refl
split_tails sep (x ∷ xs) f =
    rw (eq-eqb sep sep refl, split_free sep x (tails sep xs) f.0, split_tails sep xs f.1, append-nil)

-- ---- fields of a line

pub joined_fields : (l : List ℕ) → joined (fields l) ≡ l
unfolding joined fields glued
joined_fields l = glued_split TAB l

pub fields_joined : (x : List ℕ) (xs : List (List ℕ)) → AllFree TAB (x ∷ xs) → fields (joined (x ∷ xs)) ≡ x ∷ xs
unfolding joined fields AllFree
fields_joined x xs f = ap all (split_free TAB x (tails TAB xs) f.0 ∙ rw (split_tails TAB xs f.1, append-nil))

-- ---- lines of a text

pub glued_lines : (text : List ℕ) → glued LF (lines text) ≡ text
unfolding lines
glued_lines text = glued_split LF text

pub lines_ended : (ls : List (List ℕ)) → AllFree LF ls → lines (ended ls) ≡ ls ++ ([] ∷ [])
unfolding lines ended split AllFree
lines_ended [] f = refl
lines_ended (l ∷ ls) f = rw (split_free LF l (LF ∷ ended ls) f.0, append-nil) (ap (λ (r : List (List ℕ)). l ∷ r) (lines_ended ls f.1))

pub ended_append : (xs ys : List (List ℕ)) → ended (xs ++ ys) ≡ ended xs ++ ended ys
unfolding ended
ended_append [] ys = refl
ended_append (x ∷ xs) ys = rw (ended_append xs ys, append_assoc)

-- ---- what is free of separators

pub free_append : (sep : ℕ) (x y : List ℕ) → Free sep x → Free sep y → Free sep (x ++ y)
unfolding Free
free_append sep [] y f g = g
free_append sep (b ∷ bs) y f g = (f.0, free_append sep bs y f.1 g)

pub all_free_append : (sep : ℕ) (xs ys : List (List ℕ)) → AllFree sep xs → AllFree sep ys → AllFree sep (xs ++ ys)
unfolding AllFree
all_free_append sep [] ys f g = g
all_free_append sep (x ∷ xs) ys f g = (f.0, all_free_append sep xs ys f.1 g)

-- one byte past the separators
pub free_byte : (sep b : ℕ) → sep < 45 → 45 ≤ b → Free sep (b ∷ [])
unfolding Free
free_byte sep b h k = ((λ e. absurd (omega arith)), tt)

free_digits : (sep : ℕ) → sep < 45 → (n : ℕ) → Free sep (digits n)
free_digits sep h = by_digits (λ n. Free sep (digits n))
    (λ n k. rw (digits_one n k) (free_byte sep (48 + n) h (omega arith)))
    (λ n k f. rw (digits_more n k) (free_append sep (digits (n / 10)) ((48 + n % 10) ∷ []) f (free_byte sep (48 + n % 10) h (omega arith))))

pub free_numeral : (sep : ℕ) → sep < 45 → (z : ℤ) → Free sep (numeral z)
unfolding numeral
free_numeral sep h (pos n) = free_digits sep h n
free_numeral sep h (negsuc n) = free_append sep (45 ∷ []) (digits (suc n)) (free_byte sep 45 h (omega arith)) (free_digits sep h (suc n))

free_tails : (xs : List (List ℕ)) → AllFree LF xs → Free LF (tails TAB xs)
unfolding Free AllFree tails
free_tails [] f = tt
free_tails (x ∷ xs) f = ((λ e. absurd (omega arith)), free_append LF x (tails TAB xs) f.0 (free_tails xs f.1))

-- a line has no LF where its fields have none
pub free_joined : (xs : List (List ℕ)) → AllFree LF xs → Free LF (joined xs)
unfolding joined AllFree Free
free_joined [] f = tt
free_joined (x ∷ xs) f = free_append LF x (tails TAB xs) f.0 (free_tails xs f.1)
