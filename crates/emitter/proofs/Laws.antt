-- Laws of the pen: numbers and instructions put one after the other, and the place after them. Assumes nothing.
use mathlib.Core.Path.{◌≡◌, refl, sym, ap, ◌∙◌}
use Prim.Native.Nat.{ℕ, suc, ◌+◌, ◌*◌, ◌<◌}
use mathlib.Core.List.{List, [], ◌∷◌, ◌++◌, append-nil}
use native.Mathlib.Omega.{arith}
use native.Mathlib.Numerals.{add-one}
use lib.ListN.{length, set, get_or, take, length-append}
use lib.Seq.{sets, length-sets, take-suc, take-length}
use Rattle.std.proofs.lemmas.List.{length-take-le}
use lib.IntN.{ℤ, pos}
use Rattle.meaning.specs.Lists.{concat_map}
use Rattle.meaning.specs.declared.chart.Act.TheVariants.{SetTo as set_to, AddTo as add_to, TakeTo as take_to, Send as send, Tell as tell}
use Rattle.meaning.specs.declared.plan.Instr.{Instr}
use Rattle.meaning.specs.declared.plan.Instr.TheVariants.{In as go_in, Out as go_out, SkipOut as skip_out, SkipEmpty as skip_empty}
use Rattle.meaning.specs.declared.plan.Instr.TheVariants.{SkipFull as skip_full, SkipNot as skip_not, Does as does}
use Rattle.meaning.specs.Plan.{slot_number, act_numbers, instr_numbers}
use Rattle.emitter.specs.Pen.{Pen, pen, puts, emits, Room}

-- ---- numbers

sets_append : {A : Type 0} (l : List A) (i : ℕ) (xs ys : List A) → sets l i (xs ++ ys) ≡ sets (sets l i xs) (i + length xs) ys
sets_append l i [] ys = let e : i ≡ i + 0 = omega arith in ap (λ k. sets l k ys) e
sets_append l i (x ∷ xs) ys =
    let e : suc i + length xs ≡ i + suc (length xs) = omega arith in
    sets_append (set l i x) (suc i) xs ys ∙ ap (λ k. sets (sets (set l i x) (suc i) xs) k ys) e

pub puts_append : (xs ys : List ℤ) (p : Pen) → puts (xs ++ ys) p ≡ puts ys (puts xs p)
unfolding puts
puts_append xs ys p =
    let e : p.at + length (xs ++ ys) ≡ (p.at + length xs) + length ys = omega (arith, length-append xs ys) in
    ap (λ b. pen b (p.at + length (xs ++ ys))) (sets_append p.buf p.at xs ys)
    ∙ ap (pen (sets (sets p.buf p.at xs) (p.at + length xs) ys)) e

pub puts_none : (p : Pen) → puts [] p ≡ p
unfolding puts
puts_none p = let e : p.at + 0 ≡ p.at = omega arith in ap (pen p.buf) e

pub puts_at : (ns : List ℤ) (l : List ℤ) (at : ℕ) {l₁ : List ℤ} {r : ℕ} → pen l₁ r ≡ puts ns (pen l at) → r ≡ at + length ns
unfolding puts
puts_at ns l at e = ap (λ p. p.at) e

-- one number more of those that are put
pub next_put : (l ns : List ℤ) (at i : ℕ) {l₁ l₂ : List ℤ} → i < length ns → l₁ ≡ sets l at (take i ns)
    → l₂ ≡ set l₁ (at + i) (get_or ns i (pos 0)) → l₂ ≡ sets l at (take (i + 1) ns)
next_put l ns at i h e f =
    let z : ℤ = get_or ns i (pos 0) in
    f ∙ ap (λ x. set x (at + i) z) e
    ∙ sym (ap (sets l at) (ap (λ k. take k ns) (add-one i) ∙ take-suc ns i (pos 0) h)
    ∙ sets_append l at (take i ns) (z ∷ [])
    ∙ ap (λ k. set (sets l at (take i ns)) (at + k) z) (length-take-le i ns (omega arith)))

pub all_put : (l ns : List ℤ) (at i : ℕ) {l₁ : List ℤ} → i ≡ length ns → l₁ ≡ sets l at (take i ns)
    → pen l₁ (at + length ns) ≡ puts ns (pen l at)
unfolding puts
all_put l ns at i h e = ap (λ x. pen x (at + length ns)) (e ∙ ap (λ k. sets l at (take k ns)) h ∙ ap (sets l at) (take-length ns))

-- ---- instructions

pub concat_map_append : {A B : Type 0} (f : A → List B) (xs ys : List A) → concat_map f (xs ++ ys) ≡ concat_map f xs ++ concat_map f ys
unfolding concat_map
concat_map_append f [] ys = refl
concat_map_append f (x ∷ xs) ys = ap (λ l. f x ++ l) (concat_map_append f xs ys) ∙ sym (assoc (f x) (concat_map f xs) (concat_map f ys))
  where
    assoc : {C : Type 0} (us vs ws : List C) → (us ++ vs) ++ ws ≡ us ++ (vs ++ ws)
    assoc [] vs ws = refl
    assoc (u ∷ us) vs ws = ap (λ l. u ∷ l) (assoc us vs ws)

-- "instructions of four numbers"
four_each : (i : Instr) → length (instr_numbers i) ≡ 4
unfolding instr_numbers act_numbers slot_number
four_each (go_in s) = refl
four_each (go_out s p) = refl
four_each (skip_out s n) = refl
four_each (skip_empty s n) = refl
four_each (skip_full s n) = refl
four_each (skip_not s d n) = refl
four_each (does (set_to v x)) = refl
four_each (does (add_to v x)) = refl
four_each (does (take_to v)) = refl
four_each (does (send e x)) = refl
four_each (does (tell x)) = refl

pub numbers_count : (is : List Instr) → length (concat_map instr_numbers is) ≡ 4 * length is
unfolding concat_map
numbers_count [] = refl
numbers_count (i ∷ is) = omega (arith, length-append (instr_numbers i) (concat_map instr_numbers is), four_each i, numbers_count is)

pub emits_none : (p : Pen) → emits [] p ≡ p
unfolding emits concat_map
emits_none p = puts_none p

pub emits_append : (xs ys : List Instr) (p : Pen) → emits (xs ++ ys) p ≡ emits ys (emits xs p)
unfolding emits
emits_append xs ys p = ap (λ l. puts l p) (concat_map_append instr_numbers xs ys)
    ∙ puts_append (concat_map instr_numbers xs) (concat_map instr_numbers ys) p

pub emits_cons : (x : Instr) (xs : List Instr) (p : Pen) → emits (x ∷ xs) p ≡ emits xs (emits (x ∷ []) p)
emits_cons x xs p = emits_append (x ∷ []) xs p

-- the place after instructions
pub emits_count : (is : List Instr) (p : Pen) → (emits is p).at ≡ p.at + 4 * length is
unfolding emits puts
emits_count is p = ap (λ k. p.at + k) (numbers_count is)

pub emits_at : (is : List Instr) (l : List ℤ) (at : ℕ) {l₁ : List ℤ} {r : ℕ} → pen l₁ r ≡ emits is (pen l at) → r ≡ at + 4 * length is
emits_at is l at e = ap (λ p. p.at) e ∙ emits_count is (pen l at)

-- one instruction by its four numbers
pub emits_one : (i : Instr) (p : Pen) {q : Pen} → q ≡ puts (instr_numbers i) p → q ≡ emits (i ∷ []) p
unfolding emits concat_map
emits_one i p e = e ∙ ap (λ l. puts l p) (sym (append-nil (instr_numbers i)))

-- ---- one after the other

pub put_first : (x : Instr) (xs : List Instr) (p : Pen) {q r : Pen} → q ≡ emits (x ∷ []) p → r ≡ emits xs q → r ≡ emits (x ∷ xs) p
put_first x xs p e f = f ∙ ap (emits xs) e ∙ sym (emits_cons x xs p)

pub put_both : (xs ys : List Instr) (p : Pen) {q r : Pen} → q ≡ emits xs p → r ≡ emits ys q → r ≡ emits (xs ++ ys) p
put_both xs ys p e f = f ∙ ap (emits ys) e ∙ sym (emits_append xs ys p)

-- what is still to be put after a part of it
pub owes_on : (xs ys : List Instr) (p : Pen) {q t : Pen} → emits (xs ++ ys) p ≡ t → q ≡ emits xs p → emits ys q ≡ t
owes_on xs ys p o e = ap (emits ys) e ∙ sym (emits_append xs ys p) ∙ o

pub owes_none : (p : Pen) {t : Pen} → emits [] p ≡ t → p ≡ t
owes_none p o = sym (emits_none p) ∙ o

-- where there is room for all there is room for the part that comes next
pub owes_room : (xs ys zs : List Instr) (l l₁ : List ℤ) (at p : ℕ)
    → emits (xs ++ ys) (pen l₁ p) ≡ emits zs (pen l at) → Room zs at → Room xs p
owes_room xs ys zs l l₁ at p o r =
    let e = ap (λ q. q.at) o in
    omega (arith, emits_count (xs ++ ys) (pen l₁ p), emits_count zs (pen l at), length-append xs ys)

-- what is put leaves the slice's length as it was
emits_length : (is : List Instr) (p : Pen) → length (emits is p).buf ≡ length p.buf
unfolding emits puts
emits_length is p = length-sets p.buf p.at (concat_map instr_numbers is)

pub same_size : (xs ys : List Instr) (l l₁ : List ℤ) (at p : ℕ) → emits xs (pen l₁ p) ≡ emits ys (pen l at) → length l₁ ≡ length l
same_size xs ys l l₁ at p e = sym (emits_length xs (pen l₁ p)) ∙ ap (λ q. length q.buf) e ∙ emits_length ys (pen l at)
