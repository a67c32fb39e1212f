-- Laws of marks and of numbers put into numbers, one for each way out of the code. Assumes nothing.
use Rattle.std.proofs.Common.{◌≡◌, refl, sym, ap, ◌∙◌, Bool, true, false, cond, List, [], ◌∷◌, ◌++◌, ℕ, zero, suc, ◌+◌, ◌≤◌, ◌<◌}
use Rattle.std.proofs.Common.{Result, Ok, Err, arith, eqb, ltb, length, set}
use lib.IntN.{ℤ}
use lib.Seq.{sets, set_comm}
use borrow.Author.Tests.{lt-ltb, le-ltb, eqb-true}
use Rattle.meaning.specs.Line.{worse, room, faulty}
use Rattle.meaning.specs.declared.Fault.{Fault}
use Rattle.meaning.specs.declared.Fault.TheVariants.{Wrong, Beyond}

-- 0 only for both; and 1 is one of the two
module _ (a b : ℕ) where
  pub worse_zero : worse a b ≡ 0 → b ≡ 0
  unfolding worse
  worse_zero e = go (eqb a 1) (eqb b 1) (eqb a 2) e
    where
      go : (p q r : Bool) → ◌≡◌ {A = ℕ} (cond p 1 (cond q 1 (cond r 2 b))) 0 → b ≡ 0
      go true q r e = absurd (omega arith)
      go false true r e = absurd (omega arith)
      go false false true e = absurd (omega arith)
      go false false false e = e

  pub worse_one : (a ≡ 1 → ⊥) → worse a b ≡ 1 → b ≡ 1
  unfolding worse
  worse_one h e = go (eqb a 1) (eqb b 1) (eqb a 2) refl refl e
    where
      go : (p q r : Bool) → eqb a 1 ≡ p → eqb b 1 ≡ q → ◌≡◌ {A = ℕ} (cond p 1 (cond q 1 (cond r 2 b))) 1 → b ≡ 1
      go true q r f g e = absurd (h (eqb-true a 1 f))
      go false true r f g e = eqb-true b 1 g
      go false false true f g e = absurd (omega arith)
      go false false false f g e = e

-- a wrong form behind anything is 1
pub worse_last : (a b : ℕ) → b ≡ 1 → worse a b ≡ 1
unfolding worse
worse_last a b e = rw e (go (eqb a 1))
  where
    go : (t : Bool) → ◌≡◌ {A = ℕ} (cond t 1 1) 1
    go true = refl
    go false = refl

-- what is wrong with a part is told before what is beyond its size, and 0 only for both
pub fault_behind : (g : Fault) (m : ℕ) → (faulty g).mark ≡ m → (faulty g).mark ≡ worse 2 m
unfolding worse
fault_behind Wrong m e = rw (← e)
fault_behind Beyond m e = rw (← e)

pub right_before : (m : ℕ) → worse 0 m ≡ m
unfolding worse
right_before m = go (eqb m 1) refl
  where
    go : (t : Bool) → eqb m 1 ≡ t → cond t 1 m ≡ m
    go true e = sym (eqb-true m 1 e)
    go false e = refl

pub room_before : (n most : ℕ) (g : Fault) (m : ℕ) → (faulty g).mark ≡ m → (faulty g).mark ≡ worse (room n most) m
unfolding room
room_before n most g m e = go (ltb n most)
  where
    go : (t : Bool) → (faulty g).mark ≡ worse (cond t 0 2) m
    go true = e ∙ sym (right_before m)
    go false = fault_behind g m e

pub room_alone : (n most : ℕ) → worse (room n most) 0 ≡ room n most
unfolding worse room
room_alone n most = go (ltb n most)
  where
    go : (t : Bool) → worse (cond t 0 2) 0 ≡ cond t 0 2
    go true = refl
    go false = refl

pub room_in : (n most : ℕ) → n < most → 0 ≡ room n most
unfolding room
room_in n most h = rw (lt-ltb n most h)

pub room_out : (n most : ℕ) → most ≤ n → 2 ≡ room n most
unfolding room
room_out n most h = rw (le-ltb n most h)

-- ---- numbers put behind others, and those put afterwards
set_sets : (xs rest : List ℤ) (i j : ℕ) (a : ℤ) → i < j → set (sets xs j rest) i a ≡ sets (set xs i a) j rest
set_sets xs [] i j a h = refl
set_sets xs (b ∷ rest) i j a h =
    set_sets (set xs j b) rest i (suc j) a (omega arith)
    ∙ ap (λ (l : List ℤ). sets l (suc j) rest) (set_comm xs j i b a (λ e. omega arith))

sets_sets : (xs own rest : List ℤ) (i j : ℕ) → i + length own ≤ j → sets (sets xs j rest) i own ≡ sets (sets xs i own) j rest
sets_sets xs [] rest i j h = refl
sets_sets xs (a ∷ own) rest i j h =
    ap (λ (l : List ℤ). sets l (suc i) own) (set_sets xs rest i j a (omega arith)) ∙ sets_sets (set xs i a) own rest (suc i) j (omega arith)

sets_append : (xs own rest : List ℤ) (i : ℕ) → sets xs i (own ++ rest) ≡ sets (sets xs i own) (i + length own) rest
sets_append xs [] rest i = let e : i + 0 ≡ i = omega arith in rw e
sets_append xs (a ∷ own) rest i =
    let e : i + suc (length own) ≡ suc i + length own = omega arith in rw e (sets_append (set xs i a) own rest (suc i))

pub sets_behind : (xs own rest : List ℤ) (i k : ℕ) → k ≡ length own → sets (sets xs (i + k) rest) i own ≡ sets xs i (own ++ rest)
sets_behind xs own rest i k e = rw e (sets_sets xs own rest i (i + length own) (omega arith) ∙ sym (sets_append xs own rest i))
