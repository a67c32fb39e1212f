-- What the functions of this crate cite: numbers that are told, a call that is done or refused, too few numbers. Assumes nothing.
use mathlib.Core.Path.{◌≡◌, refl, sym, ap, ◌∙◌}
use mathlib.Core.List.{List, [], ◌∷◌}
use Prim.Native.Nat.{ℕ}
use borrow.Author.Tests.{eq-eqb, ne_eqb}
use lib.IntN.{ℤ}
use Rattle.meaning.specs.declared.Answer.{Answer}
use Rattle.meaning.specs.declared.Called.{Called}
use Rattle.meaning.specs.Answers.{FOREIGN}
use Rattle.promises.specs.Saved.{small, stored}
use Rattle.promises.specs.Host.{Told, Ends, kept, too_few}

-- ---- what is told: the result is read back from its bits

pub told_as : {a b : Answer} {n m : ℕ} {r s : ℤ} {rep : List ℤ} → s ≡ r → a ≡ b → n ≡ m → Told a n r rep → Told b m s rep
told_as {b = b} {n = n} i e f t = record {
  answer = i ∙ t.answer ∙ ap (λ x. small x.number) e;
  told = t.told ∙ ap (λ x. small x.place ∷ small n ∷ []) e ∙ ap (λ k. small b.place ∷ small k ∷ []) f;
}

-- numbers of a report, each as it is told
pub two : {a b x y : ℤ} → a ≡ x → b ≡ y → ◌≡◌ {A = List ℤ} (a ∷ b ∷ []) (x ∷ y ∷ [])
two e f = rw (e, f)

pub three : {a b c x y z : ℤ} → a ≡ x → b ≡ y → c ≡ z → ◌≡◌ {A = List ℤ} (a ∷ b ∷ c ∷ []) (x ∷ y ∷ z ∷ [])
three e f g = rw (e, f, g)

-- ---- the end of a call

pub ends_done : (c : Called) {ns after : List ℤ} {r s : ℤ} {rep : List ℤ} → c.answer.number ≡ 0 → after ≡ stored c.state ns → s ≡ r
    → Told c.answer c.entries r rep → Ends c ns s rep after
unfolding kept
ends_done c z e i t = record { tells = told_as i refl refl t; widget = e ∙ sym (rw (eq-eqb c.answer.number 0 z)) }

pub ends_refused : (c : Called) {ns : List ℤ} {r s : ℤ} {rep : List ℤ} → (c.answer.number ≡ 0 → ⊥) → s ≡ r
    → Told c.answer c.entries r rep → Ends c ns s rep ns
unfolding kept
ends_refused c z i t = record { tells = told_as i refl refl t; widget = sym (rw (ne_eqb c.answer.number 0 z)) }

-- the same of numbers that a branch left as they were
pub ends_left : (c : Called) {ns after : List ℤ} {r s : ℤ} {rep : List ℤ} → (c.answer.number ≡ 0 → ⊥) → after ≡ ns → s ≡ r
    → Told c.answer c.entries r rep → Ends c ns s rep after
unfolding kept
ends_left c z e i t = record { tells = told_as i refl refl t; widget = e ∙ sym (rw (ne_eqb c.answer.number 0 z)) }

-- the answer where too few numbers are lent
pub too_few_6 : (a : Answer) → a.number ≡ 0 → ◌≡◌ {A = Answer} (record { number = FOREIGN; place = 0 }) (too_few a)
unfolding too_few
too_few_6 a h = rw (eq-eqb a.number 0 h)

pub too_few_first : (a : Answer) → (a.number ≡ 0 → ⊥) → a ≡ too_few a
unfolding too_few
too_few_first a h = rw (ne_eqb a.number 0 h)
