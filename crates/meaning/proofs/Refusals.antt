-- A refusal in the code and its number and place: no refusal has the number 0, and number and place tell which it is. So two results with
-- the same answer are the same. Assumes nothing.
use Rattle.std.proofs.Common.{◌≡◌, refl, sym, ap, ◌∙◌, ℕ, eqb, cond, Result, Ok, Err, arith}
use Rattle.meaning.specs.Answers.{number_by, place_by, answer_by}
use Rattle.meaning.specs.declared.answers.Refusal.{Refusal}
use Rattle.meaning.specs.declared.answers.Refusal.TheVariants.{WrongLine, OutsideSize, RuleFails, PlanTooLong, NotAPlan, Foreign, NotStarted}
use Rattle.meaning.specs.declared.answers.Refusal.TheVariants.{QueueEmpty, QueueFull, NoSuchEvent, NoRoom, Unsettled, TextTooLong, SlotEmpty}

pub not_done : (e : Refusal) → number_by e ≡ 0 → ⊥
not_done (WrongLine p) z = omega arith
not_done (OutsideSize p) z = omega arith
not_done (RuleFails p) z = omega arith
not_done PlanTooLong z = omega arith
not_done NotAPlan z = omega arith
not_done Foreign z = omega arith
not_done NotStarted z = omega arith
not_done QueueEmpty z = omega arith
not_done QueueFull z = omega arith
not_done NoSuchEvent z = omega arith
not_done NoRoom z = omega arith
not_done Unsettled z = omega arith
not_done TextTooLong z = omega arith
not_done SlotEmpty z = omega arith

-- the refusal of a number and a place
refusal : ℕ → ℕ → Refusal
refusal n p =
    cond (eqb n 1) (WrongLine p) (
    cond (eqb n 2) (OutsideSize p) (
    cond (eqb n 3) (RuleFails p) (
    cond (eqb n 4) PlanTooLong (
    cond (eqb n 5) NotAPlan (
    cond (eqb n 6) Foreign (
    cond (eqb n 7) NotStarted (
    cond (eqb n 8) QueueEmpty (
    cond (eqb n 9) QueueFull (
    cond (eqb n 10) NoSuchEvent (
    cond (eqb n 11) NoRoom (
    cond (eqb n 12) Unsettled (
    cond (eqb n 13) TextTooLong (SlotEmpty)))))))))))))

back : (e : Refusal) → refusal (number_by e) (place_by e) ≡ e
unfolding refusal
back (WrongLine p) = refl
back (OutsideSize p) = refl
back (RuleFails p) = refl
back PlanTooLong = refl
back NotAPlan = refl
back Foreign = refl
back NotStarted = refl
back QueueEmpty = refl
back QueueFull = refl
back NoSuchEvent = refl
back NoRoom = refl
back Unsettled = refl
back TextTooLong = refl
back SlotEmpty = refl

pub same_refusal : (e f : Refusal) → number_by e ≡ number_by f → place_by e ≡ place_by f → e ≡ f
same_refusal e f n p = sym (back e) ∙ ap (λ x. refusal x (place_by e)) n ∙ ap (refusal (number_by f)) p ∙ back f

pub same_answer : (r s : Result (Unit {0}) Refusal) → answer_by r ≡ answer_by s → r ≡ s
same_answer (Ok m) (Ok n) a = refl
same_answer (Ok m) (Err f) a = absurd (not_done f (sym (ap (λ x. x.number) a)))
same_answer (Err e) (Ok n) a = absurd (not_done e (ap (λ x. x.number) a))
same_answer (Err e) (Err f) a = ap Err (same_refusal e f (ap (λ x. x.number) a) (ap (λ x. x.place) a))
