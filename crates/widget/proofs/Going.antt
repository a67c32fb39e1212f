-- The laws by which a caller of step functions meets its own promise: one step after another, a step for each of a list, a step under a
-- test, a step chosen by the state. Each is over plain variables, so that a need is one citation. Assumes nothing.
use Rattle.std.proofs.Common.{◌≡◌, refl, sym, ap, ◌∙◌, ℕ, suc, ◌+◌, ◌≤◌, ◌<◌, List, ◌∷◌, length, get_or, drop, ℤ, Ok, Err}
use native.Mathlib.Numerals.{add-one}
use lib.ListN.{drop_of_length-le}
use lib.Seq.{drop-cons}
use Rattle.meaning.specs.Answers.{number_by}
use Rattle.meaning.specs.declared.answers.Refusal.{Refusal}
use Rattle.meaning.specs.declared.State.{State}
use Rattle.meaning.specs.Steps.{ok, refuse, Step, bind, ◌then◌, each}
use Rattle.meaning.specs.Widget.{Ctx}
use Rattle.std.specs.Prelude.{Result}
use Rattle.widget.specs.View.{ctx, went, Did, Owes}

-- ---- steps as functions

pub each_one : {A : Type 0} (f : A → Step Ctx) (x : A) (xs : List A) (k : Ctx) → each f (x ∷ xs) k ≡ (f x then each f xs) k
unfolding each ◌then◌
each_one f x xs k = refl

pub each_at : {A : Type 0} (f : A → Step Ctx) (xs : List A) (i : ℕ) (d : A) (k : Ctx) → i < length xs
    → each f (drop i xs) k ≡ (f (get_or xs i d) then each f (drop (i + 1) xs)) k
each_at f xs i d k h = rw (add-one i, drop-cons xs i d h) (each_one f (get_or xs i d) (drop (suc i) xs) k)

pub each_end : {A : Type 0} (f : A → Step Ctx) (xs : List A) (i : ℕ) (k : Ctx) → length xs ≤ i → each f (drop i xs) k ≡ ok k
unfolding each
each_end f xs i k h = rw (drop_of_length-le xs h)

-- ---- what is owed

module _ {D : Step Ctx} {u : State} {t : List ℤ} {at : ℕ} where
  -- at the start all of it is owed
  pub owes_all : at ≤ length t → Owes D u t at D u t at
  owes_all h = record { gives = refl; fits = h; kept = refl }

  module _ {u₁ : State} {t₁ : List ℤ} {at₁ : ℕ} where
    -- the same step in other words
    pub owes_as : {E : Step Ctx} (F : Step Ctx) → Owes D u t at E u₁ t₁ at₁ → F (ctx u₁ t₁ at₁) ≡ E (ctx u₁ t₁ at₁)
        → Owes D u t at F u₁ t₁ at₁
    owes_as F o e = record { gives = e ∙ o.gives; fits = o.fits; kept = o.kept }

    -- nothing more is owed
    pub owes_none : {E : Step Ctx} → Owes D u t at E u₁ t₁ at₁ → E (ctx u₁ t₁ at₁) ≡ ok (ctx u₁ t₁ at₁) → Did D u t at (Ok at₁) u₁ t₁
    unfolding went
    owes_none o e = record { does = sym e ∙ o.gives; fits = o.fits; kept = o.kept }

    -- the rest is refused
    pub owes_refused : {E : Step Ctx} (r : Refusal) → Owes D u t at E u₁ t₁ at₁ → E (ctx u₁ t₁ at₁) ≡ refuse (number_by r)
        → Did D u t at (Err r) u₁ t₁
    unfolding went
    owes_refused r o e = record { does = sym e ∙ o.gives; fits = tt; kept = o.kept }

    module _ {u₂ : State} {t₂ : List ℤ} where
      -- all that was owed is done by one function
      pub owes_last : {E : Step Ctx} {r : Result ℕ Refusal} → Owes D u t at E u₁ t₁ at₁ → Did E u₁ t₁ at₁ r u₂ t₂ → Did D u t at r u₂ t₂
      owes_last o d = record { does = d.does ∙ o.gives; fits = d.fits; kept = d.kept ∙ o.kept }

      -- the first step goes on, and the rest is owed
      pub owes_on : {F : Step Ctx} {n : ℕ} (E : Step Ctx) → Owes D u t at (F then E) u₁ t₁ at₁ → Did F u₁ t₁ at₁ (Ok n) u₂ t₂
          → Owes D u t at E u₂ t₂ n
      unfolding ◌then◌ went bind
      owes_on E o d = record { gives = ap (λ x. bind x E) d.does ∙ o.gives; fits = d.fits; kept = d.kept ∙ o.kept }

      -- the first step refuses
      pub owes_stop : {F : Step Ctx} {r : Refusal} (E : Step Ctx) → Owes D u t at (F then E) u₁ t₁ at₁ → Did F u₁ t₁ at₁ (Err r) u₂ t₂
          → Did D u t at (Err r) u₂ t₂
      unfolding ◌then◌ went bind
      owes_stop E o d = record { does = ap (λ x. bind x E) d.does ∙ o.gives; fits = tt; kept = d.kept ∙ o.kept }

-- ---- one step after another

module _ {u : State} {t : List ℤ} {at : ℕ} {u₁ : State} {t₁ : List ℤ} {F : Step Ctx} where
  pub then_on : {E : Step Ctx} {n : ℕ} {r : Result ℕ Refusal} {u₂ : State} {t₂ : List ℤ}
      → Did F u t at (Ok n) u₁ t₁ → Did E u₁ t₁ n r u₂ t₂ → Did (F then E) u t at r u₂ t₂
  unfolding ◌then◌ went bind
  then_on {E} d g = record { does = g.does ∙ ap (λ x. bind x E) d.does; fits = g.fits; kept = g.kept ∙ d.kept }

  pub then_stop : {r : Refusal} (E : Step Ctx) → Did F u t at (Err r) u₁ t₁ → Did (F then E) u t at (Err r) u₁ t₁
  unfolding ◌then◌ went bind
  then_stop E d = record { does = ap (λ x. bind x E) d.does; fits = tt; kept = d.kept }

  -- a second step that leaves everything as it is
  pub then_none : {n : ℕ} (E : Step Ctx) → Did F u t at (Ok n) u₁ t₁ → E (ctx u₁ t₁ n) ≡ ok (ctx u₁ t₁ n)
      → Did (F then E) u t at (Ok n) u₁ t₁
  unfolding ◌then◌ went bind
  then_none E d e = record { does = sym e ∙ ap (λ x. bind x E) d.does; fits = d.fits; kept = d.kept }

-- a step by another name
pub same_step : {D : Step Ctx} (E : Step Ctx) {u : State} {t : List ℤ} {at : ℕ} {r : Result ℕ Refusal} {u₁ : State} {t₁ : List ℤ}
    → D (ctx u t at) ≡ E (ctx u t at) → Did D u t at r u₁ t₁ → Did E u t at r u₁ t₁
same_step E e d = record { does = d.does ∙ e; fits = d.fits; kept = d.kept }
