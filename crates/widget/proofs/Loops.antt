-- The laws of Going for a step for each of a list, a step under a test and a step chosen by the state. A loop keeps `Owes D ..
-- (each f (drop i xs)) ..` as its invariant, or with a list of its own in place of `drop i xs`. Assumes nothing.
use Rattle.std.proofs.Common.{◌≡◌, refl, sym, ap, ◌∙◌, ℕ, ◌+◌, ◌≤◌, ◌<◌, Bool, true, false, List, [], ◌∷◌, length, get_or, drop, ℤ, Ok, Err}
use Rattle.std.specs.Prelude.{Result}
use Rattle.meaning.specs.Answers.{number_by}
use Rattle.meaning.specs.declared.answers.Refusal.{Refusal}
use Rattle.meaning.specs.declared.State.{State}
use Rattle.meaning.specs.Steps.{Res, ok, refuse, Step, bind, ◌then◌, when, require, look, each}
use Rattle.meaning.specs.Widget.{Ctx}
use Rattle.widget.specs.View.{ctx, went, Did, Owes}
use Rattle.widget.proofs.Going.{each_one, each_at, each_end, owes_as, owes_on, owes_stop, owes_none}

bind_bind : (x : Res Ctx) (G E : Step Ctx) → bind (bind x G) E ≡ bind x (λ k. bind (G k) E)
unfolding bind
bind_bind (ok k) G E = refl
bind_bind (refuse n) G E = refl

module _ {u : State} {t : List ℤ} {at : ℕ} where
  -- ---- promises of single steps

  -- a step that leaves everything as it is
  pub did_none : (D : Step Ctx) → at ≤ length t → D (ctx u t at) ≡ ok (ctx u t at) → Did D u t at (Ok at) u t
  unfolding went
  did_none D h e = record { does = sym e; fits = h; kept = refl }

  -- a step that refuses: nothing is said of the state
  pub did_refuse : (D : Step Ctx) (r : Refusal) → D (ctx u t at) ≡ refuse (number_by r) → Did D u t at (Err r) u t
  unfolding went
  did_refuse D r e = record { does = sym e; fits = tt; kept = refl }

  pub when_off : (F : Step Ctx) {b : Bool} → at ≤ length t → b ≡ false → Did (when b F) u t at (Ok at) u t
  unfolding when
  when_off F {b} h e = did_none (when b F) h (rw e)

  module _ {r : Result ℕ Refusal} {u' : State} {t' : List ℤ} where
    pub when_on : {F : Step Ctx} {b : Bool} → b ≡ true → Did F u t at r u' t' → Did (when b F) u t at r u' t'
    unfolding when
    when_on e d = rw e (record { does = d.does; fits = d.fits; kept = d.kept })

    pub look_at : (f : Ctx → Step Ctx) → Did (f (ctx u t at)) u t at r u' t' → Did (look f) u t at r u' t'
    unfolding look
    look_at f d = record { does = d.does; fits = d.fits; kept = d.kept }

  -- ---- what is owed

  module _ {D : Step Ctx} {u₁ : State} {t₁ : List ℤ} {at₁ : ℕ} where
    pub owes_look : (f : Ctx → Step Ctx) → Owes D u t at (look f) u₁ t₁ at₁ → Owes D u t at (f (ctx u₁ t₁ at₁)) u₁ t₁ at₁
    unfolding look
    owes_look f o = owes_as (f (ctx u₁ t₁ at₁)) o refl

    pub owes_when : (F E : Step Ctx) {b : Bool} → Owes D u t at (when b F then E) u₁ t₁ at₁ → b ≡ true → Owes D u t at (F then E) u₁ t₁ at₁
    unfolding when ◌then◌
    owes_when F E o e = owes_as (F then E) o (rw e)

    pub owes_pass : (F E : Step Ctx) {b : Bool} → Owes D u t at (when b F then E) u₁ t₁ at₁ → b ≡ false → Owes D u t at E u₁ t₁ at₁
    unfolding when ◌then◌ bind
    owes_pass F E o e = owes_as E o (rw e)

    pub owes_require : (n : ℕ) (E : Step Ctx) {b : Bool} → Owes D u t at (require n b then E) u₁ t₁ at₁ → b ≡ true
        → Owes D u t at E u₁ t₁ at₁
    unfolding require ◌then◌ bind
    owes_require n E o e = owes_as E o (rw e)

    -- steps in another grouping
    pub owes_regroup : (F G E : Step Ctx) → Owes D u t at ((F then G) then E) u₁ t₁ at₁ → Owes D u t at (F then (G then E)) u₁ t₁ at₁
    unfolding ◌then◌
    owes_regroup F G E o = owes_as (F then (G then E)) o (sym (bind_bind (F (ctx u₁ t₁ at₁)) G E))

    -- ---- for each of a list

    module _ {A : Type 0} (f : A → Step Ctx) where
      pub each_none : Owes D u t at (each f []) u₁ t₁ at₁ → Did D u t at (Ok at₁) u₁ t₁
      unfolding each
      each_none o = owes_none o refl

      pub each_done : (xs : List A) (i : ℕ) → Owes D u t at (each f (drop i xs)) u₁ t₁ at₁ → length xs ≤ i → Did D u t at (Ok at₁) u₁ t₁
      each_done xs i o h = owes_none o (each_end f xs i _ h)

      -- the step of this element leaves everything as it is
      pub each_past : (xs : List A) (i : ℕ) (d : A) → Owes D u t at (each f (drop i xs)) u₁ t₁ at₁ → i < length xs
          → f (get_or xs i d) (ctx u₁ t₁ at₁) ≡ ok (ctx u₁ t₁ at₁) → Owes D u t at (each f (drop (i + 1) xs)) u₁ t₁ at₁
      unfolding ◌then◌ bind
      each_past xs i d o h e =
          owes_as (each f (drop (i + 1) xs)) o
          (sym (each_at f xs i d (ctx u₁ t₁ at₁) h ∙ ap (λ x. bind x (each f (drop (i + 1) xs))) e))

      module _ {u₂ : State} {t₂ : List ℤ} where
        pub each_next : {n : ℕ} (x : A) (xs : List A) → Owes D u t at (each f (x ∷ xs)) u₁ t₁ at₁ → Did (f x) u₁ t₁ at₁ (Ok n) u₂ t₂
            → Owes D u t at (each f xs) u₂ t₂ n
        each_next x xs o d = owes_on (each f xs) (owes_as (f x then each f xs) o (sym (each_one f x xs _))) d

        pub each_ends : {r : Refusal} (x : A) (xs : List A) → Owes D u t at (each f (x ∷ xs)) u₁ t₁ at₁
            → Did (f x) u₁ t₁ at₁ (Err r) u₂ t₂ → Did D u t at (Err r) u₂ t₂
        each_ends x xs o d = owes_stop (each f xs) (owes_as (f x then each f xs) o (sym (each_one f x xs _))) d

        -- one more of the list
        pub each_on : {n : ℕ} (xs : List A) (i : ℕ) (d : A) → Owes D u t at (each f (drop i xs)) u₁ t₁ at₁ → i < length xs
            → Did (f (get_or xs i d)) u₁ t₁ at₁ (Ok n) u₂ t₂ → Owes D u t at (each f (drop (i + 1) xs)) u₂ t₂ n
        each_on xs i d o h g =
            owes_on (each f (drop (i + 1) xs))
            (owes_as (f (get_or xs i d) then each f (drop (i + 1) xs)) o (sym (each_at f xs i d _ h))) g

        -- one of the list refuses
        pub each_stop : {r : Refusal} (xs : List A) (i : ℕ) (d : A) → Owes D u t at (each f (drop i xs)) u₁ t₁ at₁ → i < length xs
            → Did (f (get_or xs i d)) u₁ t₁ at₁ (Err r) u₂ t₂ → Did D u t at (Err r) u₂ t₂
        each_stop xs i d o h g =
            owes_stop (each f (drop (i + 1) xs))
            (owes_as (f (get_or xs i d) then each f (drop (i + 1) xs)) o (sym (each_at f xs i d _ h))) g
