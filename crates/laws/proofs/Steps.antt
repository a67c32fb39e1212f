-- Laws of steps: one after another, for each of a list, and what holds where a step goes on. Assumes nothing.
use mathlib.Core.Path.{◌∙◌, ◌≡◌, ap, fun_ext, refl, sym}
use mathlib.Core.List.{List, [], ◌++◌, ◌∷◌, map}
use Rattle.meaning.specs.Lists.{concat_map}
use Rattle.meaning.specs.Steps.{Res, Step, bind, each, ok, refuse}

pub bind_assoc : {A B C : Type 0} (r : Res A) (f : A → Res B) (g : B → Res C) → bind (bind r f) g ≡ bind r (λ x. bind (f x) g)
unfolding bind
bind_assoc (ok a) f g = refl
bind_assoc (refuse n) f g = refl

pub bind_cong : {A B : Type 0} (r : Res A) {f g : A → Res B} → ((a : A) → f a ≡ g a) → bind r f ≡ bind r g
bind_cong r h = ap (bind r) (fun_ext h)

pub each_append : {A S : Type 0} (f : A → Step S) (xs ys : List A) (s : S) → each f (xs ++ ys) s ≡ bind (each f xs s) (each f ys)
unfolding each bind
each_append f [] ys s = refl
each_append f (x ∷ xs) ys s = bind_cong (f x s) (λ t. each_append f xs ys t) ∙ sym (bind_assoc (f x s) (each f xs) (each f ys))

pub each_concat_map : {A B S : Type 0} (f : B → Step S) (g : A → List B) (xs : List A) (s : S)
    → each f (concat_map g xs) s ≡ each (λ x. each f (g x)) xs s
unfolding each concat_map
each_concat_map f g [] s = refl
each_concat_map f g (x ∷ xs) s = each_append f (g x) (concat_map g xs) s ∙ bind_cong (each f (g x) s) (λ t. each_concat_map f g xs t)

pub each_map : {A B S : Type 0} (f : B → Step S) (g : A → B) (xs : List A) (s : S) → each f (map g xs) s ≡ each (λ x. f (g x)) xs s
unfolding each
each_map f g [] s = refl
each_map f g (x ∷ xs) s = bind_cong (f (g x) s) (λ t. each_map f g xs t)

abbrev pub Holds : {A : Type 0} → Res A → (A → Type 0) → Type 0
Holds (ok a) P = P a
Holds (refuse n) P = Unit {0}

pub holds_bind : {A B : Type 0} (P : A → Type 0) (Q : B → Type 0) (r : Res A) (g : A → Res B)
    → Holds r P → ((a : A) → P a → Holds (g a) Q) → Holds (bind r g) Q
unfolding bind
holds_bind P Q (ok a) g h n = n a h
holds_bind P Q (refuse e) g h n = tt

pub bind_cong_where : {A B : Type 0} (P : A → Type 0) (r : Res A) (f g : A → Res B)
    → Holds r P → ((a : A) → P a → f a ≡ g a) → bind r f ≡ bind r g
unfolding bind
bind_cong_where P (ok a) f g h n = n a h
bind_cong_where P (refuse e) f g h n = refl
