-- What is shown of a public function's contract ("two results it allows are equal", 01, "Promises"): over its arguments A, its
-- result R, its arguments at exit E, and what it wrote where it was lent, L. Assumes nothing.
use mathlib.Core.Path.{◌≡◌, sym, ◌∙◌}

pub record Settles {A R E L : Type 0} (given asked : A → Type 0) (learnt promise : A → R → E → Type 0) (lent : E → L) : Type 0 where
  -- it may be called on every input of which this is given
  pub asks : (a : A) → given a → asked a
  -- it says its promise
  pub promised : (a : A) (r : R) (x : E) → learnt a r x → promise a r x
  -- two results that it allows are equal, and so is what it wrote
  pub unique : (a : A) (r s : R) (x y : E) → learnt a r x → learnt a s y → (r ≡ s) × (lent x ≡ lent y)

pub one : {A : Type 0} {d x y : A} → x ≡ d → y ≡ d → x ≡ y
one p q = p ∙ sym q

abbrev pub nothing : {A : Type 0} → A → Type 0
nothing a = Unit {0}
