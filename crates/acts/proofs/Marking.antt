-- What `leave` asks of a state's o parent, and that what a step keeps holds of what it leaves. Assumes nothing.
use Rattle.std.specs.Prelude.{Option, None, Some, Ok}
use mathlib.Core.Path.{◌≡◌, sym, subst}
use Prim.Native.Nat.{ℕ, zero, suc, ◌<◌}
use mathlib.Core.Bool.{Bool, true, false, cond}
use mathlib.Core.List.{List}
use native.Mathlib.Omega.{arith}
use lib.IntN.{ℤ}
use Rattle.sizes.specs.Sizes.{STATES}
use Rattle.laws.specs.Facts.{Ordered}
use Rattle.laws.proofs.Stays.{Stays}
use Rattle.laws.proofs.Steps.{Holds}
use Rattle.meaning.specs.Chart.{Chart}
use Rattle.meaning.specs.declared.State.{State}
use Rattle.meaning.specs.Effects.{o_parent}
use Rattle.meaning.specs.Rules.{Ruled}
use Rattle.meaning.specs.Steps.{Step}
use Rattle.meaning.specs.Tree.{is_o, kind_of, parent_of}
use Rattle.meaning.specs.Value.{chart_of}
use Rattle.meaning.specs.Widget.{Ctx}
use Rattle.widget.specs.Acts.{Below}
use Rattle.widget.specs.View.{ctx, went, Did}
use Rattle.tree.proofs.Passing.{sound}

-- an o parent is a place of the arrays
parent_in : (c : Chart) → Ordered c → (s : ℕ) → s < STATES → Below STATES (o_parent c s)
unfolding o_parent
parent_in c o zero h = tt
parent_in c o (suc n) h = go (is_o (kind_of c (parent_of c (suc n))))
  where
    go : (b : Bool) → Below STATES (cond b (Some (parent_of c (suc n))) None)
    go true = omega (arith, o.falls n)
    go false = tt

pub o_parent_in : (v : List ℤ) → Ruled v → {s : ℕ} (p : Option ℕ) → p ≡ o_parent (chart_of v) s → s < STATES → Below STATES p
o_parent_in v r {s} p e h = subst (Below STATES) (sym e) (parent_in (chart_of v) (sound v r).ordered s h)

-- what a step keeps holds after a function that did it and went on
pub did_keeps : (P : Ctx → Type 0) {F : Step Ctx} → Stays P F → {u : State} {t : List ℤ} {at n : ℕ} {u₁ : State} {t₁ : List ℤ}
    → Did F u t at (Ok n) u₁ t₁ → P (ctx u t at) → P (ctx u₁ t₁ n)
unfolding went
did_keeps P s {u} {t} {at} d h = subst (λ x. Holds x P) (sym d.does) (s (ctx u t at) h)
