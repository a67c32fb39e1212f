-- Laws of feeding a whole part in several walks: what is left of it does to the widget and the line what all of it does. Assumes nothing.
use mathlib.Core.Path.{◌≡◌, refl, sym, ap, ◌∙◌}
use mathlib.Core.List.{List}
use Prim.Native.Nat.{ℕ, ◌≤◌}
use native.Mathlib.Omega.{arith}
use lib.ListN.{length, drop}
use lib.Seq.{drop-length}
use Rattle.console.specs.Session.{Turns, passed_all}
use Rattle.console.specs.Session.{Under as Seen}
use Rattle.console.proofs.Session.{printed_none}
use Rattle.session.specs.declared.Under.{Under}
use Rattle.session.specs.declared.Walked.{Walked}
use Rattle.session.specs.Turned.{seen}
use Rattle.session.specs.Walked.{Walks}
use Rattle.session.proofs.WalkLaws.{walks_within, walks_rest}

module _ (f : Turns) (part : List ℕ) (u : Seen) where
  -- before the byte at i
  pub record Feeding (i : ℕ) (here : Seen) : Type 0 where
    pub within : i ≤ length part
    pub rest : (passed_all f here (drop i part)).under ≡ (passed_all f u part).under

  pub feeding_begins : Feeding 0 u
  feeding_begins = record { within = omega arith; rest = refl }

  module _ (i : ℕ) (here : Seen) (w : Feeding i here) where
    pub feeding_on : (before : List ℕ) (at : ℕ) (after : List ℕ) (r : Walked) → Walks f part i here before at after r
        → Feeding r.upto (seen r.under)
    feeding_on before at after r k = record {
      within = (walks_within f part i here before at after r k w.within).1;
      rest = walks_rest f part i here before at after r k w.within ∙ w.rest;
    }

    pub feeding_done : length part ≤ i → here ≡ (passed_all f u part).under
    feeding_done h =
        let e : i ≡ length part = omega (arith, w.within) in
        let n = ap (λ k. (passed_all f here (drop k part)).under) e in
        let z = ap (λ l. (passed_all f here l).under) (drop-length part) ∙ ap (λ p. p.under) (printed_none f here) in
        sym z ∙ sym n ∙ w.rest
