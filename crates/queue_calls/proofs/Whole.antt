-- The test for answer 6 as its clauses in turn. Assumes nothing.
use mathlib.Core.Path.{◌≡◌, sym, ap, ◌∙◌}
use mathlib.Core.Bool.{Bool, true, false, not}
use Prim.Native.Nat.{ℕ}
use lib.ListN.{length, drop}
use Rattle.meaning.specs.declared.State.{State}
use Rattle.meaning.specs.Chart.{Chart}
use Rattle.meaning.specs.Lists.{every}
use Rattle.meaning.specs.Foreign.{legal, marks_fit, values_fit, slots_fit, queue_fits, own}

module _ (c : Chart) (u : State) where
  pub own_illegal : legal c u ≡ false → false ≡ own c u
  unfolding own
  own_illegal a = rw a

  module _ (a : legal c u ≡ true) where
    marks_are : {b : Bool} {n : ℕ} → n ≡ length c.states → every not (drop n u.active) ≡ b → marks_fit (length c.states) u ≡ b
    unfolding marks_fit
    marks_are l m = ap (λ k. every not (drop k u.active)) (sym l) ∙ m

    module _ {n : ℕ} (l : n ≡ length c.states) where
      pub own_marked : every not (drop n u.active) ≡ false → false ≡ own c u
      unfolding own
      own_marked m = rw (a, marks_are l m)

      module _ (m : every not (drop n u.active) ≡ true) where
        pub own_out : values_fit c.vars u.vars ≡ false → false ≡ own c u
        unfolding own
        own_out v = rw (a, marks_are l m, v)

        module _ (v : values_fit c.vars u.vars ≡ true) where
          pub own_astray : slots_fit c u ≡ false → false ≡ own c u
          unfolding own
          own_astray s = rw (a, marks_are l m, v, s)

          pub own_rest : slots_fit c u ≡ true → {b : Bool} → {e : ℕ} → e ≡ c.events → b ≡ queue_fits e u.queue → b ≡ own c u
          unfolding own
          own_rest s k q = rw (a, marks_are l m, v, s) (q ∙ ap (λ x. queue_fits x u.queue) k)
