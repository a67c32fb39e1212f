-- The plan machine's test for answer 6 as its clauses in turn, over plain variables. Assumes nothing.
use mathlib.Core.Path.{◌≡◌, refl, sym, ap, ◌∙◌, subst}
use Prim.Native.Nat.{ℕ, ◌+◌, ◌*◌, ◌≤◌, ◌<◌}
use native.Mathlib.Omega.{arith}
use mathlib.Core.Bool.{Bool, true, false, not, ◌&&◌}
use mathlib.Core.List.{List, [], ◌∷◌}
use borrow.Author.Tests.{le-ltb}
use Rattle.std.specs.List.{list_all}
use lib.Dec.{ltb}
use lib.IntN.{ℤ, pos, negsuc}
use lib.ListN.{length, get_or, take, drop}
use Rattle.sizes.specs.Sizes.{STATES}
use Rattle.numbers.specs.Equal.{eq_z}
use Rattle.numbers.specs.Reference.{ref, NOWHERE}
use Rattle.numbers.proofs.Laws.{eq_z_true}
use Rattle.meaning.specs.declared.State.{State}
use Rattle.meaning.specs.declared.plan.Counts.{Counts}
use Rattle.meaning.specs.declared.chart.VarRow.{VarRow}
use Rattle.meaning.specs.Lists.{every}
use Rattle.meaning.specs.Tree.{var_row}
use Rattle.meaning.specs.Chart.{no_var}
use Rattle.meaning.specs.Value.{VAR_ROW, var_by}
use Rattle.meaning.specs.Widget.{is_active}
use Rattle.meaning.specs.Foreign.{marks_fit, values_fit, queue_fits}
use Rattle.meaning.specs.Machine.{plan_slot_fits, plan_slots_fit, plan_own}
use Rattle.meaning.specs.WellFormed.{SIX, plan_by}
use Rattle.plan_rows.specs.Rows.{row}
use Rattle.plan_rows.proofs.Rows.{vars_length, var_of_plan, var_there}
use Rattle.plan_choice.specs.Heads.{Examined}
use Rattle.plan_choice.proofs.Facts.{passes}

-- what `all` says of a list
pub all_every : (p : ℤ → Bool) (l : List ℤ) → list_all p l ≡ every p l
unfolding every
all_every p [] = refl
all_every p (x ∷ xs) = ap (λ b. p x && b) (all_every p xs)

-- ---- one slot

module _ (n : ℕ) where
  pub slot_empty : (z : ℤ) → eq_z z (negsuc 0) ≡ true → true ≡ plan_slot_fits n z
  unfolding plan_slot_fits
  slot_empty z e = rw (eq_z_true z (negsuc 0) e)

  pub slot_state : (z : ℤ) → n ≤ STATES → eq_z z (negsuc 0) ≡ false → ltb (ref z) n ≡ plan_slot_fits n z
  unfolding plan_slot_fits
  slot_state (pos d) l e = refl
  slot_state (negsuc m) l e = le-ltb NOWHERE n (omega arith) ∙ sym e

-- ---- the variables of a plan

module _ {ns : List ℤ} {k : Counts} (x : Examined ns k) where
  pub vars_many : k.vars ≡ length (plan_by ns).vars
  vars_many = subst (λ q. q.vars ≡ length (plan_by ns).vars) (sym x.counted) (sym (vars_length ns))

  pub row_there : (v : ℕ) → v < k.vars → SIX + (v + 1) * VAR_ROW ≤ length ns
  row_there v l = var_there ns k (passes x).whole v l

  pub row_is : (v : ℕ) → v < k.vars → {r : VarRow} → r ≡ var_by (row VAR_ROW SIX v ns) → r ≡ var_row (plan_by ns).vars v
  unfolding var_row
  row_is v l q = q ∙ sym (var_of_plan ns v no_var (subst (λ c. v < c.vars) x.counted l))

  pub states_is : k.states ≡ (plan_by ns).states
  unfolding plan_by
  states_is = ap (λ c. c.states) x.counted

  pub events_is : k.events ≡ (plan_by ns).events
  unfolding plan_by
  events_is = ap (λ c. c.events) x.counted

-- ---- the clauses

module _ (n : ℕ) (vs : List VarRow) (e : ℕ) (u : State) where
  pub own_rootless : get_or u.active 0 false ≡ false → false ≡ plan_own n vs e u
  unfolding plan_own is_active
  own_rootless a = rw a

  module _ (a : get_or u.active 0 false ≡ true) {m : ℕ} (l : m ≡ n) where
    marks_are : {b : Bool} → every not (drop m u.active) ≡ b → marks_fit n u ≡ b
    unfolding marks_fit
    marks_are f = ap (λ i. every not (drop i u.active)) (sym l) ∙ f

    pub own_marked : every not (drop m u.active) ≡ false → false ≡ plan_own n vs e u
    unfolding plan_own is_active
    own_marked f = rw (a, marks_are f)

    module _ (f : every not (drop m u.active) ≡ true) where
      pub own_out : values_fit vs u.vars ≡ false → false ≡ plan_own n vs e u
      unfolding plan_own is_active
      own_out v = rw (a, marks_are f, v)

      module _ (v : values_fit vs u.vars ≡ true) where
        slots_are : {b : Bool} → every (plan_slot_fits m) (take m u.slots) ≡ b → every (plan_slot_fits n) (take n u.slots) ≡ b
        slots_are g = ap (λ i. every (plan_slot_fits i) (take i u.slots)) (sym l) ∙ g

        rest_are : {b : Bool} → every (eq_z (negsuc 0)) (drop m u.slots) ≡ b → every (eq_z (negsuc 0)) (drop n u.slots) ≡ b
        rest_are g = ap (λ i. every (eq_z (negsuc 0)) (drop i u.slots)) (sym l) ∙ g

        pub own_astray : every (plan_slot_fits m) (take m u.slots) ≡ false → false ≡ plan_own n vs e u
        unfolding plan_own plan_slots_fit is_active
        own_astray s = rw (a, marks_are f, v, slots_are s)

        module _ (s : every (plan_slot_fits m) (take m u.slots) ≡ true) where
          pub own_unused : every (eq_z (negsuc 0)) (drop m u.slots) ≡ false → false ≡ plan_own n vs e u
          unfolding plan_own plan_slots_fit is_active
          own_unused r = rw (a, marks_are f, v, slots_are s, rest_are r)

          pub own_rest : every (eq_z (negsuc 0)) (drop m u.slots) ≡ true → {b : Bool} {i : ℕ} → i ≡ e
              → b ≡ queue_fits i u.queue → b ≡ plan_own n vs e u
          unfolding plan_own plan_slots_fit is_active
          own_rest r h q = rw (a, marks_are f, v, slots_are s, rest_are r) (q ∙ ap (λ x. queue_fits x u.queue) h)
