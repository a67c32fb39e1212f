-- What is enabled and chosen depends on the active marks and the values alone. Assumes nothing.
use mathlib.Core.Path.{◌≡◌, refl, sym, ap, fun_ext}
use Prim.Native.Nat.{ℕ}
use mathlib.Core.Bool.{true, false, and-false}
use mathlib.Core.List.{[]}
use lib.Dec.{eqb}
use borrow.Author.Tests.{eq-eqb, ne_eqb}
use lib.ListN.{get_or}
use Rattle.meaning.specs.declared.State.{State}
use Rattle.meaning.specs.declared.chart.TransRow.{TransRow}
use Rattle.meaning.specs.declared.chart.Guard.{Guard}
use Rattle.meaning.specs.declared.chart.Guard.TheVariants.{Always as always, Compares as compares}
use Rattle.meaning.specs.Lists.{keep}
use Rattle.meaning.specs.Chart.{Chart}
use Rattle.meaning.specs.Tree.{trans_row, all_transitions}
use Rattle.meaning.specs.Widget.{is_active, value_at}
use Rattle.meaning.specs.Reaction.{guard_holds, enabled_by, enabled, choosing_order, thin, chosen}
use Rattle.choice.specs.Choice.{seen}

pub guard_seen : (g : Guard) (u w : State) → u.vars ≡ w.vars → guard_holds g u ≡ guard_holds g w
unfolding guard_holds value_at
guard_seen always u w e = refl
guard_seen (compares v s x) u w e = rw e

pub enabled_seen : (c : Chart) (e : ℕ) (u : State) (t : ℕ) → enabled c e u t ≡ enabled c e (seen u.active u.vars) t
unfolding enabled enabled_by is_active
enabled_seen c e u t = rw (guard_seen (trans_row c t).guard u (seen u.active u.vars) refl)

pub chosen_seen : (c : Chart) (e : ℕ) (u : State) → chosen c e u ≡ chosen c e (seen u.active u.vars)
unfolding chosen
chosen_seen c e u = ap (λ p. thin c [] (choosing_order c (keep p (all_transitions c)))) (fun_ext (enabled_seen c e u))

-- ---- the tests in turn

pub off_trigger : (r : TransRow) (e : ℕ) (u : State) → (r.trigger ≡ e → ⊥) → false ≡ enabled_by r e u
unfolding enabled_by
off_trigger r e u n = rw (ne_eqb r.trigger e n)

pub off_source : (r : TransRow) (e : ℕ) (u : State) → get_or u.active r.source false ≡ false → false ≡ enabled_by r e u
unfolding enabled_by is_active
off_source r e u n = rw n (sym (and-false (eqb r.trigger e)))

pub on_guard : (r : TransRow) (e : ℕ) (u w : State) → w.vars ≡ u.vars → r.trigger ≡ e → get_or u.active r.source false ≡ true
    → guard_holds r.guard w ≡ enabled_by r e u
unfolding enabled_by is_active
on_guard r e u w v t s = rw (eq-eqb r.trigger e t, s) (guard_seen r.guard w u v)
