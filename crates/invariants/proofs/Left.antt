-- After the exits of a firing: below the scope nothing is active, elsewhere all is as it was, and filled slots lead on.
-- Assumes nothing.
use mathlib.Core.Path.{◌∙◌, ◌≡◌, refl, subst, sym}
use mathlib.Core.Logic.{⊎_elim}
use Prim.Native.Nat.{◌+◌, ◌-◌, ◌<◌, ◌≤◌, suc, ℕ}
use native.Mathlib.Omega.{arith}
use mathlib.Core.Bool.{Bool, cond, false, true, true≢false}
use mathlib.Core.List.{reverse}
use lib.ListN.{length}
use lib.IntN.{ℤ}
use Rattle.invariants.proofs.Config.{Config, no_hole}
use Rattle.invariants.proofs.Keeps.{Gives, Outside, gives_map}
use Rattle.invariants.proofs.Leaving.{Leaving, falling, leaves, reverse_range}
use Rattle.invariants.proofs.Slots.{Lead}
use Rattle.laws.proofs.Lists.{is_false, le_or_lt}
use Rattle.laws.proofs.Preorder.{Run, sub_kept, sub_run}
use Rattle.laws.proofs.Sound.{SoundChart}
use Rattle.laws.proofs.Tree.{has_under, under_has, under_lt}
use Rattle.laws.specs.Facts.{Under}
use Rattle.meaning.specs.Chart.{Chart}
use Rattle.meaning.specs.Lists.{has}
use Rattle.meaning.specs.Reaction.{leave_active, leave_all}
use Rattle.meaning.specs.Steps.{each}
use Rattle.meaning.specs.Tree.{ancestors, descendants}
use Rattle.meaning.specs.Widget.{Ctx, is_active, set_queue, set_value}
use Rattle.meaning.specs.declared.State.{State}

-- what leaving the span below s makes of the marks
unfoldable pub left_on : Chart → (ℕ → Bool) → ℕ → ℕ → Bool
left_on c on s y = cond (has s (ancestors c y)) false (on y)

pub record Left (c : Chart) (on : ℕ → Bool) (s : ℕ) (u : State) : Type 0 where
  pub lead : Lead c u.slots
  pub marks : (y : ℕ) → is_active u y ≡ left_on c on s y

pub left_outside : (c : Chart) (on : ℕ → Bool) (s : ℕ) → Outside (Left c on s)
unfolding set_value set_queue is_active
left_outside c on s = record {
  values = λ u v x h. record { lead = h.lead; marks = h.marks };
  queue = λ u q h. record { lead = h.lead; marks = h.marks };
}

module _ (c : Chart) (r : SoundChart c) (s n : ℕ) (e : suc s + n ≡ length c.states) where
  run : Run (λ d. has s (ancestors c d)) (suc s) n
  run = sub_run c r.ordered s n e

  -- an active state under s is one of the run
  in_run : (on : ℕ → Bool) → ((y : ℕ) → on y ≡ true → y < length c.states) → (y : ℕ) → Under c s y → on y ≡ true → y < suc s + run.k
  in_run on i y v o = ⊎_elim
      (λ l. absurd (true≢false (sym (under_has c r.ordered s y v) ∙ run.outside y l (omega (arith, i y o)))))
      (λ l. l)
      (le_or_lt (suc s + run.k) y)

  begins : (u : State) → Config c (is_active u) no_hole
      → Lead c u.slots → length c.states ≤ length u.slots → Leaving c (is_active u) s (suc (s + run.k)) u
  begins u g l w = record {
    lead = l;
    stored = λ y m v o k. absurd (omega (arith, in_run (is_active u) g.inside (suc y) v o));
    same = λ y m. refl;
    off = λ y m v. is_false (is_active u y) (λ o. omega (arith, in_run (is_active u) g.inside y v o));
    kept = λ y v. refl;
    wide = w;
  }

  ends : (on : ℕ → Bool) (u : State) → Leaving c on s (suc (s + 0)) u → Left c on s u
  unfolding left_on
  ends on u h = record { lead = h.lead; marks = λ y. go y (has s (ancestors c y)) refl }
    where
      go : (y : ℕ) (b : Bool) → has s (ancestors c y) ≡ b → is_active u y ≡ cond b false (on y)
      go y true q = let v = has_under c s y q in h.off y (omega (arith, under_lt c r.ordered v)) v
      go y false q = h.kept y (λ v. true≢false (sym (under_has c r.ordered s y v) ∙ q))

  leave_all_by : (a : ℤ) (k : Ctx) → Config c (is_active k.state) no_hole
      → Lead c k.state.slots → length c.states ≤ length k.state.slots
      → Gives (leave_all c a (descendants c s) k) (λ j. Left c (is_active k.state) s j.state)
  unfolding leave_all run
  leave_all_by a k g l w =
      subst (λ xs. Gives (each (leave_active c a) (reverse xs) k) (λ j. Left c (is_active k.state) s j.state))
      (sym (sub_kept c r.ordered s n e))
      (subst (λ xs. Gives (each (leave_active c a) xs k) (λ j. Left c (is_active k.state) s j.state)) (sym (reverse_range s run.k))
      (gives_map {A = Ctx} (λ j. Leaving c (is_active k.state) s (suc (s + 0)) j.state)
      (λ j. Left c (is_active k.state) s j.state) (each (leave_active c a) (falling s run.k) k)
      (leaves c r (is_active k.state) g s a
      run.k (λ z p q. (has_under c s (suc z) (run.inside (suc z) (omega arith) (omega arith)), omega (arith, run.fits))) k
      (begins k.state g l w))
      (λ j h. ends (is_active k.state) j.state h)))

pub leave_all_leads : (c : Chart) → SoundChart c → (a : ℤ) (s : ℕ) → s < length c.states → (k : Ctx)
    → Config c (is_active k.state) no_hole → Lead c k.state.slots → length c.states ≤ length k.state.slots
    → Gives (leave_all c a (descendants c s) k) (λ j. Left c (is_active k.state) s j.state)
leave_all_leads c r a s l = leave_all_by c r s (length c.states - suc s) (omega arith) a
