-- The arms behind the owner of a history (01: "SKIPFULL B over the default arm; the arm; SKIPEMPTY B over the stored arm; the arm") do
-- what the restore does, where it is ready to begin. Assumes nothing.
use Rattle.std.specs.Prelude.{Option, None, Some}
use mathlib.Core.Path.{◌∙◌, ◌≡◌, ap, refl}
use Prim.Native.Nat.{ℕ}
use mathlib.Core.List.{List, ◌∷◌}
use lib.ListN.{length}
use lib.IntN.{ℤ}
use Rattle.agreement.proofs.DefaultArm.{SameSlots, default_arm_does, visits_slots}
use Rattle.agreement.proofs.Running.{Does, DoesWhere, block_does, passed_over, run_append, test_does}
use Rattle.agreement.proofs.StoredArm.{RestoreBegins, stored_arm_agrees}
use Rattle.invariants.proofs.Keeps.{holds_of}
use Rattle.invariants.proofs.Slots.{slot_at}
use Rattle.laws.proofs.Sound.{SoundChart}
use Rattle.laws.proofs.Steps.{Holds}
use Rattle.meaning.specs.Chart.{Chart}
use Rattle.meaning.specs.Compile.{arms, arms_of, default_arm, stored_arm}
use Rattle.meaning.specs.Entry.{all_below, by_defaults, restore, restore_by, visit}
use Rattle.meaning.specs.Machine.{Mach, exec, exec_at, exec_now, go_on, on_if, passing, run_block, run_code}
use Rattle.meaning.specs.Steps.{Res, Step, bind, each, look, ok, refuse, when}
use Rattle.meaning.specs.Widget.{Ctx, is_empty, is_filled, slot}
use Rattle.meaning.specs.declared.plan.Instr.{Instr}
use Rattle.meaning.specs.declared.plan.Instr.TheVariants.{SkipEmpty as skip_empty, SkipFull as skip_full}

-- code that does nothing after a step
then_nothing : (P : Ctx → Type 0) (r : Res Ctx) (F : Step Mach) → Holds r P → ((k : Ctx) → P k → F (passing 0 k) ≡ ok (passing 0 k))
    → bind (go_on r) F ≡ go_on r
unfolding bind go_on
then_nothing P (ok k) F h n = n k h
then_nothing P (refuse e) F h n = refl

module _ (c : Chart) (a : ℤ) (b : ℕ) where
  -- SKIPEMPTY in front of a piece, where the slot is known
  after_empty : (k : Ctx) (p : List Instr) → slot k.state b ≡ None
      → run_code c.vars a (skip_empty b (length p) ∷ p) (passing 0 k) ≡ ok (passing 0 k)
  unfolding run_code each exec exec_at exec_now passing on_if bind is_filled
  after_empty k p e = rw e (passed_over c.vars a p k)

  after_full : (k : Ctx) (d : ℕ) (p : List Instr) → slot k.state b ≡ Some d
      → run_code c.vars a (skip_empty b (length p) ∷ p) (passing 0 k) ≡ run_code c.vars a p (passing 0 k)
  unfolding run_code each exec exec_at exec_now passing on_if bind is_filled
  after_full k d p e = rw e refl

  abbrev second : List Instr
  second = skip_empty b (length (stored_arm c b)) ∷ stored_arm c b

  -- the first test and arm
  default_does : Does (run_code c.vars a (skip_full b (length (default_arm c b)) ∷ default_arm c b))
      (look (λ j. when (is_empty (slot j.state b)) (each (visit c a) (all_below c by_defaults b))))
  unfolding exec exec_at exec_now passing
  default_does = test_does c.vars a _ (default_arm c b) (λ j. is_empty (slot j.state b))
      (each (visit c a) (all_below c by_defaults b)) (λ j. refl) (default_arm_does c a b)

  slot_same : (j : Ctx) (sl : List ℤ) → SameSlots sl j.state → slot j.state b ≡ slot_at sl b
  unfolding slot
  slot_same j sl e = ap (λ l. slot_at l b) e

  module _ (r : SoundChart c) where
    pub arms_do : DoesWhere (λ k. RestoreBegins c b k.state) (run_code c.vars a (arms c b)) (restore c a b)
    unfolding arms arms_of restore restore_by look when is_empty go_on bind slot
    arms_do k y =
        run_append c.vars a (skip_full b (length (default_arm c b)) ∷ default_arm c b) second (passing 0 k)
        ∙ ap (λ x. bind x (run_code c.vars a second)) (default_does k)
        ∙ go (slot k.state b) refl
      where
        go : (x : Option ℕ) → slot k.state b ≡ x
            → bind (go_on (when (is_empty (slot k.state b)) (each (visit c a) (all_below c by_defaults b)) k))
            (run_code c.vars a second) ≡ go_on (restore_by c a b k.state x k)
        go None e = rw e (then_nothing (λ j. SameSlots k.state.slots j.state) (each (visit c a) (all_below c by_defaults b) k)
            (run_code c.vars a second)
            (holds_of (λ j. SameSlots k.state.slots j.state) (each (visit c a) (all_below c by_defaults b) k)
            (visits_slots k.state.slots c a (all_below c by_defaults b) k refl))
            (λ j h. after_empty j (stored_arm c b) (slot_same j k.state.slots h ∙ e)))
        go (Some d) e = rw e (after_full k d (stored_arm c b) e ∙ stored_arm_agrees c r a b k y d e)

    -- as a block
    pub arms_agree : (k : Ctx) → RestoreBegins c b k.state → run_block c.vars a (arms c b) k ≡ restore c a b k
    arms_agree k y = block_does c.vars a (arms c b) (restore c a b) k (arms_do k y)
