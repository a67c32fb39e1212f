-- Computed: the plan of chart K (01, "Checked by example") is well formed and keeps its root; replay over it of events 1, 2, 1 gives what
-- the single calls give; an event that the plan has not stops it, and the trace stays that of the last run. A well-formed plan that
-- leaves its root, so that replay meets 6 at the next event: the root's mark has to be tested again. Assumes nothing.
use mathlib.Core.Path.{◌≡◌, refl}
use Prim.Native.Nat.{ℕ}
use mathlib.Core.Bool.{false, true}
use mathlib.Core.List.{List, [], ◌∷◌}
use lib.IntN.{negsuc, pos, ℤ}
use Rattle.meaning.proofs.Starred.{entries_1, entries_3, state_3, state_started}
use Rattle.meaning.specs.Calls.{unstarted}
use Rattle.meaning.specs.Examples.{plan_K}
use Rattle.meaning.specs.Lists.{concat_map}
use Rattle.meaning.specs.Machine.{machine_start}
use Rattle.meaning.specs.Open.{all_open}
use Rattle.meaning.specs.WellFormed.{plan_by, well_formed}
use Rattle.meaning.specs.Widget.{numbers}
use Rattle.plan_invariants.specs.Root.{begins_in_root, enters_root, leaves_root, never_leaves_root, starts_in_root}
use Rattle.promises.specs.Replay.{Course, course, replay, replay_open}
use Rattle.queue.specs.Queue.{item}
use Rattle.queue.specs.declared.Item.{Item}

abbrev with_0 : ℕ → Item
with_0 e = item (pos e) (pos 0)

-- the states and entries are those of the starred cases
pub replay_K : replay plan_K state_started (with_0 1 ∷ with_0 2 ∷ with_0 1 ∷ []) 3000 ≡ course 3 0 state_3 (concat_map numbers entries_3)
unfolding all_open replay_open
replay_K = refl

abbrev stopped_K : Course
stopped_K = replay plan_K state_started (with_0 1 ∷ with_0 3 ∷ with_0 1 ∷ []) 3000

pub replay_K_stopped : (stopped_K.done ≡ 1) × (stopped_K.number ≡ 10) × (stopped_K.trace ≡ concat_map numbers entries_1)
unfolding all_open replay_open
replay_K_stopped = (refl, refl, refl)

pub KKeepsRoot : (well_formed plan_K ≡ true) × (never_leaves_root (plan_by plan_K) ≡ true) × (starts_in_root (plan_by plan_K) ≡ true)
unfolding all_open never_leaves_root leaves_root starts_in_root begins_in_root enters_root
KKeepsRoot = (refl, refl, refl)

-- two states, one event, one head for it with source and span 0; the start block is IN 0, the head's block OUT 0 -1
unfoldable pub plan_leaving : List ℤ
plan_leaving =
    pos 2 ∷ pos 0 ∷ pos 1 ∷ pos 1 ∷ pos 2 ∷ pos 1
    ∷ pos 0 ∷ pos 0 ∷ pos 1 ∷ negsuc 0 ∷ pos 0 ∷ pos 0 ∷ pos 0 ∷ pos 0 ∷ pos 1 ∷ pos 1
    ∷ pos 1 ∷ pos 0 ∷ pos 0 ∷ pos 0
    ∷ pos 2 ∷ pos 0 ∷ negsuc 0 ∷ pos 0
    ∷ []

abbrev left_root : Course
left_root = replay plan_leaving (machine_start plan_leaving unstarted 3).after (with_0 1 ∷ with_0 1 ∷ []) 6

pub replay_leaving : (well_formed plan_leaving ≡ true) × (left_root.done ≡ 1) × (left_root.number ≡ 6)
unfolding all_open replay_open plan_leaving
replay_leaving = (refl, refl, refl)

pub leaves_its_root : never_leaves_root (plan_by plan_leaving) ≡ false
unfolding all_open never_leaves_root leaves_root plan_leaving
leaves_its_root = refl
