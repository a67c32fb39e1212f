-- The hypotheses of these laws hold of chart K of 01 ("Checked by example"): they are not empty. Assumes nothing.
use mathlib.Core.Path.{◌≡◌, refl}
use Prim.Native.Nat.{◌<◌, ℕ}
use native.Mathlib.Omega.{arith}
use mathlib.Core.Bool.{Bool, false, true}
use lib.ListN.{length}
use lib.IntN.{pos}
use Rattle.agreement.proofs.Blocks.{block_agrees}
use Rattle.invariants.proofs.Instance.{own_K, rules_K, sized_K}
use Rattle.invariants.proofs.Own.{OwnState, own_whole}
use Rattle.invariants.proofs.Stepping.{Whole}
use Rattle.laws.proofs.Sound.{sound_chart}
use Rattle.meaning.specs.Calls.{start, unstarted}
use Rattle.meaning.specs.Compile.{block}
use Rattle.meaning.specs.Examples.{chart_K}
use Rattle.meaning.specs.Machine.{run_block}
use Rattle.meaning.specs.Open.{all_open}
use Rattle.meaning.specs.Reaction.{fire_to}
use Rattle.meaning.specs.Steps.{Res, ok, refuse}
use Rattle.meaning.specs.Tree.{trans_row}
use Rattle.meaning.specs.Widget.{Ctx, begin, is_active, set_slot}

-- after a start, with room for a thousand entries
abbrev started_K : Ctx
started_K = begin (start chart_K unstarted 3000).after 3000

whole_K : Whole chart_K started_K
whole_K = own_whole chart_K (sound_chart chart_K rules_K) sized_K (start chart_K unstarted 3000).after 3000 own_K

-- the same, and the slot of state 2 holds its child 4
abbrev stored_K : Ctx
stored_K = begin (set_slot 2 4 (start chart_K unstarted 3000).after) 3000

own_stored_K : OwnState chart_K (set_slot 2 4 (start chart_K unstarted 3000).after)
unfolding all_open
own_stored_K = record { sized = record { active = refl; slots = refl; vars = refl; items = refl }; started = refl; is_own = refl }

whole_stored_K : Whole chart_K stored_K
whole_stored_K = own_whole chart_K (sound_chart chart_K rules_K) sized_K (set_slot 2 4 (start chart_K unstarted 3000).after) 3000
    own_stored_K

first_of_three : 0 < length chart_K.transitions
unfolding all_open
first_of_three = omega arith

-- T0 goes to the history of state 2: by the law its block does what its firing does, by the default arm and by the stored arm
abbrev AgreesK : Ctx → Type 0
AgreesK k = run_block chart_K.vars (pos 0) (block chart_K 0) k ≡ fire_to chart_K (pos 0) 0 (trans_row chart_K 0).source
    (trans_row chart_K 0).target k

pub history_K : AgreesK started_K × AgreesK stored_K
history_K = (
  block_agrees chart_K (sound_chart chart_K rules_K) sized_K (pos 0) 0 first_of_three started_K whole_K,
  block_agrees chart_K (sound_chart chart_K rules_K) sized_K (pos 0) 0 first_of_three stored_K whole_stored_K,
)

-- and each is done: the one enters state 3, the other state 4
abbrev in_after : Res Ctx → ℕ → Bool
in_after (ok k) s = is_active k.state s
in_after (refuse n) s = false

pub done_K : in_after (run_block chart_K.vars (pos 0) (block chart_K 0) started_K) 3 ≡ true
unfolding all_open
done_K = refl

pub done_stored_K : in_after (run_block chart_K.vars (pos 0) (block chart_K 0) stored_K) 4 ≡ true
unfolding all_open
done_stored_K = refl
