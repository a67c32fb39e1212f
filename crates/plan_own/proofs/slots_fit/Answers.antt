-- `slots_fit` passes the slot of every state. Assumes nothing.
use Rattle.std.proofs.Common.{rules, tests, ◌∙◌}
use Rattle.std.proofs.lemmas.Iterator.{YieldsList-from_slice}
use Rattle.std.proofs.lemmas.Iterator.Search.{all_from_yields_List}
use lib.ListN.{take}
use Rattle.meaning.specs.Machine.{plan_slot_fits}
use Rattle.plan_own.proofs.Clauses.{all_every}
use Rattle.plan_own.proofs.slots_fit.Goals as goal

pub returns : goal.returns
returns c =
    let a = c.args in
    let h = c.requires in
    all_from_yields_List (plan_slot_fits a.states) _ _ _ c.all.ensures.ran (YieldsList-from_slice (take a.states a.slots) cc)
    (λ x b q k. search (rules, tests)) ∙ all_every (plan_slot_fits a.states) (take a.states a.slots)
