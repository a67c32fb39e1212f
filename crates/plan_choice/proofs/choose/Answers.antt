-- `choose` keeps, place by place of one trigger, that the chosen so far with what the rest adds are the chosen of all. Assumes nothing.
use mathlib.Core.Path.{◌≡◌, refl, sym, ap, ◌∙◌, subst}
use Prim.Native.Nat.{ℕ, ◌+◌, ◌*◌, ◌≤◌, ◌<◌}
use native.Mathlib.Omega.{arith}
use mathlib.Core.Bool.{true, false}
use lib.ListN.{get_or, length, take}
use lib.Seq.{get_or-take, length-take-le}
use Rattle.sizes.specs.Sizes.{STATES, TRANSITIONS}
use Rattle.meaning.specs.Machine.{spans_meet}
use Rattle.meaning.specs.WellFormed.{HEAD_ROW, heads_at}
use Rattle.choice.proofs.Loop.{up_to}
use Rattle.plan_choice.specs.Heads.{head_at, head_of}
use Rattle.plan_choice.specs.Links.{SOURCES}
use Rattle.plan_choice.proofs.Facts.{counts_sized, head_whole, head_names, head_spanned}
use Rattle.plan_choice.proofs.Loop.{turn_begin, turn_few, turn_names, turn_source, turn_head, turn_off}
use Rattle.plan_choice.proofs.Loop.{turn_clash, turn_take}
use Rattle.plan_choice.proofs.Loop.{turn_end, chose_foreign}
use Rattle.plan_choice.proofs.choose.Goals.{In-heads, In-loop-pick}
use Rattle.plan_choice.proofs.choose.Goals as goal

-- ---- the head under way
module _ (c : In-heads) where
  few : c.heads.i < TRANSITIONS
  few =
      let p = c.args.plan.now in
      turn_few p.examined c.heads_at-base.ensures p.linked c.if-event-gt-EVENTS.false c.heads.invariant c.heads-test.true

  names : get_or c.args.plan.now.links c.heads.i 0 < c.args.plan.now.counts.heads
  names =
      let p = c.args.plan.now in
      turn_names p.examined c.heads_at-base.ensures p.linked c.if-event-gt-EVENTS.false c.heads.invariant c.heads-test.true

  sourced : get_or c.args.plan.now.links (SOURCES + c.heads.i) 0
      ≡ (head_of c.args.plan.now.numbers.now (heads_at c.args.plan.now.counts)
      (get_or c.args.plan.now.links c.heads.i 0)).source
  sourced =
      let p = c.args.plan.now in
      turn_source p.examined c.heads_at-base.ensures p.linked c.if-event-gt-EVENTS.false c.heads.invariant c.heads-test.true

  whole : c.heads_at-base.result + get_or c.args.plan.now.links c.heads.i 0 * HEAD_ROW + HEAD_ROW
      ≤ length c.args.plan.now.numbers.now
  whole = let q = head_whole c.args.plan.now.examined _ names in omega (arith, q, c.heads_at-base.ensures)

  named : (get_or c.args.plan.now.links (SOURCES + c.heads.i) 0 < STATES)
  named = omega (arith, sourced, (head_names c.args.plan.now.examined _ names).0)

  room : c.heads.count < TRANSITIONS
  room =
      let p = c.args.plan.now in
      let w = turn_head p.examined c.heads_at-base.ensures p.linked c.if-event-gt-EVENTS.false c.heads.invariant c.heads-test.true in
      omega (arith, w.done.few, names, (counts_sized p.examined).heads)

  held : length c.heads.picks ≡ TRANSITIONS
  held = c.heads.invariant.walk.done.size

-- ---- one of those that were chosen
module _ (c : In-loop-pick) where
  before : c.loop-pick.pick-index < c.heads.count
  before =
      let d = (goal.at.In-loop-pick c).In-heads in
      omega (arith, length-take-le c.heads.count c.heads.picks (omega (arith, room d, held d)), c.loop-pick-test.true)

  -- it stands among the picks
  item : get_or (take c.heads.count c.heads.picks) c.loop-pick.pick-index 0 ≡ get_or c.heads.picks c.loop-pick.pick-index 0
  item = get_or-take c.heads.count c.heads.picks c.loop-pick.pick-index 0 before

  picked : get_or (take c.heads.count c.heads.picks) c.loop-pick.pick-index 0 < c.args.plan.now.counts.heads
  picked = omega (arith, item, c.heads.invariant.walk.done.named c.loop-pick.pick-index before)

-- ---- the answers
pub returns-then-event-gt-EVENTS : goal.returns-then-event-gt-EVENTS
returns-then-event-gt-EVENTS c = chose_foreign c.args.plan.now.examined c.told-picks c.if-event-gt-EVENTS.true

pub heads_at-base-requires : goal.heads_at-base-requires
heads_at-base-requires c = counts_sized c.args.plan.now.examined

pub heads-init : goal.heads-init
heads-init c =
    let p = c.args.plan.now in
    turn_begin p.examined c.heads_at-base.ensures p.linked c.if-event-gt-EVENTS.false c.told-picks

pub bounds-plan-i : goal.bounds-plan-i
bounds-plan-i c = omega (arith, few (goal.at.bounds-plan-i c).In-heads)

pub bounds-plan-i-in-heads : goal.bounds-plan-i-in-heads
bounds-plan-i-in-heads c = omega (arith, few (goal.at.bounds-plan-i-in-heads c).In-heads)

pub overflow_add-at : goal.overflow_add-at
overflow_add-at c = omega (arith, whole (goal.at.overflow_add-at c).In-heads)

pub enabled-requires : goal.enabled-requires
enabled-requires c =
    let d = (goal.at.enabled-requires c).In-heads in
    let x = c.args.plan.now.examined in
    rw c.heads_at-base.ensures (head_whole x _ (names d), named d, (head_names x _ (names d)).1, sourced d)

pub heads-preserved-then-not-enabled : goal.heads-preserved-then-not-enabled
heads-preserved-then-not-enabled c =
    let p = c.args.plan.now in
    turn_off p.examined c.heads_at-base.ensures p.linked c.if-event-gt-EVENTS.false c.heads.invariant c.heads-test.true
    c.enabled.ensures c.if-not-enabled.true

pub shared_ref_as_front-pick-items : goal.shared_ref_as_front-pick-items
shared_ref_as_front-pick-items c = omega (arith, room (goal.at.shared_ref_as_front-pick-items c).In-heads)

pub loop-pick-init : goal.loop-pick-init
loop-pick-init c = λ p l. absurd (omega arith)

pub offset_bounds-pick-items-pick-index : goal.offset_bounds-pick-items-pick-index
offset_bounds-pick-items-pick-index c =
    omega (arith, before c, room (goal.at.offset_bounds-pick-items-pick-index c).In-heads)

pub overflow_mul-pick : goal.overflow_mul-pick
overflow_mul-pick c =
    omega (arith, picked (goal.at.overflow_mul-pick c).In-loop-pick, (counts_sized c.args.plan.now.examined).heads)

pub overflow_add-base : goal.overflow_add-base
overflow_add-base c =
    let q = head_whole c.args.plan.now.examined _ (picked (goal.at.overflow_add-base c).In-loop-pick) in
    omega (arith, q, c.heads_at-base.ensures)

pub meet-requires : goal.meet-requires
meet-requires c =
    let n = names (goal.at.meet-requires c).In-heads in
    let l = picked (goal.at.meet-requires c).In-loop-pick in
    let x = c.args.plan.now.examined in
    rw c.heads_at-base.ensures (head_whole x _ n, head_whole x _ l, head_spanned x _ n, head_spanned x _ l)

pub heads-preserved-then-meet : goal.heads-preserved-then-meet
heads-preserved-then-meet c =
    let p = c.args.plan.now in
    let d = (goal.at.heads-preserved-then-meet c).In-loop-pick in
    turn_clash p.examined c.heads_at-base.ensures p.linked c.if-event-gt-EVENTS.false c.heads.invariant c.heads-test.true
    c.enabled.ensures
    c.if-not-enabled.false c.loop-pick.pick-index (before d)
    (subst
    (λ h. spans_meet (head_at p.numbers.now (c.heads_at-base.result + get_or p.links c.heads.i 0 * HEAD_ROW))
    (head_of p.numbers.now c.heads_at-base.result h) ≡ true)
    (item d) (sym c.meet.ensures ∙ c.if-meet.true))

pub loop-pick-preserved : goal.loop-pick-preserved
loop-pick-preserved c = up_to _ _ c.loop-pick.invariant (sym c.meet.ensures ∙ c.if-meet.false)

pub offset_bounds-picks-count : goal.offset_bounds-picks-count
offset_bounds-picks-count c = omega (arith, room (goal.at.offset_bounds-picks-count c).In-heads)

pub bounds-picks-count : goal.bounds-picks-count
bounds-picks-count c =
    let d = (goal.at.bounds-picks-count c).In-heads in
    omega (arith, room d, held d)

pub heads-preserved : goal.heads-preserved
heads-preserved c =
    let p = c.args.plan.now in
    let d = (goal.at.heads-preserved c).In-heads in
    let n = length-take-le c.heads.count c.heads.picks (omega (arith, room d, held d)) in
    turn_take p.examined c.heads_at-base.ensures p.linked c.if-event-gt-EVENTS.false c.heads.invariant c.heads-test.true
    c.enabled.ensures c.if-not-enabled.false
    (λ j q. subst
    (λ h. spans_meet (head_at p.numbers.now (c.heads_at-base.result + get_or p.links c.heads.i 0 * HEAD_ROW))
    (head_of p.numbers.now c.heads_at-base.result h) ≡ false)
    (get_or-take c.heads.count c.heads.picks j 0 q) (c.loop-pick.invariant j (omega (arith, n))))

pub returns : goal.returns
returns c =
    let p = c.args.plan.now in
    turn_end p.examined c.heads_at-base.ensures p.linked c.if-event-gt-EVENTS.false c.heads.invariant (omega arith) refl
