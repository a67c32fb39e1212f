-- What a function that writes an entry and then changes one place has to show, for each of the effects. Assumes nothing.
use Rattle.std.proofs.Common.{◌≡◌, refl, sym, ◌∙◌, ℕ, List, get_or, set, ℤ, pos, ◌+ℤ◌, Ok, Err, None, Some, Option, true, false}
use Rattle.std.specs.Prelude.{Result}
use Rattle.queue.specs.declared.Queue.{Queue}
use Rattle.queue.specs.Queue.{appended, appended_by}
use Rattle.meaning.specs.declared.answers.Refusal.{Refusal}
use Rattle.meaning.specs.declared.answers.Refusal.TheVariants.{QueueFull}
use Rattle.meaning.specs.declared.State.{State}
use Rattle.meaning.specs.Steps.{ok, Step, bind, ◌then◌, require, look}
use Rattle.meaning.specs.Widget.{Ctx, numbers, emit, change, set_active, set_slot, set_value, set_queue, value_at}
use Rattle.meaning.specs.declared.Entry.{Entry}
use Rattle.meaning.specs.declared.Entry.TheVariants.{Left as left, Entered as entered, Changed as changed, Sent as sent, Told as told}
use Rattle.numbers.specs.Hold.{hold_z}
use Rattle.meaning.specs.declared.chart.VarRow.{VarRow}
use Rattle.meaning.specs.declared.chart.Act.{Act}
use Rattle.meaning.specs.declared.chart.Act.TheVariants.{SetTo as set_to, AddTo as add_to, TakeTo as take_to, Send as send, Tell as tell}
use Rattle.meaning.specs.Effects.{held, assign, act_on, take_queue, enqueue, store_in, mark_left, mark_entered}
use Rattle.widget.specs.View.{ctx, went, Noted, Did}
use Rattle.widget.specs.Acts.{stored, adding, sending}
use Rattle.widget.proofs.Noting.{emit_notes}
use Rattle.widget.proofs.Going.{then_on, then_stop, same_step}

module _ {u : State} {t : List ℤ} {at : ℕ} {t' : List ℤ} where
  -- an entry written is `emit`, over any state
  pub notes : {r : Result ℕ Refusal} (e : Entry) → Noted (numbers e) t at r t' → Did (emit e) u t at r u t'
  notes e d = record { does = d.does u ∙ sym (emit_notes e (ctx u t at)); fits = d.fits; kept = d.kept }

  -- no room: the effect does not go on
  notes_stop : {r : Refusal} (e : Entry) (E : Step Ctx) → Noted (numbers e) t at (Err r) t' → Did (emit e then E) u t at (Err r) u t'
  notes_stop e E d = then_stop E (notes e d)

  -- the effect goes on after its entry
  notes_on : {n : ℕ} (e : Entry) (E : Step Ctx) {u₁ : State} → Noted (numbers e) t at (Ok n) t'
      → E (ctx u t' n) ≡ ok (ctx u₁ t' n) → Did (emit e then E) u t at (Ok n) u₁ t'
  unfolding went
  notes_on e E d g = then_on {E = E} (notes e d) (record { does = sym g; fits = d.fits; kept = refl })

  -- ---- a variable and its new value

  pub stored_stop : (v : ℕ) (x : ℤ) {r : Refusal} → Noted (numbers (changed v x)) t at (Err r) t' → Did (stored v x) u t at (Err r) u t'
  unfolding stored
  stored_stop v x d = notes_stop (changed v x) (change (set_value v x)) d

  pub stored_on : (v : ℕ) (x : ℤ) {n : ℕ} → Noted (numbers (changed v x)) t at (Ok n) t'
      → Did (stored v x) u t at (Ok n)
      (record { started = u.started; active = u.active; slots = u.slots; vars = set u.vars v x; queue = u.queue }) t'
  unfolding stored change set_value ctx
  stored_on v x d = notes_on (changed v x) (change (set_value v x)) d refl

  -- ---- a sent event

  pub sending_stop : (e : ℕ) (x : ℤ) {r : Refusal} → Noted (numbers (sent e x)) t at (Err r) t' → Did (sending e x) u t at (Err r) u t'
  unfolding sending
  sending_stop e x d = notes_stop (sent e x) (enqueue (pos e) x) d

  module _ (e : ℕ) (x : ℤ) {n : ℕ} (d : Noted (numbers (sent e x)) t at (Ok n) t') {q : Queue} where
    pub sending_full : appended_by (Err q) ≡ appended u.queue (pos e) x → Did (sending e x) u t at (Err QueueFull) u t'
    unfolding sending enqueue look take_queue require ◌then◌ bind ctx went
    sending_full f = then_on {E = enqueue (pos e) x} (notes (sent e x) d) (record { does = rw (sym f); fits = tt; kept = refl })

    pub sending_on : appended_by (Ok q) ≡ appended u.queue (pos e) x → Did (sending e x) u t at (Ok n)
        (record { started = u.started; active = u.active; slots = u.slots; vars = u.vars; queue = q }) t'
    unfolding sending enqueue look take_queue require ◌then◌ bind ctx change set_queue
    sending_on f = notes_on (sent e x) (enqueue (pos e) x) d (rw (sym f))

  -- ---- a state left, a state entered

  pub left_stop : (p : Option ℕ) (i : ℕ) {r : Refusal} → Noted (numbers (left i)) t at (Err r) t' → Did (mark_left p i) u t at (Err r) u t'
  unfolding mark_left
  left_stop p i d = notes_stop (left i) (change (λ w. store_in p i (set_active i false w))) d

  pub left_alone : (i : ℕ) {n : ℕ} → Noted (numbers (left i)) t at (Ok n) t' → Did (mark_left None i) u t at (Ok n)
      (record { started = u.started; active = set u.active i false; slots = u.slots; vars = u.vars; queue = u.queue }) t'
  unfolding mark_left change set_active store_in ctx
  left_alone i d = notes_on (left i) (change (λ w. store_in None i (set_active i false w))) d refl

  pub left_in : (o i : ℕ) {n : ℕ} {x : ℤ} → Noted (numbers (left i)) t at (Ok n) t' → x ≡ pos i → Did (mark_left (Some o) i) u t at (Ok n)
      (record { started = u.started; active = set u.active i false; slots = set u.slots o x; vars = u.vars; queue = u.queue }) t'
  unfolding mark_left change set_active set_slot store_in ctx
  left_in o i d f = notes_on (left i) (change (λ w. store_in (Some o) i (set_active i false w))) d (rw f)

  pub entered_stop : (i : ℕ) {r : Refusal} → Noted (numbers (entered i)) t at (Err r) t' → Did (mark_entered i) u t at (Err r) u t'
  unfolding mark_entered
  entered_stop i d = notes_stop (entered i) (change (set_active i true)) d

  pub entered_on : (i : ℕ) {n : ℕ} → Noted (numbers (entered i)) t at (Ok n) t' → Did (mark_entered i) u t at (Ok n)
      (record { started = u.started; active = set u.active i true; slots = u.slots; vars = u.vars; queue = u.queue }) t'
  unfolding mark_entered change set_active ctx
  entered_on i d = notes_on (entered i) (change (set_active i true)) d refl

-- ---- the acts

module _ {u : State} {t : List ℤ} {at : ℕ} {r : Result ℕ Refusal} {u₁ : State} {t₁ : List ℤ} (row : VarRow) (v : ℕ) (x : ℤ) where
  pub assigned : Did (stored v (hold_z x row.low row.high)) u t at r u₁ t₁ → Did (assign row v x) u t at r u₁ t₁
  unfolding assign held stored
  assigned d = d

  pub added : Did (stored v (hold_z (get_or u.vars v (pos 0) +ℤ x) row.low row.high)) u t at r u₁ t₁ → Did (adding row v x) u t at r u₁ t₁
  unfolding adding assign held stored look value_at ctx
  added d = same_step (adding row v x) refl d

module _ {u : State} {t : List ℤ} {at : ℕ} {r : Result ℕ Refusal} {u₁ : State} {t₁ : List ℤ} (row : VarRow) (arg : ℤ) {act : Act} where
  pub act_set : {v : ℕ} {x : ℤ} → act ≡ set_to v x → Did (assign row v x) u t at r u₁ t₁ → Did (act_on row arg act) u t at r u₁ t₁
  unfolding act_on
  act_set e d = rw e d

  pub act_add : {v : ℕ} {x : ℤ} → act ≡ add_to v x → Did (adding row v x) u t at r u₁ t₁ → Did (act_on row arg act) u t at r u₁ t₁
  unfolding act_on adding
  act_add e d = rw e d

  pub act_take : {v : ℕ} → act ≡ take_to v → Did (assign row v arg) u t at r u₁ t₁ → Did (act_on row arg act) u t at r u₁ t₁
  unfolding act_on
  act_take e d = rw e d

  pub act_send : {e : ℕ} {x : ℤ} → act ≡ send e x → Did (sending e x) u t at r u₁ t₁ → Did (act_on row arg act) u t at r u₁ t₁
  unfolding act_on sending
  act_send e d = rw e d

  pub act_tell : {x : ℤ} → act ≡ tell x → Did (emit (told x)) u t at r u₁ t₁ → Did (act_on row arg act) u t at r u₁ t₁
  unfolding act_on
  act_tell e d = rw e d
