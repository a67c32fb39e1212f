-- What every step keeps true of all that it works on, whatever phase of a firing it stands in: the started mark, the sizes, the
-- values and the queue of the test for 6, slots that hold children, and a trace in which every entry names what the chart has.
-- Assumes nothing.
use Rattle.std.specs.Prelude.{None, Some}
use mathlib.Core.Path.{◌∙◌, ◌≡◌, refl, subst, sym}
use mathlib.Core.Logic.{⊎_elim}
use Prim.Native.Nat.{◌<◌, ◌≤◌, suc, zero, ℕ}
use native.Mathlib.Omega.{arith}
use mathlib.Core.Bool.{Bool, cond, false, true}
use mathlib.Core.List.{List, [], ◌++◌, ◌∷◌}
use lib.ListN.{get_or, length, length-set, set}
use lib.Seq.{get_or-set_other, get_or-set_same, set_out}
use lib.Dec.{leb}
use lib.IntN.{◌+ℤ◌, negsuc, pos, ℤ}
use lib.Signed.{le_z}
use borrow.Author.Tests.{le-leb}
use Rattle.invariants.specs.Good.{EntryOk, Good, SlotOk, SlotsOk, Traced}
use Rattle.invariants.proofs.Values.{appended_fits, held_in_row, values_set}
use Rattle.laws.proofs.Lists.{and_both, each_both, each_joined, le_or_lt, same_or}
use Rattle.laws.specs.Facts.{none_left, one_more}
use Rattle.laws.proofs.Rules.{ActFacts, o_of}
use Rattle.laws.proofs.Sound.{SoundChart, acts_each, acts_sound, parent_child}
use Rattle.laws.proofs.Stays.{Stays, each_stays, look_stays, then_stays}
use Rattle.laws.proofs.Steps.{Holds}
use Rattle.laws.proofs.Trace.{numbers_more}
use Rattle.laws.proofs.Value.{ActInRange, SizedChart}
use Rattle.meaning.specs.Chart.{Chart}
use Rattle.meaning.specs.Effects.{act_on, act_var, acts_of, assign, enqueue, enter, held, leave, mark_entered, mark_left}
use Rattle.meaning.specs.Effects.{o_parent, perform, perform_all}
use Rattle.meaning.specs.Effects.{store_in, take_queue}
use Rattle.meaning.specs.Entry.{Visit, by_default, plain, state_of, visit}
use Rattle.meaning.specs.Foreign.{event_fits, queue_fits}
use Rattle.meaning.specs.Rules.{within_row}
use Rattle.meaning.specs.Steps.{◌then◌, bind, look, require}
use Rattle.meaning.specs.Tree.{is_o, kind_of, parent_of, var_row}
use Rattle.meaning.specs.Widget.{Ctx, ENTRY, change, emit, numbers, set_active, set_queue}
use Rattle.meaning.specs.declared.Entry.{Entry}
use Rattle.meaning.specs.declared.Entry.TheVariants.{Changed as changed, Entered as entered, Left as left, Sent as sent}
use Rattle.meaning.specs.Widget.{set_slot, set_value}
use Rattle.meaning.specs.Widget.{value_at, add_numbers}
use Rattle.meaning.specs.declared.Entry.TheVariants.{Told as told}
use Rattle.meaning.specs.declared.chart.Act.{Act}
use Rattle.meaning.specs.declared.chart.Act.TheVariants.{AddTo as add_to, Send as send, SetTo as set_to, TakeTo as take_to, Tell as tell}
use Rattle.meaning.specs.declared.chart.Owner.{Owner}
use Rattle.meaning.specs.declared.chart.Owner.TheVariants.{DefaultOf as default_of, EntryOf as entry_of, ExitOf as exit_of}
use Rattle.numbers.specs.Range.{in_range}
use Rattle.queue.proofs.Tidy.{appended_long}
use Rattle.queue.proofs.Waiting.{appended_full}
use Rattle.queue.specs.Queue.{appended}
use Rattle.queue.specs.declared.Queue.{Queue}
use Rattle.queue.specs.Queue.{Queued}
use Rattle.sizes.specs.Sizes.{QUEUE}

traced_more : (c : Chart) (out : List ℤ) (e : Entry) → EntryOk c e → Traced c out → Traced c (out ++ numbers e)
traced_more c out e h t =
    (t.0 ++ (e ∷ []), numbers_more t.0 out e t.1, each_joined (EntryOk c) t.0 (e ∷ []) t.2 (one_more h none_left))

-- ---- the few changes

module _ (c : Chart) where
  pub emit_good : (e : Entry) → EntryOk c e → Stays (Good c) (emit e)
  unfolding emit add_numbers ◌then◌ require bind
  emit_good e h k g = go (leb ENTRY k.room)
    where
      go : (b : Bool) → Holds (bind (require 11 b k) (add_numbers (numbers e))) (Good c)
      go true = record {
        started = g.started;
        sized = g.sized;
        values = g.values;
        queue = g.queue;
        slots = g.slots;
        trace = traced_more c k.out e h g.trace;
      }
      go false = tt

  pub set_active_good : (s : ℕ) (b : Bool) → Stays (Good c) (change (set_active s b))
  unfolding change set_active
  set_active_good s b k g = record {
    started = g.started;
    sized = record {
      active = length-set k.state.active s b ∙ g.sized.active;
      slots = g.sized.slots;
      vars = g.sized.vars;
      items = g.sized.items;
    };
    values = g.values;
    queue = g.queue;
    slots = g.slots;
    trace = g.trace;
  }

  -- a child of an o state stored in its slot
  slots_set : (sl : List ℤ) (p d : ℕ) → SlotOk c p (pos d) → SlotsOk c sl → SlotsOk c (set sl p (pos d))
  slots_set sl p d h g s = ⊎_elim
      (λ q. ⊎_elim
      (λ l. subst (λ x. SlotOk c s (get_or x s (negsuc 0))) (sym (set_out sl p (pos d) l)) (g s))
      (λ l. subst (λ x. SlotOk c x (get_or (set sl p (pos d)) x (negsuc 0)))
      (sym q) (subst (SlotOk c p) (sym (get_or-set_same sl p (pos d) (negsuc 0) l)) h))
      (le_or_lt (length sl) p))
      (λ q. subst (SlotOk c s) (sym (get_or-set_other sl p s (pos d) (negsuc 0) q)) (g s))
      (same_or s p)

  pub set_slot_good : (p d : ℕ) → SlotOk c p (pos d) → Stays (Good c) (change (set_slot p d))
  unfolding change set_slot
  set_slot_good p d h k g = record {
    started = g.started;
    sized = record {
      active = g.sized.active;
      slots = length-set k.state.slots p (pos d) ∙ g.sized.slots;
      vars = g.sized.vars;
      items = g.sized.items;
    };
    values = g.values;
    queue = g.queue;
    slots = slots_set k.state.slots p d h g.slots;
    trace = g.trace;
  }

  pub set_queue_good : (q : Queue) → queue_fits c.events q ≡ true → length q.items ≡ QUEUE → Stays (Good c) (change (set_queue q))
  unfolding change set_queue
  set_queue_good q h l k g = record {
    started = g.started;
    sized = record { active = g.sized.active; slots = g.sized.slots; vars = g.sized.vars; items = l };
    values = g.values;
    queue = h;
    slots = g.slots;
    trace = g.trace;
  }

-- ---- the acts

module _ (c : Chart) (h : SoundChart c) (z : SizedChart c) where
  set_value_good : (v : ℕ) (x : ℤ) → v < length c.vars
      → within_row (var_row c.vars v) x ≡ true → Stays (Good c) (change (set_value v x))
  unfolding change set_value
  set_value_good v x l e k g = record {
    started = g.started;
    sized = record {
      active = g.sized.active;
      slots = g.sized.slots;
      vars = length-set k.state.vars v x ∙ g.sized.vars;
      items = g.sized.items;
    };
    values = values_set c.vars k.state.vars v x l (omega (arith, g.sized.vars, z.vars)) e g.values;
    queue = g.queue;
    slots = g.slots;
    trace = g.trace;
  }

  pub assign_good : (v : ℕ) (x : ℤ) → v < length c.vars → Stays (Good c) (assign (var_row c.vars v) v x)
  unfolding assign
  assign_good v x l =
      let e = held_in_row (var_row c.vars v) x (h.rows v l).0 (h.rows v l).1 in
      then_stays (Good c) _ _ (emit_good c (changed v (held (var_row c.vars v) x)) (l, e))
      (set_value_good v (held (var_row c.vars v) x) l e)

  pub enqueue_good : (e x : ℤ) → event_fits c.events e x ≡ true → Stays (Good c) (enqueue e x)
  unfolding enqueue look take_queue ◌then◌ require bind
  enqueue_good e x f k g = ⊎_elim full room (le_or_lt QUEUE k.state.queue.len)
    where
      Done : Queued → Type 0
      Done q = Holds (bind (require 9 q.done k) (change (set_queue q.queue))) (Good c)

      full : QUEUE ≤ k.state.queue.len → Done (appended k.state.queue e x)
      full l = subst Done (sym (appended_full k.state.queue e x l)) tt

      room : k.state.queue.len < QUEUE → Done (appended k.state.queue e x)
      room l = on (appended k.state.queue e x).done
        where
          on : (b : Bool) → Holds (bind (require 9 b k) (change (set_queue (appended k.state.queue e x).queue))) (Good c)
          on true = set_queue_good c (appended k.state.queue e x).queue
              (appended_fits c.events k.state.queue g.queue g.sized.items e x f l)
              (appended_long k.state.queue e x ∙ g.sized.items) k g
          on false = tt

  sent_fits : (e : ℕ) (x : ℤ) → 1 ≤ e → e ≤ c.events → in_range x ≡ true → event_fits c.events (pos e) x ≡ true
  unfolding event_fits
  sent_fits e x l m r =
      and_both (le_z (pos 1) (pos e)) _ (le-leb 1 e l) (and_both (le_z (pos e) (pos c.events)) _ (le-leb e c.events m) r)

  pub act_good : (a : ℤ) (x : Act) → ActFacts c x × ActInRange x → Stays (Good c) (perform c.vars a x)
  unfolding perform act_on act_var
  act_good a (set_to v x) f = assign_good v x f.0.0
  act_good a (add_to v x) f = look_stays (Good c) _ (λ k g. assign_good v (value_at k.state v +ℤ x) f.0)
  act_good a (take_to v) f = assign_good v a f.0
  act_good a (send e x) f = then_stays (Good c) _ _ (emit_good c (sent e x) (f.0.0, f.0.1, f.1))
      (enqueue_good (pos e) x (sent_fits e x f.0.0 f.0.1 f.1))
  act_good a (tell x) f = emit_good c (told x) f.1

  pub acts_good : (a : ℤ) (o : Owner) → Stays (Good c) (perform_all c a o)
  unfolding perform_all
  acts_good a o = each_stays (Good c) (perform c.vars a) (λ x. ActFacts c x × ActInRange x) (act_good a) (acts_of c o)
      (each_both (ActFacts c) ActInRange (acts_of c o) (acts_sound c h o) (acts_each ActInRange c z.acts_range o))

  -- ---- leaving and entering one state

  pub enter_good : (a : ℤ) (s : ℕ) → s < length c.states → Stays (Good c) (enter c a s)
  unfolding enter mark_entered
  enter_good a s l = then_stays (Good c) _ _ (then_stays (Good c) _ _ (emit_good c (entered s) l) (set_active_good c s true))
      (acts_good a (entry_of s))

  pub visit_good : (a : ℤ) (v : Visit) → state_of v < length c.states → Stays (Good c) (visit c a v)
  unfolding visit state_of
  visit_good a (plain s) l = enter_good a s l
  visit_good a (by_default p s) l = then_stays (Good c) _ _ (acts_good a (default_of p)) (enter_good a s l)

  stored_good : (s : ℕ) → s < length c.states → Stays (Good c) (change (λ u. store_in (o_parent c s) s (set_active s false u)))
  unfolding o_parent store_in change
  stored_good zero l k g = set_active_good c zero false k g
  stored_good (suc n) l k g = go (is_o (kind_of c (parent_of c (suc n)))) refl
    where
      next : Ctx
      next = record { state = set_active (suc n) false k.state; out = k.out; room = k.room }

      go : (b : Bool) → is_o (kind_of c (parent_of c (suc n))) ≡ b
          → Good c (record {
            state = store_in (cond b (Some (parent_of c (suc n))) None)
                (suc n) (set_active (suc n) false k.state);
            out = k.out;
            room = k.room;
          })
      go true e = set_slot_good c (parent_of c (suc n))
          (suc n) (o_of _ e, parent_child c (parent_of c (suc n)) n refl, l) next (set_active_good c (suc n) false k g)
      go false e = set_active_good c (suc n) false k g

  pub leave_good : (a : ℤ) (s : ℕ) → s < length c.states → Stays (Good c) (leave c a s)
  unfolding leave mark_left
  leave_good a s l = then_stays (Good c) _ _ (then_stays (Good c) _ _ (emit_good c (left s) l) (stored_good s l)) (acts_good a (exit_of s))
