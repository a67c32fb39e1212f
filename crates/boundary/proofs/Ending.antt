-- What the entry points of a host cite: a call of the engine on the widget that the numbers state, told and kept; a start with room and
-- without. Assumes nothing.
use mathlib.Core.Path.{◌≡◌, refl, sym, ap, ◌∙◌}
use mathlib.Core.Bool.{Bool, true, false, cond}
use mathlib.Core.List.{List, [], ◌∷◌}
use Prim.Native.Nat.{ℕ, ◌<◌, ◌≤◌}
use native.Mathlib.Nat.{sub-zero}
use native.Mathlib.Omega.{arith}
use borrow.Author.Tests.{lt-ltb, le-ltb, eqb-false}
use lib.Dec.{eqb}
use lib.ListN.{length, replicate}
use lib.IntN.{ℤ, pos}
use Rattle.sizes.specs.Sizes.{STATE_NUMBERS}
use Rattle.meaning.specs.declared.Answer.{Answer}
use Rattle.meaning.specs.declared.Called.{Called}
use Rattle.meaning.specs.declared.State.{State}
use Rattle.meaning.specs.Answers.{FOREIGN}
use Rattle.meaning.specs.Lists.{padded}
use Rattle.meaning.specs.Calls.{Outcome, as_found, called, lent, unstarted}
use Rattle.promises.specs.declared.Replayed.{Replayed}
use Rattle.promises.specs.Replay.{Course, replayed}
use Rattle.promises.specs.Saved.{small, widget_of, moved_on}
use Rattle.promises.specs.Host.{Told, Ends, Traces, Stops, kept, too_few, unstarted_into, start_by, start_into}
use Rattle.telling.proofs.Told.{told_as, ends_refused}

-- ---- a call of the engine on the widget that the numbers state

ends_by : {c d : Called} {ns : List ℤ} {r s : ℤ} {rep after : List ℤ} → s ≡ r → c ≡ d → Ends c ns r rep after → Ends d ns s rep after
ends_by {ns = ns} i e h = record {
  tells = told_as i (ap (λ x. x.answer) e) (ap (λ x. x.entries) e) h.tells;
  widget = h.widget ∙ ap (λ x. kept x ns) e;
}

pub ends_as : (f : State → Outcome) {u w : State} {c : Called} {ns : List ℤ} {r s : ℤ} {rep after : List ℤ}
    → u ≡ w → c ≡ called (f u) → s ≡ r → Ends c ns r rep after → Ends (called (f w)) ns s rep after
ends_as f e g i h = ends_by i (g ∙ ap (λ x. called (f x)) e) h

pub traces_as : (f : State → Outcome) {u w : State} {c : Called} {ns : List ℤ} {n : ℕ} {r s : ℤ} {rep after out : List ℤ}
    → u ≡ w → c ≡ called (f u) → out ≡ lent n (f u) → s ≡ r → Ends c ns r rep after → Traces (f w) ns n s rep after out
traces_as f {n = n} e g l i h = record { ends = ends_as f e g i h; lent = l ∙ ap (λ x. lent n (f x)) e }

-- ---- a start

-- with room it is a call like another
pub start_room : (a : Answer) (f : State → Outcome) {u : State} {c : Called} {ns : List ℤ} {n : ℕ} {r s : ℤ} {rep after out : List ℤ}
    → STATE_NUMBERS ≤ length ns → u ≡ widget_of ns → c ≡ called (f u) → out ≡ lent n (f u) → s ≡ r → Ends c ns r rep after
    → Traces (start_into a f ns) ns n s rep after out
unfolding start_into start_by
start_room a f {ns = ns} h e g l i t = rw (le-ltb (length ns) STATE_NUMBERS h) (traces_as f e g l i t)

too_few_refuses : (a : Answer) → (too_few a).number ≡ 0 → ⊥
unfolding too_few
too_few_refuses a e = go (eqb a.number 0) refl e
  where
    go : (t : Bool) → eqb a.number 0 ≡ t → (cond t (record { number = FOREIGN; place = 0 }) a).number ≡ 0 → ⊥
    go true p q = absurd (omega arith)
    go false p q = eqb-false a.number 0 p q

-- without room it is refused, and the trace is cleared
pub start_short : (f : State → Outcome) {a v b : Answer} {ns : List ℤ} {n : ℕ} {r s : ℤ} {rep out : List ℤ}
    → length ns < STATE_NUMBERS → v ≡ a → b ≡ too_few v → out ≡ replicate n (pos 0) → s ≡ r → Told b 0 r rep
    → Traces (start_into a f ns) ns n s rep ns out
unfolding start_into start_by as_found called lent padded
start_short f {a = a} {ns = ns} {n = n} h v e l i t =
    rw (lt-ltb (length ns) STATE_NUMBERS h) (record {
      ends = ends_refused _ (too_few_refuses a) i (told_as refl (e ∙ ap too_few v) refl t);
      lent = l ∙ sym (ap (λ k. replicate k (pos 0)) (sub-zero n));
    })

-- ---- a widget not yet started

abbrev made : ℕ → State → Called
made n u = record { answer = record { number = n; place = 0 }; state = u; entries = 0 }

pub unstarted_short : {u : State} {ns : List ℤ} {r s : ℤ} {rep after : List ℤ} → length ns < STATE_NUMBERS → u ≡ unstarted → s ≡ r
    → Ends (made FOREIGN u) ns r rep after → Ends (unstarted_into ns) ns s rep after
unfolding unstarted_into called as_found
unstarted_short {ns = ns} h e i t = rw (lt-ltb (length ns) STATE_NUMBERS h) (ends_by i (ap (made FOREIGN) e) t)

pub unstarted_room : {u : State} {ns : List ℤ} {r s : ℤ} {rep after : List ℤ} → STATE_NUMBERS ≤ length ns → u ≡ unstarted → s ≡ r
    → Ends (made 0 u) ns r rep after → Ends (unstarted_into ns) ns s rep after
unfolding unstarted_into called
unstarted_room {ns = ns} h e i t = rw (le-ltb (length ns) STATE_NUMBERS h) (ends_by i (ap (made 0) e) t)

-- ---- a replay

pub replays_as : (f : State → Course) {u w : State} {p : Replayed} {ns : List ℤ} {r s : ℤ} {rep after : List ℤ}
    → u ≡ w → p ≡ replayed (f u) → s ≡ r → Stops p ns r rep after → Stops (replayed (f w)) ns s rep after
replays_as f {ns = ns} e g i h =
    let q = g ∙ ap (λ x. replayed (f x)) e in
    record {
      answer = i ∙ h.answer ∙ ap (λ x. small x.answer.number) q;
      told = h.told ∙ ap (λ x. small x.answer.place ∷ small x.entries ∷ small x.done ∷ []) q;
      widget = h.widget ∙ ap (λ x. moved_on x.state ns) q;
    }

pub replayed_trace : (f : State → Course) (n : ℕ) {u w : State} {out : List ℤ} → u ≡ w → out ≡ padded n (pos 0) (f u).trace
    → out ≡ padded n (pos 0) (f w).trace
replayed_trace f n e l = l ∙ ap (λ x. padded n (pos 0) (f x).trace) e
