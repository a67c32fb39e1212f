-- Laws of the session's steps that the code's proofs cite: a call that is reported, a refusal that is reported. Assumes nothing.
use mathlib.Core.Path.{◌≡◌, refl, sym, ap, ◌∙◌}
use mathlib.Core.Bool.{true, false}
use mathlib.Core.List.{List, []}
use Prim.Native.Nat.{ℕ, ◌+◌, ◌*◌, ◌≤◌}
use borrow.Author.Tests.{eq-eqb, ne_eqb}
use native.Mathlib.Omega.{arith}
use lib.IntN.{ℤ}
use lib.ListN.{length}
use Rattle.pen.specs.Pen.{pen, put_all}
use Rattle.meaning.specs.declared.State.{State}
use Rattle.meaning.specs.declared.Called.{Called}
use Rattle.meaning.specs.Chart.{Chart}
use Rattle.meaning.specs.Steps.{Res, ok, refuse}
use Rattle.meaning.specs.Split.{LF}
use Rattle.meaning.specs.Widget.{Ctx, ENTRY}
use Rattle.meaning.specs.Value.{chart_of}
use Rattle.meaning.specs.Calls.{Outcome, called, lent, outcome, as_found, start, post, run, start_of, run_of}
use Rattle.meaning.specs.Program.{Input, posts, another_form, ROOM, report, reported, do_line, after_post}
use Rattle.meaning.specs.Rules.{Ruled}
use Rattle.promises.specs.Promises.{Started, Ran}
use Rattle.chart_engine.proofs.ByRules.{start_on, run_on}
use Rattle.console.specs.declared.scan.Scan.{Scan}
use Rattle.console.specs.Scan.{empty, line_at, began}
use Rattle.console.specs.Session.{Turns, ended, by_began, passed, finished}
use Rattle.console.specs.Session.{Under as Seen}
use Rattle.console.specs.Shown.{entries_held, shown, largest}
use Rattle.console.proofs.Lent.{report_lent}
use Rattle.session.specs.declared.Turned.{Turned}
use Rattle.session.specs.declared.Under.{Under}
use Rattle.session.specs.Turned.{Takes, Passes, quiet, LARGEST}

-- what `report` gives
abbrev pub Reported : ℕ → ℕ → List ℤ → List ℕ → ℕ → List ℕ → ℕ → Type 0
Reported number entries trace before at after to =
    (pen after to ≡ put_all (report number (shown entries trace)) (pen before at))
    × (at + largest trace ≤ length before → to ≤ at + largest trace)

module _ (before after : List ℕ) (at to : ℕ) where
  -- a call of the engine, reported
  pub call_takes : (o : Outcome) (r : Called) (l : List ℤ) → r ≡ called o → l ≡ lent ROOM o → length l ≡ ROOM
      → Reported r.answer.number r.entries l before at after to
      → Takes (reported o) before at after (record { state = r.state; at = to })
  unfolding called lent
  call_takes o r l e m k w = record {
    widget = ap (λ x. x.state) e;
    bytes = w.0 ∙ ap (λ b. put_all b (pen before at)) (rw e (report_lent o.number ROOM o.trace l m k));
    whole = λ h. let z : largest l ≡ LARGEST = rw k in let p = w.1 (omega arith) in omega arith;
  }

  -- a start and a run on a chart that was accepted
  module _ (v : List ℤ) (u : State) (h : Ruled v) (t l : List ℤ) (j : length t ≡ ROOM) (k : length l ≡ ROOM) (r : Called)
      (w : Reported r.answer.number r.entries l before at after to) where
    pub start_takes : Started v u t r l
        → Takes (reported (start (chart_of v) u ROOM)) before at after (record { state = r.state; at = to })
    start_takes p =
        let e : start_of v u ROOM ≡ start (chart_of v) u ROOM = start_on v u h ROOM in
        call_takes (start (chart_of v) u ROOM) r l (rw (j, e) at p.result) (rw (j, e) at p.lent) k w

    pub run_takes : Ran v u t r l → Takes (reported (run (chart_of v) u ROOM)) before at after (record { state = r.state; at = to })
    run_takes p =
        let e : run_of v u ROOM ≡ run (chart_of v) u ROOM = run_on v u h ROOM in
        call_takes (run (chart_of v) u ROOM) r l (rw (j, e) at p.result) (rw (j, e) at p.lent) k w

  -- an answer with no entry, reported from a trace that holds none
  pub none_takes : (number : ℕ) (u : State) (l : List ℤ) → length l ≡ 1 → Reported number 0 l before at after to
      → Takes (quiet number u) before at after (record { state = u; at = to })
  unfolding shown
  none_takes number u l k w = record {
    widget = refl;
    bytes = w.0 ∙ (let z : ENTRY * entries_held 0 l ≡ 0 = omega arith in rw z);
    whole = λ h. let z : largest l ≡ 48 = rw k in let p = w.1 (omega arith) in omega arith;
  }

-- ---- a line: "posts and runs"

-- "Any other leaves the state as it was and zeroes the lent output": a refused call has no entry
refused_quiet : (u : State) (r : Res Ctx) → ((outcome u r).number ≡ 0 → ⊥) → (outcome u r).trace ≡ []
unfolding outcome as_found
refused_quiet u (ok k) h = absurd (h refl)
refused_quiet u (refuse n) h = refl

post_quiet : (c : Chart) (u : State) (e a : ℤ) → ((post c u e a).number ≡ 0 → ⊥) → (post c u e a).trace ≡ []
unfolding post
post_quiet c u e a h = refused_quiet u _ h

-- a post that is refused, and one that is done
after_refused : (c : Chart) (o : Outcome) → (o.number ≡ 0 → ⊥) → after_post c o ≡ reported o
unfolding after_post
after_refused c o h = rw (ne_eqb o.number 0 h, after_post)

after_done : (c : Chart) (o : Outcome) → o.number ≡ 0 → after_post c o ≡ reported (run c o.after ROOM)
unfolding after_post
after_done c o h = rw (eq-eqb o.number 0 h, after_post)

module _ (c : Chart) (u : State) (l : Input) (before after : List ℕ) (at : ℕ) (r : Turned) where
  pub turn_wrong : l ≡ another_form → Takes (quiet 1 u) before at after r → Takes (do_line c u l) before at after r
  unfolding do_line
  turn_wrong e w = rw e w

  module _ (e a : ℤ) (is : l ≡ posts e a) (p : Called) (posted : p ≡ called (post c u e a)) where
    pub turn_refused : (p.answer.number ≡ 0 → ⊥) → Takes (quiet p.answer.number p.state) before at after r
        → Takes (do_line c u l) before at after r
    unfolding do_line called
    turn_refused h w =
        let k : (post c u e a).number ≡ 0 → ⊥ = λ z. h (ap (λ x. x.answer.number) posted ∙ z) in
        rw (is, after_refused c (post c u e a) k, post_quiet c u e a k) (rw posted at w)

    pub turn_ran : p.answer.number ≡ 0 → Takes (reported (run c p.state ROOM)) before at after r
        → Takes (do_line c u l) before at after r
    unfolding do_line called
    turn_ran h w = rw (is, after_done c (post c u e a) (sym (ap (λ x. x.answer.number) posted) ∙ h)) (rw posted at w)

-- ---- a line that ends, as a step of the session
module _ (f : Turns) (s : Scan) (u : State) (before : List ℕ) (at : ℕ) where
  abbrev under : Seen
  under = record { state = u; scan = s }

  pub line_takes : (after : List ℕ) (l : Input) (k : Scan) (r : Turned) → l ≡ line_at s → k ≡ empty
      → Takes (f u l) before at after r
      → Passes (ended (f u (line_at s))) before at after (record { state = r.state; scan = k; at = r.at })
  line_takes after l k r e g w = go (rw e at w)
    where
      go : Takes (f u (line_at s)) before at after r
          → Passes (ended (f u (line_at s))) before at after (record { state = r.state; scan = k; at = r.at })
      go w = record { widget = w.widget; line = g; bytes = w.bytes; whole = w.whole }

  module _ (after : List ℕ) (r : Under) (w : Passes (ended (f u (line_at s))) before at after r) where
    -- by its LF
    pub byte_ends : (b : ℕ) → b ≡ LF → Passes (passed f under b) before at after r
    unfolding passed
    byte_ends b h = rw (eq-eqb b LF h) w

    -- by the end of the input
    pub end_begun : began s ≡ true → Passes (finished f under) before at after r
    unfolding finished
    end_begun h = rw h w

  pub end_none : began s ≡ false → Passes (finished f under) before at before (record { state = u; scan = s; at = at })
  unfolding finished put_all
  end_none h = rw h go
    where
      go : Passes (by_began f under false) before at before (record { state = u; scan = s; at = at })
      go = record { widget = refl; line = refl; bytes = refl; whole = λ h. omega arith }
