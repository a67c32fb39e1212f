-- Laws of opening the session: a text that is refused, and a chart that was read, which passes the rules. Assumes nothing.
use mathlib.Core.Path.{◌≡◌, refl, sym, ap, ◌∙◌}
use mathlib.Core.Bool.{Bool, true, false}
use mathlib.Core.List.{List, [], ◌∷◌, ◌++◌, append-nil}
use mathlib.Core.Option.{Option, none, some}
use Prim.Native.Nat.{ℕ, ◌+◌, ◌-◌, ◌≤◌}
use native.Mathlib.Omega.{arith}
use lib.Dec.{leb}
use lib.IntN.{ℤ, pos}
use lib.ListN.{length}
use Rattle.meaning.specs.declared.Answer.{Answer}
use Rattle.meaning.specs.Lists.{padded}
use Rattle.meaning.specs.Value.{Rows, VALUE, chart_of, chart_by}
use Rattle.meaning.specs.Rules.{failing_rule}
use Rattle.meaning.specs.Calls.{start, unstarted}
use Rattle.meaning.specs.Text.{Result, done, refused, answer_of, lent_result, lent_numbers, read, read_text, checked, checked_if, by_rule}
use Rattle.meaning.specs.Program.{ROOM, reported, do_line, output_by, output}
use Rattle.meaning.specs.Rules.{Ruled}
use Rattle.reader.proofs.ReadLaws.{read_never_zero}
use Rattle.round_trip.proofs.Round.{read_then_rules, passes}
use Rattle.round_trip.proofs.Values.{enough}
use Rattle.console.specs.Session.{Turns, Passed, passed_all, finished, all_printed}
use Rattle.console.specs.Session.{Under as Seen}
use Rattle.console.proofs.Session.{fresh, session_printed, all_by_parts, under_append, printed_append, printed_none}
use Rattle.std.specs.Prelude.{Ok, Err}
use Rattle.session.specs.declared.Turned.{Turned}
use Rattle.session.specs.Turned.{Takes, Opens, quiet, LARGEST}

-- a read is never refused with 0
never_zero : (text : List ℕ) (n p : ℕ) → read text n ≡ refused 0 p → ⊥
unfolding read
never_zero text n p e = go (read_text text) refl e
  where
    rule : (r : Rows) (o : Option ℕ) → by_rule o r ≡ refused 0 p → ⊥
    rule r none e = let z : ◌≡◌ {A = ℕ} 0 1 = cc in omega arith
    rule r (some k) e = let z : ◌≡◌ {A = ℕ} 3 0 = cc in omega arith

    room : (r : Rows) (t : Bool) → checked_if t r ≡ refused 0 p → ⊥
    room r true e = rule r (failing_rule (chart_by r)) e
    room r false e = let z : ◌≡◌ {A = ℕ} 3 0 = cc in omega arith

    go : (o : Result Rows) → read_text text ≡ o → checked n o ≡ refused 0 p → ⊥
    go (done r) s e = room r (leb VALUE n) e
    go (refused a q) s e = let z : a ≡ 0 = cc in read_never_zero text q (s ∙ ap (λ b. refused b q) z)

-- what was read, in exactly the numbers of a value
read_is : (text : List ℕ) (v l : List ℤ) → read text VALUE ≡ done v → l ≡ padded VALUE (pos 0) v → length l ≡ VALUE → l ≡ v
unfolding padded
read_is text v l e m k =
    let long : VALUE ≤ length v = enough v (passes v (read_then_rules text VALUE v e)).keeps in
    let none_left : VALUE - length v ≡ 0 = omega arith in
    m ∙ rw (none_left, append-nil)

module _ (text : List ℕ) (a : Answer) (l : List ℤ) (before after : List ℕ) (at : ℕ) (r : Turned) where
  pub open_refused : a ≡ answer_of (read text VALUE) → (a.number ≡ 0 → ⊥)
      → Takes (quiet a.number unstarted) before at after r → Opens (read text VALUE) l before at after (Err r)
  unfolding Opens
  open_refused e h w = go (read text VALUE) e
    where
      go : (o : Result (List ℤ)) → a ≡ answer_of o → Opens o l before at after (Err r)
      go (done v) e = absurd (h (ap (λ x. x.number) e))
      go (refused n p) e = rw (ap (λ x. x.number) e) at w

module _ (text : List ℕ) (a : Answer) (l : List ℤ) (e : a ≡ answer_of (read text VALUE)) (m : l ≡ lent_numbers VALUE (read text VALUE))
    (k : length l ≡ VALUE) (z : a.number ≡ 0) where
  -- the outcome is a value that passes the rules, and the numbers are it
  record Read : Type 0 where
    v : List ℤ
    is : read text VALUE ≡ done v
    here : l ≡ v
    ruled : Ruled v

  read_done : Read
  unfolding lent_numbers lent_result
  read_done = go (read text VALUE) refl e m
    where
      go : (o : Result (List ℤ)) → read text VALUE ≡ o → a ≡ answer_of o → l ≡ lent_numbers VALUE o → Read
      go (done v) s e m = record { v = v; is = s; here = read_is text v l s m k; ruled = read_then_rules text VALUE v s }
      go (refused n p) s e m =
          let y : n ≡ 0 = sym (ap (λ x. x.number) e) ∙ z in
          absurd (never_zero text VALUE p (s ∙ ap (λ b. refused b p) y))

  pub read_ruled : Ruled l
  read_ruled = rw read_done.here read_done.ruled

  pub open_started : (before after : List ℕ) (at : ℕ) (r : Turned)
      → Takes (reported (start (chart_of l) unstarted ROOM)) before at after r → Opens (read text VALUE) l before at after (Ok r)
  unfolding Opens
  open_started before after at r w =
      rw read_done.is (record { value = read_done.here; ruled = read_done.ruled; takes = rw read_done.here at w })

-- ---- what a caller learns

module _ (l : List ℤ) (before after : List ℕ) (at : ℕ) (r : Turned) where
  pub ended_whole : (o : Result (List ℤ)) → Opens o l before at after (Err r) → at + LARGEST ≤ length before → r.at ≤ at + LARGEST
  unfolding Opens
  ended_whole (refused n p) w = w.whole
  ended_whole (done v) w = absurd w

  pub opens_whole : (o : Result (List ℤ)) → Opens o l before at after (Ok r) → at + LARGEST ≤ length before → r.at ≤ at + LARGEST
  unfolding Opens
  opens_whole (refused n p) w = absurd w
  opens_whole (done v) w = w.takes.whole

  pub opens_ruled : (o : Result (List ℤ)) → Opens o l before at after (Ok r) → Ruled l
  unfolding Opens
  opens_ruled (refused n p) w = absurd w
  opens_ruled (done v) w = rw w.value w.ruled

-- ---- the whole output: what opening prints, and then, byte by byte, what the session prints

module _ (text input : List ℕ) where
  pub whole_refused : (n p : ℕ) → read text VALUE ≡ refused n p → (quiet n unstarted).printed ≡ output text input
  unfolding output output_by
  whole_refused n p e = rw e

  pub whole_started : (v : List ℤ) → read text VALUE ≡ done v
      → (let t = reported (start (chart_of v) unstarted ROOM) in
      t.printed ++ all_printed (do_line (chart_of v)) (fresh t.state) input) ≡ output text input
  unfolding output output_by
  whole_started v e = rw e (session_printed (chart_of v) (reported (start (chart_of v) unstarted ROOM)) input)

-- ---- the same in stretches, as the program meets the input: each is what one walk passes (its promise is `Walks`)

unfoldable pub joined : List (List ℕ) → List ℕ
joined [] = []
joined (l ∷ ls) = l ++ joined ls

-- stretch after stretch
unfoldable pub in_turn : Turns → Seen → List (List ℕ) → Passed
in_turn f u [] = record { under = u; printed = [] }
in_turn f u (l ∷ ls) =
    let p = passed_all f u l in
    let q = in_turn f p.under ls in
    record { under = q.under; printed = p.printed ++ q.printed }

module _ (f : Turns) where
  pub in_turn_under : (u : Seen) (ls : List (List ℕ)) → (in_turn f u ls).under ≡ (passed_all f u (joined ls)).under
  unfolding in_turn joined
  in_turn_under u [] = sym (ap (λ p. p.under) (printed_none f u))
  in_turn_under u (l ∷ ls) = in_turn_under (passed_all f u l).under ls ∙ sym (under_append f u l (joined ls))

  pub in_turn_printed : (u : Seen) (ls : List (List ℕ)) → (in_turn f u ls).printed ≡ (passed_all f u (joined ls)).printed
  unfolding in_turn joined
  in_turn_printed u [] = sym (ap (λ p. p.printed) (printed_none f u))
  in_turn_printed u (l ∷ ls) =
      ap (λ bs. (passed_all f u l).printed ++ bs) (in_turn_printed (passed_all f u l).under ls) ∙ sym (printed_append f u l (joined ls))

  stretches_printed : (u : Seen) (ls : List (List ℕ))
      → (let p = in_turn f u ls in p.printed ++ (finished f p.under).printed) ≡ all_printed f u (joined ls)
  stretches_printed u ls =
      ap (λ bs. bs ++ (finished f (in_turn f u ls).under).printed) (in_turn_printed u ls)
      ∙ ap (λ w. (passed_all f u (joined ls)).printed ++ (finished f w).printed) (in_turn_under u ls)
      ∙ sym (all_by_parts f u (joined ls))

-- the start, the stretches in turn and the end of the input print the whole output, wherever the input was cut
pub whole_in_stretches : (text : List ℕ) (ls : List (List ℕ)) (v : List ℤ) → read text VALUE ≡ done v
    → (let f = do_line (chart_of v) in let t = reported (start (chart_of v) unstarted ROOM) in let p = in_turn f (fresh t.state) ls in
    t.printed ++ (p.printed ++ (finished f p.under).printed)) ≡ output text (joined ls)
whole_in_stretches text ls v e =
    let t = reported (start (chart_of v) unstarted ROOM) in
    ap (λ bs. t.printed ++ bs) (stretches_printed (do_line (chart_of v)) (fresh t.state) ls) ∙ whole_started text (joined ls) v e
