-- The chooser's loop over the transitions of one source, turn by turn, over plain variables. Assumes nothing.
use mathlib.Core.Path.{◌≡◌, sym, ap, ◌∙◌}
use Prim.Native.Nat.{ℕ, ◌+◌, ◌-◌, ◌≤◌, ◌<◌}
use native.Mathlib.Omega.{arith}
use mathlib.Core.Bool.{Bool, true, false}
use mathlib.Core.List.{List, []}
use lib.ListN.{length, get_or}
use lib.IntN.{ℤ}
use lib.Dec.{eqb}
use borrow.Author.Tests.{eqb-true}
use Rattle.sizes.specs.Sizes.{STATES, TRANSITIONS}
use Rattle.meaning.specs.declared.State.{State}
use Rattle.meaning.specs.declared.chart.TransRow.{TransRow}
use Rattle.meaning.specs.Chart.{Chart}
use Rattle.meaning.specs.Tree.{trans_row, span}
use Rattle.meaning.specs.Value.{chart_of}
use Rattle.meaning.specs.Reaction.{enabled_by, enabled, meets, chosen}
use Rattle.laws.proofs.Lists.{and_left}
use Rattle.laws.proofs.Value.{sized_chart}
use Rattle.meaning.specs.Rules.{Ruled}
use Rattle.tree.proofs.Passing.{rules_passed}
use Rattle.tree.specs.Aims.{Found}
use Rattle.choice.specs.declared.Span.{Span}
use Rattle.choice.specs.declared.Pick.{Pick}
use Rattle.choice.specs.Span.{Spans, Spanned, Aims, Goes}
use Rattle.choice.specs.Choice.{meant, picked, noted}
use Rattle.choice.proofs.Inside.{span_ends}
use Rattle.choice.proofs.Thin.{gone_after, with_rest, rest_passed, rest_off, rest_clash, rest_take}
use Rattle.choice.proofs.Loop.{row_aims, row_spans, row_found, row_enabled, Held, held_more, held_clash, held_apart, picked_long, one_more}
use Rattle.choice.proofs.All.{with_sources, take_room}

-- before transition t of the source s: the picks, with what is still to come, are the chosen of all
pub record Choosing (c : Chart) (e : ℕ) (u : State) (s t n : ℕ) (picks : List Pick) (count : ℕ) (gone : List Bool) : Type 0 where
  pub owes : with_sources c e u s (with_rest c e u s t (n - t) (picked count picks)) ≡ chosen c e u
  pub held : Held c picks count gone

-- an enabled transition of the source s, with its span
pub record Turn (c : Chart) (e : ℕ) (u : State) (s t : ℕ) (r : Span) : Type 0 where
  pub source : (trans_row c t).source ≡ s
  pub on : enabled c e u t ≡ true
  pub spans : Spans (span c t) r
  pub found : Found c t r.top r.end
  pub ends : r.end ≤ STATES

-- what the tests of a row say of it
module _ (v : List ℤ) (h : Ruled v) (t : ℕ) {row : TransRow} (q : row ≡ trans_row (chart_of v) t)
    (l : t < length (chart_of v).transitions)
    (e s : ℕ) {m : Bool} (p : m ≡ meant (trans_row (chart_of v) t) s e) (y : m ≡ true) where
  meant_source : row.source ≡ s
  unfolding meant
  meant_source = ap (λ x. x.source) q ∙ eqb-true _ _ (and_left (eqb (trans_row (chart_of v) t).source s) _ (sym p ∙ y))

  pub meant_aims : Aims (chart_of v) s row.target
  meant_aims = row_aims v h t row q l s meant_source

  pub turn_of : {u : State} {b : Bool} {r : Span} → b ≡ enabled_by row e u → b ≡ true → Spanned (chart_of v) s row.target r
      → Turn (chart_of v) e u s t r
  turn_of {u} {b} {r} f z w = record {
    source = sym (ap (λ x. x.source) q) ∙ meant_source;
    on = row_enabled v h t row q l e u b f ∙ z;
    spans = row_spans v h t row q l s r meant_source w.spans;
    found = row_found v h t row q l s r meant_source w;
    ends = omega (arith, span_ends (chart_of v) s meant_aims.0 row.target r w.spans, (sized_chart v (rules_passed v h).0).states);
  }

module _ {c : Chart} {e : ℕ} {u : State} {s t n : ℕ} {picks : List Pick} {count : ℕ} {gone : List Bool}
    (w : Choosing c e u s t n picks count gone) (l : t < n) where
  pub choosing_passed : {b : Bool} → b ≡ meant (trans_row c t) s e → b ≡ false → Choosing c e u s (t + 1) n picks count gone
  choosing_passed q z = record {
    owes = ap (with_sources c e u s) (rest_passed c e u s t n l (picked count picks) (sym q ∙ z))
        ∙ w.owes;
    held = w.held;
  }

  pub choosing_off : enabled c e u t ≡ false → Choosing c e u s (t + 1) n picks count gone
  choosing_off z = record { owes = ap (with_sources c e u s) (rest_off c e u s t n l (picked count picks) z) ∙ w.owes; held = w.held }

  module _ {r : Span} (g : Turn c e u s t r) where
    pub choosing_clash : (x : ℕ) → r.first ≤ x → x < r.end → get_or gone x false ≡ true → Choosing c e u s (t + 1) n picks count gone
    choosing_clash x p q z = record {
      owes = ap (with_sources c e u s) (rest_clash c e u s t n l (picked count picks) g.source g.on
          (held_clash w.held t g.spans g.ends x p q z)) ∙ w.owes;
      held = w.held;
    }

    module _ (a : (x : ℕ) → r.first ≤ x → x < r.end → get_or gone x false ≡ false) (k : length c.transitions ≤ TRANSITIONS) where
      apart : meets (span c t) (gone_after c [] (picked count picks)) ≡ false
      apart = held_apart w.held t g.spans g.ends a

      pub choosing_room : count < TRANSITIONS
      choosing_room = omega (
        arith,
        picked_long picks count (omega (arith, w.held.few, w.held.size)),
        take_room c e u s t n (picked count picks) w.owes l g.source g.on apart k,
      )

      pub choosing_take : {new : List Bool} → Goes r gone new → Choosing c e u s (t + 1) n (noted picks count t r) (count + 1) new
      choosing_take {new} m = record {
        owes = ap (λ ps. with_sources c e u s (with_rest c e u s (t + 1) (n - (t + 1)) ps))
            (one_more picks count t r choosing_room w.held.size)
            ∙ ap (with_sources c e u s) (rest_take c e u s t n l (picked count picks) g.source g.on apart) ∙ w.owes;
        held = held_more c picks count gone new t r w.held choosing_room g.spans g.found m;
      }

      -- the same as the code has it: the pick is noted
      pub choosing_noted : {new : List Bool} {x : ℕ} {ps : List Pick} → x ≡ t → ps ≡ noted picks count x r → Goes r gone new
          → Choosing c e u s (x + 1) n ps (count + 1) new
      choosing_noted q o m = rw (o, q) (choosing_take m)
