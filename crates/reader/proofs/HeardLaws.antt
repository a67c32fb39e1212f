-- Where a line ends, from the place of the first LF in what is left of the text, and back. Assumes nothing.
use Rattle.std.proofs.Common.{◌≡◌, refl, sym, ap, ◌∙◌, List, [], ℕ, ◌+◌, ◌-◌, ◌≤◌, Option, None, Some, arith}
use Rattle.std.proofs.Common.{eqb, length, take, drop, length-drop}
use Rattle.std.specs.Prelude.{position}
use Rattle.std.proofs.lemmas.List.{drop-take, drop-drop}
use Rattle.std.proofs.Math.Seq.{take-length}
use Rattle.meaning.specs.Split.{parts, all, split}
use Rattle.fields.specs.Parts.{Stop}
use Rattle.reader.specs.Heard.{Stop as Stands, Ended, Heard, heard_line, heard_last}
use Rattle.reader.proofs.ScanLaws.{stop_left, line_inside}

module _ (s : List ℕ) (at : ℕ) where
  -- the first LF of what is left
  abbrev found : Option ℕ
  found = position (λ b. eqb b 10) (take (length s - at) (drop at s))

  pub heard_some : (k : ℕ) → Some k ≡ found → Ended s at (at + k)
  heard_some k e =
      let q = stop_left s at (Some k) e in
      let h = line_inside s at k q in
      let z : at + (k + 1) ≡ at + k + 1 = omega arith in
      record {
        stop = record {
          low = omega arith;
          high = omega arith;
          head = rw (take-length s, q.is, drop-take at k s);
          last = λ e. absurd (omega arith);
          more = λ _. rw (take-length s, q.is, drop-drop (k + 1) at s, z);
        };
        more = λ e. absurd (omega arith);
      }

  pub heard_none : None ≡ found → at ≤ length s → Stands 10 s at (length s) (length s)
  heard_none e h =
      let q = stop_left s at None e in
      record {
        low = h;
        high = omega arith;
        head = rw (take-length s, q.is);
        last = λ _. rw (take-length s, q.is);
        more = λ n. absurd (n refl);
      }

  -- and back
  pub line_heard : (e : ℕ) (r : Option ℕ) → r ≡ Some e → Heard s at r → Stop 10 (drop at s) (Some (e - at))
  line_heard e r f h =
      let d = heard_line s at e r f h in
      let lo = d.stop.low in
      let hi = d.stop.high in
      let n = d.more in
      let z : at + (e - at) ≡ e = omega arith in
      let y : at + (e - at + 1) ≡ e + 1 = omega arith in
      let first : (split 10 (drop at s)).first ≡ take (e - at) (drop at s) =
      (rw (take-length s) at d.stop.head) ∙ ap (λ (n : ℕ). drop at (take n s)) (sym z) ∙ drop-take at (e - at) s in
      let rest : (split 10 (drop at s)).rest ≡ all (split 10 (drop (e - at + 1) (drop at s))) =
      (rw (take-length s) at d.stop.more d.more) ∙ ap (λ (n : ℕ). all (split 10 (drop n s))) (sym y)
      ∙ ap (λ (l : List ℕ). all (split 10 l)) (sym (drop-drop (e - at + 1) at s)) in
      record {
        inside = omega (arith, length-drop at s);
        is = ap (λ (x : List ℕ). parts x (split 10 (drop at s)).rest) first ∙ ap (parts (take (e - at) (drop at s))) rest;
      }

  pub last_heard : (r : Option ℕ) → r ≡ None → Heard s at r → at ≤ length s → Stop 10 (drop at s) None
  last_heard r f h k =
      let d = heard_last s at r f h k in
      let first : (split 10 (drop at s)).first ≡ drop at s = rw (take-length s) at d.head in
      let rest : (split 10 (drop at s)).rest ≡ [] = rw (take-length s) at d.last refl in
      record { inside = tt; is = ap (λ (x : List ℕ). parts x (split 10 (drop at s)).rest) first ∙ ap (parts (drop at s)) rest }
