-- What is known of a line that is taken: there is room for its row, and the row has its kind's numbers. Assumes nothing.
use mathlib.Core.Path.{◌≡◌, ◌∙◌}
use mathlib.Core.Bool.{Bool, true, false}
use mathlib.Core.List.{List}
use Prim.Native.Nat.{ℕ, ◌<◌}
use native.Mathlib.Omega.{arith}
use lib.IntN.{ℤ}
use lib.ListN.{length}
use Rattle.meaning.specs.Grammar.{Record, form, most, row_size}
use Rattle.meaning.specs.Line.{Turns, room, rest_of, read_by, in_order, line_by, line_in_order, line_of}
use Rattle.round_trip.proofs.Fields.{zero_good, worse_good}
use Rattle.round_trip.proofs.Forms.{form_kept}
use Rattle.round_trip.proofs.Records.{sized, clear, row_room}

-- room for the row of a kind, and its numbers
abbrev pub RowFits : Record → Turns → List ℤ → Type 0
RowFits k t y = (t k < most k) × (length y ≡ row_size k)

by_kind : (k : Record) (n : ℕ) (fs : List (List ℕ)) → (line_by k n fs).mark ≡ 0 → (n < most k) × (length (line_by k n fs).row ≡ row_size k)
unfolding line_by
by_kind k n fs e =
    let w = worse_good (room n (most k)) (read_by (form k n) n (rest_of fs)).mark (zero_good _ e) in
    (row_room k n fs (zero_good _ e), (form_kept (form k n) n (rest_of fs) (clear k n) w.1).long ∙ sized k n)

pub row_fits : (k : Record) (t : Turns) (fs : List (List ℕ)) → (line_of k t fs).mark ≡ 0 → RowFits k t (line_of k t fs).row
unfolding line_of
row_fits k t fs e = go (in_order t k) e
  where
    go : (b : Bool) → (line_in_order b k (t k) fs).mark ≡ 0 → RowFits k t (line_in_order b k (t k) fs).row
    go true e = by_kind k (t k) fs e
    go false e = absurd (omega arith)
