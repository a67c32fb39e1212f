use mathlib.Core.Path.{◌≡◌}
use Prim.Native.Nat.{◌+◌, ◌*◌, ◌≤◌}
use lib.ListN.{length}
use Rattle.pen.specs.Pen.{held, put_all}
use Rattle.console.specs.Shown.{LINE}
use Rattle.console.proofs.ReportLaws.{from_entry}
use Rattle.console.proofs.printed.put_entries.Given as goal

abbrev pub invariant-loop-k : goal.invariant-loop-k
invariant-loop-k l =
    (l.k ≤ l.n) × (l.pen.out.ghost_name ≡ l.initial.pen.out.ghost_name) × (length l.pen.out.now ≡ length l.initial.pen.out.now)
    × (l.initial.pen.at + LINE * l.n ≤ length l.initial.pen.out.now → l.pen.at ≤ l.initial.pen.at + LINE * l.k)
    × (put_all (from_entry l.trace l.n l.k) (held l.pen) ≡ put_all (from_entry l.trace l.n 0) (held l.initial.pen))
