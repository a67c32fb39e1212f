use Rattle.std.proofs.Common.{◌≡◌, take}
use Rattle.meaning.specs.Lists.{every}
use Rattle.promises.specs.Saved.{is_mark}
use Rattle.saved.proofs.marked.Given as goal

-- the marks looked at so far
abbrev pub invariant-loop-n : goal.invariant-loop-n
invariant-loop-n l = l.fit ≡ every is_mark (take l.n-index l.numbers)
